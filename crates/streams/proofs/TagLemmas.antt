-- What the tags of an ID show about the state that it names.
use Rattle.std.proofs.Common.{◌≡◌, ◌≢◌, ◌∙◌, ◌+◌, ◌*◌, ◌/◌, ◌%◌, ◌<◌, ◌≤◌, ◌∷◌, ℕ, Bool, true, false, List, Option, Some, refl, sym, ap, []}
use Rattle.std.proofs.Common.{arith, true≢false, ⊎_elim}
use Rattle.std.specs.Prelude.{◌&&◌, ◌==◌, not, nat_le}
use Rattle.std.proofs.lemmas.Bool.{and_parts, eqb-true, leb-true, not-true}
use Rattle.std.proofs.lemmas.Bool.Decides.{leb_tells}
use Rattle.determinize_core.specs.StateBytes.{is_match}
use Rattle.determinize_core.specs.States.{StateValue, dead}
use Rattle.lazy_dfa.specs.Caches.{CacheValue, HeldAt, IsCacheOf, IsRow, IsShaped, Leads, Names, names_dead, names_held, state_at}
use Rattle.lazy_dfa.specs.Dfas.{Dfa, IsDfa, after, class_of, is_dead, is_empty}
use Rattle.lazy_dfa.specs.Ids.{dead_tag, has_tag, quit_tag, tag, tagged, unknown_id}
use Rattle.lazy_dfa.specs.Readers.{is_quit}
use Rattle.lazy_dfa.specs.Steps.{noted}
use Rattle.lazy_dfa.proofs.ForCallers.{empty_is, known_leads, row_is_plain}

-- ---- states that are held aren't dead

same_parts : (v w : StateValue) → v.is_from_word ≡ w.is_from_word → v.is_half_crlf ≡ w.is_half_crlf →
    v.look_have ≡ w.look_have → v.look_need ≡ w.look_need → v.matches ≡ w.matches → v.ids ≡ w.ids → v ≡ w
same_parts v w p q r s t u =
    λ n. record { is_from_word = p n; is_half_crlf = q n; look_have = r n; look_need = s n; matches = t n; ids = u n }

pub dead_is : (v : StateValue) → is_dead v ≡ true → v ≡ dead
dead_is v e =
    let a = and_parts (is_empty v.ids && is_empty v.matches && v.look_have == 0 && v.look_need == 0 && not v.is_from_word)
    (not v.is_half_crlf) e in
    let b = and_parts (is_empty v.ids && is_empty v.matches && v.look_have == 0 && v.look_need == 0) (not v.is_from_word) a.0 in
    let c = and_parts (is_empty v.ids && is_empty v.matches && v.look_have == 0) (v.look_need == 0) b.0 in
    let d = and_parts (is_empty v.ids && is_empty v.matches) (v.look_have == 0) c.0 in
    let f = and_parts (is_empty v.ids) (is_empty v.matches) d.0 in
    same_parts v dead (not-true v.is_from_word b.1) (not-true v.is_half_crlf a.1) (eqb-true v.look_have 0 d.1)
    (eqb-true v.look_need 0 c.1) (empty_is v.matches f.1) (empty_is v.ids f.0)

alive_by : (b : Bool) (s : StateValue) → is_dead s ≡ b → s ≢ dead → b ≡ false
alive_by false s e n = refl
alive_by true s e n = absurd (n (dead_is s e))

pub held_alive : (d : Dfa) (v : CacheValue) (id : ℕ) (s : StateValue) → IsCacheOf d v → HeldAt v id s → is_dead s ≡ false
held_alive d v id s own h = alive_by (is_dead s) s refl (λ e. own.lives h.0 h.1 (sym h.3 ∙ e))

pub row_of : (v : CacheValue) (id : ℕ) (s : StateValue) → HeldAt v id s → IsRow v id
row_of v id s h = (h.0, h.1, h.2)

pub held_by_row : (v : CacheValue) (id : ℕ) → (x : IsRow v id) → HeldAt v id (state_at v x.0)
held_by_row v id x = (x.0, x.1, x.2, refl)

-- ---- tags

tag_on : (bit id : ℕ) → has_tag bit id ≡ true → (id / bit) % 2 ≡ 1
tag_on bit id e = eqb-true ((id / bit) % 2) 1 e

tag_bit : (bit id : ℕ) → (id / bit) % 2 ≡ 1 → has_tag bit id ≡ true
tag_bit bit id e = ap (λ (n : ℕ). n == 1) e

-- an ID with the tag of the quit sentinel names no state
pub quit_names_none : (v : CacheValue) (id : ℕ) (s : StateValue) → IsShaped v → has_tag quit_tag id ≡ true → Names v id s → ⊥
quit_names_none v id s i e (names_dead f g) = let t = tag_on quit_tag id e in omega (arith, f, t, i.narrow)
quit_names_none v id s i e (names_held h) =
    let t = tag_on quit_tag id e in
    let l = row_is_plain v id h.0 i h.1 h.2 in
    omega (arith, l, t)

pub dead_named : (v : CacheValue) (id : ℕ) (s : StateValue) → IsShaped v → has_tag dead_tag id ≡ true → Names v id s → is_dead s ≡ true
dead_named v id s i e (names_dead f g) = ap is_dead g
dead_named v id s i e (names_held h) =
    let t = tag_on dead_tag id e in
    let l = row_is_plain v id h.0 i h.1 h.2 in
    absurd (omega (arith, l, t))

pub alive_named : (v : CacheValue) (id : ℕ) (s : StateValue) → IsShaped v → has_tag dead_tag id ≡ false → Names v id s → HeldAt v id s
alive_named v id s i e (names_held h) = h
alive_named v id s i e (names_dead f g) =
    absurd (true≢false (sym (tag_bit dead_tag id (omega (arith, f, i.narrow))) ∙ e))

-- where a step leads that isn't a quit byte's
led_by : (d : Dfa) (v : CacheValue) (s : StateValue) (u : Option ℕ) (id : ℕ) (b : Bool) → IsShaped v → has_tag quit_tag id ≡ true →
    is_quit d.quits u ≡ b → Leads d v s u id → b ≡ true
led_by d v s u id true i e q l = refl
led_by d v s u id false i e q l = absurd (quit_names_none v id (after d s u) i e (l.goes q))

pub quit_led : (d : Dfa) (v : CacheValue) (s : StateValue) (u : Option ℕ) (id : ℕ) → IsShaped v → has_tag quit_tag id ≡ true →
    Leads d v s u id → is_quit d.quits u ≡ true
quit_led d v s u id i e l = led_by d v s u id (is_quit d.quits u) i e refl l

goes_by : (d : Dfa) (v : CacheValue) (s : StateValue) (u : Option ℕ) (id : ℕ) (b : Bool) → IsShaped v → has_tag quit_tag id ≡ false →
    is_quit d.quits u ≡ b → Leads d v s u id → b ≡ false
goes_by d v s u id false i e q l = refl
goes_by d v s u id true i e q l =
    let f = l.quits q in
    absurd (true≢false (sym (tag_bit quit_tag id (omega (arith, f, i.narrow))) ∙ e))

pub no_quit_led : (d : Dfa) (v : CacheValue) (s : StateValue) (u : Option ℕ) (id : ℕ) → IsShaped v → has_tag quit_tag id ≡ false →
    Leads d v s u id → is_quit d.quits u ≡ false
no_quit_led d v s u id i e l = goes_by d v s u id (is_quit d.quits u) i e refl l

-- ---- IDs without a tag

lists_by : (start : Bool) (ms : List ℕ) (id place : ℕ) → id ≡ tagged start (is_match ms) place → id < tag → ms ≡ []
lists_by start [] id place e l = refl
lists_by true (m ∷ ms) id place e l = absurd (omega (arith, e, l))
lists_by false (m ∷ ms) id place e l = absurd (omega (arith, e, l))

pub untagged_lists_none : (v : CacheValue) (id : ℕ) (s : StateValue) → IsShaped v → id < tag → HeldAt v id s → s.matches ≡ []
untagged_lists_none v id s i l h =
    let t = i.tags h.0 h.1 in
    ap (λ (x : StateValue). x.matches) h.3
    ∙ lists_by t.0 (state_at v h.0).matches id ((h.0 + 3) * v.stride) (h.2 ∙ t.1) l

-- an untagged ID has no tag of a sentinel
pub untagged_not_quit : (id : ℕ) → id < tag → has_tag quit_tag id ≡ false
untagged_not_quit id l = let n : (id / quit_tag) % 2 ≡ 0 = omega (arith, l) in ap (λ (n : ℕ). n == 1) n

pub untagged_not_dead : (id : ℕ) → id < tag → has_tag dead_tag id ≡ false
untagged_not_dead id l = let n : (id / dead_tag) % 2 ≡ 0 = omega (arith, l) in ap (λ (n : ℕ). n == 1) n

-- a known step at an ID
not_unknown : (b : Bool) (id : ℕ) → nat_le unknown_id id ≡ b → id < tag → b ≡ false
not_unknown false id e l = refl
not_unknown true id e l = let low : unknown_id ≤ id = leb-true unknown_id id e in absurd (omega (arith, low, l))

pub known_step : (d : Dfa) (v : CacheValue) (id b to : ℕ) → IsDfa d → IsCacheOf d v → b < 256 → to ≡ noted d v id (Some b) → to < tag →
    (s : StateValue) → HeldAt v id s → Leads d v s (Some b) to
known_step d v id b to made own small is low s h =
    known_leads d v id (class_of d.classes (Some b)) (Some b) made own small refl to is
    (not_unknown (nat_le unknown_id to) to refl low) s h

pub untagged_is : (id : ℕ) → nat_le tag id ≡ false → id < tag
untagged_is id e = ⊎_elim (λ p. absurd (true≢false (sym p.0 ∙ e))) (λ q. q.1) (leb_tells tag id)
