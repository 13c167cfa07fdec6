-- Runs over known steps, through states that match and states that don't: no unit, one unit more, and where they lead a scan.
use Rattle.std.proofs.Common.{◌≡◌, ◌≢◌, ℕ, suc, ◌+◌, ◌-◌, ◌/◌, ◌%◌, ◌<◌, ◌≤◌, Bool, true, false, List, [], ◌∷◌, Option, refl, sym, ap, ◌∙◌}
use Rattle.std.proofs.Common.{subst, ⊎_elim, arith, true≢false}
use Rattle.std.specs.Prelude.{◌&&◌, not}
use Rattle.std.proofs.lemmas.Bool.{cases_Bool, cases_eq, cases_lt}
use Rattle.std.proofs.lemmas.Bool.Decides.{Decides-eqb}
use Rattle.nfa_core.specs.Ways.{offset_of}
use Rattle.determinize_core.specs.States.{StateValue}
use Rattle.determinize_core.specs.StateBytes.{is_match}
use Rattle.search_types.specs.Inputs.{Search}
use Rattle.lazy_dfa.specs.Caches.{CacheValue, IsCacheOf, IsRow, HeldAt, Leads, state_at}
use Rattle.lazy_dfa.specs.Courses.{state_after, HasNoStop}
use Rattle.lazy_dfa.specs.Dfas.{Dfa, IsDfa, IsUnit, after, reader}
use Rattle.lazy_dfa.specs.Ids.{tag, start_tag, has_tag, match_tag, unknown_id}
use Rattle.lazy_dfa.specs.MatchLoops.{Lingers}
use Rattle.lazy_dfa.specs.ScanLaws.{unit_of}
use Rattle.lazy_dfa.specs.Scans.{best_recorded, is_empty}
use Rattle.lazy_dfa.specs.Points.{GoesTo, point}
use Rattle.lazy_dfa.specs.Readers.{is_quit}
use Rattle.lazy_dfa.specs.ScanOffsets.{left_at, GoesBetween}
use Rattle.lazy_dfa.specs.Steps.{noted}
use Rattle.lazy_dfa.proofs.CacheChanges.AddsLemmas.{step_adds_none}
use Rattle.lazy_dfa.proofs.CacheChanges.ChangeLemmas.{same_grew, grew_refl, one_state}
use Rattle.lazy_dfa.proofs.CacheChanges.IsCacheLemmas.{row_is_plain}
use Rattle.lazy_dfa.proofs.CacheChanges.LinkedLemmas.{AreBytes, row_leads}
use Rattle.lazy_dfa.proofs.Courses.PointLemmas.{held_plain, goes_step, goes_known, goes_on, goes_none, row_known}
use Rattle.lazy_dfa.proofs.Courses.RunLemmas.{between_on}
use Rattle.lazy_dfa.proofs.Courses.TurnStepLemmas.{row_matches}

-- ---- one unit by a step that is known and leads to a state that isn't dead

match_bit : (id : ℕ) → tag ≤ id → id < start_tag → has_tag match_tag id ≡ true
match_bit id l m = (Decides-eqb ((id / match_tag) % 2) 1).1 (omega (arith, l, m))

-- if two matches are recorded one after the other, the last one is kept
recorded_last : (s t : StateValue) (i j : ℕ) (best : Option (ℕ × ℕ)) → is_match t.matches ≡ true →
    best_recorded j t (best_recorded i s best) ≡ best_recorded j t best
recorded_last s t i j best e = by_list t.matches e
  where
    by_list : (ms : List ℕ) → is_match ms ≡ true → best_recorded j (record t { matches = ms }) (best_recorded i s best) ≡ best_recorded j
        (record t { matches = ms }) best
    by_list [] e = absurd (true≢false (sym e))
    by_list (p ∷ ps) e = refl

module _ (d : Dfa) (v : CacheValue) (id next : ℕ) (u : Option ℕ) (own : IsCacheOf d v) (unit : IsUnit u) (row : IsRow v id)
    (read : next ≡ noted d v id u) (below : next < start_tag) where
  known : noted d v id u ≢ unknown_id
  known z = omega (arith, read, below, z)

  abbrev here : StateValue
  here = state_at v row.0

  leads : (s : StateValue) → HeldAt v id s → Leads d v s u next
  leads s g = subst (λ (n : ℕ). Leads d v s u n) (sym read)
      (subst (λ (t : StateValue). Leads d v t u (noted d v id u)) (one_state v id row.0 s own.shape row.1 row.2 g)
      (row_leads d v id u own unit row known))

  quiet : is_quit d.quits u ≡ false
  quiet = ⊎_elim
      (λ (e : is_quit d.quits u ≡ true). let q = (leads here (row.0, row.1, row.2, refl)).quits e in absurd (omega (arith, q, below)))
      (λ (e : is_quit d.quits u ≡ false). e)
      (cases_Bool (is_quit d.quits u))

  held_next : (s : StateValue) → HeldAt v id s → HeldAt v next (after d s u)
  held_next s g = held_plain v next (after d s u) (omega (arith, below)) ((leads s g).goes quiet)

  pub row_next : IsRow v next
  row_next = let g = held_next here (row.0, row.1, row.2, refl) in (g.0, g.1, g.2)

  next_is : (s t : StateValue) → HeldAt v id s → HeldAt v next t → t ≡ after d s u
  next_is s t g h =
      let r = row_next in
      sym (one_state v next r.0 t own.shape r.1 r.2 h) ∙ one_state v next r.0 (after d s u) own.shape r.1 r.2 (held_next s g)

  goes_one : (h : List ℕ) (at m n : ℕ) (best : Option (ℕ × ℕ)) (t : StateValue) → HeldAt v next t → u ≡ unit_of (reader d) h at 0 →
      GoesTo d h (point v m n at id best) (point v m n (offset_of d.nfa.automaton.reverse at 1) next (best_recorded at t best)) 1
  goes_one h at m n best t held is = goes_step d h v at id u own row is quiet v next m m n n best (best_recorded at t best) own
      (grew_refl d v)
      leads (λ s g f. sym read) (λ k. refl) (λ k. (refl, refl)) (omega arith) (omega arith)
      (λ s g. ap (λ (x : StateValue). best_recorded at x best) (next_is s t g held))
      (step_adds_none d v v id u (same_grew d v) (refl, refl, refl))

  -- a run that came to the ID goes on
  module _ (h : List ℕ) (made : IsDfa d) (bytes : AreBytes h) (from first at met last k : ℕ) (start : IsRow v first)
      (so_far : Lingers d h v from first at id met last k)
      (at2 k2 : ℕ) (is : u ≡ unit_of (reader d) h at 0) (place : offset_of d.nfa.automaton.reverse at 1 ≡ at2) (count : k + 1 ≡ k2) where
    abbrev Goes : ℕ → ℕ → Option (ℕ × ℕ) → Option (ℕ × ℕ) → Type 0
    Goes m n best b = GoesTo d h (point v m n from first best) (point v m n at2 next b) k2

    -- one unit more, with what is recorded before it and after it
    on : (m n : ℕ) (best b c : Option (ℕ × ℕ)) → GoesTo d h (point v m n from first best) (point v m n at id b) k →
        GoesTo d h (point v m n at id b) (point v m n (offset_of d.nfa.automaton.reverse at 1) next c) 1 → Goes m n best c
    on m n best b c f g =
        subst (λ (j : ℕ). GoesTo d h (point v m n from first best) (point v m n at2 next c) j) count
        (subst (λ (i : ℕ). GoesTo d h (point v m n from first best) (point v m n i next c) (k + 1)) place
        (goes_on d h made bytes (point v m n from first best) (point v m n at id b)
        (point v m n (offset_of d.nfa.automaton.reverse at 1) next c) k 1 own own start f g))

    lingers_plain : next < tag → Lingers d h v from first at2 next met last k2
    lingers_plain low = record {
      row = so_far.row;
      matches = so_far.matches;
      plain = λ z m n best. on m n best best best (so_far.plain z m n best)
          (goes_known d v id next u own unit row read low h at m n best is);
      goes = λ z s held m n best. on m n best (best_recorded last s best) (best_recorded last s best) (so_far.goes z s held m n best)
          (goes_known d v id next u own unit row read low h at m n (best_recorded last s best) is);
    }

    lingers_matching : tag ≤ next → Lingers d h v from first at2 next next at k2
    lingers_matching high = record {
      row = λ z. row_next;
      matches = λ z. match_bit next high below;
      plain = λ z. absurd (omega (arith, z, below));
      goes = λ z t held m n best. ⊎_elim
          (λ (e : met ≡ unknown_id). on m n best best (best_recorded at t best) (so_far.plain e m n best)
          (goes_one h at m n best t held is))
          (λ (e : met ≢ unknown_id).
          let r = so_far.row e in
          let s : StateValue = state_at v r.0 in
          let does : is_match t.matches ≡ true = sym (row_matches v next t own.shape held) ∙ match_bit next high below in
          subst (λ (b : Option (ℕ × ℕ)). Goes m n best b) (recorded_last s t last at best does)
          (on m n best (best_recorded last s best) (best_recorded at t (best_recorded last s best))
          (so_far.goes e s (r.0, r.1, r.2, refl) m n best)
          (goes_one h at m n (best_recorded last s best) t held is)))
          (cases_eq met unknown_id);
    }

    pub lingers_on : (met2 last2 : ℕ) → (tag ≤ next → (met2 ≡ next) × (last2 ≡ at)) → (next < tag → (met2 ≡ met) × (last2 ≡ last)) →
        Lingers d h v from first at2 next met2 last2 k2
    lingers_on met2 last2 matching plain = ⊎_elim
        (λ (l : next < tag). let e = plain l in renamed met last met2 last2 e.0 e.1 (lingers_plain l))
        (λ (l : tag ≤ next). let e = matching l in renamed next at met2 last2 e.0 e.1 (lingers_matching l))
        (cases_lt next tag)
      where
        renamed : (x i y j : ℕ) → y ≡ x → j ≡ i → Lingers d h v from first at2 next x i k2 → Lingers d h v from first at2 next y j k2
        renamed x i y j e f g = subst (λ (n : ℕ). Lingers d h v from first at2 next n j k2) (sym e)
            (subst (λ (n : ℕ). Lingers d h v from first at2 next x n k2) (sym f) g)

pub lingers_none : (d : Dfa) (h : List ℕ) (v : CacheValue) (at id met last k : ℕ) → IsCacheOf d v → IsRow v id → met ≡ unknown_id → k ≡ 0 →
    Lingers d h v at id at id met last k
lingers_none d h v at id met last k own row e z = record {
  row = λ n. absurd (n e);
  matches = λ n. absurd (n e);
  plain = λ f m n best. subst (λ (j : ℕ). GoesTo d h (point v m n at id best) (point v m n at id best) j) (sym z)
      (goes_none d h (point v m n at id best) (row_known v id own.shape row));
  goes = λ n. absurd (n e);
}

-- ---- where such a run leads a scan

-- a scan that doesn't ask for the earliest end has no stop
never_stops : (d : Dfa) (earliest : Bool) (h : List ℕ) (at : ℕ) (s : StateValue) (k : ℕ) → earliest ≡ false →
    HasNoStop (reader d) earliest h at s k
never_stops d earliest h at s k e j l = ap (λ (x : Bool). x && not (is_empty (state_after (reader d) h at s (suc j)).matches)) e

-- The run was passed the haystack of the input and its last offset. The match after the run is that of the last matching state on it.
module _ (d : Dfa) (v : CacheValue) (q : Search) (h : List ℕ) (is_reverse : Bool) (from first at id met last end : ℕ) (own : IsCacheOf d v)
    (same : h ≡ q.haystack) (late : q.earliest ≡ false) (before behind : Option (ℕ × ℕ))
    (stays : unknown_id ≤ met → behind ≡ before) (best : met < unknown_id → (s : StateValue) → HeldAt v met s →
    behind ≡ best_recorded last s before) where
  abbrev Comes : Option (ℕ × ℕ) → ℕ → ℕ → ℕ → Type 0
  Comes b k m n = GoesTo d h (point v m n from first before) (point v m n at id b) k

  abbrev Between : ℕ → Type 0
  Between j = (m n : ℕ) → GoesBetween d q.earliest q.haystack (point v m n from first before) (point v m n at id behind) j

  comes : (k : ℕ) → Lingers d h v from first at id met last k → (m n : ℕ) → Comes behind k m n
  comes k lingers m n = ⊎_elim
      (λ (e : met ≡ unknown_id). subst (λ (b : Option (ℕ × ℕ)). Comes b k m n) (sym (stays (omega (arith, e))))
      (lingers.plain e m n before))
      (λ (e : met ≢ unknown_id).
      let r = lingers.row e in
      let s : StateValue = state_at v r.0 in
      let g : HeldAt v met s = (r.0, r.1, r.2, refl) in
      let low = row_is_plain v met r.0 own.shape r.1 r.2 in
      subst (λ (b : Option (ℕ × ℕ)). Comes b k m n) (sym (best (omega (arith, low)) s g)) (lingers.goes e s g m n before))
      (cases_eq met unknown_id)

  between : (k j : ℕ) → k ≡ j → Lingers d h v from first at id met last k → Between j
  between k j e lingers m n = (
    subst (λ (x : ℕ). GoesTo d q.haystack (point v m n from first before) (point v m n at id behind) x) e
        (subst (λ (x : List ℕ). GoesTo d x (point v m n from first before) (point v m n at id behind) k) same (comes k lingers m n)),
    λ s held. never_stops d q.earliest q.haystack from s j late,
  )

  pub lingers_forward : is_reverse ≡ false → end ≡ q.end → from ≤ at → at ≤ end → Lingers d h v from first at id met last (at - from) →
      Between (left_at is_reverse q from - left_at is_reverse q at)
  lingers_forward e stop past within lingers = between (at - from) (left_at is_reverse q from - left_at is_reverse q at)
      (counted is_reverse e) lingers
    where
      counted : (b : Bool) → b ≡ false → at - from ≡ left_at b q from - left_at b q at
      counted true e = absurd (true≢false e)
      counted false e = omega (arith, stop, past, within)

  pub lingers_reverse : is_reverse ≡ true → end ≡ q.start → at ≤ from → end ≤ at → Lingers d h v from first at id met last (from - at) →
      Between (left_at is_reverse q from - left_at is_reverse q at)
  lingers_reverse e stop past within lingers = between (from - at) (left_at is_reverse q from - left_at is_reverse q at)
      (counted is_reverse e) lingers
    where
      counted : (b : Bool) → b ≡ true → from - at ≡ left_at b q from - left_at b q at
      counted false e = absurd (true≢false (sym e))
      counted true e = omega (arith, stop, past, within)

-- ---- two runs one after the other

pub between_both : (d : Dfa) (v : CacheValue) (q : Search) (is_reverse : Bool) (i j k x y z : ℕ) (a b c : Option (ℕ × ℕ)) → IsDfa d →
    AreBytes q.haystack → IsCacheOf d v → IsRow v x → IsRow v y →
    left_at is_reverse q j ≤ left_at is_reverse q i → left_at is_reverse q k ≤ left_at is_reverse q j → (m n : ℕ) →
    GoesBetween d q.earliest q.haystack (point v m n i x a) (point v m n j y b) (left_at is_reverse q i - left_at is_reverse q j) →
    GoesBetween d q.earliest q.haystack (point v m n j y b) (point v m n k z c) (left_at is_reverse q j - left_at is_reverse q k) →
    GoesBetween d q.earliest q.haystack (point v m n i x a) (point v m n k z c) (left_at is_reverse q i - left_at is_reverse q k)
between_both d v q is_reverse i j k x y z a b c made bytes own row here closer nearer m n f g =
    subst (GoesBetween d q.earliest q.haystack (point v m n i x a) (point v m n k z c))
    (both (left_at is_reverse q i) (left_at is_reverse q j) (left_at is_reverse q k) closer nearer)
    (between_on d q.earliest q.haystack made bytes (point v m n i x a) (point v m n j y b) (point v m n k z c)
    (left_at is_reverse q i - left_at is_reverse q j) (left_at is_reverse q j - left_at is_reverse q k)
    own own row here f g)
  where
    both : (i j k : ℕ) → j ≤ i → k ≤ j → (i - j) + (j - k) ≡ i - k
    both i j k l m = omega (arith, l, m)
