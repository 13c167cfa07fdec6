-- How a builder grows by several steps, and that its new states stay tame.
use Rattle.std.proofs.Common.{◌≡◌, ℕ, zero, suc, ◌<◌, ◌≤◌, true, [], ◌∷◌, length, refl, sym, ap, ◌∙◌, subst, arith, ⊎_elim, Bool, false}
use Rattle.std.specs.Prelude.{All}
use Rattle.std.proofs.lemmas.Bool.{cases_lt, cases_eq}
use Rattle.std.proofs.lemmas.List.Elements.{All-push, All-weaker}
use Rattle.search_types.specs.Groups.{Groups}
use Rattle.nfa_core.specs.BuilderStates.{DraftNode, Assembly, draft_at, patched, empty_draft, range_draft, sparse_draft, look_draft}
use Rattle.nfa_core.specs.BuilderStates.{capture_start_draft, capture_end_draft, union_draft, union_reverse_draft, fail_draft, match_draft}
use Rattle.nfa_core.specs.CanBuild.{names_of, is_known}
use Rattle.thompson_nfa.specs.Compiled.{Grows, IsTame, AllTame, is_match_draft, is_barred, IsReady}
use Rattle.thompson_nfa.specs.Added.{AddsDraft, Led}
use Rattle.thompson_nfa.specs.declared.which_captures.WhichCaptures.{WhichCaptures}

pub grows_refl : (b : Assembly) → Grows b b
grows_refl b = record { settings = refl; longer = omega arith; same = λ q l. refl; known = λ draft k. k }

pub grows_trans : {a b c : Assembly} → Grows a b → Grows b c → Grows a c
grows_trans {a} {b} {c} x y =
    let l = x.longer in let m = y.longer in
    record {
      settings = y.settings ∙ ap (λ (z : Assembly). record z { drafts = c.drafts; groups = c.groups }) x.settings;
      longer = omega arith;
      same = λ q low. y.same q (omega arith) ∙ x.same q low;
      known = λ draft k. y.known draft (x.known draft k);
    }

-- the state that is led on is none of the old ones
pub grows_led : {a b c : Assembly} {from to : ℕ} → Grows a b → Led b c from to → length a.drafts ≤ from → Grows a c
grows_led {a} {b} {c} {from} {to} x l new =
    let m = x.longer in let n = l.size in
    let groups : b.groups ≡ c.groups = sym (ap (λ (z : Assembly). z.groups) l.settings) in
    record {
      settings = l.settings ∙ ap (λ (z : Assembly). record z { drafts = c.drafts }) x.settings
          ∙ ap (λ gs. record a { drafts = c.drafts; groups = gs }) groups;
      longer = omega arith;
      same = λ q low. l.same q (omega arith) ∙ x.same q low;
      known = λ draft k. ap (λ gs. is_known gs draft) (sym groups) ∙ x.known draft k;
    }

tame_wider : {plain : Bool} (b c : Assembly) (draft : DraftNode) → length b.drafts ≤ length c.drafts →
    ((p : DraftNode) → is_known b.groups p ≡ true → is_known c.groups p ≡ true) → IsTame plain b draft → IsTame plain c draft
tame_wider b c draft longer known tame = record {
  named = All-weaker (λ q. q < length b.drafts) (λ q. q < length c.drafts) (λ q l. omega arith) (names_of draft) tame.named;
  known = known draft tame.known;
  not_barred = tame.not_barred;
}

pub one_below : (n to : ℕ) → to < n → All (λ q. q < n) (to ∷ [])
one_below n to l zero d k = l
one_below n to l (suc i) d k = absurd (omega arith)

pub names_patched : (n to : ℕ) (draft : DraftNode) → to < n → All (λ q. q < n) (names_of draft) →
    All (λ q. q < n) (names_of (patched to draft))
names_patched n to (empty_draft next) l a = one_below n to l
names_patched n to (range_draft low high next) l a = one_below n to l
names_patched n to (sparse_draft ranges) l a = a
names_patched n to (look_draft look next) l a = one_below n to l
names_patched n to (capture_start_draft pattern group next) l a = one_below n to l
names_patched n to (capture_end_draft pattern group next) l a = one_below n to l
names_patched n to (union_draft names) l a = All-push (λ q. q < n) names to a l
names_patched n to (union_reverse_draft names) l a = All-push (λ q. q < n) names to a l
names_patched n to fail_draft l a = a
names_patched n to (match_draft pattern) l a = a

pub match_patched : (to : ℕ) (draft : DraftNode) → is_match_draft (patched to draft) ≡ is_match_draft draft
match_patched to (empty_draft next) = refl
match_patched to (range_draft low high next) = refl
match_patched to (sparse_draft ranges) = refl
match_patched to (look_draft look next) = refl
match_patched to (capture_start_draft pattern group next) = refl
match_patched to (capture_end_draft pattern group next) = refl
match_patched to (union_draft names) = refl
match_patched to (union_reverse_draft names) = refl
match_patched to fail_draft = refl
match_patched to (match_draft pattern) = refl

barred_patched : (plain : Bool) (to : ℕ) (draft : DraftNode) → is_barred plain (patched to draft) ≡ is_barred plain draft
barred_patched plain to (empty_draft next) = refl
barred_patched plain to (range_draft low high next) = refl
barred_patched plain to (sparse_draft ranges) = refl
barred_patched plain to (look_draft look next) = refl
barred_patched plain to (capture_start_draft pattern group next) = refl
barred_patched plain to (capture_end_draft pattern group next) = refl
barred_patched plain to (union_draft names) = refl
barred_patched plain to (union_reverse_draft names) = refl
barred_patched plain to fail_draft = refl
barred_patched plain to (match_draft pattern) = refl

-- a state that isn't barred is no match; plain ones are suitable anywhere
pub unmatched : (plain : Bool) (draft : DraftNode) → is_barred plain draft ≡ false → is_match_draft draft ≡ false
unmatched plain (empty_draft next) e = refl
unmatched plain (range_draft low high next) e = refl
unmatched plain (sparse_draft ranges) e = refl
unmatched plain (look_draft look next) e = refl
unmatched plain (capture_start_draft pattern group next) e = refl
unmatched plain (capture_end_draft pattern group next) e = refl
unmatched plain (union_draft names) e = refl
unmatched plain (union_reverse_draft names) e = refl
unmatched plain fail_draft e = refl
unmatched plain (match_draft pattern) e = e

less_barred : (plain : Bool) (draft : DraftNode) → is_barred plain draft ≡ false → is_barred false draft ≡ false
less_barred plain (empty_draft next) e = refl
less_barred plain (range_draft low high next) e = refl
less_barred plain (sparse_draft ranges) e = refl
less_barred plain (look_draft look next) e = refl
less_barred plain (capture_start_draft pattern group next) e = refl
less_barred plain (capture_end_draft pattern group next) e = refl
less_barred plain (union_draft names) e = refl
less_barred plain (union_reverse_draft names) e = refl
less_barred plain fail_draft e = refl
less_barred plain (match_draft pattern) e = e

pub tame_anyhow : {plain : Bool} (b : Assembly) (draft : DraftNode) → IsTame plain b draft → IsTame false b draft
tame_anyhow {plain} b draft tame = record { named = tame.named; known = tame.known; not_barred = less_barred plain draft tame.not_barred }

pub known_patched : (b : Assembly) (to : ℕ) (draft : DraftNode) → is_known b.groups (patched to draft) ≡ is_known b.groups draft
known_patched b to (empty_draft next) = refl
known_patched b to (range_draft low high next) = refl
known_patched b to (sparse_draft ranges) = refl
known_patched b to (look_draft look next) = refl
known_patched b to (capture_start_draft pattern group next) = refl
known_patched b to (capture_end_draft pattern group next) = refl
known_patched b to (union_draft names) = refl
known_patched b to (union_reverse_draft names) = refl
known_patched b to fail_draft = refl
known_patched b to (match_draft pattern) = refl

tame_patched : {plain : Bool} (b : Assembly) (to : ℕ) (draft : DraftNode) → to < length b.drafts → IsTame plain b draft →
    IsTame plain b (patched to draft)
tame_patched {plain} b to draft l tame = record {
  named = names_patched (length b.drafts) to draft l tame.named;
  known = known_patched b to draft ∙ tame.known;
  not_barred = barred_patched plain to draft ∙ tame.not_barred;
}

-- a compile so far: the builder grew, and its new states are tame
pub record Partly (plain : Bool) (old mid : Assembly) : Type 0 where
  pub grows : Grows old mid
  pub tame : AllTame plain (length old.drafts) mid

-- the states of both halves are tame
pub partly_joined : {plain : Bool} {a b c : Assembly} → Partly plain a b → Partly plain b c → Partly plain a c
partly_joined {plain} {a} {b} {c} x y = record {
  grows = grows_trans x.grows y.grows;
  tame = λ q low high. ⊎_elim
      (λ (l : q < length b.drafts).
      let T : DraftNode → Type 0 = λ draft. IsTame plain c draft in
      subst T (sym (y.grows.same q l)) (tame_wider b c (draft_at b.drafts q) y.grows.longer y.grows.known (x.tame q low l)))
      (λ (l : length b.drafts ≤ q). y.tame q l high)
      (cases_lt q (length b.drafts));
}

pub partly_added : {plain : Bool} {a b : Assembly} {id : ℕ} {draft : DraftNode} {groups : Groups} → AddsDraft a b id draft groups →
    IsTame plain b draft → Partly plain a b
partly_added {plain} {a} {b} {id} {draft} {groups} x tame =
    let m = x.size in let n = x.is in
    record {
      grows = x.grows;
      tame = λ q low high.
          let e : id ≡ q = omega arith in
          let T : DraftNode → Type 0 = λ one. IsTame plain b one in
          subst T (sym x.here ∙ ap (λ k. draft_at b.drafts k) e) tame;
    }

pub partly_led : {plain : Bool} {a b c : Assembly} {from to : ℕ} → Partly plain a b → Led b c from to → length a.drafts ≤ from →
    to < length b.drafts → Partly plain a c
partly_led {plain} {a} {b} {c} {from} {to} x l new there =
    let m = l.size in
    let groups : b.groups ≡ c.groups = sym (ap (λ (z : Assembly). z.groups) l.settings) in
    let T : DraftNode → Type 0 = λ draft. IsTame plain c draft in
    let kept : (q : ℕ) → length a.drafts ≤ q → q < length b.drafts → IsTame plain c (draft_at b.drafts q) =
    λ q low high. tame_wider b c (draft_at b.drafts q) (omega arith) (λ p k. ap (λ gs. is_known gs p) (sym groups)
    ∙ k) (x.tame q low high) in
    record {
      grows = grows_led x.grows l new;
      tame = λ q low high. ⊎_elim
          (λ (e : q ≡ from).
          let here : draft_at c.drafts q ≡ patched to (draft_at b.drafts q) =
          ap (λ n. draft_at c.drafts n) e ∙ l.here ∙ ap (λ n. patched to (draft_at b.drafts n)) (sym e) in
          subst T (sym here) (tame_patched c to (draft_at b.drafts q) (omega arith) (kept q low (omega arith))))
          (λ (ne : q ≡ from → ⊥). subst T (sym (l.same q ne)) (kept q low (omega arith)))
          (cases_eq q from);
    }

pub ready_later : (kept : WhichCaptures) (old mid : Assembly) → Grows old mid → IsReady kept old → IsReady kept mid
ready_later kept old mid g r = record {
  in_pattern = ap (λ (z : Assembly). z.is_open) g.settings ∙ r.in_pattern;
  forward = λ e. r.forward (sym (ap (λ (z : Assembly). z.reverse) g.settings) ∙ e);
}
