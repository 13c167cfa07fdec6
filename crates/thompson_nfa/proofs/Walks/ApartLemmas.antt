-- No chain from a pattern's start leads to a state outside the patterns, so what patterns do does not depend on such states.
use Rattle.std.proofs.Common.{◌≡◌, ℕ, Bool, true, false, List, [], ◌∷◌, length, get_or, if◌then◌else◌, sym, ap, subst, arith, ⊎_elim}
use Rattle.std.specs.Bool.{nat_eq}
use Rattle.std.proofs.lemmas.Bool.{cases_Bool, cond-true, cond-false}
use Rattle.std.proofs.lemmas.Option.{slice_get_within}
use Rattle.hir_core.specs.Tree.{Tree}
use Rattle.nfa_core.specs.BuilderStates.{DraftNode, match_draft}
use Rattle.nfa_core.specs.Walks.{Has}
use Rattle.nfa_core.specs.Runs.{IsChain, last_or}
use Rattle.nfa_core.specs.Places.{same_pair}
use Rattle.nfa_core.specs.Ways.{Text, node_ways, match_of}
use Rattle.nfa_core.specs.Drafted.{drafted, Table, table_ways}
use Rattle.thompson_nfa.specs.Assembled.{AcceptAll}
use Rattle.thompson_nfa.proofs.Walks.AcceptLemmas.{Finds}
use Rattle.thompson_nfa.proofs.Walks.FindLemmas.{accepts_finds}
use Rattle.thompson_nfa.proofs.Walks.ChoiceLemmas.{accept_at, accept_of}

-- the table in which each state outside matches pattern p
abbrev pub barred : (ℕ → Bool) → ℕ → Table → Table
barred out p table q = if out q then match_draft p else table q

barred_in : (out : ℕ → Bool) (p : ℕ) (table : Table) (q : ℕ) → out q ≡ false → barred out p table q ≡ table q
barred_in out p table q e = cond-false (out q) _ _ e

barred_out : (out : ℕ → Bool) (p : ℕ) (table : Table) (q : ℕ) → out q ≡ true → barred out p table q ≡ match_draft p
barred_out out p table q e = cond-true (out q) _ _ e

module _ (back : Bool) (t : Text) (T : Table) (out : ℕ → Bool) (p : ℕ) where
  same_ways : (w : ℕ × ℕ) → out w.1 ≡ false → table_ways back t T w ≡ table_ways back t (barred out p T) w
  same_ways w l = ap (λ (draft : DraftNode). node_ways back t (drafted draft) w.0) (sym (barred_in out p T w.1 l))

  here : (w : ℕ × ℕ) → out w.1 ≡ true → (j : ℕ) × Finds back t (barred out p T) w (j, p)
  here w l = (w.0, ([], tt, ap (λ (draft : DraftNode). match_of (drafted draft) w.0) (barred_out out p T w.1 l)))

  -- a chain that leads outside finds p in that table
  comes_out : (w : ℕ × ℕ) (r : List (ℕ × ℕ)) → IsChain same_pair (table_ways back t T) w r → out (last_or w r).1 ≡ true →
      (j : ℕ) × Finds back t (barred out p T) w (j, p)
  comes_out w [] c l = here w l
  comes_out w (q ∷ r) c l = ⊎_elim
      (λ (is_out : out w.1 ≡ true). here w is_out)
      (λ (is_in : out w.1 ≡ false).
      let P : List (ℕ × ℕ) → Type 0 = λ ws. Has same_pair q ws in
      let on = comes_out q r c.1 l in
      (on.0, (q ∷ on.1.0, (subst P (same_ways w is_in) c.0, on.1.1), on.1.2)))
      (cases_Bool (out w.1))

pub kept_off : (back : Bool) (t : Text) (T : Table) (out : ℕ → Bool) (starts : List ℕ) (xs : List Tree) →
    ((table : Table) → ((q : ℕ) → out q ≡ false → table q ≡ T q) → AcceptAll back table 0 starts xs) → (s i : ℕ) (r : List (ℕ × ℕ)) →
    Has nat_eq s starts →
    IsChain same_pair (table_ways back t T) (i, s) r → out (last_or (i, s) r).1 ≡ true → ⊥
kept_off back t T out starts xs accept s i r has c is_out =
    let B : Table = barred out (length xs) T in
    let all = accept B (λ q l. barred_in out (length xs) T q l) in
    let x = accept_of back B 0 starts xs all s has in
    let a = accept_at back B 0 starts xs all x.0 x.0 x.1 (omega arith) x.2 in
    let f = comes_out back t T out (length xs) (i, s) r c is_out in
    let P : ℕ → Type 0 = λ k. Finds back t B (i, k) (f.0, length xs) in
    let m = (accepts_finds back t B (get_or starts x.0 0) x.0 x.1 a.accepts).sound i (f.0, length xs) (subst P (sym x.3) f.1) in
    let inside = slice_get_within xs x.0 x.1 x.2 in
    let same : length xs ≡ x.0 = m.0 in
    omega (arith, inside, same)
