-- Where depth-first searches end, when reading forward or in reverse: from states that are joined, if they end from their parts.
use Rattle.std.proofs.Common.{◌≡◌, ℕ, zero, suc, ◌<◌, ◌≤◌, Bool, true, false, List, [], ◌∷◌, ◌++◌, ◌⊎◌, inl, inr, refl, sym, subst, arith}
use Rattle.std.proofs.Common.{append-nil}
use Rattle.hir_core.specs.Means.{Rounds}
use Rattle.hir_core.specs.PreferredEnds.{Has as HasEnd}
use Rattle.nfa_core.specs.Walks.{Lists, lists_none, lists_ways}
use Rattle.nfa_core.specs.Ways.{Text}
use Rattle.nfa_core.specs.Drafted.{Table, table_ways, table_match}
use Rattle.nfa_core.proofs.ForCallers.{lists_append}
use Rattle.thompson_nfa.specs.Denotes.{at, ComesToEnd, Halts}
use Rattle.thompson_nfa.proofs.Walks.WayLemmas.{both_at, Goes}

module _ (back : Bool) (t : Text) (T : Table) where
  -- the search of the stack ends
  abbrev pub Ended : List (ℕ × ℕ) → Type 0
  Ended stack = (l : List (ℕ × ℕ)) × Lists (table_ways back t T) (table_match T) stack l

  pub ended_none : Ended []
  ended_none = ([], lists_none)

  pub ended_append : (xs ys : List (ℕ × ℕ)) → Ended xs → Ended ys → Ended (xs ++ ys)
  ended_append xs ys a b = (a.0 ++ b.0, lists_append (table_ways back t T) (table_match T) a.1 ys b.0 b.1)

  -- from a state, if it ends from its edges
  pub ended_on : (s : ℕ) (to : ℕ → List (ℕ × ℕ)) (i : ℕ) → Goes back t T s to → Ended (to i) → ComesToEnd back t T (i, s)
  ended_on s to i g a =
      let P : List (ℕ × ℕ) → Type 0 = λ st. Lists (table_ways back t T) (table_match T) st a.0 in
      (a.0, lists_ways (i, s) [] a.0 (g.is_open i) (subst P (sym (append-nil (table_ways back t T (i, s)))) (subst P (sym (g.ways i)) a.1)))

  -- at each of the offsets
  ended_at : (e : ℕ) (js : List ℕ) → ((j : ℕ) → HasEnd js j → ComesToEnd back t T (j, e)) → Ended (at e js)
  ended_at e [] each = ended_none
  ended_at e (j ∷ js) each = ended_append ((j, e) ∷ []) (at e js) (each j (inl refl)) (ended_at e js (λ k h. each k (inr h)))

  ended_choice : (greedy : Bool) (u a e i : ℕ) → Goes back t T u (both_at greedy a e) → ComesToEnd back t T (i, a) →
      ComesToEnd back t T (i, e) → ComesToEnd back t T (i, u)
  ended_choice true u a e i g body exit = ended_on u (both_at true a e) i g (ended_append ((i, a) ∷ []) ((i, e) ∷ []) body exit)
  ended_choice false u a e i g body exit = ended_on u (both_at false a e) i g (ended_append ((i, e) ∷ []) ((i, a) ∷ []) exit body)

  pub halts_here : (s : ℕ) → Halts back t T s s (λ i j. i ≡ j)
  halts_here s = record { halts = λ i all. all i refl }

  -- for a relation that has at least as many offsets
  pub halts_like : (s e : ℕ) (M N : ℕ → ℕ → Type 0) → ((i j : ℕ) → M i j → N i j) → Halts back t T s e M → Halts back t T s e N
  halts_like s e M N wide a = record { halts = λ i all. a.halts i (λ j m. all j (wide i j m)) }

  -- from s to m, and on to e
  pub halts_join : (s m e : ℕ) (M N : ℕ → ℕ → Type 0) → Halts back t T s m M → Halts back t T m e N →
      Halts back t T s e (λ i j. (k : ℕ) × M i k × N k j)
  halts_join s m e M N a b = record { halts = λ i all. a.halts i (λ k x. b.halts k (λ j y. all j (k, x, y))) }

  -- a state that leads to e alone, at these offsets
  pub halts_leaf : (s e : ℕ) (ends : ℕ → List ℕ) → Goes back t T s (λ i. at e (ends i)) → Halts back t T s e (λ i j. HasEnd (ends i) j)
  halts_leaf s e ends g = record { halts = λ i all. ended_on s (λ k. at e (ends k)) i g (ended_at e (ends i) all) }

  -- a state that leads on at the same offset
  pub halts_pass : (s e : ℕ) → Goes back t T s (λ i. at e (i ∷ [])) → Halts back t T s e (λ i j. i ≡ j)
  halts_pass s e g = halts_like s e (λ i j. HasEnd (i ∷ []) j) (λ i j. i ≡ j) (λ i j h. elim h [ inl is ↦ is | inr n ↦ elim n [ ] ])
      (halts_leaf s e (λ i. i ∷ []) g)

  -- a state that leads nowhere
  pub halts_nowhere : (s e : ℕ) → Goes back t T s (λ i. []) → Halts back t T s e (λ i j. ⊥)
  halts_nowhere s e g = record { halts = λ i all. ended_on s (λ k. []) i g ended_none }

  -- a state that leads to a and to e
  pub halts_choice : (greedy : Bool) (u a e : ℕ) (M : ℕ → ℕ → Type 0) → Goes back t T u (both_at greedy a e) → Halts back t T a e M →
      Halts back t T u e (λ i j. M i j ⊎ (i ≡ j))
  halts_choice greedy u a e M g x = record {
    halts = λ i all. ended_choice greedy u a e i g (x.halts i (λ j m. all j (inl m)))
        (all i (inr refl));
  }

  -- a loop whose rounds leave less to read: u leads to a body, which comes back to u, and to e
  module _ (greedy : Bool) (a u e : ℕ) (M : ℕ → ℕ → Type 0) (left : ℕ → ℕ) (reading : (i k : ℕ) → M i k →
      left k < left i) (loop : Goes back t T u (both_at greedy a e))
      (body : Halts back t T a u M) where
    abbrev Loops : ℕ → ℕ → Type 0
    Loops i j = (n : ℕ) × Rounds M n i j

    loop_halts : (room q i : ℕ) → left i ≤ room → Goes back t T q (both_at greedy a e) →
        ((j : ℕ) → Loops i j → ComesToEnd back t T (j, e)) → ComesToEnd back t T (i, q)
    loop_halts zero q i le g all =
        ended_choice greedy q a e i g (body.halts i (λ k m. let less = reading i k m in absurd (omega arith))) (all i (0, refl))
    loop_halts (suc room) q i le g all =
        ended_choice greedy q a e i g
        (body.halts i (λ k m. let less = reading i k m in loop_halts room u k (omega arith) loop (λ j r. all j (suc r.0, (k, m, r.1)))))
        (all i (0, refl))

    -- entered at u, or at any state that leads as u does
    pub halts_rounds : (q : ℕ) → Goes back t T q (both_at greedy a e) → Halts back t T q e (λ i j. (n : ℕ) × Rounds M n i j)
    halts_rounds q g = record { halts = λ i all. loop_halts (left i) q i (omega arith) g all }
