-- A state from which a tree leads to a match: what a depth-first search from there lists, that it ends, and the chains to matches.
use Rattle.std.proofs.Common.{◌≡◌, ℕ, Bool, false, List, [], ◌∷◌, Some, refl, sym, ap, ◌∙◌, subst}
use Rattle.hir_core.specs.Tree.{Tree}
use Rattle.hir_core.specs.PreferredEnds.{preferred_ends}
use Rattle.hir_core.specs.Facts.{LoopsRead}
use Rattle.nfa_core.specs.BuilderStates.{DraftNode, match_draft}
use Rattle.nfa_core.specs.Walks.{Has, lists_none, lists_answer}
use Rattle.nfa_core.specs.Runs.{IsChain, last_or}
use Rattle.nfa_core.specs.Places.{same_pair}
use Rattle.nfa_core.specs.Ways.{Text, match_of}
use Rattle.nfa_core.specs.Drafted.{drafted, Table, table_ways, table_match}
use Rattle.nfa_core.proofs.ForCallers.{none_in}
use Rattle.thompson_nfa.specs.Denotes.{at, seen, IsMeant, ComesToEnd, Denotes}
use Rattle.thompson_nfa.proofs.Walks.WayLemmas.{match_has_no_ways}
use Rattle.thompson_nfa.proofs.Walks.LeadLemmas.{Chain}
use Rattle.thompson_nfa.proofs.Walks.OrderLemmas.{Listed, ListedFirsts}

-- a chain from p to a match of this pattern at this offset
abbrev pub Finds : Bool → Text → Table → ℕ × ℕ → ℕ × ℕ → Type 0
Finds back t T p m = (r : List (ℕ × ℕ)) × IsChain same_pair (table_ways back t T) p r × (table_match T (last_or p r) ≡ Some m)

-- From s the table finds pattern p wherever the tree leads, and nothing else. Suppose that the body of every unbounded repetition consumes
-- at least one byte. Then depth-first searches end, and when reading forward they list in the tree's order, up to repeats.
pub record FindsTree (back : Bool) (T : Table) (s p : ℕ) (x : Tree) : Type 0 where
  pub lists : back ≡ false → LoopsRead x → (t : Text) (i : ℕ) → ListedFirsts t T ((i, s) ∷ []) (at p (preferred_ends t.holds (seen t) x i))
  pub ends : LoopsRead x → (t : Text) (i : ℕ) → ComesToEnd back t T (i, s)
  pub complete : (t : Text) (i j : ℕ) → IsMeant back t x i j → Finds back t T (i, s) (j, p)
  pub sound : (t : Text) (i : ℕ) (m : ℕ × ℕ) → Finds back t T (i, s) m → (j : ℕ) × IsMeant back t x i j × (m ≡ (j, p))

is_match_state : (T : Table) (f p j : ℕ) → T f ≡ match_draft p → table_match T (j, f) ≡ Some (j, p)
is_match_state T f p j is = ap (λ (n : DraftNode). match_of (drafted n) j) is

listed_matches : (t : Text) (T : Table) (f p : ℕ) (js : List ℕ) → T f ≡ match_draft p → Listed t T (at f js) (at p js)
listed_matches t T f p [] is = lists_none
listed_matches t T f p (j ∷ js) is = lists_answer (j, f) (j, p) (at f js) (at p js) (is_match_state T f p j is)
    (listed_matches t T f p js is)

ends_at_match : (back : Bool) (t : Text) (T : Table) (f p j : ℕ) → T f ≡ match_draft p → ComesToEnd back t T (j, f)
ends_at_match back t T f p j is = ((j, p) ∷ [], lists_answer (j, f) (j, p) [] [] (is_match_state T f p j is) lists_none)

-- a chain from a match stays there
stays_at_match : (back : Bool) (t : Text) (T : Table) (q m : ℕ × ℕ) (r : List (ℕ × ℕ)) → table_match T q ≡ Some m → Chain back t T q r →
    last_or q r ≡ q
stays_at_match back t T q m [] is c = refl
stays_at_match back t T q m (w ∷ r) is c =
    let P : List (ℕ × ℕ) → Type 0 = λ ws. Has same_pair w ws in
    none_in same_pair w _ (subst P (match_has_no_ways back t T q m is) c.0)

some_pair : (a b : ℕ × ℕ) → Some a ≡ Some b → a ≡ b
some_pair a b e = cc

pub finds_tree : (back : Bool) (T : Table) (s f p : ℕ) (x : Tree) → T f ≡ match_draft p → Denotes back T s f x → FindsTree back T s p x
finds_tree back T s f p x is d = record {
  lists = λ up g t i. (d.orders up g t).lists i (at p (preferred_ends t.holds (seen t) x i))
      (listed_matches t T f p (preferred_ends t.holds (seen t) x i) is);
  ends = λ g t i. (d.halts g t).halts i (λ j m. ends_at_match back t T f p j is);
  complete = λ t i j m.
      let r = (d.reaches t).complete i j m in
      (r.0, r.1, ap (table_match T) r.2 ∙ is_match_state T f p j is);
  sound = λ t i m found.
      let q = (d.reaches t).sound i found.0 m found.1 found.2 in
      let here = is_match_state T f p q.middle is in
      let last : last_or (q.middle, f) q.rest ≡ (q.middle, f) = stays_at_match back t T (q.middle, f) (q.middle, p) q.rest here q.chain in
      let same : Some m ≡ Some (q.middle, p) = sym found.2 ∙ (ap (table_match T) (sym q.same_end ∙ last) ∙ here) in
      (q.middle, q.is_meant, some_pair m (q.middle, p) same);
}
