-- What is found forward and what is found in reverse over one haystack are the same spans.
use Rattle.std.proofs.Common.{◌↔◌, ℕ, ◌<◌, ◌≤◌, Bool, true, false, List, length, take, get_or, refl, subst, arith}
use Rattle.std.proofs.lemmas.Option.{slice_get-get_or}
use Rattle.hir_core.specs.Tree.{Tree, empty}
use Rattle.hir_core.specs.Means.{Looks, Means}
use Rattle.nfa_core.specs.NfaValue.{Nfa}
use Rattle.nfa_core.specs.Places.{same_pair}
use Rattle.nfa_core.specs.Walks.{Has}
use Rattle.nfa_core.specs.Ways.{Text, ends_from}
use Rattle.thompson_nfa.specs.Compilations.{FindsSpans, IsPlainText, pattern_start}
use Rattle.thompson_nfa.specs.Configs.{Options}
use Rattle.thompson_nfa.specs.Denotes.{IsMeant}
use Rattle.thompson_nfa.specs.Directions.{AreBothWays}

-- what is known of a haystack that is cut at e
module _ (whole : (looks : Looks) (h : List ℕ) (e : ℕ) (x : Tree) (i j : ℕ) → i ≤ e → Means looks (take e h) x i j →
    Means looks h x i j × (j ≤ e))
    (cut : (looks : Looks) (h : List ℕ) (e : ℕ) (x : Tree) (i j : ℕ) → j ≤ e → Means looks h x i j → Means looks (take e h) x i j) where
  pub same_meant : (t : Text) (x : Tree) (i j : ℕ) → t.start ≤ i → i ≤ t.end → j ≤ t.end → IsMeant false t x i j ↔ IsMeant true t x j i
  same_meant t x i j low high to =
      (λ m. ((whole t.holds t.haystack t.end x i j high m).0, omega arith), λ m. cut t.holds t.haystack t.end x i j to m.0)

  module _ (o r : Options) (xs : List Tree) (n m : Nfa) (both : AreBothWays o r xs n m) where
    spans_forward : FindsSpans false xs n
    spans_forward = let P : Bool → Type 0 = λ back. FindsSpans back xs n in subst P both.reads_forward both.is_forward.spans

    spans_reverse : FindsSpans true xs m
    spans_reverse = let P : Bool → Type 0 = λ back. FindsSpans back xs m in subst P both.reads_reverse both.is_reverse.spans

    pub same_patterns : (t : Text) (p i j : ℕ) → p < length xs → t.start ≤ i → i ≤ t.end → j ≤ t.end →
        Has same_pair (j, p) (ends_from n.automaton t (i, pattern_start n.automaton p))
        ↔ Has same_pair (i, p) (ends_from m.automaton t (j, pattern_start m.automaton p))
    same_patterns t p i j inside low high to =
        let x : Tree = get_or xs p empty in
        let listed = slice_get-get_or xs p empty inside in
        let found = spans_forward.patterns p x listed t i (j, p) high in
        let back = spans_reverse.patterns p x listed t j (i, p) to in
        let same = same_meant t x i j low high to in
        (λ h. back.1 (refl, same.0 (found.0 h).1), λ h. found.1 (refl, same.1 (back.0 h).1))

    pub same_anchored : (t : Text) (p i j : ℕ) → t.start ≤ i → i ≤ t.end → j ≤ t.end →
        Has same_pair (j, p) (ends_from n.automaton t (i, n.automaton.start_anchored))
        ↔ Has same_pair (i, p) (ends_from m.automaton t (j, m.automaton.start_anchored))
    same_anchored t p i j low high to =
        let found = spans_forward.anchored t i (j, p) high in
        let back = spans_reverse.anchored t j (i, p) to in (
          λ h. let c = found.0 h in back.1 (c.0, c.1, (same_meant t c.0 i j low high to).0 c.2),
          λ h. let c = back.0 h in found.1 (c.0, c.1, (same_meant t c.0 i j low high to).1 c.2),
        )

    pub same_unanchored : (t : Text) (p s j : ℕ) → IsPlainText t → t.start ≤ s → s ≤ t.end → j ≤ t.end →
        Has same_pair (j, p) (ends_from n.automaton t (s, n.automaton.start_unanchored))
        ↔ ((i : ℕ) × (s ≤ i) × (i ≤ t.end) × Has same_pair (i, p) (ends_from m.automaton t (j, m.automaton.start_anchored)))
    same_unanchored t p s j read low high to =
        let found = spans_forward.unanchored t s (j, p) read low high in (
          λ h.
              let c = found.0 h in
              let far : s ≤ c.0 = c.1.0 in
              let near : c.0 ≤ t.end = c.1.1 in
              (c.0, far, near, (same_anchored t p c.0 j (omega arith) near to).0 ((spans_forward.anchored t c.0 (j, p) near).1 c.2)),
          λ h.
              let far : s ≤ h.0 = h.1 in
              let near : h.0 ≤ t.end = h.2 in
              found.1 (
                h.0,
                (far, near),
                (spans_forward.anchored t h.0 (j, p) near).0
                    ((same_anchored t p h.0 j (omega arith) near to).1 h.3),
              ),
        )
