-- From the unanchored start of the automaton that is built of a compile's states, no chain visits a pair twice.
use Rattle.std.proofs.Common.{◌≡◌, ℕ, ◌≤◌, Bool, List, ◌∷◌, inl, inr, sym, subst}
use Rattle.std.specs.Prelude.{All}
use Rattle.hir_core.specs.Tree.{Tree}
use Rattle.hir_core.specs.Facts.{LoopsRead}
use Rattle.nfa_core.specs.Walks.{HasNoneTwice}
use Rattle.nfa_core.specs.Runs.{IsChain}
use Rattle.nfa_core.specs.Places.{same_pair}
use Rattle.nfa_core.specs.Nfa.{Automaton}
use Rattle.nfa_core.specs.NfaValue.{Nfa}
use Rattle.nfa_core.specs.Ways.{Text, ways}
use Rattle.nfa_core.specs.BuilderStates.{Assembly, draft_at}
use Rattle.nfa_core.specs.Renaming.{new_name, automaton_of}
use Rattle.nfa_core.proofs.ForCallers.{chains_once}
use Rattle.thompson_nfa.specs.Configs.{Options, reverse_of}
use Rattle.thompson_nfa.specs.Denotes.{ComesToEnd}
use Rattle.thompson_nfa.specs.Compilations.{HasNoReturn}
use Rattle.thompson_nfa.specs.Assembled.{IsAssembled}
use Rattle.thompson_nfa.proofs.Walks.ChoiceLemmas.{all_end}
use Rattle.thompson_nfa.proofs.Walks.TriedPlaces.{tries_halt}
use Rattle.thompson_nfa.proofs.Walks.AnchorLemmas.{halts_at_once}

module _ (o : Options) (xs : List Tree) (b : Assembly) (A U : ℕ) (is : IsAssembled o xs b A U) (reading : All LoopsRead xs) where
  anchored_ends : (t : Text) (i : ℕ) → ComesToEnd (reverse_of o) t (draft_at b.drafts) (i, A)
  anchored_ends t i = all_end (reverse_of o) t (draft_at b.drafts) A b.starts xs i is.leads is.accept reading

  -- in any haystack
  unanchored_ends : (t : Text) (i : ℕ) → ComesToEnd (reverse_of o) t (draft_at b.drafts) (i, U)
  unanchored_ends t i = elim is.before [
    | inl x ↦ (halts_at_once (reverse_of o) t (draft_at b.drafts) U A x.1).halts i (λ j m. anchored_ends t j)
    | inr x ↦ (tries_halt (reverse_of o) t (draft_at b.drafts) U A x.1).halts i (λ j m. anchored_ends t j)
  ]

  returns_never : (t : Text) (i : ℕ) (r : List (ℕ × ℕ)) → i ≤ t.end → IsChain same_pair (ways (automaton_of b A U) t) (
    i,
    new_name b.drafts U,
  ) r →
      HasNoneTwice same_pair ((i, new_name b.drafts U) ∷ r)
  returns_never t i r place chain =
      let P : Bool → Type 0 = λ back. ComesToEnd back t (draft_at b.drafts) (i, U) in
      let walk = subst P (sym is.reverse) (unanchored_ends t i) in
      chains_once b A U is.can_build t U i is.can_build.unanchored_there place walk.0 walk.1 r chain

pub assembled_has_no_return : (o : Options) (xs : List Tree) (b : Assembly) (A U : ℕ) → IsAssembled o xs b A U → All LoopsRead xs →
    (n : Nfa) → n.automaton ≡ automaton_of b A U → HasNoReturn n
assembled_has_no_return o xs b A U is reading n same t i r place chain =
    let C : Automaton → Type 0 = λ a. IsChain same_pair (ways a t) (i, a.start_unanchored) r in
    let P : Automaton → Type 0 = λ a. HasNoneTwice same_pair ((i, a.start_unanchored) ∷ r) in
    subst P (sym same) (returns_never o xs b A U is reading t i r place (subst C same chain))
