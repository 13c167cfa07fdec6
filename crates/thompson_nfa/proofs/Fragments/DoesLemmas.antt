-- Small steps on the way from what was made to what it does: directions that stay, choices and ends that are led on.
use Rattle.std.proofs.Common.{◌≡◌, ℕ, Bool, true, false, refl, subst}
use Rattle.hir_core.specs.Tree.{Tree}
use Rattle.nfa_core.specs.BuilderStates.{patched, empty_draft}
use Rattle.nfa_core.specs.Drafted.{Table}
use Rattle.thompson_nfa.specs.Choice.{no_choice}
use Rattle.thompson_nfa.specs.Denotes.{Denotes, choice}
use Rattle.thompson_nfa.proofs.Walks.AheadLemmas.{denotes_then_empty}
use Rattle.thompson_nfa.proofs.Walks.DenoteLemmas.{denotes_empty}

pub turned_to : {a b : Bool} {T : Table} {s e : ℕ} {x : Tree} → a ≡ b → Denotes a T s e x → Denotes b T s e x
turned_to {a} {b} {T} {s} {e} {x} same d = subst (λ (r : Bool). Denotes r T s e x) same d

-- a choice that is led on twice
pub chosen : (greedy : Bool) (a e : ℕ) → patched e (patched a (no_choice greedy)) ≡ choice greedy a e
chosen true a e = refl
chosen false a e = refl

-- an end that stands for its target
pub ends_at : (r : Bool) (T : Table) (s m target : ℕ) (x : Tree) → Denotes r T s m x → T m ≡ empty_draft target → Denotes r T s target x
ends_at r T s m target x d e = denotes_then_empty r T s m target x d (denotes_empty r T m target e)
