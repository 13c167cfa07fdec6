-- Branches of a choice: states to which the choice leads, each with an end that is led on to one common end.
use Rattle.std.specs.Prelude.{◌≡◌, ℕ, List, [], ◌∷◌, ◌++◌}
use Rattle.hir_core.specs.Tree.{Tree}
use Rattle.nfa_core.specs.BuilderStates.{Assembly}
use Rattle.nfa_core.specs.declared.build_error.BuildError.{BuildError}
use Rattle.thompson_nfa.specs.Compiled.{Makes, Does}
use Rattle.thompson_nfa.specs.Added.{Led}
use Rattle.thompson_nfa.specs.Refusals.{FailsStep}

-- the choice has one more way, to the branch's first state, and the branch's last state leads to the common end
pub record LeadsBranch (old new : Assembly) (choice end first last : ℕ) : Type 0 where
  pub middle : Assembly
  pub one : Led old middle choice first
  pub two : Led middle new last end

-- one of these two steps fails, and the builder has its settings
pub record FailsToLead (old new : Assembly) (e : BuildError) : Type 0 where
  pub settings : new ≡ record old { drafts = new.drafts; groups = new.groups }
  pub cause : FailsStep old 0 8 e

-- a fragment of n states at most that does what the tree means was added, as one more branch
pub record AddsBranch (old new : Assembly) (choice end n : ℕ) (x : Tree) : Type 0 where
  pub first : ℕ
  pub last : ℕ
  pub middle : Assembly
  pub made : Makes old middle first last n
  pub does : Does old middle first last x
  pub leads : LeadsBranch middle new choice end first last

-- branches of n states at most were added for the trees, one after the other
pub data AddsAll (choice end n : ℕ) : Assembly → Assembly → List Tree → Type 0 where
  adds_none : (b : Assembly) → AddsAll choice end n b b []
  adds_more : (a b c : Assembly) (xs : List Tree) (x : Tree) → AddsAll choice end n a b xs → AddsBranch b c choice end n x →
      AddsAll choice end n a c (xs ++ x ∷ [])
