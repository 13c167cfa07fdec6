-- Errors that are returned as they are.
use Rattle.std.proofs.Common.{◌≡◌, ℕ, sym, subst}
use Rattle.std.specs.Prelude.{Result, Ok, Err, IfOk, IfErr, IsErrAnd}
use Rattle.hir_core.specs.Tree.{Tree}
use Rattle.nfa_core.specs.BuilderStates.{Assembly}
use Rattle.nfa_core.specs.declared.build_error.BuildError.{BuildError}
use Rattle.thompson_nfa.specs.Refusals.{FailsFragment, ExceedsLimit}
use Rattle.thompson_nfa.specs.declared.compiling.How.{How}

pub handed : {A : Type 0} (Q : BuildError → Type 0) (r : Result A BuildError) (e : BuildError) → IsErrAnd r (λ x. x ≡ e) → Q e → IfErr r Q
handed Q (Ok a) e is q = tt
handed Q (Err x) e is q = subst Q (sym is) q

-- an error ensures nothing of a success
pub err_only : {A : Type 0} (Q : A → Type 0) (r : Result A BuildError) (e : BuildError) → IsErrAnd r (λ x. x ≡ e) → IfOk r Q
err_only Q (Ok a) e is = absurd is
err_only Q (Err x) e is = tt

-- adding a tree fails, of at most so many states and bytes
abbrev pub Fails : How → Assembly → Assembly → ℕ → Tree → ℕ → BuildError → Type 0
Fails how old new states x bytes e = FailsFragment how.which old new states x e × ExceedsLimit old bytes e

-- a call of the compiler that returns an error as it is ensures these two facts of it, and nothing of a success
pub only_fails : {A : Type 0} (made denotes weighs groups : A → Type 0) (refused passed : BuildError → Type 0) (r : Result A BuildError)
    (e : BuildError) → IsErrAnd r (λ x. x ≡ e) → refused e × passed e →
    record {
      made : IfOk r made;
      denotes : IfOk r denotes;
      weighs : IfOk r weighs;
      groups : IfOk r groups;
      refused : IfErr r refused;
      passed : IfErr r passed;
    }
only_fails made denotes weighs groups refused passed r e is fails = record {
  made = err_only made r e is;
  denotes = err_only denotes r e is;
  weighs = err_only weighs r e is;
  groups = err_only groups r e is;
  refused = handed refused r e is fails.0;
  passed = handed passed r e is fails.1;
}
