-- In a builder that can be built, past each state there is one that stands for itself, and what a state stands for is a state.
use Rattle.std.proofs.Common.{ℕ}
use Rattle.nfa_core.specs.BuilderStates.{Assembly}
use Rattle.nfa_core.specs.CanBuild.{CanBuild}
use Rattle.nfa_core.specs.Pasts.{HasPasts}
use Rattle.nfa_core.proofs.RenamingLemmas.{past_stands, next_inside}

pub can_reach : (b : Assembly) (x y : ℕ) → CanBuild b x y → HasPasts b.drafts
can_reach b x y can = record {
  ends = λ q inside. past_stands b.drafts can.no_loop q inside;
  stays = λ q next inside e. next_inside b.drafts can.named q next e;
}
