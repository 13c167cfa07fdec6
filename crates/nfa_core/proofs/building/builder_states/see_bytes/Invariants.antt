use Rattle.std.proofs.Common.{◌<◌, take}
use Rattle.std.specs.Prelude.{All}
use Rattle.nfa_core.proofs.building.builder_states.see_bytes.Given as goal

abbrev pub invariant-loop-transition : goal.invariant-loop-transition
invariant-loop-transition l = All (λ t. t.end < 256) (take l.transition-index l.transitions)
