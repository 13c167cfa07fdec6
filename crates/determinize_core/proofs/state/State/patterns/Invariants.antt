use Rattle.std.proofs.Common.{◌≡◌, take}
use Rattle.determinize_core.proofs.state.State.patterns.Given as goal

-- the list has the patterns that were read so far
abbrev pub invariant-loop-index : goal.invariant-loop-index
invariant-loop-index l = l.ids.items ≡ take l.index l.self.matches
