use Rattle.std.proofs.Common.{◌≡◌, ◌++◌, map, take, drop}
use Rattle.grep_cli.specs.Inputs.{zero_as_feed}
use Rattle.grep_cli.proofs.inputs.first_bytes.put_feeds.Given as goal

abbrev pub invariant-loop-at : goal.invariant-loop-at
invariant-loop-at l = l.bytes ≡ map zero_as_feed (take l.at l.initial.bytes) ++ drop l.at l.initial.bytes
