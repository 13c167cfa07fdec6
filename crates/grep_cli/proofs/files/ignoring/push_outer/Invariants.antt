use Rattle.std.proofs.Common.{◌≡◌, true}
use Rattle.grep_cli.proofs.files.ignoring.push_outer.Given as goal

abbrev pub invariant-loop-at : goal.invariant-loop-at
invariant-loop-at l = l.initial.failed ≡ true → l.failed ≡ true
