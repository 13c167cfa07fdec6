use Rattle.std.proofs.Common.{◌≡◌, drop}
use Rattle.grep_cli.specs.ClassNames.{has_flags}
use Rattle.grep_cli.proofs.class_names.has_flags.Given as goal

abbrev pub invariant-loop-from : goal.invariant-loop-from
invariant-loop-from l = has_flags (drop l.from l.text) ≡ has_flags l.text
