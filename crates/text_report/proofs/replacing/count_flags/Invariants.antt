use Rattle.std.proofs.Common.{◌≡◌, ◌+◌, drop}
use Rattle.grep_core.specs.Selecting.{count_selected}
use Rattle.text_report.proofs.replacing.count_flags.Given as goal

abbrev pub invariant-loop-flag : goal.invariant-loop-flag
invariant-loop-flag l = l.count + count_selected (drop l.flag-index l.flags) ≡ count_selected l.flags
