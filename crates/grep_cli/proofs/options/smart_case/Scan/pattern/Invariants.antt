use Rattle.std.proofs.Common.{◌≡◌}
use Rattle.grep_cli.specs.SmartCase.{scan_chars}
use Rattle.grep_cli.proofs.options.smart_case.Scan.pattern.Given as goal

abbrev pub invariant-loop-c : goal.invariant-loop-c
invariant-loop-c l = l.scan ≡ scan_chars l.initial.scan l.yielded
