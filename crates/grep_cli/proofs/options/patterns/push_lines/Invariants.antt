use Rattle.std.proofs.Common.{◌≡◌, ◌++◌, map, string_bytes}
use Rattle.grep_cli.proofs.options.patterns.push_lines.Given as goal

abbrev pub invariant-loop-line : goal.invariant-loop-line
invariant-loop-line l = map string_bytes l.patterns.items ≡ map string_bytes l.initial.patterns.items ++ map (λ x. x.now) l.yielded
