use Rattle.std.proofs.Common.{◌≡◌, map}
use Rattle.grep_cli.proofs.options.type_changes.colon_parts.Given as goal

abbrev pub invariant-loop-part : goal.invariant-loop-part
invariant-loop-part l = map (λ s. s.now) l.parts.items ≡ map (λ x. x.now) l.yielded
