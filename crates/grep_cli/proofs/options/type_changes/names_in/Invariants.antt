use Rattle.std.proofs.Common.{◌≡◌, map}
use Rattle.grep_cli.proofs.options.type_changes.names_in.Given as goal

abbrev pub invariant-loop-name : goal.invariant-loop-name
invariant-loop-name l = map (λ s. s.now) l.names.items ≡ map (λ x. x.now) l.yielded
