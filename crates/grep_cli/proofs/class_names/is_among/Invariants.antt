use Rattle.std.proofs.Common.{◌≡◌, drop, map, nat_eq}
use Rattle.std.specs.List.{list_any}
use Rattle.std.specs.Cmp.Lexicographic.{pointwise}
use Rattle.grep_cli.proofs.class_names.is_among.Given as goal

abbrev pub invariant-loop-known : goal.invariant-loop-known
invariant-loop-known l =
    list_any (λ known. pointwise nat_eq known l.name) (map (λ known. known.now) (drop l.known-index l.names))
    ≡ list_any (λ known. pointwise nat_eq known l.name) (map (λ known. known.now) l.names)
