use Rattle.std.proofs.Common.{◌≡◌, drop}
use Rattle.std.specs.List.{list_any}
use Rattle.std.specs.Str.{bytes_eq}
use Rattle.grep_options.proofs.numbers.is_one_of.Given as goal

abbrev pub invariant-loop-name : goal.invariant-loop-name
invariant-loop-name l =
    list_any (λ n. bytes_eq l.word n.now) (drop l.name-index l.names) ≡ list_any (λ n. bytes_eq l.word n.now) l.names
