use Rattle.std.proofs.Common.{◌≡◌, ◌++◌, map, string_bytes, take}
use Rattle.std.specs.List.{flat_map}
use Rattle.grep_cli.specs.Given.{lines_as_patterns}
use Rattle.grep_cli.proofs.options.patterns.push_given.Given as goal

abbrev pub invariant-loop-text : goal.invariant-loop-text
invariant-loop-text l =
    map string_bytes l.patterns.items
    ≡ map string_bytes l.initial.patterns.items ++ flat_map lines_as_patterns (map (λ s. s.now) (take l.text-index l.given))
