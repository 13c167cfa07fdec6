use Rattle.std.proofs.Common.{◌≡◌, ◌++◌, ℕ, List, length, map, string_bytes}
use Rattle.std.specs.List.{flat_map}
use Rattle.grep_cli.specs.Given.{patterns_of_file}
use Rattle.grep_cli.proofs.options.patterns.push_files.Given as goal

abbrev pub invariant-loop-name : goal.invariant-loop-name
invariant-loop-name l = (texts : List (List ℕ)) × (length texts ≡ l.name-index)
    × (map string_bytes l.patterns.items ≡ map string_bytes l.initial.patterns.items ++ flat_map (patterns_of_file l.crlf) texts)
