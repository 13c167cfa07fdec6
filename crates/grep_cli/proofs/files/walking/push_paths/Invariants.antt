use Rattle.std.proofs.Common.{◌≡◌, ◌++◌, map, reverse, string_bytes, vec_len}
use Rattle.grep_cli.proofs.files.walking.push_paths.Given as goal

abbrev pub invariant-loop-path : goal.invariant-loop-path
invariant-loop-path l =
    map string_bytes l.left.items ++ reverse (map string_bytes l.paths.items)
    ≡ map string_bytes l.initial.left.items ++ reverse (map string_bytes l.initial.paths.items)

abbrev pub decreases-loop-path : goal.decreases-loop-path
decreases-loop-path l = vec_len l.paths
