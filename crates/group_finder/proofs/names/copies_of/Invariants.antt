use Rattle.std.proofs.Common.{◌≡◌, ◌++◌, drop, map, option_map, string_bytes}
use Rattle.group_finder.proofs.names.copies_of.Given as goal

-- the copies so far, followed by the names that are left
abbrev pub invariant-loop-name : goal.invariant-loop-name
invariant-loop-name l =
    map (option_map string_bytes) l.copies.items ++ map (option_map string_bytes) (drop l.name-index l.names)
    ≡ map (option_map string_bytes) l.names
