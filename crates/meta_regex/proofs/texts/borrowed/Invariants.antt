use Rattle.std.proofs.Common.{◌≡◌, ◌++◌, map, drop, string_bytes}
use Rattle.meta_regex.proofs.texts.borrowed.Given as goal

abbrev pub invariant-loop-text : goal.invariant-loop-text
invariant-loop-text l =
    map (λ t. t.now) l.read.items ++ map string_bytes (drop l.text-index l.texts) ≡ map string_bytes l.texts
