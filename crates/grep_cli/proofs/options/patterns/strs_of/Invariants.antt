use Rattle.std.proofs.Common.{◌≡◌, map, string_bytes, take}
use Rattle.grep_cli.proofs.options.patterns.strs_of.Given as goal

abbrev pub invariant-loop-text : goal.invariant-loop-text
invariant-loop-text l = map (λ s. s.now) l.words.items ≡ map string_bytes (take l.text-index l.texts)
