use Rattle.std.proofs.Common.{◌≡◌, map, string_bytes, take}
use Rattle.line_search.specs.Meant.{written}
use Rattle.hirgrep_main.proofs.options.patterns.texts_of.Given as goal

abbrev pub invariant-loop-pattern : goal.invariant-loop-pattern
invariant-loop-pattern l = map string_bytes l.texts.items ≡ map (λ p. written l.asked.how.fixed p.now) (take l.pattern-index l.patterns)
