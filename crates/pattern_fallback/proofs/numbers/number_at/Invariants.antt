use Rattle.pattern_fallback.proofs.NumberLemmas.{NoneOf}
use Rattle.pattern_fallback.proofs.numbers.number_at.Given as goal

abbrev pub invariant-loop-number : goal.invariant-loop-number
invariant-loop-number l = NoneOf l.programs l.haystack l.start l.number
