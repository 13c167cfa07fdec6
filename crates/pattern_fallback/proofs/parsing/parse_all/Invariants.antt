use Rattle.std.proofs.Common.{take}
use Rattle.pattern_fallback.specs.Fallbacks.{AreParsedOf}
use Rattle.pattern_fallback.proofs.ParsedLemmas.{bytes_of}
use Rattle.pattern_fallback.proofs.parsing.parse_all.Given as goal

abbrev pub invariant-loop-text : goal.invariant-loop-text
invariant-loop-text l = AreParsedOf l.config (take l.text-index (bytes_of l.texts)) l.all.hirs.items
