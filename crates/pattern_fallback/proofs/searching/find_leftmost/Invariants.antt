use Rattle.std.proofs.Common.{◌≡◌, ◌-◌, length}
use Rattle.regex_meta.specs.Programs.{pattern_of}
use Rattle.pattern_fallback.proofs.SpanLemmas.{IsOn}
use Rattle.pattern_fallback.proofs.searching.find_leftmost.Given as goal

abbrev pub invariant-loop-found : goal.invariant-loop-found
invariant-loop-found l =
    (l.searcher.program.now ≡ l.fn.searcher.program.now) × IsOn (pattern_of l.fn.searcher.program.now) l.haystack l.utf8 l.fn.start l.at

abbrev pub decreases-loop-found : goal.decreases-loop-found
decreases-loop-found l = length l.haystack - l.at
