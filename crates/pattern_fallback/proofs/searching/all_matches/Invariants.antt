use Rattle.std.proofs.Common.{◌≡◌, ◌++◌, ◌-◌, map, option_map}
use Rattle.regex_meta.specs.Programs.{pattern_of}
use Rattle.pattern_fallback.specs.Fallbacks.{found_at, spans_following}
use Rattle.pattern_fallback.specs.Fallbacks.{span_pair}
use Rattle.pattern_fallback.proofs.SpanLemmas.{all_of}
use Rattle.pattern_fallback.proofs.searching.all_matches.Given as goal

abbrev pub invariant-loop-step : goal.invariant-loop-step
invariant-loop-step l =
    (l.searcher.program.now ≡ l.fn.searcher.program.now)
    × (all_of (pattern_of l.fn.searcher.program.now) l.haystack
    ≡ map span_pair l.found.items ++
    (spans_following (found_at (pattern_of l.fn.searcher.program.now) l.haystack) (l.most - l.step) (option_map span_pair l.next)))
