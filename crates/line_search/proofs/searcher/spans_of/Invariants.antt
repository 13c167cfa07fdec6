use Rattle.std.proofs.Common.{◌≡◌, ◌++◌, map, drop}
use Rattle.pattern_search.specs.Searches.{span_of_found}
use Rattle.line_search.specs.LineMatchers.{span_pair}
use Rattle.line_search.proofs.searcher.spans_of.Given as goal

abbrev pub invariant-loop-found : goal.invariant-loop-found
invariant-loop-found l =
    map span_pair l.spans.items ++ map span_of_found (drop l.found-index l.all)
    ≡ map span_of_found l.all
