use Rattle.std.proofs.Common.{◌≡◌, length, map}
use Rattle.line_search.specs.LineMatchers.{span_pair}
use Rattle.line_search.proofs.AppendLemmas.{AreReplacedTo}
use Rattle.line_search.proofs.replacing.replace_matches.Given as goal

abbrev pub invariant-loop-count : goal.invariant-loop-count
invariant-loop-count l =
    (l.searcher.program.now ≡ l.fn.searcher.program.now)
    × (length l.cells ≡ length l.fn.cells)
    × AreReplacedTo l.groups.0 l.groups.1 l.template l.line l.most l.out.bytes.items (map span_pair l.out.spans.items) l.count l.last
