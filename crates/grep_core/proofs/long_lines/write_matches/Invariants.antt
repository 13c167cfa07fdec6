use Rattle.std.proofs.Common.{◌≡◌, ◌-◌, List, option_map}
use Rattle.regex_hir.specs.Re.{Re}
use Rattle.pattern_search.specs.Texts.{AreReadAs}
use Rattle.line_search.specs.Bounded.{line_pattern}
use Rattle.line_search.specs.Meant.{line_config}
use Rattle.grep_core.specs.LongLines.{printed_one}
use Rattle.grep_core.specs.Printing.{text_line}
use Rattle.line_search.specs.LineMatchers.{span_pair}
use Rattle.grep_core.proofs.LongLineLemmas.{StandsAt}
use Rattle.grep_core.proofs.long_lines.write_matches.Given as goal

abbrev pub invariant-loop-step : goal.invariant-loop-step
invariant-loop-step g l = record {
  same : l.finder ≡ l.fn.finder;
  stands : (res : List Re) → AreReadAs (line_config l.fn.finder.how) l.fn.finder.texts res →
      StandsAt (printed_one l.what (option_map (λ n. n.now) l.name) (text_line l.line)) (line_pattern l.fn.finder.how res) l.bytes
      l.fn.out.items (g.W.Write.contents l.fn.writer) (g.W.Write.contents l.writer) l.out.items (l.most - l.step)
      (option_map span_pair l.next);
}
