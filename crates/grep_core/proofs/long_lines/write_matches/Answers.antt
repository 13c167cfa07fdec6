use Rattle.std.proofs.Common.{◌∙◌, ◌+◌, ◌-◌, ℕ, List, Bor, length, option_map, ap, arith, subst}
use Rattle.line_search.specs.Bounded.{line_pattern}
use Rattle.line_search.specs.FoundSpans.{IsNextSpan}
use Rattle.grep_core.specs.LongLines.{printed_one}
use Rattle.grep_core.specs.Printing.{text_line}
use Rattle.line_search.specs.LineMatchers.{span_pair}
use Rattle.line_search.specs.Searchers.{Sought}
use Rattle.grep_core.proofs.LongLineLemmas.{none_begun, stands_counted, stands_failed, stands_first, stands_next, stands_over}
use Rattle.grep_core.proofs.long_lines.write_matches.Goals as goal

pub returns-in-Err-clause-fault : goal.returns-in-Err-clause-fault
returns-in-Err-clause-fault g c res read more = none_begun (g.W.Write.contents c.args.writer.now) _

pub loop-step-init : goal.loop-step-init
loop-step-init g c = record {
  same = c.find_from.ensures.same;
  stands = λ res read.
      stands_first (printed_one c.args.what.now (option_map (λ (n : Bor (List ℕ)). n.now) c.args.name) (text_line c.args.line))
      (line_pattern c.args.finder.now.how res) c.args.bytes.now c.args.out.now.items (g.W.Write.contents c.args.writer.now)
      (length c.args.bytes.now + 1 - 0) (option_map span_pair c.in-Ok.next) (omega arith) (c.in-Ok.ensures.reported c.requires res read);
}

pub write_match-requires : goal.write_match-requires
write_match-requires g c = ap (λ (s : Sought). s.spans) c.loop-step.invariant.same ∙ c.requires

pub loop-step-preserved : goal.loop-step-preserved
loop-step-preserved g c = record {
  same = c.in-Ok-write_match.ensures.same ∙ c.loop-step.invariant.same;
  stands = λ res read.
      stands_next (printed_one c.args.what.now (option_map (λ (n : Bor (List ℕ)). n.now) c.args.name) (text_line c.args.line))
      (line_pattern c.args.finder.now.how res) c.args.bytes.now c.args.out.now.items (g.W.Write.contents c.args.writer.now)
      (g.W.Write.contents c.loop-step.writer) (g.W.Write.contents c.write_match.new.writer) c.loop-step.out.items
      c.write_match.new.out.items (length c.args.bytes.now + 1) c.loop-step.step (option_map span_pair c.loop-step.next)
      (option_map span_pair c.in-Ok-write_match.next) (span_pair c.in-Some.span) c.loop-step-test.true
      (ap (option_map span_pair) c.in-Some.is)
      (subst (λ (s : Sought). IsNextSpan s.how s.texts c.args.bytes.now c.in-Some.span.end (option_map span_pair c.in-Ok-write_match.next))
      c.loop-step.invariant.same c.in-Ok-write_match.ensures.next res read)
      (c.loop-step.invariant.stands res read) c.in-Ok-write_match.ensures.sends;
}

pub returns-in-Err-write_match-clause-fault : goal.returns-in-Err-write_match-clause-fault
returns-in-Err-write_match-clause-fault g c res read more =
    stands_failed (printed_one c.args.what.now (option_map (λ (n : Bor (List ℕ)). n.now) c.args.name) (text_line c.args.line))
    (line_pattern c.args.finder.now.how res) c.args.bytes.now c.args.out.now.items (g.W.Write.contents c.args.writer.now)
    (g.W.Write.contents c.loop-step.writer) (g.W.Write.contents c.write_match.new.writer) c.loop-step.out.items more
    (length c.args.bytes.now + 1) c.loop-step.step (option_map span_pair c.loop-step.next) (span_pair c.in-Some.span) c.loop-step-test.true
    (ap (option_map span_pair) c.in-Some.is) (c.loop-step.invariant.stands res read) c.in-Err-write_match.ensures.fault

pub returns-in_default-clause-sends : goal.returns-in_default-clause-sends
returns-in_default-clause-sends g c res read =
    stands_over (printed_one c.args.what.now (option_map (λ (n : Bor (List ℕ)). n.now) c.args.name) (text_line c.args.line))
    (line_pattern c.args.finder.now.how res) c.args.bytes.now c.args.out.now.items (g.W.Write.contents c.args.writer.now)
    (g.W.Write.contents c.loop-step.writer) c.loop-step.out.items (length c.args.bytes.now + 1 - c.loop-step.step)
    (option_map span_pair c.loop-step.next) (ap (option_map span_pair) c.in_default.is) (c.loop-step.invariant.stands res read)

pub returns-clause-sends : goal.returns-clause-sends
returns-clause-sends g c res read =
    stands_counted (printed_one c.args.what.now (option_map (λ (n : Bor (List ℕ)). n.now) c.args.name) (text_line c.args.line))
    (line_pattern c.args.finder.now.how res) c.args.bytes.now c.args.out.now.items (g.W.Write.contents c.args.writer.now)
    (g.W.Write.contents c.loop-step.writer) c.loop-step.out.items (length c.args.bytes.now + 1 - c.loop-step.step)
    (option_map span_pair c.loop-step.next) (omega (arith, c.loop-step-test.false)) (c.loop-step.invariant.stands res read)
