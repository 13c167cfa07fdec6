use Rattle.std.proofs.Common.{List, ℕ, Bor, option_map}
use Rattle.grep_core.specs.LongLines.{printed_one}
use Rattle.grep_core.specs.Printing.{text_line}
use Rattle.line_search.specs.LineMatchers.{span_pair}
use Rattle.grep_core.proofs.LongLineLemmas.{begun_pushed, none_begun, part_begun, sends_pushed, sent_begun}
use Rattle.grep_core.proofs.long_lines.write_match.Goals as goal

pub returns-in-Err-clause-fault : goal.returns-in-Err-clause-fault
returns-in-Err-clause-fault g c more = none_begun (g.W.Write.contents c.args.writer.now) _

pub returns-in-Err-write_some-clause-fault : goal.returns-in-Err-write_some-clause-fault
returns-in-Err-write_some-clause-fault g c more =
    let part = c.in-Err-write_some.ensures.fault in
    begun_pushed (g.W.Write.contents c.args.writer.now) (g.W.Write.contents c.write_some.new.writer) c.args.out.now.items
    (printed_one c.args.what.now (option_map (λ (n : Bor (List ℕ)). n.now) c.args.name) (text_line c.args.line)
    (span_pair c.args.span))
    c.push_one.new.out.items more c.in-Ok.ensures
    (part_begun (g.W.Write.contents c.args.writer.now) (g.W.Write.contents c.write_some.new.writer) part.0 c.push_one.new.out.items more
    part.1)

pub returns-in-Err-find_next-clause-fault : goal.returns-in-Err-find_next-clause-fault
returns-in-Err-find_next-clause-fault g c more =
    begun_pushed (g.W.Write.contents c.args.writer.now) (g.W.Write.contents c.write_some.new.writer) c.args.out.now.items
    (printed_one c.args.what.now (option_map (λ (n : Bor (List ℕ)). n.now) c.args.name) (text_line c.args.line)
    (span_pair c.args.span))
    c.push_one.new.out.items more c.in-Ok.ensures
    (sent_begun (g.W.Write.contents c.args.writer.now) (g.W.Write.contents c.write_some.new.writer) c.push_one.new.out.items
    c.write_some.new.out.items more c.in-Ok-write_some.ensures.sends)

pub returns-clause-sends : goal.returns-clause-sends
returns-clause-sends g c =
    sends_pushed (g.W.Write.contents c.args.writer.now) (g.W.Write.contents c.write_some.new.writer) c.args.out.now.items
    (printed_one c.args.what.now (option_map (λ (n : Bor (List ℕ)). n.now) c.args.name) (text_line c.args.line)
    (span_pair c.args.span))
    c.push_one.new.out.items c.write_some.new.out.items c.in-Ok.ensures c.in-Ok-write_some.ensures.sends
