use Rattle.std.proofs.Common.{arith, ◌∙◌}
use Rattle.hirscan.proofs.HeadLemmas.{length-cut, behind_none, behind_more, reads_at_find, fault_in_line, fault_at_end, state_at_end}
use Rattle.hirscan.proofs.head.read_head.Goals as goal

pub lines-preserved : goal.lines-preserved
lines-preserved c =
    let cut = c.in-Some.ensures in
    let lengths = length-cut c.lines.rest.now c.in-Some.line.now c.in-Some.behind.now cut in
    record {
      all_read = omega (arith, lengths);
      lines_read = omega arith;
      behind =
          behind_more c.args.text.now c.lines.rest.now c.in-Some.line.now c.in-Some.behind.now _ _ c.lines.at c.lines.lines
          c.lines.invariant.behind cut (rw c.in-Next.is at c.in-Ok.ensures.ok);
    }

pub returns-in_default-clause-notation : goal.returns-in_default-clause-notation
returns-in_default-clause-notation c =
    fault_at_end c.args.text.now c.lines.rest.now _ c.lines.at c.lines.lines c.lines.invariant.behind c.in_default.ensures

pub returns-in-Err-clause-notation : goal.returns-in-Err-clause-notation
returns-in-Err-clause-notation c =
    rw c.on_line.ensures
    (fault_in_line c.args.text.now c.lines.rest.now c.in-Some.line.now c.in-Some.behind.now _ c.lines.at c.lines.lines c.in-Err.fault
    c.lines.invariant.behind c.in-Some.ensures c.in-Err.ensures.err)

pub returns-in-End-clause-ok : goal.returns-in-End-clause-ok
returns-in-End-clause-ok c =
    let ends = rw c.in-End.is at c.in-Ok.ensures.ok in
    rw c.head_of.ensures.len
    (reads_at_find c.args.text.now c.lines.rest.now c.in-Some.line.now c.in-Some.behind.now _ _ c.lines.at c.lines.lines
    c.lines.invariant.behind c.in-Some.ensures ends.0
    (c.head_of.ensures.value ∙ state_at_end _ _ ends.1 ends.0.nothing_left))

pub lines-init : goal.lines-init
lines-init c =
    record {
      all_read = omega arith;
      lines_read = omega arith;
      behind = behind_none c.args.text.now _ c.first_state-state.ensures;
    }
