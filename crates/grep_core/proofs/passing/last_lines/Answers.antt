use Rattle.std.proofs.Common.{◌<◌, arith}
use Rattle.grep_core.proofs.JoinLemmas.{whole_ends}
use Rattle.grep_core.proofs.PassLemmas.{falls, feeds_more}
use Rattle.grep_core.proofs.passing.last_lines.Goals as goal

pub loop-found-init : goal.loop-found-init
loop-found-init c = record {
  in_lines = omega arith;
  starts = whole_ends c.args.lines.now c.requires;
  few = omega arith;
  enough = omega arith;
}

pub loop-found-preserved : goal.loop-found-preserved
loop-found-preserved c =
    let less : c.line_start-start.result < c.loop-found.start =
    falls c.line_start-start.result c.loop-found.start (omega (arith, c.if-start-eq0.false)) c.line_start-start.ensures.before in
    record {
      in_lines = c.line_start-start.ensures.within;
      starts = c.line_start-start.ensures.starts;
      few = omega (arith, c.loop-found-test.true);
      enough = feeds_more c.args.lines.now c.line_start-start.result c.loop-found.start c.loop-found.found less
          c.loop-found.invariant.in_lines c.loop-found.invariant.starts c.loop-found.invariant.enough;
    }

pub returns-clause-enough : goal.returns-clause-enough
returns-clause-enough c some = omega (arith, c.loop-found.invariant.enough, c.loop-found-test.false)
