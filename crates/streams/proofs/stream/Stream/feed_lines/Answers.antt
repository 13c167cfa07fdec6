use Rattle.std.proofs.Common.{◌≡◌, arith}
use Rattle.streams.proofs.LineCallLemmas.{lines_failed, lines_fed_nothing, lines_full, more_so_far, none_so_far}
use Rattle.streams.proofs.stream.Stream.feed_lines.Goals as goal

pub returns-in-Err-clause-fed : goal.returns-in-Err-clause-fed
returns-in-Err-clause-fed c =
    lines_fed_nothing c.args.dfa.now c.args.terminator c.args.self.now c.args.bytes.now c.args.rows.now c.in-Err.error
    (c.in-Err.ensures.err c.args.dfa.now)

pub loop-taken-init : goal.loop-taken-init
loop-taken-init c = record {
  own = c.requires.own;
  stream = c.requires.stream;
  so = none_so_far c.args.dfa.now c.args.terminator c.args.self.now c.args.bytes.now c.args.rows.now c.in-Ok.ensures.ok.0 c.in-Ok.ensures.ok.1;
}

pub returns-in-Err-result-clause-fed : goal.returns-in-Err-result-clause-fed
returns-in-Err-result-clause-fed c =
    lines_failed c.args.dfa.now c.args.terminator c.args.self.now c.loop-taken.self c.feed_line-result.new.self c.args.bytes.now c.args.rows.now
    c.loop-taken.rows c.feed_line-result.new.rows c.loop-taken.taken c.loop-taken.count c.feed_line-result.result.0 c.loop-taken.invariant.so
    c.feed_line-result.auto.rows c.feed_line-result.result.1 c.in-Err-result.error c.in-Err-result.is c.feed_line-result.ensures.fed

pub returns-then-line-eq0-clause-fed : goal.returns-then-line-eq0-clause-fed
returns-then-line-eq0-clause-fed c =
    lines_full c.args.dfa.now c.args.terminator c.args.self.now c.loop-taken.self c.feed_line-result.new.self c.args.bytes.now c.args.rows.now
    c.loop-taken.rows c.feed_line-result.new.rows c.loop-taken.taken c.loop-taken.count c.feed_line-result.result.0 c.loop-taken.invariant.so
    c.feed_line-result.auto.rows c.feed_line-result.result.1 c.in-Ok-result.is c.feed_line-result.ensures.fed
    (let none : c.feed_line-result.result.0.taken ≡ 0 = omega (arith, c.if-line-eq0.true) in none)

pub loop-taken-preserved : goal.loop-taken-preserved
loop-taken-preserved c = record {
  own = c.feed_line-result.ensures.own;
  stream = c.feed_line-result.ensures.stream;
  so =
      more_so_far c.args.dfa.now c.args.terminator c.args.self.now c.loop-taken.self c.feed_line-result.new.self c.args.bytes.now
      c.args.rows.now c.loop-taken.rows c.feed_line-result.new.rows c.loop-taken.taken c.loop-taken.count c.feed_line-result.result.0
      c.loop-taken.invariant.so c.feed_line-result.auto.rows c.feed_line-result.result.1 c.in-Ok-result.is c.feed_line-result.ensures.fed;
}
