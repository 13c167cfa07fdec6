use Rattle.std.proofs.Common.{arith, rules}
use Rattle.captures.proofs.PatternLemmas.{all_ready}
use Rattle.captures.proofs.groups.Groups.prepare.Goals as goal

pub returns : goal.returns
returns c =
    let ready = all_ready c.loop-pattern.self.patterns.items c.loop-pattern.pattern
    (omega (arith, c.loop-pattern-test.false, c.loop-pattern.auto.pattern-end, c.loop-pattern.invariant, c.len-pattern-end.ensures))
    c.loop-pattern.invariant.1 in
    search rules
