use Rattle.std.proofs.Common.{arith, ap, sym, Some, ◌∙◌}
use Rattle.std.proofs.lemmas.Option.{slice_get-get_or}
use Rattle.group_finder.specs.Engines.{counted}
use Rattle.captures.specs.Patterns.{all_bytes}
use Rattle.captures.proofs.PatternLemmas.{all_counted, one_more_counted}
use Rattle.captures.proofs.groups.Groups.memory_usage.Goals as goal

pub loop-pattern-preserved : goal.loop-pattern-preserved
loop-pattern-preserved c = (
  c.saturating_add-usage.type_inv,
  one_more_counted c.args.self.now.patterns.items c.loop-pattern.pattern c.loop-pattern.usage c.memory_usage.result c.saturating_add-usage.result
      (counted (all_bytes c.args.self.now.patterns.items)) c.index.result.now
      (slice_get-get_or c.args.self.now.patterns.items c.loop-pattern.pattern c.index.result.now
      (omega (arith, c.loop-pattern-test.true, c.len-pattern-end.ensures, c.loop-pattern.auto.pattern-end)) ∙ ap Some (sym c.index.ensures))
      c.memory_usage.ensures c.saturating_add-usage.ensures c.loop-pattern.invariant.1,
)

pub returns : goal.returns
returns c =
    all_counted c.args.self.now.patterns.items c.loop-pattern.pattern c.loop-pattern.usage (counted (all_bytes c.args.self.now.patterns.items))
    (omega (arith, c.loop-pattern-test.false, c.len-pattern-end.ensures, c.loop-pattern.auto.pattern-end)) c.loop-pattern.invariant.0 c.loop-pattern.invariant.1
