use Rattle.std.proofs.Common.{sym, ◌∙◌}
use Rattle.lazy_dfa.proofs.OverlappingWalks.WhichLoopLemmas.{begins, begins_well, fails, none_left, stops, goes_on, falls}
use Rattle.lazy_dfa.proofs.overlapping.which_patterns.which.Goals as goal

pub loop-e-init : goal.loop-e-init
loop-e-init g c = record {
  own = c.requires;
  walk = begins_well c.args.dfa.now c.args.input.now c.args.cache.now c.start-state.result c.start-state.ensures;
  stands = begins c.args.dfa.now c.args.input.now c.args.cache.now c.args.work.now.determinized c.args.work.now.inserted c.args.patterns.now
      c.start-state.result c.start-state.ensures;
}

pub returns-in-Err-clause-which : goal.returns-in-Err-clause-which
returns-in-Err-clause-which g c = fails c.args.dfa.now c.args.input.now c.args.cache.now c.loop-e.cache c.call.new.cache
    c.args.work.now.determinized
    c.loop-e.work.determinized c.call.new.work.determinized c.args.work.now.inserted c.loop-e.work.inserted c.call.new.work.inserted
    c.args.patterns.now c.loop-e.patterns c.loop-e.state.walk c.call.new.state c.is_made.ensures c.requires c.loop-e.invariant.stands
    c.loop-e.invariant.walk
    c.in-Err.e c.in-Err.ensures.call

pub returns-in_default-clause-which : goal.returns-in_default-clause-which
returns-in_default-clause-which g c = none_left c.args.dfa.now c.args.input.now c.args.cache.now c.loop-e.cache c.call.new.cache
    c.args.work.now.determinized
    c.loop-e.work.determinized c.call.new.work.determinized c.args.work.now.inserted c.loop-e.work.inserted c.call.new.work.inserted
    c.args.patterns.now c.loop-e.patterns c.loop-e.state.walk c.call.new.state c.is_made.ensures c.requires c.loop-e.invariant.stands
    c.loop-e.invariant.walk
    (sym c.get_match.ensures ∙ c.in_default.is) c.in-Ok.ensures.call

pub returns-then-is_enough-clause-which : goal.returns-then-is_enough-clause-which
returns-then-is_enough-clause-which g c = stops c.args.dfa.now c.args.input.now c.args.cache.now c.loop-e.cache c.call.new.cache
    c.args.work.now.determinized
    c.loop-e.work.determinized c.call.new.work.determinized c.args.work.now.inserted c.loop-e.work.inserted c.call.new.work.inserted
    c.args.patterns.now c.loop-e.patterns c.loop-e.state.walk c.call.new.state c.is_made.ensures c.requires c.loop-e.invariant.stands
    c.loop-e.invariant.walk
    c.in-Some.found (sym c.get_match.ensures ∙ c.in-Some.is) c.in-Ok.ensures.call c.add.new.patterns c.add.ensures
    (sym c.is_enough.ensures ∙ c.if-is_enough.true)

pub loop-e-smaller : goal.loop-e-smaller
loop-e-smaller g c = falls c.args.dfa.now c.args.input.now c.args.cache.now c.loop-e.cache c.call.new.cache c.args.work.now.determinized
    c.loop-e.work.determinized c.call.new.work.determinized c.args.work.now.inserted c.loop-e.work.inserted c.call.new.work.inserted
    c.args.patterns.now c.loop-e.patterns c.loop-e.state.walk c.call.new.state c.is_made.ensures c.requires c.loop-e.invariant.stands
    c.loop-e.invariant.walk
    c.in-Some.found (sym c.get_match.ensures ∙ c.in-Some.is) c.in-Ok.ensures.call c.add.new.patterns c.add.ensures

pub loop-e-preserved : goal.loop-e-preserved
loop-e-preserved g c = record {
  own = c.in-Ok.ensures.own;
  walk = c.in-Ok.ensures.call.walk;
  stands = goes_on c.args.dfa.now c.args.input.now c.args.cache.now c.loop-e.cache c.call.new.cache c.args.work.now.determinized
      c.loop-e.work.determinized c.call.new.work.determinized c.args.work.now.inserted c.loop-e.work.inserted c.call.new.work.inserted
      c.args.patterns.now c.loop-e.patterns c.loop-e.state.walk c.call.new.state c.is_made.ensures c.requires c.loop-e.invariant.stands
      c.loop-e.invariant.walk
      c.in-Some.found (sym c.get_match.ensures ∙ c.in-Some.is) c.in-Ok.ensures.call c.add.new.patterns c.add.ensures
      (sym c.is_enough.ensures ∙ c.if-is_enough.false);
}
