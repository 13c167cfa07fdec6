-- Each call comes before those that are left.
use Rattle.std.proofs.Common.{of_calls, subst, Ok, Err}
use Rattle.thompson_nfa.proofs.Tries.CallLemmas.{calls_more, calls_up_to, calls_refused}
use Rattle.thompson_nfa.proofs.range_tries.range_walk.call_each.Goals as goal

pub loop-path-preserved : goal.loop-path-preserved
loop-path-preserved g c =
    let met = subst (λ r. g.F.FnMut.steps c.loop-path.f (c.deref.result, tt) r c.f.new.self) c.in-Ok.is c.f.ensures.met in
    let step : goal.F-step g c.loop-path.f c.deref.result (Ok tt) c.f.new.self = record { met = met } in
    record {
      callable = search of_calls;
      all = λ h. c.loop-path.invariant.all (calls_more {E = g.row.E.Denot}
          (goal.F-step g) c.loop-path.f c.f.new.self c.loop-path.rest.now c.in-Some.others.now c.in-Some.path.now c.in-Some.ensures.cases.0
          c.deref.result c.deref.ensures.value step h);
      up_to = λ e h. c.loop-path.invariant.up_to e (calls_up_to {E = g.row.E.Denot}
          (goal.F-step g) c.loop-path.f c.f.new.self c.loop-path.rest.now c.in-Some.others.now c.in-Some.path.now c.in-Some.ensures.cases.0
          c.deref.result c.deref.ensures.value e step h);
    }

pub returns-in-Err-clause-err : goal.returns-in-Err-clause-err
returns-in-Err-clause-err g c =
    let met = subst (λ r. g.F.FnMut.steps c.loop-path.f (c.deref.result, tt) r c.f.new.self) c.in-Err.is c.f.ensures.met in
    let step : goal.F-step g c.loop-path.f c.deref.result (Err c.in-Err.error) c.f.new.self = record { met = met } in
    c.loop-path.invariant.up_to c.in-Err.error (calls_refused {E = g.row.E.Denot}
    (goal.F-step g) c.loop-path.f c.f.new.self c.loop-path.rest.now c.in-Some.others.now c.in-Some.path.now c.in-Some.ensures.cases.0
    c.deref.result c.deref.ensures.value c.in-Err.error step)
