use Rattle.std.proofs.Common.{subst}
use Rattle.meta_regex.specs.declared.anchored.Tried.{Tried}
use Rattle.meta_regex.specs.Starts.{IsTried}
use Rattle.meta_regex.proofs.anchored.step_of.Goals as goal

pub returns-in-NotHere : goal.returns-in-NotHere
returns-in-NotHere c = λ config texts loops it.
    c.step_after.ensures config texts loops
    (subst (λ (t : Tried). IsTried config texts c.args.haystack.now c.args.start t) c.in-NotHere.is it.tried)
