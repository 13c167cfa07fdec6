use Rattle.hir_core.specs.Weight.{weight}
use Rattle.meta_regex.specs.Parts.{HasEndsOf}
use Rattle.meta_regex.proofs.rounds.within_groups.Given as goal

abbrev pub invariant-loop-sub : goal.invariant-loop-sub
invariant-loop-sub l = HasEndsOf l.x l.inner

abbrev pub decreases-loop-sub : goal.decreases-loop-sub
decreases-loop-sub l = weight l.inner
