use Rattle.std.proofs.Common.{ap, ◌∙◌}
use Rattle.search_core.specs.Marks.{marks_below}
use Rattle.nfa_core.proofs.nfa.NFA.byte_classes.Goals as goal

pub returns-clause-classes : goal.returns-clause-classes
returns-clause-classes c = λ b low. rw (← c.self.view_is) (c.self.invariant.1.classes b low
    ∙ ap (λ m. marks_below m b) c.self.invariant.1.marks)
