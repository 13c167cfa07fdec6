use Rattle.std.proofs.Common.{◌∷◌, ap, sym, ◌∙◌}
use Rattle.search_core.proofs.ForCallers.{step_goes}
use Rattle.look_core.specs.LookSets.{members}
use Rattle.look_core.proofs.LookSetLemmas.{first-gives}
use Rattle.look_core.proofs.look_set_iter.LookSetIterIterator.next.Goals as goal

pub returns-clause-steps : goal.returns-clause-steps
returns-clause-steps c =
    sym c.self.view_is
    ∙ first-gives c.self.inside.set c.first.result c.in_ok-look.look c.in_ok-look.was c.first.ensures
    ∙ ap (λ s. c.in_ok-look.look ∷ members s) (sym c.set_remove.ensures)

pub returns-clause-goes : goal.returns-clause-goes
returns-clause-goes c = step_goes c.in_ok-look.look c.args.self.now (members c.set_remove.new.self) (returns-clause-steps c)
