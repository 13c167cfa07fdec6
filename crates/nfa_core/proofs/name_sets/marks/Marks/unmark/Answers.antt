use Rattle.nfa_core.proofs.MarkedLemmas.{none_left}
use Rattle.nfa_core.proofs.name_sets.marks.Marks.unmark.Goals as goal

pub returns-clause-none : goal.returns-clause-none
returns-clause-none c = none_left c.loop-name.self.words.items c.args.names.now c.loop-name.name-index c.loop-name-test.false
    c.loop-name.invariant.all
