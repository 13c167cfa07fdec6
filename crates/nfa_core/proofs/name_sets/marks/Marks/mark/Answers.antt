use Rattle.nfa_core.proofs.MarkedLemmas.{marked_there, marked_elsewhere}
use Rattle.nfa_core.proofs.name_sets.marks.Marks.mark.Goals as goal

pub returns-clause-marked : goal.returns-clause-marked
returns-clause-marked c = marked_there c.args.self.now.words.items c.args.number c.index_mut.result.now c.requires

pub returns-clause-others : goal.returns-clause-others
returns-clause-others c = marked_elsewhere c.args.self.now.words.items c.args.number c.index_mut.result.now _ c.requires
    c.index_mut.ensures.value
