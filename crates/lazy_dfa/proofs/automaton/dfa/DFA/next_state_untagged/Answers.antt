use Rattle.lazy_dfa.proofs.CacheChanges.ChangeLemmas.{plain_place}
use Rattle.lazy_dfa.proofs.automaton.dfa.DFA.next_state_untagged.Goals as goal

pub cell_of_untagged-requires : goal.cell_of_untagged-requires
cell_of_untagged-requires c = plain_place c.args.self.now c.args.cache.now c.args.current c.class.result c.args.input c.is_made.ensures
    c.requires.own c.ranges.input.fits c.class.ensures c.requires.untagged c.requires.row
