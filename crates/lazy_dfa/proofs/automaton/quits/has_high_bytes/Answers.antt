use Rattle.std.proofs.Common.{◌∙◌, sym}
use Rattle.lazy_dfa.proofs.Automata.QuitLemmas.{high_from, all_here}
use Rattle.lazy_dfa.proofs.automaton.quits.has_high_bytes.Goals as goal

pub loop-byte-init : goal.loop-byte-init
loop-byte-init c = high_from c.args.set.now

pub loop-byte-preserved : goal.loop-byte-preserved
loop-byte-preserved c = c.loop-byte.invariant ∙ all_here c.args.set.now c.loop-byte.byte c.loop-byte-test.true (sym c.contains.ensures
    ∙ c.if-not-contains.false)
