use Rattle.streams.proofs.TagLemmas.{known_step}
use Rattle.streams.proofs.reading.quick.Goals as goal

pub returns : goal.returns
returns c = λ low s h.
    known_step c.args.dfa.now c.args.cache.now c.args.id c.args.byte c.next_state_untagged.result c.is_made.ensures c.requires.own c.ranges.byte.fits
    c.next_state_untagged.ensures low s h
