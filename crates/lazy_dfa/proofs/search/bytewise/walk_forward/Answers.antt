use Rattle.std.proofs.Common.{◌∙◌, sym, get_or, arith}
use Rattle.lazy_dfa.proofs.CacheChanges.ChangeLemmas.{plain_place}
use Rattle.lazy_dfa.proofs.CacheChanges.IsCacheLemmas.{lt_of}
use Rattle.lazy_dfa.proofs.PassedBytes.SkipLemmas.{reads_none, reads_byte}
use Rattle.lazy_dfa.proofs.search.bytewise.walk_forward.Goals as goal

pub loop-at-init : goal.loop-at-init
loop-at-init c = reads_none c.args.dfa.now c.args.cache.now c.args.haystack.now c.is_made.ensures c.requires.own
    (λ i. omega (arith, c.type_inv.haystack i)) c.requires.is_forward
    (record { at = c.args.from; id = c.args.id }) c.args.limit c.requires.row c.requires.untagged c.requires.fits

pub cell_of_untagged-next-requires : goal.cell_of_untagged-next-requires
cell_of_untagged-next-requires c = plain_place c.args.dfa.now c.args.cache.now c.loop-at.sid c.class.result
    (get_or c.args.haystack.now c.loop-at.at 0) c.is_made.ensures c.requires.own
    (omega (arith, c.type_inv.haystack c.loop-at.at)) c.class.ensures c.loop-at.invariant.untagged c.loop-at.invariant.row

pub returns-then-eq-clause-moves : goal.returns-then-eq-clause-moves
returns-then-eq-clause-moves c = reads_byte c.args.dfa.now c.args.cache.now c.args.haystack.now c.is_made.ensures c.requires.own
    (λ i. omega (arith, c.type_inv.haystack i)) c.requires.is_forward
    (record { at = c.args.from; id = c.args.id }) (record { at = c.loop-at.at; id = c.loop-at.sid }) c.args.limit c.requires.row
    c.loop-at.invariant (omega (arith, c.loop-at-test.true)) c.requires.within
    c.cell_of_untagged-next.result c.class.result c.class.ensures c.cell_of_untagged-next.ensures
    (lt_of 0x800_0000 c.cell_of_untagged-next.result (sym c.is_tagged.ensures ∙ c.if-is_tagged.false))

pub loop-at-preserved : goal.loop-at-preserved
loop-at-preserved c = reads_byte c.args.dfa.now c.args.cache.now c.args.haystack.now c.is_made.ensures c.requires.own
    (λ i. omega (arith, c.type_inv.haystack i)) c.requires.is_forward
    (record { at = c.args.from; id = c.args.id }) (record { at = c.loop-at.at; id = c.loop-at.sid }) c.args.limit c.requires.row
    c.loop-at.invariant (omega (arith, c.loop-at-test.true)) c.requires.within
    c.cell_of_untagged-next.result c.class.result c.class.ensures c.cell_of_untagged-next.ensures
    (lt_of 0x800_0000 c.cell_of_untagged-next.result (sym c.is_tagged.ensures ∙ c.if-is_tagged.false))
