use Rattle.std.proofs.Common.{◌≡◌, ◌∙◌, ◌+◌, ◌<◌, sym, get_or, arith}
use Rattle.lazy_dfa.specs.Ids.{tag}
use Rattle.lazy_dfa.proofs.CacheChanges.ChangeLemmas.{plain_place}
use Rattle.lazy_dfa.proofs.CacheChanges.IsCacheLemmas.{lt_of}
use Rattle.lazy_dfa.proofs.PassedBytes.SkipLemmas.{row_once, way_back}
use Rattle.lazy_dfa.proofs.accel.accel_rounds.comes_back.Goals as goal

pub cell_of_untagged-next-requires : goal.cell_of_untagged-next-requires
cell_of_untagged-next-requires c = plain_place c.args.dfa.now c.args.cache.now c.args.id c.class.result
    (get_or c.args.haystack.now c.args.at 0) c.is_made.ensures c.requires.own
    (omega (arith, c.type_inv.haystack c.args.at)) c.class.ensures c.requires.untagged c.requires.row

pub cell_of_untagged-back-requires : goal.cell_of_untagged-back-requires
cell_of_untagged-back-requires c =
    let plain : c.cell_of_untagged-next.result < tag =
    lt_of 0x800_0000 c.cell_of_untagged-next.result (sym c.is_tagged.ensures ∙ c.if-is_tagged.false) in
    plain_place c.args.dfa.now c.args.cache.now c.cell_of_untagged-next.result c.class-2.result
    (get_or c.args.haystack.now (c.args.at + 1) 0) c.is_made.ensures c.requires.own
    (omega (arith, c.type_inv.haystack (c.args.at + 1))) c.class-2.ensures plain
    (row_once c.args.dfa.now c.args.cache.now c.args.haystack.now c.is_made.ensures c.requires.own
    (λ i. omega (arith, c.type_inv.haystack i)) c.requires.is_forward c.args.at c.args.id c.requires.row c.requires.untagged
    (omega (arith, c.if-end-at-lt2.false, c.requires.fits, c.requires.within))
    c.cell_of_untagged-next.result c.class.result c.class.ensures c.cell_of_untagged-next.ensures plain)

pub returns-clause-goes : goal.returns-clause-goes
returns-clause-goes c = λ comes.
    let back : c.cell_of_untagged-back.result ≡ c.args.id = grind (arith, c.eq.ensures, comes) in
    let plain : c.cell_of_untagged-next.result < tag =
    lt_of 0x800_0000 c.cell_of_untagged-next.result (sym c.is_tagged.ensures ∙ c.if-is_tagged.false) in
    way_back c.args.dfa.now c.args.cache.now c.args.haystack.now c.is_made.ensures c.requires.own
    (λ i. omega (arith, c.type_inv.haystack i)) c.requires.is_forward c.args.at c.args.id c.requires.row c.requires.untagged
    (omega (arith, c.if-end-at-lt2.false, c.requires.fits, c.requires.within))
    c.cell_of_untagged-next.result c.class.result c.class.ensures c.cell_of_untagged-next.ensures plain
    c.class-2.result c.class-2.ensures (sym back ∙ c.cell_of_untagged-back.ensures)
