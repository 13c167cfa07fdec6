use Rattle.std.proofs.Common.{◌∙◌, sym, ◌+◌, ◌<◌, get_or, arith}
use Rattle.lazy_dfa.specs.Ids.{tag}
use Rattle.lazy_dfa.proofs.CacheChanges.ChangeLemmas.{plain_place}
use Rattle.lazy_dfa.proofs.CacheChanges.IsCacheLemmas.{lt_of}
use Rattle.lazy_dfa.proofs.PassedBytes.SkipLemmas.{counts_none, counts_byte}
use Rattle.lazy_dfa.proofs.search.bytewise.walk_both.Goals as goal

pub both-init : goal.both-init
both-init c = record {
  most = omega arith;
  first = counts_none c.args.dfa.now c.args.cache.now c.args.haystack.now c.is_made.ensures c.requires.own (λ i. omega (
    arith,
    c.type_inv.haystack i,
  )) c.requires.is_forward
      (record { at = c.args.from; id = c.args.first }) c.args.count c.requires.row c.requires.untagged;
  second = counts_none c.args.dfa.now c.args.cache.now c.args.haystack.now c.is_made.ensures c.requires.own (λ i. omega (
    arith,
    c.type_inv.haystack i,
  )) c.requires.is_forward
      (record { at = c.args.further; id = c.args.second }) c.args.count c.requires.second_row c.requires.second_untagged;
}

pub cell_of_untagged-next-requires : goal.cell_of_untagged-next-requires
cell_of_untagged-next-requires c = plain_place c.args.dfa.now c.args.cache.now c.both.one c.class.result
    (get_or c.args.haystack.now (c.args.from + c.both.read) 0) c.is_made.ensures c.requires.own
    (omega (arith, c.type_inv.haystack (c.args.from + c.both.read))) c.class.ensures c.both.invariant.first.untagged
    c.both.invariant.first.row

pub cell_of_untagged-other_next-requires : goal.cell_of_untagged-other_next-requires
cell_of_untagged-other_next-requires c = plain_place c.args.dfa.now c.args.cache.now c.both.other c.class-in-both.result
    (get_or c.args.haystack.now (c.args.further + c.both.read) 0) c.is_made.ensures c.requires.own
    (omega (arith, c.type_inv.haystack (c.args.further + c.both.read))) c.class-in-both.ensures c.both.invariant.second.untagged
    c.both.invariant.second.row

pub both-preserved : goal.both-preserved
both-preserved c =
    let plain : c.cell_of_untagged-next.result < tag =
    lt_of 0x800_0000 c.cell_of_untagged-next.result (sym c.is_tagged.ensures ∙ c.if-is_tagged.false) in
    let other_plain : c.cell_of_untagged-other_next.result < tag =
    lt_of 0x800_0000 c.cell_of_untagged-other_next.result (sym c.is_tagged-else-is_tagged.ensures ∙ c.if-is_tagged-2.false) in
    record {
      most = omega (arith, c.both-test.true);
      first = counts_byte c.args.dfa.now c.args.cache.now c.args.haystack.now c.is_made.ensures c.requires.own (λ i. omega (
        arith,
        c.type_inv.haystack i,
      )) c.requires.is_forward
          (record { at = c.args.from; id = c.args.first }) c.both.read c.both.one c.args.count c.requires.row c.both.invariant.first
          (omega (arith, c.both-test.true)) c.requires.fits
          c.cell_of_untagged-next.result c.class.result c.class.ensures c.cell_of_untagged-next.ensures plain;
      second = counts_byte c.args.dfa.now c.args.cache.now c.args.haystack.now c.is_made.ensures c.requires.own (λ i. omega (
        arith,
        c.type_inv.haystack i,
      )) c.requires.is_forward
          (record { at = c.args.further; id = c.args.second }) c.both.read c.both.other c.args.count c.requires.second_row
          c.both.invariant.second
          (omega (arith, c.both-test.true)) c.requires.within
          c.cell_of_untagged-other_next.result c.class-in-both.result c.class-in-both.ensures c.cell_of_untagged-other_next.ensures
          other_plain;
    }
