use Rattle.std.proofs.Common.{◌∙◌, ◌≡◌, ◌-◌, ◌/◌, ◌%◌, sym, ap, arith}
use Rattle.lazy_dfa.specs.Caches.{id_at}
use Rattle.lazy_dfa.proofs.CacheChanges.IsCacheLemmas.{row_quotient}
use Rattle.lazy_dfa.proofs.cache.Cache.row.Goals as goal

pub overflow_sub-result : goal.overflow_sub-result
overflow_sub-result c = let e = row_quotient c.args.self.now c.args.id c.bits.result c.stride-stride.result c.requires
    c.stride-stride.ensures.shape c.bits.ensures c.stride-stride.ensures.stride in omega (arith, e)

pub returns-clause-inside : goal.returns-clause-inside
returns-clause-inside c = let e = row_quotient c.args.self.now c.args.id c.bits.result c.stride-stride.result c.requires
    c.stride-stride.ensures.shape c.bits.ensures c.stride-stride.ensures.stride in
    let l = c.requires.1 in omega (arith, e, l)

pub returns-clause-id : goal.returns-clause-id
returns-clause-id c = let e = row_quotient c.args.self.now c.args.id c.bits.result c.stride-stride.result c.requires
    c.stride-stride.ensures.shape c.bits.ensures c.stride-stride.ensures.stride in
    let n : c.bits.result % 0x800_0000 / c.stride-stride.result - 3 ≡ c.requires.0 = omega (arith, e) in
    c.requires.2 ∙ ap (id_at c.args.self.now) (sym n)
