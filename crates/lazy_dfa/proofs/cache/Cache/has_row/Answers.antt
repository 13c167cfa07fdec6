use Rattle.std.proofs.Common.{◌≡◌, ◌-◌, ◌%◌, ◌/◌, ◌∙◌, ap, sym, true≢false, refl, length, arith}
use Rattle.std.proofs.lemmas.Bool.Decides.{Decides-eqb}
use Rattle.lazy_dfa.specs.Caches.{CacheValue}
use Rattle.lazy_dfa.proofs.CacheChanges.ChangeLemmas.{no_low_row, no_high_row, only_row}
use Rattle.lazy_dfa.proofs.cache.Cache.has_row.Goals as goal

pub returns-then-row-lt-SENTINELS : goal.returns-then-row-lt-SENTINELS
returns-then-row-lt-SENTINELS c = (
  λ e. absurd (true≢false (sym e)),
  λ x. absurd (no_low_row c.args.self.now c.args.id c.bits.result c.stride-stride.result c.stride-stride.ensures.shape c.bits.ensures
      c.stride-stride.ensures.stride c.if-row-lt-SENTINELS.true x),
)

pub returns-then-k-len : goal.returns-then-k-len
returns-then-k-len c =
    let count : c.len.result ≡ length c.args.self.now.states = c.len.ensures
    ∙ (c.self.inside.states.ok.0 ∙ ap (λ (v : CacheValue). length v.states) c.self.view_is) in (
      λ e. absurd (true≢false (sym e)),
      λ x. absurd (no_high_row c.args.self.now c.args.id c.bits.result c.stride-stride.result c.stride-stride.ensures.shape c.bits.ensures
          c.stride-stride.ensures.stride _ refl
          (omega (arith, c.if-k-len.true, count)) x),
    )

pub returns : goal.returns
returns c =
    let count : c.len.result ≡ length c.args.self.now.states = c.len.ensures
    ∙ (c.self.inside.states.ok.0 ∙ ap (λ (v : CacheValue). length v.states) c.self.view_is) in (
      λ t. (
        c.bits.result % 0x800_0000 / c.stride-stride.result - 3,
        omega (arith, c.if-k-len.false, count),
        sym ((Decides-eqb c.id-held.result c.args.id).0 (sym c.eq.ensures ∙ t)) ∙ c.id-held.ensures,
      ),
      λ x. c.eq.ensures ∙ (Decides-eqb c.id-held.result c.args.id).1
          (c.id-held.ensures ∙ only_row c.args.self.now c.args.id c.bits.result c.stride-stride.result c.stride-stride.ensures.shape
          c.bits.ensures c.stride-stride.ensures.stride _ refl x),
    )
