use Rattle.std.proofs.Common.{◌≡◌, ◌-◌, ◌<◌, ℕ, false, get_or, refl, subst, sym, arith}
use Rattle.lazy_dfa.specs.Ids.{tag}
use Rattle.lazy_dfa.specs.AccelBytes.{leaves}
use Rattle.lazy_dfa.specs.Skips.{cell_by}
use Rattle.lazy_dfa.specs.declared.accel.accel_bytes.Leaving.{Leaving}
use Rattle.lazy_dfa.proofs.Courses.PointLemmas.{runs_none}
use Rattle.lazy_dfa.proofs.PassedBytes.SkipLemmas.{way_over}
use Rattle.lazy_dfa.proofs.accel.accel_rounds.circle_by.Goals as goal

pub returns-then-ne : goal.returns-then-ne
returns-then-ne c = record {
  past = omega arith;
  within = c.requires.fits;
  goes = runs_none c.args.dfa.now c.args.cache.now c.args.haystack.now c.args.from c.args.id
      (c.args.from - c.args.from) c.requires.own c.requires.row (omega arith);
}

pub returns-in-Never : goal.returns-in-Never
returns-in-Never c =
    let skip = c.skip-skip.result.now in
    let stop : c.args.id ≡ skip.stop = grind (arith, c.ne.ensures, c.if-ne.false) in
    let low : skip.stop < tag = omega (arith, stop, c.requires.untagged) in
    let quiet : (byte : ℕ) → leaves skip.leaving byte ≡ false =
    λ byte. subst (λ (t : Leaving). leaves t byte ≡ false) (sym c.in-Never.is) refl in
    let stays : (byte : ℕ) → byte < 256 → cell_by c.args.cache.now.cells c.args.cache.now.classes c.args.id byte ≡ c.args.id =
    λ byte l. subst (λ (id : ℕ). cell_by c.args.cache.now.cells c.args.cache.now.classes id byte ≡ id) (sym stop)
    (c.skip-skip.ensures.left low byte l (quiet byte)) in
    record {
      past = c.requires.fits;
      within = omega arith;
      goes = way_over c.args.dfa.now c.args.cache.now c.args.haystack.now c.is_made.ensures c.requires.own
          (λ i. omega (arith, c.type_inv.haystack i)) c.requires.is_forward
          c.args.from c.args.id c.args.from c.args.id c.requires.row c.requires.row c.requires.untagged (omega arith)
          (runs_none c.args.dfa.now c.args.cache.now c.args.haystack.now c.args.from c.args.id
          (c.args.from - c.args.from) c.requires.own c.requires.row (omega arith))
          c.args.end c.requires.fits c.requires.within
          (λ k _ _. stays (get_or c.args.haystack.now k 0) (omega (arith, c.type_inv.haystack k)));
    }

pub circle-requires-in-Ranges-clause-stays : goal.circle-requires-in-Ranges-clause-stays
circle-requires-in-Ranges-clause-stays c = λ byte l fails.
    let skip = c.skip-skip.result.now in
    let stop : c.args.id ≡ skip.stop = grind (arith, c.ne.ensures, c.if-ne.false) in
    let low : skip.stop < tag = omega (arith, stop, c.requires.untagged) in
    subst (λ (id : ℕ). cell_by c.args.cache.now.cells c.args.cache.now.classes id byte ≡ id) (sym stop)
    (c.skip-skip.ensures.left low byte l (subst (λ (t : Leaving). leaves t byte ≡ false) (sym c.in-Ranges.is) fails))

pub circle-requires-in-Halves-clause-stays : goal.circle-requires-in-Halves-clause-stays
circle-requires-in-Halves-clause-stays c = λ byte l fails.
    let skip = c.skip-skip.result.now in
    let stop : c.args.id ≡ skip.stop = grind (arith, c.ne.ensures, c.if-ne.false) in
    let low : skip.stop < tag = omega (arith, stop, c.requires.untagged) in
    subst (λ (id : ℕ). cell_by c.args.cache.now.cells c.args.cache.now.classes id byte ≡ id) (sym stop)
    (c.skip-skip.ensures.left low byte l (subst (λ (t : Leaving). leaves t byte ≡ false) (sym c.in-Halves.is) fails))

pub circle-requires-in-Rows-clause-stays : goal.circle-requires-in-Rows-clause-stays
circle-requires-in-Rows-clause-stays c = λ byte l fails.
    let skip = c.skip-skip.result.now in
    let stop : c.args.id ≡ skip.stop = grind (arith, c.ne.ensures, c.if-ne.false) in
    let low : skip.stop < tag = omega (arith, stop, c.requires.untagged) in
    subst (λ (id : ℕ). cell_by c.args.cache.now.cells c.args.cache.now.classes id byte ≡ id) (sym stop)
    (c.skip-skip.ensures.left low byte l (subst (λ (t : Leaving). leaves t byte ≡ false) (sym c.in-Rows.is) fails))
