use Rattle.std.proofs.Common.{refl, ap, None, subst, ℕ, ◌-◌}
use Rattle.lazy_dfa.specs.Points.{point, Point, began}
use Rattle.lazy_dfa.specs.HalfSearches.{first_offset}
use Rattle.lazy_dfa.specs.SearchAnswers.{pair_of}
use Rattle.lazy_dfa.specs.ScanOffsets.{first_index, left_at, GoesBetween, TurnsInto}
use Rattle.lazy_dfa.proofs.CacheChanges.LinkedLemmas.{AreBytes}
use Rattle.lazy_dfa.proofs.Courses.LingerLemmas.{between_both}
use Rattle.lazy_dfa.proofs.Courses.PassLoopLemmas.{began_runs, under_first, under_on, stand_first, stand_on, goes_further, within_next}
use Rattle.lazy_dfa.proofs.Courses.PassLoopLemmas.{told_nothing, ends_found, ends_error}
use Rattle.lazy_dfa.proofs.search.passing.go_on.Goals.{After-linger-position}
use Rattle.lazy_dfa.proofs.search.passing.go_on.Goals as goal

-- the known steps from the first position on
known : (g : Rattle.lazy_dfa.proofs.search.passing.go_on.Given.Over) (c : After-linger-position g) → (m n : ℕ) →
    GoesBetween c.args.dfa.now c.args.input.now.earliest c.args.input.now.haystack
    (point c.args.cache.now m n c.first_offset.result c.args.id None)
    (point c.args.cache.now m n c.linger-position.result.at c.linger-position.result.id (pair_of c.linger-position.result.best))
    (left_at c.args.is_reverse c.args.input.now c.first_offset.result
    - left_at c.args.is_reverse c.args.input.now c.linger-position.result.at)
known g c m n = between_both c.args.dfa.now c.args.cache.now c.args.input.now c.args.is_reverse c.first_offset.result
    c.run-next.result.at c.linger-position.result.at
    c.args.id c.run-next.result.id c.linger-position.result.id None (pair_of c.run-next.result.best)
    (pair_of c.linger-position.result.best)
    c.is_made.ensures (subst AreBytes c.haystack.ensures.value c.see_bytes.ensures) c.requires.own c.requires.row c.run-next.ensures.row
    c.run-next.ensures.closer c.linger-position.ensures.closer m n
    (c.run-next.ensures.goes c.args.input.now.earliest m n) (rw c.run-next.ensures.same at (c.linger-position.ensures.goes m n))

pub loop-turned-init : goal.loop-turned-init
loop-turned-init g c = rw c.run-next.ensures.same (record {
  own = c.requires.own;
  row = rw c.run-next.ensures.same at c.linger-position.ensures.row;
  within = c.linger-position.ensures.within;
  running = λ e. began_runs c.args.cache.now.progress (first_index c.args.is_reverse c.args.input.now) (ap began (c.requires.running e));
  same = λ e. refl;
  goes = stand_first c.args.dfa.now c.args.input.now c.args.is_reverse c.args.cache.now c.args.work.now.determinized
      c.args.work.now.inserted c.args.id c.linger-position.result.at c.linger-position.result.id
      (pair_of c.linger-position.result.best)
      (subst (λ (x : ℕ). GoesBetween c.args.dfa.now c.args.input.now.earliest c.args.input.now.haystack
      (point c.args.cache.now c.args.work.now.determinized c.args.work.now.inserted x c.args.id None)
      (point c.args.cache.now c.args.work.now.determinized c.args.work.now.inserted c.linger-position.result.at
      c.linger-position.result.id (pair_of c.linger-position.result.best))
      (left_at c.args.is_reverse c.args.input.now x - left_at c.args.is_reverse c.args.input.now c.linger-position.result.at))
      c.first_offset.ensures
      (known g c c.args.work.now.determinized c.args.work.now.inserted)) c.linger-position.ensures.within;
  under = under_first c.args.is_reverse c.args.input.now c.args.cache.now c.linger-position.result.at c.requires.running;
})

pub returns-in-Err-clause-runs : goal.returns-in-Err-clause-runs
returns-in-Err-clause-runs g c s held =
    ends_error c.args.dfa.now c.args.input.now c.args.is_reverse c.requires.is_reverse c.is_made.ensures
    (subst AreBytes c.haystack.ensures.value c.see_bytes.ensures)
    (point c.args.cache.now c.args.work.now.determinized c.args.work.now.inserted
    (first_offset c.args.is_reverse c.args.input.now.start c.args.input.now.end) c.args.id None)
    (point c.loop-turned.cache c.loop-turned.work.determinized c.loop-turned.work.inserted c.loop-turned.position.at
    c.loop-turned.position.id (pair_of c.loop-turned.position.best))
    c.requires.own c.loop-turned.invariant.own c.requires.row c.loop-turned.invariant.row c.loop-turned.invariant.within
    c.loop-turned.invariant.goes s held refl
    c.turn_at.new.cache c.turn_at.new.work.determinized c.turn_at.new.work.inserted c.requires.running c.loop-turned.invariant.same refl
    c.loop-turned.invariant.under c.in-Err.e c.in-Err.ensures.turn

pub returns-then-turned-clause-runs : goal.returns-then-turned-clause-runs
returns-then-turned-clause-runs g c s held =
    ends_found c.args.dfa.now c.args.input.now c.args.is_reverse c.requires.is_reverse c.is_made.ensures
    (subst AreBytes c.haystack.ensures.value c.see_bytes.ensures)
    (point c.args.cache.now c.args.work.now.determinized c.args.work.now.inserted
    (first_offset c.args.is_reverse c.args.input.now.start c.args.input.now.end) c.args.id None)
    (point c.loop-turned.cache c.loop-turned.work.determinized c.loop-turned.work.inserted c.loop-turned.position.at
    c.loop-turned.position.id (pair_of c.loop-turned.position.best))
    c.requires.own c.loop-turned.invariant.own c.requires.row c.loop-turned.invariant.row c.loop-turned.invariant.within
    c.loop-turned.invariant.goes s held refl
    c.turn_at.new.cache c.turn_at.new.work.determinized c.turn_at.new.work.inserted
    c.requires.running c.loop-turned.invariant.same refl c.loop-turned.invariant.under c.in-Ok.turned.position.best
    (subst (TurnsInto c.args.dfa.now c.args.input.now
    (point c.loop-turned.cache c.loop-turned.work.determinized c.loop-turned.work.inserted c.loop-turned.position.at
    c.loop-turned.position.id (pair_of c.loop-turned.position.best))
    c.turn_at.new.cache c.turn_at.new.work.determinized c.turn_at.new.work.inserted c.in-Ok.turned.position) c.if-turned.true
    c.in-Ok.ensures.turn)

pub loop-turned-preserved : goal.loop-turned-preserved
loop-turned-preserved g c =
    let here : Point = point c.loop-turned.cache c.loop-turned.work.determinized c.loop-turned.work.inserted c.loop-turned.position.at
    c.loop-turned.position.id (pair_of c.loop-turned.position.best) in
    let on = subst (TurnsInto c.args.dfa.now c.args.input.now here c.turn_at.new.cache c.turn_at.new.work.determinized
    c.turn_at.new.work.inserted c.in-Ok.turned.position) c.if-turned.false c.in-Ok.ensures.turn in
    let first : Point = point c.args.cache.now c.args.work.now.determinized c.args.work.now.inserted
    (first_offset c.args.is_reverse c.args.input.now.start c.args.input.now.end) c.args.id None in
    let further = goes_further c.args.dfa.now c.args.input.now c.args.is_reverse c.requires.is_reverse c.is_made.ensures
    (subst AreBytes c.haystack.ensures.value c.see_bytes.ensures) first here c.requires.own c.loop-turned.invariant.own c.requires.row
    c.loop-turned.invariant.row
    c.loop-turned.invariant.within c.loop-turned.invariant.goes c.turn_at.new.cache c.turn_at.new.work.determinized
    c.turn_at.new.work.inserted c.in-Ok.turned.position c.in-Ok.ensures.own on in
    rw c.run_further-position.ensures.same (record {
      own = c.in-Ok.ensures.own;
      row = c.run_further-position.ensures.row;
      within = c.run_further-position.ensures.within;
      running = λ e. on.0.running (c.loop-turned.invariant.running e);
      same = λ e. absurd (told_nothing c.args.is_reverse c.args.input.now c.loop-turned.position.at c.loop-turned.invariant.within further
          e);
      goes = stand_on c.args.dfa.now c.args.input.now c.args.is_reverse c.requires.is_reverse c.is_made.ensures
          (subst AreBytes c.haystack.ensures.value c.see_bytes.ensures) first here c.requires.own c.loop-turned.invariant.own c.requires.row
          c.loop-turned.invariant.row
          c.loop-turned.invariant.within c.loop-turned.invariant.goes c.turn_at.new.cache c.turn_at.new.work.determinized
          c.turn_at.new.work.inserted c.in-Ok.turned.position c.in-Ok.ensures.own on
          c.run_further-position.result.at c.run_further-position.result.id
          (pair_of c.run_further-position.result.best) c.run_further-position.ensures.within
          c.run_further-position.ensures.closer
          (c.run_further-position.ensures.goes c.turn_at.new.work.determinized c.turn_at.new.work.inserted);
      under = under_on c.args.dfa.now c.args.input.now c.args.is_reverse c.requires.is_reverse c.is_made.ensures
          (subst AreBytes c.haystack.ensures.value c.see_bytes.ensures) first here c.requires.own c.loop-turned.invariant.own c.requires.row
          c.loop-turned.invariant.row
          c.loop-turned.invariant.within c.loop-turned.invariant.goes c.turn_at.new.cache c.turn_at.new.work.determinized
          c.turn_at.new.work.inserted c.in-Ok.turned.position c.in-Ok.ensures.own on
          (first_offset c.args.is_reverse c.args.input.now.start c.args.input.now.end) refl refl
          c.run_further-position.result.at c.run_further-position.ensures.within
          c.run_further-position.ensures.closer c.loop-turned.invariant.under;
    })

pub run_further-position-requires-clause-within : goal.run_further-position-requires-clause-within
run_further-position-requires-clause-within g c =
    let here : Point = point c.loop-turned.cache c.loop-turned.work.determinized c.loop-turned.work.inserted c.loop-turned.position.at
    c.loop-turned.position.id (pair_of c.loop-turned.position.best) in
    let on = subst (TurnsInto c.args.dfa.now c.args.input.now here c.turn_at.new.cache c.turn_at.new.work.determinized
    c.turn_at.new.work.inserted c.in-Ok.turned.position) c.if-turned.false c.in-Ok.ensures.turn in
    within_next c.args.dfa.now c.args.input.now c.args.is_reverse here c.turn_at.new.cache c.turn_at.new.work.determinized
    c.turn_at.new.work.inserted c.in-Ok.turned.position c.requires.is_reverse c.loop-turned.invariant.within on
