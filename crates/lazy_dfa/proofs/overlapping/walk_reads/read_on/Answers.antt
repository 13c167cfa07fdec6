use Rattle.std.proofs.Common.{◌∙◌, sym, ap, subst, Bool, true, None, Ok}
use Rattle.lazy_dfa.specs.Points.{point}
use Rattle.lazy_dfa.specs.SearchAnswers.{pair_of}
use Rattle.lazy_dfa.specs.ScanOffsets.{gave_up_at}
use Rattle.lazy_dfa.specs.Overlapping.{OverlappingValue}
use Rattle.lazy_dfa.specs.OverlappingAnswers.{ReadsOn}
use Rattle.lazy_dfa.specs.OverlappingTurns.{ReadsInto}
use Rattle.lazy_dfa.proofs.CacheChanges.LinkedLemmas.{is_cache_moved}
use Rattle.lazy_dfa.proofs.Courses.SpanTurnLemmas.{row_moved}
use Rattle.lazy_dfa.proofs.OverlappingWalks.WalkReadLemmas.{started_moves, begins_on, stands_run, stands_next, next_there, ends_over}
use Rattle.lazy_dfa.proofs.OverlappingWalks.WalkReadLemmas.{ends_refused}
use Rattle.lazy_dfa.proofs.overlapping.walk_reads.read_on.Goals as goal

pub run-position-requires-clause-own : goal.run-position-requires-clause-own
run-position-requires-clause-own g c = is_cache_moved c.args.dfa.now c.args.cache.now c.search_start.new.self
    (started_moves c.args.cache.now c.search_start.new.self c.progress_at.result c.search_start.ensures) c.requires.own

pub run-position-requires-clause-row : goal.run-position-requires-clause-row
run-position-requires-clause-row g c = row_moved c.args.cache.now c.search_start.new.self c.args.first.id
    (started_moves c.args.cache.now c.search_start.new.self c.progress_at.result c.search_start.ensures) c.requires.row

pub loop-read-init : goal.loop-read-init
loop-read-init g c =
    let mine = is_cache_moved c.args.dfa.now c.args.cache.now c.search_start.new.self
    (started_moves c.args.cache.now c.search_start.new.self c.progress_at.result c.search_start.ensures) c.requires.own in
    rw c.run-position.ensures.same (record {
      own = mine;
      row = c.run-position.ensures.row;
      within = c.run-position.ensures.within;
      stands = stands_run c.args.dfa.now c.args.input.now c.args.is_reverse c.requires.is_reverse c.is_made.ensures
          (point c.args.cache.now c.args.work.now.determinized c.args.work.now.inserted c.args.first.at c.args.first.id None)
          c.search_start.new.self c.args.work.now.determinized c.args.work.now.inserted c.args.first.at c.args.first.id
          c.run-position.result.at c.run-position.result.id (pair_of c.args.first.best) (pair_of c.run-position.result.best)
          c.requires.own mine c.requires.within c.requires.within
          (begins_on c.args.dfa.now c.args.input.now c.args.cache.now c.search_start.new.self c.args.work.now.determinized
          c.args.work.now.inserted c.args.first.at c.args.first.id c.progress_at.result None (pair_of c.args.first.best)
          c.search_start.ensures (c.progress_at.ensures ∙ ap (λ (b : Bool). gave_up_at b c.args.input.now c.args.first.at)
          c.requires.is_reverse) c.requires.state)
          c.run-position.ensures.row c.run-position.ensures.within c.run-position.ensures.closer
          (c.run-position.ensures.goes true c.args.work.now.determinized c.args.work.now.inserted);
    })

pub returns-in-Err-clause-reads : goal.returns-in-Err-clause-reads
returns-in-Err-clause-reads g c =
    ends_refused c.args.dfa.now c.args.input.now c.is_made.ensures
    (point c.args.cache.now c.args.work.now.determinized c.args.work.now.inserted c.args.first.at c.args.first.id None)
    (point c.loop-read.cache c.loop-read.work.determinized c.loop-read.work.inserted c.loop-read.position.at c.loop-read.position.id
    (pair_of c.loop-read.position.best))
    c.requires.own c.loop-read.invariant.own c.requires.within c.loop-read.invariant.within c.loop-read.invariant.stands
    c.read_at.new.cache c.read_at.new.work.determinized c.read_at.new.work.inserted c.in-Err.e c.in-Err.ensures.read

pub returns-then-read-clause-reads : goal.returns-then-read-clause-reads
returns-then-read-clause-reads g c =
    subst (λ (w : OverlappingValue). ReadsOn c.args.dfa.now c.args.input.now c.args.first.at c.args.cache.now c.read_at.new.cache
    c.args.work.now.determinized c.read_at.new.work.determinized
    c.args.work.now.inserted c.read_at.new.work.inserted (Ok w)) (sym c.stopped.ensures)
    (ends_over c.args.dfa.now c.args.input.now c.is_made.ensures
    (point c.args.cache.now c.args.work.now.determinized c.args.work.now.inserted c.args.first.at c.args.first.id None)
    (point c.loop-read.cache c.loop-read.work.determinized c.loop-read.work.inserted c.loop-read.position.at c.loop-read.position.id
    (pair_of c.loop-read.position.best))
    c.requires.own c.loop-read.invariant.own c.requires.within c.loop-read.invariant.within c.loop-read.invariant.stands
    c.read_at.new.cache c.read_at.new.work.determinized c.read_at.new.work.inserted c.in-Ok.read.position c.in-Ok.read.reports
    (subst (ReadsInto c.args.dfa.now c.args.input.now (point c.loop-read.cache c.loop-read.work.determinized c.loop-read.work.inserted
    c.loop-read.position.at c.loop-read.position.id (pair_of c.loop-read.position.best)) c.read_at.new.cache
    c.read_at.new.work.determinized c.read_at.new.work.inserted c.in-Ok.read.position c.in-Ok.read.reports) c.if-read.true
    c.in-Ok.ensures.read))

pub run-position-requires-in-loop-read-clause-within : goal.run-position-requires-in-loop-read-clause-within
run-position-requires-in-loop-read-clause-within g c =
    next_there c.args.dfa.now c.args.input.now c.is_made.ensures
    (point c.args.cache.now c.args.work.now.determinized c.args.work.now.inserted c.args.first.at c.args.first.id None)
    (point c.loop-read.cache c.loop-read.work.determinized c.loop-read.work.inserted c.loop-read.position.at c.loop-read.position.id
    (pair_of c.loop-read.position.best))
    c.requires.own c.loop-read.invariant.own c.requires.within c.loop-read.invariant.within c.loop-read.invariant.stands
    c.read_at.new.cache c.read_at.new.work.determinized c.read_at.new.work.inserted c.in-Ok.read.position c.in-Ok.read.reports
    c.in-Ok.ensures.own
    (subst (ReadsInto c.args.dfa.now c.args.input.now (point c.loop-read.cache c.loop-read.work.determinized c.loop-read.work.inserted
    c.loop-read.position.at c.loop-read.position.id (pair_of c.loop-read.position.best)) c.read_at.new.cache
    c.read_at.new.work.determinized c.read_at.new.work.inserted c.in-Ok.read.position c.in-Ok.read.reports) c.if-read.false
    c.in-Ok.ensures.read)

pub loop-read-preserved : goal.loop-read-preserved
loop-read-preserved g c =
    let on = subst (ReadsInto c.args.dfa.now c.args.input.now (point c.loop-read.cache c.loop-read.work.determinized
    c.loop-read.work.inserted c.loop-read.position.at c.loop-read.position.id (pair_of c.loop-read.position.best)) c.read_at.new.cache
    c.read_at.new.work.determinized c.read_at.new.work.inserted c.in-Ok.read.position c.in-Ok.read.reports) c.if-read.false
    c.in-Ok.ensures.read in rw c.run-position-in-loop-read.ensures.same (record {
      own = c.in-Ok.ensures.own;
      row = c.run-position-in-loop-read.ensures.row;
      within = c.run-position-in-loop-read.ensures.within;
      stands = stands_run c.args.dfa.now c.args.input.now c.args.is_reverse c.requires.is_reverse c.is_made.ensures
          (point c.args.cache.now c.args.work.now.determinized c.args.work.now.inserted c.args.first.at c.args.first.id None)
          c.read_at.new.cache c.read_at.new.work.determinized c.read_at.new.work.inserted c.in-Ok.read.position.at c.in-Ok.read.position.id
          c.run-position-in-loop-read.result.at c.run-position-in-loop-read.result.id (pair_of c.in-Ok.read.position.best)
          (pair_of c.run-position-in-loop-read.result.best) c.requires.own c.in-Ok.ensures.own c.requires.within
          (next_there c.args.dfa.now c.args.input.now c.is_made.ensures
          (point c.args.cache.now c.args.work.now.determinized c.args.work.now.inserted c.args.first.at c.args.first.id None)
          (point c.loop-read.cache c.loop-read.work.determinized c.loop-read.work.inserted c.loop-read.position.at c.loop-read.position.id
          (pair_of c.loop-read.position.best))
          c.requires.own c.loop-read.invariant.own c.requires.within c.loop-read.invariant.within c.loop-read.invariant.stands
          c.read_at.new.cache c.read_at.new.work.determinized c.read_at.new.work.inserted c.in-Ok.read.position c.in-Ok.read.reports
          c.in-Ok.ensures.own on)
          (stands_next c.args.dfa.now c.args.input.now c.is_made.ensures
          (point c.args.cache.now c.args.work.now.determinized c.args.work.now.inserted c.args.first.at c.args.first.id None)
          (point c.loop-read.cache c.loop-read.work.determinized c.loop-read.work.inserted c.loop-read.position.at c.loop-read.position.id
          (pair_of c.loop-read.position.best))
          c.requires.own c.loop-read.invariant.own c.requires.within c.loop-read.invariant.within c.loop-read.invariant.stands
          c.read_at.new.cache c.read_at.new.work.determinized c.read_at.new.work.inserted c.in-Ok.read.position c.in-Ok.read.reports
          c.in-Ok.ensures.own on)
          c.run-position-in-loop-read.ensures.row c.run-position-in-loop-read.ensures.within c.run-position-in-loop-read.ensures.closer
          (c.run-position-in-loop-read.ensures.goes true c.read_at.new.work.determinized c.read_at.new.work.inserted);
    })
