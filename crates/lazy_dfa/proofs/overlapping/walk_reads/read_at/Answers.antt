use Rattle.std.proofs.Common.{◌∙◌, ◌==◌, refl, sym, ap, ℕ}
use Rattle.lazy_dfa.specs.Points.{point}
use Rattle.lazy_dfa.specs.SearchAnswers.{pair_of}
use Rattle.lazy_dfa.proofs.CacheChanges.LinkedLemmas.{is_cache_moved}
use Rattle.lazy_dfa.proofs.Courses.SpanTurnLemmas.{finished_moves}
use Rattle.lazy_dfa.proofs.OverlappingWalks.WalkTurnLemmas.{unit_ends, unit_goes}
use Rattle.lazy_dfa.proofs.overlapping.walk_reads.read_at.Goals as goal

pub returns-then-is_over-clause-own : goal.returns-then-is_over-clause-own
returns-then-is_over-clause-own g c = is_cache_moved c.args.dfa.now c.step_at.new.cache c.search_finish.new.self
    (finished_moves c.step_at.new.cache c.search_finish.new.self c.progress_at.result c.search_finish.ensures) c.in-Ok.ensures.own

pub returns-then-is_over-clause-read : goal.returns-then-is_over-clause-read
returns-then-is_over-clause-read g c = unit_ends c.args.dfa.now c.args.input.now c.args.is_reverse c.requires.is_reverse
    (point c.args.cache.now c.args.work.now.determinized c.args.work.now.inserted c.args.position.at c.args.position.id
    (pair_of c.args.position.best))
    c.step_at.new.cache c.step_at.new.work.determinized c.step_at.new.work.inserted c.in-Ok.seen.id c.in-Ok.seen.turn
    c.tells_at-reports.result _
    c.in-Ok.ensures.own.shape c.tells_at-reports.ensures (ap (λ (x : ℕ). c.args.position.at == x) c.last_offset.ensures)
    c.search_finish.new.self c.progress_at.result
    (record { at = c.args.position.at; id = c.in-Ok.seen.id; best = c.in-Ok.seen.best }) refl refl (sym c.is_over.ensures
    ∙ c.if-is_over.true) c.progress_at.ensures c.search_finish.ensures c.in-Ok.ensures.step

pub returns-clause-read : goal.returns-clause-read
returns-clause-read g c = unit_goes c.args.dfa.now c.args.input.now c.args.is_reverse c.requires.is_reverse
    (point c.args.cache.now c.args.work.now.determinized c.args.work.now.inserted c.args.position.at c.args.position.id
    (pair_of c.args.position.best))
    c.step_at.new.cache c.step_at.new.work.determinized c.step_at.new.work.inserted c.in-Ok.seen.id c.in-Ok.seen.turn
    c.tells_at-reports.result _
    c.in-Ok.ensures.own.shape c.tells_at-reports.ensures (ap (λ (x : ℕ). c.args.position.at == x) c.last_offset.ensures)
    (record { at = c.next_offset.result; id = c.in-Ok.seen.id; best = c.in-Ok.seen.best }) refl c.next_offset.ensures (sym c.is_over.ensures
    ∙ c.if-is_over.false) c.in-Ok.ensures.step
