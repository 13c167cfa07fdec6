use Rattle.std.proofs.Common.{◌∙◌, ◌==◌, ap, Bool, ℕ}
use Rattle.lazy_dfa.specs.SearchAnswers.{pair_of}
use Rattle.lazy_dfa.specs.ScanOffsets.{gave_up_at}
use Rattle.lazy_dfa.proofs.CacheChanges.LinkedLemmas.{is_cache_moved}
use Rattle.lazy_dfa.proofs.Courses.SpanTurnLemmas.{moved_is, finished_moves, finished_where_moves}
use Rattle.lazy_dfa.proofs.OverlappingWalks.WalkTurnLemmas.{unit_same, step_leads, step_refused, step_quits}
use Rattle.lazy_dfa.proofs.overlapping.walk_reads.step_at.Goals as goal

pub make_turn-requires-clause-own : goal.make_turn-requires-clause-own
make_turn-requires-clause-own g c = is_cache_moved c.args.dfa.now c.args.cache.now c.search_update.new.self
    (moved_is c.args.cache.now c.search_update.new.self c.progress_at-place.result c.search_update.ensures) c.requires.own

pub returns-in-Err-clause-own : goal.returns-in-Err-clause-own
returns-in-Err-clause-own g c = is_cache_moved c.args.dfa.now c.make_turn.new.cache c.finish_where.new.cache
    (finished_where_moves c.make_turn.new.cache c.finish_where.new.cache c.progress_at-place.result _ c.finish_where.ensures)
    c.in-Err.ensures.own

pub returns-in-Err-clause-step : goal.returns-in-Err-clause-step
returns-in-Err-clause-step g c =
    let is = unit_same c.args.is_reverse c.args.dfa.now.nfa.automaton.reverse c.args.input.now c.haystack.result.now c.args.position.at
    c.unit_at-unit.result c.unit_at-unit.ensures c.haystack.ensures.value c.requires.is_reverse in
    step_refused c.args.dfa.now c.args.input.now c.args.is_reverse c.requires.is_reverse c.args.cache.now c.search_update.new.self
    c.make_turn.new.cache c.args.work.now.determinized c.args.work.now.inserted
    c.make_turn.new.work.determinized c.make_turn.new.work.inserted c.args.position.at c.args.position.id
    (pair_of c.args.position.best) c.unit_at-unit.result c.progress_at-place.result c.search_update.ensures c.requires.running
    c.finish_where.new.cache (c.progress_at-place.ensures ∙ ap (λ (b : Bool). gave_up_at b c.args.input.now c.args.position.at)
    c.requires.is_reverse) is
    c.in-Err.e c.rejection.result _ (ap (λ (x : ℕ). c.args.position.at == x) c.last_offset.ensures) c.finish_where.ensures
    c.rejection.ensures
    (c.in-Err.ensures.turn c.args.input.now.haystack is)

pub returns-in-Quits-clause-own : goal.returns-in-Quits-clause-own
returns-in-Quits-clause-own g c = is_cache_moved c.args.dfa.now c.make_turn.new.cache c.search_finish.new.self
    (finished_moves c.make_turn.new.cache c.search_finish.new.self c.progress_at-place.result c.search_finish.ensures) c.in-Ok.ensures.own

pub returns-in-Quits-clause-step : goal.returns-in-Quits-clause-step
returns-in-Quits-clause-step g c =
    let is = unit_same c.args.is_reverse c.args.dfa.now.nfa.automaton.reverse c.args.input.now c.haystack.result.now c.args.position.at
    c.unit_at-unit.result c.unit_at-unit.ensures c.haystack.ensures.value c.requires.is_reverse in
    step_quits c.args.dfa.now c.args.input.now c.args.is_reverse c.requires.is_reverse c.args.cache.now c.search_update.new.self
    c.make_turn.new.cache c.args.work.now.determinized c.args.work.now.inserted
    c.make_turn.new.work.determinized c.make_turn.new.work.inserted c.args.position.at c.args.position.id
    (pair_of c.args.position.best) c.unit_at-unit.result c.progress_at-place.result c.search_update.ensures c.requires.running
    c.in-Ok.seen.id (pair_of c.in-Ok.seen.best) c.in-Ok.seen.turn c.search_finish.new.self c.in-Some.byte c.index_at.result c.quit.result
    (c.progress_at-place.ensures ∙ ap (λ (b : Bool). gave_up_at b c.args.input.now c.args.position.at) c.requires.is_reverse)
    c.search_finish.ensures is c.in-Some.is
    c.index_at.ensures c.quit.ensures c.in-Quits.is
    (c.in-Ok.ensures.turn c.args.input.now.haystack is)

pub returns : goal.returns
returns g c =
    let is = unit_same c.args.is_reverse c.args.dfa.now.nfa.automaton.reverse c.args.input.now c.haystack.result.now c.args.position.at
    c.unit_at-unit.result c.unit_at-unit.ensures c.haystack.ensures.value c.requires.is_reverse in record {
      own = c.in-Ok.ensures.own;
      step = step_leads c.args.dfa.now c.args.input.now c.args.is_reverse c.requires.is_reverse c.args.cache.now c.search_update.new.self
          c.make_turn.new.cache c.args.work.now.determinized c.args.work.now.inserted
          c.make_turn.new.work.determinized c.make_turn.new.work.inserted c.args.position.at c.args.position.id
          (pair_of c.args.position.best) c.unit_at-unit.result c.progress_at-place.result c.search_update.ensures c.requires.running
          c.in-Ok.seen.id (pair_of c.in-Ok.seen.best) c.in-Ok.seen.turn
          (c.progress_at-place.ensures ∙ ap (λ (b : Bool). gave_up_at b c.args.input.now c.args.position.at) c.requires.is_reverse)
          c.in_default.not-Quits
          (c.in-Ok.ensures.turn c.args.input.now.haystack is);
    }
