use Rattle.std.proofs.Common.{◌∙◌, ap, refl, Bool, true, false, ℕ, List, not}
use Rattle.determinize_core.specs.Steps.{unit_at}
use Rattle.lazy_dfa.specs.SearchAnswers.{pair_of}
use Rattle.lazy_dfa.specs.ScanOffsets.{last_offset}
use Rattle.lazy_dfa.specs.ScanOffsets.{finished_where}
use Rattle.lazy_dfa.proofs.Courses.TurnToldLemmas.{last_turned, last_finished}
use Rattle.lazy_dfa.proofs.CacheChanges.LinkedLemmas.{is_cache_moved, moved_refl}
use Rattle.lazy_dfa.proofs.Courses.SpanTurnLemmas.{finished_where_moves, gave_up_last, turn_refused, turn_quits, last_ends}
use Rattle.lazy_dfa.proofs.search.passing.last_turn.Goals as goal

pub make_turn-requires-clause-own : goal.make_turn-requires-clause-own
make_turn-requires-clause-own g c = is_cache_moved c.args.dfa.now c.args.cache.now c.finish_where.new.cache
    (finished_where_moves c.args.cache.now c.finish_where.new.cache c.args.position.at c.tells_before.result c.finish_where.ensures)
    c.requires.own

pub returns-in-Err-clause-turn : goal.returns-in-Err-clause-turn
returns-in-Err-clause-turn g c = turn_refused c.args.dfa.now c.args.input.now c.args.is_reverse c.requires.is_reverse c.args.cache.now
    c.finish_where.new.cache c.make_turn.new.cache c.args.work.now.determinized c.args.work.now.inserted
    c.make_turn.new.work.determinized c.make_turn.new.work.inserted c.args.position.at c.args.position.id
    (pair_of c.args.position.best) c.unit_at-unit.result
    c.get_earliest-earliest.result c.args.position.at c.in-Err.e c.rejection.result
    (finished_where_moves c.args.cache.now c.finish_where.new.cache c.args.position.at c.tells_before.result c.finish_where.ensures)
    (c.unit_at-unit.ensures ∙ (ap (λ (h : List ℕ). unit_at c.args.is_reverse h c.args.position.at) c.haystack.ensures.value
    ∙ ap (λ (b : Bool). unit_at b c.args.input.now.haystack c.args.position.at) c.requires.is_reverse))
    (gave_up_last c.args.dfa.now c.args.input.now c.args.is_reverse c.requires.is_reverse c.args.cache.now c.finish_where.new.cache
    c.make_turn.new.cache c.args.work.now.determinized c.args.work.now.inserted
    c.make_turn.new.work.determinized c.make_turn.new.work.inserted c.args.position.at c.args.position.id
    (pair_of c.args.position.best) c.unit_at-unit.result c.args.position.at refl c.requires.last)
    (λ far. absurd (far (c.requires.last ∙ ap (λ (b : Bool). last_offset b c.args.input.now) c.requires.is_reverse)))
    (λ cleared step. last_turned c.args.input.now c.args.is_reverse c.args.dfa.now.nfa.automaton.reverse c.requires.is_reverse
    c.args.cache.now c.finish_where.new.cache c.make_turn.new.cache c.args.position.at false false cleared step c.requires.last
    (c.finish_where.ensures ∙ ap (λ (b : Bool). finished_where b c.args.position.at c.args.cache.now) c.tells_before.ensures) refl)
    c.rejection.ensures (c.in-Err.ensures.turn c.args.input.now.haystack (c.unit_at-unit.ensures
    ∙ (ap (λ (h : List ℕ). unit_at c.args.is_reverse h c.args.position.at) c.haystack.ensures.value
    ∙ ap (λ (b : Bool). unit_at b c.args.input.now.haystack c.args.position.at) c.requires.is_reverse)))

pub returns-in-Quits-clause-turn : goal.returns-in-Quits-clause-turn
returns-in-Quits-clause-turn g c = turn_quits c.args.dfa.now c.args.input.now c.args.is_reverse c.requires.is_reverse c.args.cache.now
    c.finish_where.new.cache c.make_turn.new.cache c.args.work.now.determinized c.args.work.now.inserted
    c.make_turn.new.work.determinized c.make_turn.new.work.inserted c.args.position.at c.args.position.id
    (pair_of c.args.position.best) c.unit_at-unit.result
    c.in-Ok.seen.id (pair_of c.in-Ok.seen.best) c.get_earliest-earliest.result c.in-Ok.seen.turn c.get_earliest-earliest.ensures
    (c.in-Ok.ensures.turn c.args.input.now.haystack (c.unit_at-unit.ensures
    ∙ (ap (λ (h : List ℕ). unit_at c.args.is_reverse h c.args.position.at) c.haystack.ensures.value
    ∙ ap (λ (b : Bool). unit_at b c.args.input.now.haystack c.args.position.at) c.requires.is_reverse)))
    c.make_turn.new.cache c.in-Some.byte c.index_at.result c.quit.result
    (finished_where_moves c.args.cache.now c.finish_where.new.cache c.args.position.at c.tells_before.result c.finish_where.ensures)
    (moved_refl c.make_turn.new.cache)
    (c.unit_at-unit.ensures ∙ (ap (λ (h : List ℕ). unit_at c.args.is_reverse h c.args.position.at) c.haystack.ensures.value
    ∙ ap (λ (b : Bool). unit_at b c.args.input.now.haystack c.args.position.at) c.requires.is_reverse)) c.in-Some.is c.index_at.ensures
    c.quit.ensures
    (λ cleared step. last_turned c.args.input.now c.args.is_reverse c.args.dfa.now.nfa.automaton.reverse c.requires.is_reverse
    c.args.cache.now c.finish_where.new.cache c.make_turn.new.cache c.args.position.at true false cleared step c.requires.last
    (c.finish_where.ensures ∙ ap (λ (b : Bool). finished_where b c.args.position.at c.args.cache.now) c.tells_before.ensures) refl)
    c.in-Quits.is

pub returns : goal.returns
returns g c = record {
  own = is_cache_moved c.args.dfa.now c.make_turn.new.cache c.finish_where-2.new.cache
      (finished_where_moves c.make_turn.new.cache c.finish_where-2.new.cache c.args.position.at
      (not c.args.is_reverse) c.finish_where-2.ensures) c.in-Ok.ensures.own;
  turn = last_ends c.args.dfa.now c.args.input.now c.args.is_reverse c.requires.is_reverse c.args.cache.now c.finish_where.new.cache
      c.make_turn.new.cache c.args.work.now.determinized c.args.work.now.inserted
      c.make_turn.new.work.determinized c.make_turn.new.work.inserted c.args.position.at c.args.position.id
      (pair_of c.args.position.best) c.unit_at-unit.result
      c.in-Ok.seen.id (pair_of c.in-Ok.seen.best) c.get_earliest-earliest.result c.in-Ok.seen.turn c.get_earliest-earliest.ensures
      (c.in-Ok.ensures.turn c.args.input.now.haystack (c.unit_at-unit.ensures
      ∙ (ap (λ (h : List ℕ). unit_at c.args.is_reverse h c.args.position.at) c.haystack.ensures.value
      ∙ ap (λ (b : Bool). unit_at b c.args.input.now.haystack c.args.position.at) c.requires.is_reverse)))
      c.finish_where-2.new.cache (c.finish_where.ensures ∙ ap (λ (b : Bool). finished_where b c.args.position.at c.args.cache.now)
      c.tells_before.ensures) c.finish_where-2.ensures c.requires.last c.requires.begun
      (λ cleared step. last_finished c.args.input.now c.args.is_reverse c.args.dfa.now.nfa.automaton.reverse c.requires.is_reverse
      c.args.cache.now c.finish_where.new.cache c.make_turn.new.cache c.args.position.at true true cleared step c.requires.last
      (c.finish_where.ensures ∙ ap (λ (b : Bool). finished_where b c.args.position.at c.args.cache.now) c.tells_before.ensures)
      c.finish_where-2.new.cache c.finish_where-2.ensures refl)
      c.in_default.not-Quits;
}
