use Rattle.std.proofs.Common.{true, false, refl, get_or, Some}
use Rattle.lazy_dfa.specs.SearchAnswers.{pair_of}
use Rattle.lazy_dfa.proofs.Courses.TurnToldLemmas.{byte_turned, byte_finished}
use Rattle.lazy_dfa.proofs.CacheChanges.LinkedLemmas.{is_cache_moved}
use Rattle.lazy_dfa.proofs.Courses.SpanTurnLemmas.{byte_unit, moved_is, some_moved, runs_there, finished_moves, gave_up_byte, turn_refused}
use Rattle.lazy_dfa.proofs.Courses.SpanTurnLemmas.{turn_quits, some_behind, some_kept, byte_goes, byte_ends}
use Rattle.lazy_dfa.proofs.search.passing.living_turn.Goals as goal

pub make_turn-requires-clause-own : goal.make_turn-requires-clause-own
make_turn-requires-clause-own g c = is_cache_moved c.args.dfa.now c.args.cache.now c.search_update.new.self
    (moved_is c.args.cache.now c.search_update.new.self c.index_at-index.result c.search_update.ensures) c.requires.own

pub returns-in-Err-clause-turn : goal.returns-in-Err-clause-turn
returns-in-Err-clause-turn g c = turn_refused c.args.dfa.now c.args.input.now c.args.is_reverse c.requires.is_reverse c.args.cache.now
    c.search_update.new.self c.make_turn.new.cache c.args.work.now.determinized c.args.work.now.inserted
    c.make_turn.new.work.determinized c.make_turn.new.work.inserted c.args.position.at c.args.position.id (pair_of c.args.position.best)
    (Some (get_or c.haystack-haystack.result.now c.index_at-index.result 0))
    c.get_earliest.result c.index_at-index.result c.in-Err.e c.rejection.result
    (moved_is c.args.cache.now c.search_update.new.self c.index_at-index.result c.search_update.ensures)
    (byte_unit c.args.is_reverse c.args.dfa.now.nfa.automaton.reverse c.args.input.now c.haystack-haystack.result.now c.args.position.at
    c.index_at-index.result c.requires.is_reverse c.haystack-haystack.ensures.value c.index_at-index.ensures c.requires.within
    c.requires.left c.haystack-haystack.ensures.within.0)
    (gave_up_byte c.args.dfa.now c.args.input.now c.args.is_reverse c.requires.is_reverse c.args.cache.now c.search_update.new.self
    c.make_turn.new.cache c.args.work.now.determinized c.args.work.now.inserted
    c.make_turn.new.work.determinized c.make_turn.new.work.inserted c.args.position.at c.args.position.id (pair_of c.args.position.best)
    (Some (get_or c.haystack-haystack.result.now c.index_at-index.result 0)) c.index_at-index.result c.index_at-index.ensures
    c.requires.left)
    (λ far. runs_there c.args.cache.now c.search_update.new.self c.index_at-index.result c.search_update.ensures c.requires.running)
    (λ cleared step. byte_turned c.args.input.now c.args.is_reverse c.args.dfa.now.nfa.automaton.reverse c.requires.is_reverse
    c.args.cache.now c.search_update.new.self c.make_turn.new.cache c.args.position.at false false cleared step c.index_at-index.result
    c.index_at-index.ensures c.requires.left c.search_update.ensures refl)
    c.rejection.ensures (c.in-Err.ensures.turn c.args.input.now.haystack
    (byte_unit c.args.is_reverse c.args.dfa.now.nfa.automaton.reverse c.args.input.now c.haystack-haystack.result.now c.args.position.at
    c.index_at-index.result c.requires.is_reverse c.haystack-haystack.ensures.value c.index_at-index.ensures c.requires.within
    c.requires.left c.haystack-haystack.ensures.within.0))

pub search_finish-requires : goal.search_finish-requires
search_finish-requires g c = some_behind c.args.dfa.now c.args.input.now c.args.is_reverse c.requires.is_reverse c.args.cache.now
    c.search_update.new.self c.make_turn.new.cache c.args.work.now.determinized c.args.work.now.inserted
    c.make_turn.new.work.determinized c.make_turn.new.work.inserted c.args.position.at c.args.position.id (pair_of c.args.position.best)
    (Some (get_or c.haystack-haystack.result.now c.index_at-index.result 0))
    c.in-Ok.seen.id (pair_of c.in-Ok.seen.best) c.get_earliest.result c.in-Ok.seen.turn c.get_earliest.ensures
    (c.in-Ok.ensures.turn c.args.input.now.haystack (byte_unit c.args.is_reverse c.args.dfa.now.nfa.automaton.reverse c.args.input.now
    c.haystack-haystack.result.now c.args.position.at c.index_at-index.result c.requires.is_reverse c.haystack-haystack.ensures.value
    c.index_at-index.ensures c.requires.within c.requires.left c.haystack-haystack.ensures.within.0))
    (some_moved c.args.cache.now c.search_update.new.self c.index_at-index.result c.search_update.ensures c.requires.running) c.in-Ends.is

pub search_finish-requires-in-Quits : goal.search_finish-requires-in-Quits
search_finish-requires-in-Quits g c = some_kept c.args.dfa.now c.args.input.now c.args.is_reverse c.requires.is_reverse c.args.cache.now
    c.search_update.new.self c.make_turn.new.cache c.args.work.now.determinized c.args.work.now.inserted
    c.make_turn.new.work.determinized c.make_turn.new.work.inserted c.args.position.at c.args.position.id (pair_of c.args.position.best)
    (Some (get_or c.haystack-haystack.result.now c.index_at-index.result 0))
    c.in-Ok.seen.id (pair_of c.in-Ok.seen.best) c.get_earliest.result c.in-Ok.seen.turn c.get_earliest.ensures
    (c.in-Ok.ensures.turn c.args.input.now.haystack (byte_unit c.args.is_reverse c.args.dfa.now.nfa.automaton.reverse c.args.input.now
    c.haystack-haystack.result.now c.args.position.at c.index_at-index.result c.requires.is_reverse c.haystack-haystack.ensures.value
    c.index_at-index.ensures c.requires.within c.requires.left c.haystack-haystack.ensures.within.0))
    (some_moved c.args.cache.now c.search_update.new.self c.index_at-index.result c.search_update.ensures c.requires.running) c.in-Quits.is

pub returns-in-GoesOn-clause-turn : goal.returns-in-GoesOn-clause-turn
returns-in-GoesOn-clause-turn g c = byte_goes c.args.dfa.now c.args.input.now c.args.is_reverse c.requires.is_reverse c.args.cache.now
    c.search_update.new.self c.make_turn.new.cache c.args.work.now.determinized c.args.work.now.inserted
    c.make_turn.new.work.determinized c.make_turn.new.work.inserted c.args.position.at c.args.position.id (pair_of c.args.position.best)
    (Some (get_or c.haystack-haystack.result.now c.index_at-index.result 0))
    c.in-Ok.seen.id (pair_of c.in-Ok.seen.best) c.get_earliest.result c.in-Ok.seen.turn c.get_earliest.ensures
    (c.in-Ok.ensures.turn c.args.input.now.haystack (byte_unit c.args.is_reverse c.args.dfa.now.nfa.automaton.reverse c.args.input.now
    c.haystack-haystack.result.now c.args.position.at c.index_at-index.result c.requires.is_reverse c.haystack-haystack.ensures.value
    c.index_at-index.ensures c.requires.within c.requires.left c.haystack-haystack.ensures.within.0))
    c.index_at-index.result c.next_offset.result c.search_update.ensures c.next_offset.ensures c.requires.left
    (λ cleared step. byte_turned c.args.input.now c.args.is_reverse c.args.dfa.now.nfa.automaton.reverse c.requires.is_reverse
    c.args.cache.now c.search_update.new.self c.make_turn.new.cache c.args.position.at false false cleared step c.index_at-index.result
    c.index_at-index.ensures c.requires.left c.search_update.ensures refl)
    c.in-GoesOn.is

pub returns-in-Ends-clause-own : goal.returns-in-Ends-clause-own
returns-in-Ends-clause-own g c = is_cache_moved c.args.dfa.now c.make_turn.new.cache c.search_finish.new.self
    (finished_moves c.make_turn.new.cache c.search_finish.new.self c.index_at-index.result c.search_finish.ensures) c.in-Ok.ensures.own

pub returns-in-Ends-clause-turn : goal.returns-in-Ends-clause-turn
returns-in-Ends-clause-turn g c = byte_ends c.args.dfa.now c.args.input.now c.args.is_reverse c.requires.is_reverse c.args.cache.now
    c.search_update.new.self c.make_turn.new.cache c.args.work.now.determinized c.args.work.now.inserted
    c.make_turn.new.work.determinized c.make_turn.new.work.inserted c.args.position.at c.args.position.id (pair_of c.args.position.best)
    (Some (get_or c.haystack-haystack.result.now c.index_at-index.result 0))
    c.in-Ok.seen.id (pair_of c.in-Ok.seen.best) c.get_earliest.result c.in-Ok.seen.turn c.get_earliest.ensures
    (c.in-Ok.ensures.turn c.args.input.now.haystack (byte_unit c.args.is_reverse c.args.dfa.now.nfa.automaton.reverse c.args.input.now
    c.haystack-haystack.result.now c.args.position.at c.index_at-index.result c.requires.is_reverse c.haystack-haystack.ensures.value
    c.index_at-index.ensures c.requires.within c.requires.left c.haystack-haystack.ensures.within.0))
    c.search_finish.new.self c.index_at-index.result c.index_at-index.ensures c.search_update.ensures c.search_finish.ensures
    c.requires.within c.requires.left
    (λ cleared step. byte_finished c.args.input.now c.args.is_reverse c.args.dfa.now.nfa.automaton.reverse c.requires.is_reverse
    c.args.cache.now c.search_update.new.self c.make_turn.new.cache c.args.position.at true true cleared step c.index_at-index.result
    c.index_at-index.ensures c.requires.left c.search_update.ensures c.search_finish.new.self c.search_finish.ensures refl)
    c.in-Ends.is

pub returns-in-Quits-clause-own : goal.returns-in-Quits-clause-own
returns-in-Quits-clause-own g c = is_cache_moved c.args.dfa.now c.make_turn.new.cache c.search_finish-in-Quits.new.self
    (finished_moves c.make_turn.new.cache c.search_finish-in-Quits.new.self c.index_at-index.result c.search_finish-in-Quits.ensures)
    c.in-Ok.ensures.own

pub returns-in-Quits-clause-turn : goal.returns-in-Quits-clause-turn
returns-in-Quits-clause-turn g c = turn_quits c.args.dfa.now c.args.input.now c.args.is_reverse c.requires.is_reverse c.args.cache.now
    c.search_update.new.self c.make_turn.new.cache c.args.work.now.determinized c.args.work.now.inserted
    c.make_turn.new.work.determinized c.make_turn.new.work.inserted c.args.position.at c.args.position.id (pair_of c.args.position.best)
    (Some (get_or c.haystack-haystack.result.now c.index_at-index.result 0))
    c.in-Ok.seen.id (pair_of c.in-Ok.seen.best) c.get_earliest.result c.in-Ok.seen.turn c.get_earliest.ensures
    (c.in-Ok.ensures.turn c.args.input.now.haystack (byte_unit c.args.is_reverse c.args.dfa.now.nfa.automaton.reverse c.args.input.now
    c.haystack-haystack.result.now c.args.position.at c.index_at-index.result c.requires.is_reverse c.haystack-haystack.ensures.value
    c.index_at-index.ensures c.requires.within c.requires.left c.haystack-haystack.ensures.within.0))
    c.search_finish-in-Quits.new.self (get_or c.haystack-haystack.result.now c.index_at-index.result 0) c.index_at-index.result
    c.quit.result (moved_is c.args.cache.now c.search_update.new.self c.index_at-index.result c.search_update.ensures)
    (finished_moves c.make_turn.new.cache c.search_finish-in-Quits.new.self c.index_at-index.result c.search_finish-in-Quits.ensures)
    (byte_unit c.args.is_reverse c.args.dfa.now.nfa.automaton.reverse c.args.input.now c.haystack-haystack.result.now c.args.position.at
    c.index_at-index.result c.requires.is_reverse c.haystack-haystack.ensures.value c.index_at-index.ensures c.requires.within
    c.requires.left c.haystack-haystack.ensures.within.0) refl c.index_at-index.ensures c.quit.ensures
    (λ cleared step. byte_finished c.args.input.now c.args.is_reverse c.args.dfa.now.nfa.automaton.reverse c.requires.is_reverse
    c.args.cache.now c.search_update.new.self c.make_turn.new.cache c.args.position.at true false cleared step c.index_at-index.result
    c.index_at-index.ensures c.requires.left c.search_update.ensures c.search_finish-in-Quits.new.self c.search_finish-in-Quits.ensures
    refl)
    c.in-Quits.is
