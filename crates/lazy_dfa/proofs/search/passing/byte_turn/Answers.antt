use Rattle.std.proofs.Common.{get_or, Some}
use Rattle.lazy_dfa.proofs.Courses.DeadTurnLemmas.{dead_turn}
use Rattle.lazy_dfa.proofs.CacheChanges.IsCacheLemmas.{row_place}
use Rattle.lazy_dfa.proofs.CacheChanges.LinkedLemmas.{is_cache_moved}
use Rattle.lazy_dfa.proofs.Courses.SpanTurnLemmas.{byte_unit, finished_moves}
use Rattle.lazy_dfa.proofs.search.passing.byte_turn.Goals as goal

pub cell-next-requires : goal.cell-next-requires
cell-next-requires g c = row_place c.args.dfa.now c.args.cache.now c.args.position.id c.class.result
    (Some (get_or c.haystack-haystack.result.now c.index_at-here.result 0)) c.is_made.ensures c.requires.own
    (c.see_bytes.ensures c.index_at-here.result) c.class.ensures c.requires.row

pub returns-clause-own : goal.returns-clause-own
returns-clause-own g c = is_cache_moved c.args.dfa.now c.args.cache.now c.search_finish.new.self
    (finished_moves c.args.cache.now c.search_finish.new.self c.index_at-here.result c.search_finish.ensures) c.requires.own

pub returns-clause-turn : goal.returns-clause-turn
returns-clause-turn g c =
    let dies = c.is_dead_cell.ensures c.if-not-is_dead_cell.false in
    dead_turn c.args.dfa.now c.args.input.now c.args.is_reverse c.requires.is_reverse c.args.cache.now c.args.work.now.determinized
    c.args.work.now.inserted c.args.position.at c.args.position.id c.class.result c.cell-next.result c.index_at-here.result
    (get_or c.haystack-haystack.result.now c.index_at-here.result 0) c.args.position.best c.is_made.ensures c.requires.own
    c.requires.row (c.see_bytes.ensures c.index_at-here.result) c.class.ensures c.cell-next.ensures dies.0 dies.1
    (byte_unit c.args.is_reverse c.args.dfa.now.nfa.automaton.reverse c.args.input.now c.haystack-haystack.result.now c.args.position.at
    c.index_at-here.result c.requires.is_reverse c.haystack-haystack.ensures.value c.index_at-here.ensures c.requires.within
    c.requires.left c.haystack-haystack.ensures.within.0)
    c.index_at-here.ensures c.requires.within c.requires.left c.search_finish.new.self c.search_finish.ensures
