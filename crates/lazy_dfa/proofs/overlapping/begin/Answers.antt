use Rattle.std.proofs.Common.{ℕ, sym, ◌∙◌, subst}
use Rattle.std.specs.Prelude.{Ok}
use Rattle.lazy_dfa.specs.Caches.{HeldAt}
use Rattle.lazy_dfa.specs.Dfas.{reader}
use Rattle.lazy_dfa.specs.ScanOffsets.{IsWithinSpan}
use Rattle.lazy_dfa.specs.declared.overlapping.overlapping_state.OverlappingPosition.TheVariants.{Fresh}
use Rattle.lazy_dfa.specs.Overlapping.{OverlappingValue}
use Rattle.lazy_dfa.specs.OverlappingAnswers.{MakesCall, ReadsOn, value_before}
use Rattle.lazy_dfa.proofs.CacheChanges.LinkedLemmas.{is_cache_moved}
use Rattle.lazy_dfa.proofs.Courses.SearchEndLemmas.{not_done}
use Rattle.lazy_dfa.proofs.OverlappingWalks.WalkLeftLemmas.{first_within}
use Rattle.lazy_dfa.proofs.OverlappingWalks.WalkBeginLemmas.{is_done, is_begun, done_call, refused_call, dead_moved, dead_call, begins_held}
use Rattle.lazy_dfa.proofs.OverlappingWalks.WalkBeginLemmas.{begins_walk}
use Rattle.lazy_dfa.proofs.overlapping.begin.Goals as goal

pub returns-then-is_done-clause-call : goal.returns-then-is_done-clause-call
returns-then-is_done-clause-call g c =
    subst (λ (after : OverlappingValue). MakesCall c.args.dfa.now c.args.input.now c.args.cache.now c.args.cache.now
    c.args.work.now.determinized
    c.args.work.now.determinized c.args.work.now.inserted c.args.work.now.inserted Fresh after (Ok tt)) (sym c.ended.ensures)
    (done_call c.args.dfa.now c.args.input.now c.args.cache.now c.args.work.now.determinized c.args.work.now.inserted
    (is_done c.is_done.result c.args.input.now.start c.args.input.now.end c.is_done.ensures c.if-is_done.true))

pub returns-in-Err-clause-err : goal.returns-in-Err-clause-err
returns-in-Err-clause-err g c = refused_call c.args.dfa.now c.args.input.now c.args.cache.now c.start_of_pass.new.cache
    c.args.work.now.determinized
    c.start_of_pass.new.work.determinized c.args.work.now.inserted c.start_of_pass.new.work.inserted
    (is_begun c.is_done.result c.args.input.now.start c.args.input.now.end c.is_done.ensures c.if-is_done.false) c.in-Err.e
    c.in-Err.ensures.start c.requires.own

pub returns-then-is_dead-clause-own : goal.returns-then-is_dead-clause-own
returns-then-is_dead-clause-own g c = is_cache_moved c.args.dfa.now c.start_of_pass.new.cache c.search_finish.new.self
    (dead_moved c.start_of_pass.new.cache c.search_start.new.self c.search_finish.new.self c.progress_at-index.result c.search_start.ensures
    c.search_finish.ensures).0
    c.in-Ok.ensures.own

pub returns-then-is_dead-clause-call : goal.returns-then-is_dead-clause-call
returns-then-is_dead-clause-call g c =
    let moved = dead_moved c.start_of_pass.new.cache c.search_start.new.self c.search_finish.new.self c.progress_at-index.result
    c.search_start.ensures c.search_finish.ensures in
    subst (λ (after : OverlappingValue). MakesCall c.args.dfa.now c.args.input.now c.args.cache.now c.search_finish.new.self
    c.args.work.now.determinized
    c.start_of_pass.new.work.determinized c.args.work.now.inserted c.start_of_pass.new.work.inserted Fresh after (Ok tt))
    (sym c.ended-then-is_dead.ensures)
    (dead_call c.args.dfa.now c.args.input.now c.args.cache.now c.start_of_pass.new.cache c.args.work.now.determinized
    c.start_of_pass.new.work.determinized c.args.work.now.inserted c.start_of_pass.new.work.inserted c.in-Ok.id
    (is_begun c.is_done.result c.args.input.now.start c.args.input.now.end c.is_done.ensures c.if-is_done.false) c.is_made.ensures
    c.requires.own c.in-Ok.ensures.own c.in-Ok.ensures.start (sym c.is_dead.ensures
    ∙ c.if-is_dead.true) c.search_finish.new.self moved.0 moved.1)

pub read_on-requires-clause-row : goal.read_on-requires-clause-row
read_on-requires-clause-row g c =
    let h = begins_held c.args.dfa.now c.args.input.now c.args.cache.now c.start_of_pass.new.cache c.args.work.now.determinized
    c.start_of_pass.new.work.determinized c.args.work.now.inserted c.start_of_pass.new.work.inserted c.in-Ok.id
    (is_begun c.is_done.result c.args.input.now.start c.args.input.now.end c.is_done.ensures c.if-is_done.false) c.is_made.ensures
    c.requires.own c.in-Ok.ensures.own c.in-Ok.ensures.start c.args.is_reverse c.requires.is_reverse (sym c.is_dead.ensures
    ∙ c.if-is_dead.false) in
    (h.0, h.1, h.2)

pub read_on-requires-clause-within : goal.read_on-requires-clause-within
read_on-requires-clause-within g c = subst (IsWithinSpan c.args.input.now) (sym c.first_offset-at.ensures)
    (first_within c.args.is_reverse c.args.input.now
    (not_done c.is_done.result c.args.input.now.start c.args.input.now.end c.is_done.ensures c.if-is_done.false))

pub read_on-requires-clause-state : goal.read_on-requires-clause-state
read_on-requires-clause-state g c =
    subst (λ (at : ℕ). HeldAt c.start_of_pass.new.cache c.in-Ok.id (value_before (reader c.args.dfa.now) c.args.input.now at))
    (sym c.first_offset-at.ensures)
    (begins_held c.args.dfa.now c.args.input.now c.args.cache.now c.start_of_pass.new.cache c.args.work.now.determinized
    c.start_of_pass.new.work.determinized c.args.work.now.inserted c.start_of_pass.new.work.inserted c.in-Ok.id
    (is_begun c.is_done.result c.args.input.now.start c.args.input.now.end c.is_done.ensures c.if-is_done.false) c.is_made.ensures
    c.requires.own c.in-Ok.ensures.own c.in-Ok.ensures.start c.args.is_reverse c.requires.is_reverse (sym c.is_dead.ensures
    ∙ c.if-is_dead.false))

pub returns-clause-call : goal.returns-clause-call
returns-clause-call g c = (begins_walk c.args.dfa.now c.args.input.now c.args.cache.now c.start_of_pass.new.cache
    c.args.work.now.determinized
    c.start_of_pass.new.work.determinized c.args.work.now.inserted c.start_of_pass.new.work.inserted c.in-Ok.id
    (is_begun c.is_done.result c.args.input.now.start c.args.input.now.end c.is_done.ensures c.if-is_done.false) c.is_made.ensures
    c.requires.own c.in-Ok.ensures.own c.in-Ok.ensures.start c.args.is_reverse c.requires.is_reverse c.read_on.new.cache
    c.read_on.new.work.determinized
    c.read_on.new.work.inserted c.read_on.result
    (subst (λ (at : ℕ). ReadsOn c.args.dfa.now c.args.input.now at c.start_of_pass.new.cache c.read_on.new.cache
    c.start_of_pass.new.work.determinized
    c.read_on.new.work.determinized c.start_of_pass.new.work.inserted c.read_on.new.work.inserted c.read_on.result)
    c.first_offset-at.ensures
    c.read_on.ensures.reads)).0

pub returns-clause-err : goal.returns-clause-err
returns-clause-err g c = (begins_walk c.args.dfa.now c.args.input.now c.args.cache.now c.start_of_pass.new.cache
    c.args.work.now.determinized
    c.start_of_pass.new.work.determinized c.args.work.now.inserted c.start_of_pass.new.work.inserted c.in-Ok.id
    (is_begun c.is_done.result c.args.input.now.start c.args.input.now.end c.is_done.ensures c.if-is_done.false) c.is_made.ensures
    c.requires.own c.in-Ok.ensures.own c.in-Ok.ensures.start c.args.is_reverse c.requires.is_reverse c.read_on.new.cache
    c.read_on.new.work.determinized
    c.read_on.new.work.inserted c.read_on.result
    (subst (λ (at : ℕ). ReadsOn c.args.dfa.now c.args.input.now at c.start_of_pass.new.cache c.read_on.new.cache
    c.start_of_pass.new.work.determinized
    c.read_on.new.work.determinized c.start_of_pass.new.work.inserted c.read_on.new.work.inserted c.read_on.result)
    c.first_offset-at.ensures
    c.read_on.ensures.reads)).1
