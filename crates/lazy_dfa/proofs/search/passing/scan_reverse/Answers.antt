use Rattle.std.proofs.Common.{◌∙◌, sym, true}
use Rattle.lazy_dfa.specs.Scans.{first_value}
use Rattle.lazy_dfa.specs.Dfas.{reader}
use Rattle.lazy_dfa.specs.HalfSearchLaws.{begins_at}
use Rattle.lazy_dfa.proofs.CacheChanges.LinkedLemmas.{is_cache_moved}
use Rattle.lazy_dfa.proofs.Courses.WholePassLemmas.{refused_pass, row_named, goes_dead, goes_further}
use Rattle.lazy_dfa.proofs.search.passing.scan_reverse.Goals as goal

pub returns-in-Err-clause-scan : goal.returns-in-Err-clause-scan
returns-in-Err-clause-scan g c = refused_pass c.args.dfa.now c.args.input.now c.args.cache.now c.start_of_pass.new.cache
    c.args.work.now.determinized c.start_of_pass.new.work.determinized
    c.args.work.now.inserted c.start_of_pass.new.work.inserted c.in-Err.e c.in-Err.ensures.start c.requires.own

pub returns-then-is_dead-clause-own : goal.returns-then-is_dead-clause-own
returns-then-is_dead-clause-own g c = is_cache_moved c.args.dfa.now c.start_of_pass.new.cache c.end_at_first.new.cache
    c.end_at_first.ensures.moved c.in-Ok.ensures.own

pub returns-then-is_dead-clause-scan : goal.returns-then-is_dead-clause-scan
returns-then-is_dead-clause-scan g c = goes_dead c.args.dfa.now c.args.input.now c.args.cache.now c.start_of_pass.new.cache
    c.args.work.now.determinized c.start_of_pass.new.work.determinized
    c.args.work.now.inserted c.start_of_pass.new.work.inserted c.in-Ok.id c.is_made.ensures c.requires.own c.in-Ok.ensures.own
    c.in-Ok.ensures.start
    true (sym c.requires.is_reverse)
    c.end_at_first.new.cache
    (sym c.is_dead.ensures ∙ c.if-is_dead.true) c.end_at_first.ensures.moved c.end_at_first.ensures.reported

pub go_on-requires-clause-own : goal.go_on-requires-clause-own
go_on-requires-clause-own g c = is_cache_moved c.args.dfa.now c.start_of_pass.new.cache c.begin_at_first.new.cache
    c.begin_at_first.ensures.moved c.in-Ok.ensures.own

pub go_on-requires-clause-row : goal.go_on-requires-clause-row
go_on-requires-clause-row g c =
    let h = row_named c.args.dfa.now c.start_of_pass.new.cache c.begin_at_first.new.cache c.in-Ok.id
    (first_value (reader c.args.dfa.now) c.args.input.now.anchored c.args.input.now.haystack
    (begins_at (reader c.args.dfa.now) c.args.input.now))
    c.in-Ok.ensures.own.shape c.begin_at_first.ensures.moved (sym c.is_dead.ensures ∙ c.if-is_dead.false) c.in-Ok.ensures.start.start.1 in
    (h.0, h.1, h.2)

pub returns-clause-scan : goal.returns-clause-scan
returns-clause-scan g c = goes_further c.args.dfa.now c.args.input.now c.args.cache.now c.start_of_pass.new.cache
    c.args.work.now.determinized c.start_of_pass.new.work.determinized
    c.args.work.now.inserted c.start_of_pass.new.work.inserted c.in-Ok.id c.is_made.ensures c.requires.own c.in-Ok.ensures.own
    c.in-Ok.ensures.start
    true (sym c.requires.is_reverse)
    c.go_on.new.cache
    c.begin_at_first.new.cache c.go_on.new.work.determinized c.go_on.new.work.inserted c.go_on.result
    (sym c.is_dead.ensures ∙ c.if-is_dead.false) c.begin_at_first.ensures.moved c.begin_at_first.ensures.reported c.go_on.ensures.runs
