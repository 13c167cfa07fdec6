use Rattle.std.proofs.Common.{◌∙◌, subst, sym}
use Rattle.lazy_dfa.proofs.CacheChanges.LinkedLemmas.{AreBytes}
use Rattle.lazy_dfa.proofs.Courses.SearchClauseLemmas.{answers_half, counts_half, leaves_cache, reports_half, finds_up_to}
use Rattle.lazy_dfa.proofs.Courses.SearchEndLemmas.{not_done, once_ends}
use Rattle.lazy_dfa.proofs.automaton.dfa.DFA.try_search_fwd.Goals as goal

-- ---- one scan or more

pub returns-then-is_between_characters-clause-found : goal.returns-then-is_between_characters-clause-found
returns-then-is_between_characters-clause-found g c =
    finds_up_to c.args.self.now c.args.input.now c.search_again.new.cache c.search_again.result c.search_again.ensures.made
    c.search_again.ensures.within.0 c.search_again.ensures.search.answer c.requires.is_forward

pub returns-then-is_between_characters-clause-answer : goal.returns-then-is_between_characters-clause-answer
returns-then-is_between_characters-clause-answer g c = answers_half c.search_again.ensures.search

pub returns-then-is_between_characters-clause-cache : goal.returns-then-is_between_characters-clause-cache
returns-then-is_between_characters-clause-cache g c = leaves_cache c.search_again.ensures.search

pub returns-then-is_between_characters-clause-work : goal.returns-then-is_between_characters-clause-work
returns-then-is_between_characters-clause-work g c = counts_half c.search_again.ensures.search

pub returns-then-is_between_characters-clause-progress : goal.returns-then-is_between_characters-clause-progress
returns-then-is_between_characters-clause-progress g c = reports_half c.search_again.ensures.search

-- ---- one scan

pub returns-clause-found : goal.returns-clause-found
returns-clause-found g c =
    let made = once_ends c.args.self.now c.args.input.now c.args.cache.now c.scan_forward.new.cache c.args.work.now.determinized
    c.scan_forward.new.work.determinized c.args.work.now.inserted c.scan_forward.new.work.inserted c.is_made.ensures c.requires.own
    (subst AreBytes c.haystack.ensures.value c.see_bytes.ensures)
    (not_done c.is_done.result c.args.input.now.start c.args.input.now.end c.is_done.ensures c.if-is_done.false)
    (sym c.is_between_characters.ensures ∙ c.if-is_between_characters.false) c.scan_forward.result c.scan_forward.ensures.scan in
    finds_up_to c.args.self.now c.args.input.now c.scan_forward.new.cache c.scan_forward.result c.is_made.ensures c.haystack.ensures.within.0
    made.answer c.requires.is_forward

pub returns-clause-answer : goal.returns-clause-answer
returns-clause-answer g c =
    let made = once_ends c.args.self.now c.args.input.now c.args.cache.now c.scan_forward.new.cache c.args.work.now.determinized
    c.scan_forward.new.work.determinized c.args.work.now.inserted c.scan_forward.new.work.inserted c.is_made.ensures c.requires.own
    (subst AreBytes c.haystack.ensures.value c.see_bytes.ensures)
    (not_done c.is_done.result c.args.input.now.start c.args.input.now.end c.is_done.ensures c.if-is_done.false)
    (sym c.is_between_characters.ensures ∙ c.if-is_between_characters.false) c.scan_forward.result c.scan_forward.ensures.scan in
    answers_half made

pub returns-clause-cache : goal.returns-clause-cache
returns-clause-cache g c =
    let made = once_ends c.args.self.now c.args.input.now c.args.cache.now c.scan_forward.new.cache c.args.work.now.determinized
    c.scan_forward.new.work.determinized c.args.work.now.inserted c.scan_forward.new.work.inserted c.is_made.ensures c.requires.own
    (subst AreBytes c.haystack.ensures.value c.see_bytes.ensures)
    (not_done c.is_done.result c.args.input.now.start c.args.input.now.end c.is_done.ensures c.if-is_done.false)
    (sym c.is_between_characters.ensures ∙ c.if-is_between_characters.false) c.scan_forward.result c.scan_forward.ensures.scan in
    leaves_cache made

pub returns-clause-work : goal.returns-clause-work
returns-clause-work g c =
    let made = once_ends c.args.self.now c.args.input.now c.args.cache.now c.scan_forward.new.cache c.args.work.now.determinized
    c.scan_forward.new.work.determinized c.args.work.now.inserted c.scan_forward.new.work.inserted c.is_made.ensures c.requires.own
    (subst AreBytes c.haystack.ensures.value c.see_bytes.ensures)
    (not_done c.is_done.result c.args.input.now.start c.args.input.now.end c.is_done.ensures c.if-is_done.false)
    (sym c.is_between_characters.ensures ∙ c.if-is_between_characters.false) c.scan_forward.result c.scan_forward.ensures.scan in
    counts_half made

pub returns-clause-progress : goal.returns-clause-progress
returns-clause-progress g c =
    let made = once_ends c.args.self.now c.args.input.now c.args.cache.now c.scan_forward.new.cache c.args.work.now.determinized
    c.scan_forward.new.work.determinized c.args.work.now.inserted c.scan_forward.new.work.inserted c.is_made.ensures c.requires.own
    (subst AreBytes c.haystack.ensures.value c.see_bytes.ensures)
    (not_done c.is_done.result c.args.input.now.start c.args.input.now.end c.is_done.ensures c.if-is_done.false)
    (sym c.is_between_characters.ensures ∙ c.if-is_between_characters.false) c.scan_forward.result c.scan_forward.ensures.scan in
    reports_half made
