use Rattle.std.proofs.Common.{ℕ, ◌+◌, ◌-◌, ap, sym, ◌∙◌, subst}
use Rattle.search_core.specs.Utf8.{is_boundary}
use Rattle.search_types.specs.Inputs.{with_span}
use Rattle.search_types.specs.Modes.{is_anchored}
use Rattle.lazy_dfa.specs.Dfas.{reader}
use Rattle.lazy_dfa.proofs.CacheChanges.LinkedLemmas.{AreBytes}
use Rattle.lazy_dfa.proofs.Courses.SearchLemmas.{begins}
use Rattle.lazy_dfa.proofs.Courses.SearchEndLemmas.{not_done, is_over, each_counts, boundary_counts, inside_counts, above_none, lower_end}
use Rattle.lazy_dfa.proofs.Courses.SearchEndLemmas.{done_ends, fails, none_ends, counted_ends, anchored_ends, lowest_ends, goes_forward}
use Rattle.lazy_dfa.proofs.Courses.SearchEndLemmas.{goes_reverse}
use Rattle.lazy_dfa.proofs.search.searching.search_again.Goals as goal

pub loop-rest-init : goal.loop-rest-init
loop-rest-init g c = record {
  own = c.requires;
  stands = begins c.args.dfa.now c.args.input.now c.same_input-rest.result c.args.cache.now c.args.work.now.determinized
      c.args.work.now.inserted c.same_input-rest.ensures;
}

pub returns-in-Err-clause-search : goal.returns-in-Err-clause-search
returns-in-Err-clause-search g c = fails c.args.dfa.now c.args.input.now c.loop-rest.rest c.args.cache.now c.loop-rest.cache
    c.scan.new.cache c.args.work.now.determinized
    c.loop-rest.work.determinized c.scan.new.work.determinized c.args.work.now.inserted c.loop-rest.work.inserted
    c.scan.new.work.inserted c.is_made.ensures c.requires c.loop-rest.invariant.own
    (subst AreBytes c.haystack.ensures.value c.see_bytes.ensures)
    c.loop-rest.invariant.stands (not_done c.is_done.result c.loop-rest.rest.start c.loop-rest.rest.end c.is_done.ensures
    c.loop-rest-test.true) c.in-Err.e c.in-Err.ensures.scan

pub returns-in_default-clause-search : goal.returns-in_default-clause-search
returns-in_default-clause-search g c = none_ends c.args.dfa.now c.args.input.now c.loop-rest.rest c.args.cache.now c.loop-rest.cache
    c.scan.new.cache c.args.work.now.determinized
    c.loop-rest.work.determinized c.scan.new.work.determinized c.args.work.now.inserted c.loop-rest.work.inserted
    c.scan.new.work.inserted c.is_made.ensures c.requires c.loop-rest.invariant.own
    (subst AreBytes c.haystack.ensures.value c.see_bytes.ensures)
    c.loop-rest.invariant.stands (not_done c.is_done.result c.loop-rest.rest.start c.loop-rest.rest.end c.is_done.ensures
    c.loop-rest-test.true) c.in-Ok.found c.in-Ok.ensures.scan c.in_default.is

pub returns-then-not-between_characters-clause-search : goal.returns-then-not-between_characters-clause-search
returns-then-not-between_characters-clause-search g c = counted_ends c.args.dfa.now c.args.input.now c.loop-rest.rest c.args.cache.now
    c.loop-rest.cache c.scan.new.cache c.args.work.now.determinized
    c.loop-rest.work.determinized c.scan.new.work.determinized c.args.work.now.inserted c.loop-rest.work.inserted
    c.scan.new.work.inserted c.is_made.ensures c.requires c.loop-rest.invariant.own
    (subst AreBytes c.haystack.ensures.value c.see_bytes.ensures)
    c.loop-rest.invariant.stands (not_done c.is_done.result c.loop-rest.rest.start c.loop-rest.rest.end c.is_done.ensures
    c.loop-rest-test.true) c.in-Ok.found c.in-Ok.ensures.scan
    c.in-Some.half c.in-Some.is
    (each_counts (reader c.args.dfa.now).between_characters c.loop-rest.rest.haystack c.in-Some.half.offset
    (sym c.is_between_characters-between_characters.ensures ∙ c.if-not-between_characters.true))

pub returns-then-is_char_boundary-clause-search : goal.returns-then-is_char_boundary-clause-search
returns-then-is_char_boundary-clause-search g c = counted_ends c.args.dfa.now c.args.input.now c.loop-rest.rest c.args.cache.now
    c.loop-rest.cache c.scan.new.cache c.args.work.now.determinized
    c.loop-rest.work.determinized c.scan.new.work.determinized c.args.work.now.inserted c.loop-rest.work.inserted
    c.scan.new.work.inserted c.is_made.ensures c.requires c.loop-rest.invariant.own
    (subst AreBytes c.haystack.ensures.value c.see_bytes.ensures)
    c.loop-rest.invariant.stands (not_done c.is_done.result c.loop-rest.rest.start c.loop-rest.rest.end c.is_done.ensures
    c.loop-rest-test.true) c.in-Ok.found c.in-Ok.ensures.scan
    c.in-Some.half c.in-Some.is
    (boundary_counts (reader c.args.dfa.now).between_characters c.loop-rest.rest.haystack c.in-Some.half.offset
    (ap (is_boundary c.loop-rest.rest.haystack) (sym c.offset.ensures) ∙ sym c.is_char_boundary.ensures ∙ c.if-is_char_boundary.true))

pub returns-then-is_anchored-clause-search : goal.returns-then-is_anchored-clause-search
returns-then-is_anchored-clause-search g c = anchored_ends c.args.dfa.now c.args.input.now c.loop-rest.rest c.args.cache.now
    c.loop-rest.cache c.scan.new.cache c.args.work.now.determinized
    c.loop-rest.work.determinized c.scan.new.work.determinized c.args.work.now.inserted c.loop-rest.work.inserted
    c.scan.new.work.inserted c.is_made.ensures c.requires c.loop-rest.invariant.own
    (subst AreBytes c.haystack.ensures.value c.see_bytes.ensures)
    c.loop-rest.invariant.stands (not_done c.is_done.result c.loop-rest.rest.start c.loop-rest.rest.end c.is_done.ensures
    c.loop-rest-test.true) c.in-Ok.found c.in-Ok.ensures.scan
    c.in-Some.half c.in-Some.is
    (inside_counts (reader c.args.dfa.now).between_characters c.loop-rest.rest.haystack c.in-Some.half.offset
    (sym c.is_between_characters-between_characters.ensures ∙ c.if-not-between_characters.false)
    (ap (is_boundary c.loop-rest.rest.haystack) (sym c.offset.ensures) ∙ sym c.is_char_boundary.ensures ∙ c.if-is_char_boundary.false))
    (ap is_anchored (sym c.get_anchored.ensures) ∙ sym c.is_anchored.ensures ∙ c.if-is_anchored.true)

pub returns-then-end-eq0-clause-search : goal.returns-then-end-eq0-clause-search
returns-then-end-eq0-clause-search g c = lowest_ends c.args.dfa.now c.args.input.now c.loop-rest.rest c.args.cache.now c.loop-rest.cache
    c.scan.new.cache c.args.work.now.determinized
    c.loop-rest.work.determinized c.scan.new.work.determinized c.args.work.now.inserted c.loop-rest.work.inserted
    c.scan.new.work.inserted c.is_made.ensures c.requires c.loop-rest.invariant.own
    (subst AreBytes c.haystack.ensures.value c.see_bytes.ensures)
    c.loop-rest.invariant.stands (not_done c.is_done.result c.loop-rest.rest.start c.loop-rest.rest.end c.is_done.ensures
    c.loop-rest-test.true) c.in-Ok.found c.in-Ok.ensures.scan
    c.in-Some.half c.in-Some.is
    (inside_counts (reader c.args.dfa.now).between_characters c.loop-rest.rest.haystack c.in-Some.half.offset
    (sym c.is_between_characters-between_characters.ensures ∙ c.if-not-between_characters.false)
    (ap (is_boundary c.loop-rest.rest.haystack) (sym c.offset.ensures) ∙ sym c.is_char_boundary.ensures ∙ c.if-is_char_boundary.false))
    (ap is_anchored (sym c.get_anchored.ensures) ∙ sym c.is_anchored.ensures ∙ c.if-is_anchored.false)
    (sym c.end.ensures.value ∙ c.if-end-eq0.true)

pub loop-rest-smaller-then-is_reverse : goal.loop-rest-smaller-then-is_reverse
loop-rest-smaller-then-is_reverse g c = lower_end c.loop-rest.rest c.set_end.new.self
    (not_done c.is_done.result c.loop-rest.rest.start c.loop-rest.rest.end c.is_done.ensures c.loop-rest-test.true)
    (above_none c.end.result c.loop-rest.rest.end c.end.ensures.value c.if-end-eq0.false)
    (c.set_end.ensures ∙ ap (λ (e : ℕ). with_span c.loop-rest.rest.start (e - 1) c.loop-rest.rest) c.end-then-is_reverse.ensures.value)

pub loop-rest-preserved-then-is_reverse : goal.loop-rest-preserved-then-is_reverse
loop-rest-preserved-then-is_reverse g c = record {
  own = c.in-Ok.ensures.own;
  stands = goes_reverse c.args.dfa.now c.args.input.now c.loop-rest.rest c.args.cache.now c.loop-rest.cache c.scan.new.cache
      c.args.work.now.determinized
      c.loop-rest.work.determinized c.scan.new.work.determinized c.args.work.now.inserted c.loop-rest.work.inserted
      c.scan.new.work.inserted c.is_made.ensures c.requires c.loop-rest.invariant.own
      (subst AreBytes c.haystack.ensures.value c.see_bytes.ensures)
      c.loop-rest.invariant.stands (not_done c.is_done.result c.loop-rest.rest.start c.loop-rest.rest.end c.is_done.ensures
      c.loop-rest-test.true) c.in-Ok.found c.in-Ok.ensures.scan
      c.in-Some.half c.in-Some.is
      (inside_counts (reader c.args.dfa.now).between_characters c.loop-rest.rest.haystack c.in-Some.half.offset
      (sym c.is_between_characters-between_characters.ensures ∙ c.if-not-between_characters.false)
      (ap (is_boundary c.loop-rest.rest.haystack) (sym c.offset.ensures) ∙ sym c.is_char_boundary.ensures ∙ c.if-is_char_boundary.false))
      (ap is_anchored (sym c.get_anchored.ensures) ∙ sym c.is_anchored.ensures
      ∙ c.if-is_anchored.false) (sym c.is_reverse-is_reverse.ensures ∙ c.if-is_reverse.true)
      (above_none c.end.result c.loop-rest.rest.end c.end.ensures.value c.if-end-eq0.false) c.set_end.new.self
      (c.set_end.ensures ∙ ap (λ (e : ℕ). with_span c.loop-rest.rest.start (e - 1) c.loop-rest.rest) c.end-then-is_reverse.ensures.value);
}

pub loop-rest-preserved : goal.loop-rest-preserved
loop-rest-preserved g c = record {
  own = c.in-Ok.ensures.own;
  stands = goes_forward c.args.dfa.now c.args.input.now c.loop-rest.rest c.args.cache.now c.loop-rest.cache c.scan.new.cache
      c.args.work.now.determinized
      c.loop-rest.work.determinized c.scan.new.work.determinized c.args.work.now.inserted c.loop-rest.work.inserted
      c.scan.new.work.inserted c.is_made.ensures c.requires c.loop-rest.invariant.own
      (subst AreBytes c.haystack.ensures.value c.see_bytes.ensures)
      c.loop-rest.invariant.stands (not_done c.is_done.result c.loop-rest.rest.start c.loop-rest.rest.end c.is_done.ensures
      c.loop-rest-test.true) c.in-Ok.found c.in-Ok.ensures.scan
      c.in-Some.half c.in-Some.is
      (inside_counts (reader c.args.dfa.now).between_characters c.loop-rest.rest.haystack c.in-Some.half.offset
      (sym c.is_between_characters-between_characters.ensures ∙ c.if-not-between_characters.false)
      (ap (is_boundary c.loop-rest.rest.haystack) (sym c.offset.ensures) ∙ sym c.is_char_boundary.ensures ∙ c.if-is_char_boundary.false))
      (ap is_anchored (sym c.get_anchored.ensures) ∙ sym c.is_anchored.ensures
      ∙ c.if-is_anchored.false) (sym c.is_reverse-is_reverse.ensures ∙ c.if-is_reverse.false) c.set_start.new.self
      (c.set_start.ensures ∙ ap (λ (b : ℕ). with_span (b + 1) c.loop-rest.rest.end c.loop-rest.rest) c.start.ensures.value);
}

pub returns-clause-search : goal.returns-clause-search
returns-clause-search g c = done_ends c.args.dfa.now c.args.input.now c.loop-rest.rest c.args.cache.now c.loop-rest.cache
    c.args.work.now.determinized
    c.loop-rest.work.determinized c.args.work.now.inserted c.loop-rest.work.inserted c.loop-rest.invariant.stands
    (is_over c.is_done.result c.loop-rest.rest.start c.loop-rest.rest.end c.is_done.ensures c.loop-rest-test.false)
