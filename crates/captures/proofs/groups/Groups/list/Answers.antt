use Rattle.std.proofs.Common.{◌≡◌, ℕ, ◌+◌, ◌-◌, Option, IfSome, arith, inl, inr, length, rules, subst, sym}
use Rattle.pattern_search.specs.Searches.{IsOfFirstPattern}
use Rattle.meta_regex.specs.declared.found_match.FoundMatch.{FoundMatch}
use Rattle.regex_hir.specs.Meaning.{alt_all}
use Rattle.meta_regex.specs.Regexes.{AreAll, as_found, config_by}
use Rattle.meta_regex.proofs.ForCallers.{listing_begins, listing_ends, listing_fails_behind, listing_goes_on, listing_runs_out, none_first, none_laid}
use Rattle.captures.specs.Captures.{AreCaptured, AreFirstCaptured}
use Rattle.captures.proofs.ListLemmas.{first_so_far, none_captured_yet, slotted_begins, slotted_ends, slotted_fails, slotted_goes_on, slotted_runs_out, slotted_stops}
use Rattle.captures.proofs.groups.Groups.list.Goals as goal

pub loop-count-init : goal.loop-count-init
loop-count-init c = (
  c.find.ensures.own,
  c.find.ensures.groups,
  listing_begins (config_by c.args.regex.now) c.args.regex.now.texts c.args.haystack.now c.args.rows.now c.in-Ok.next
      (sym (none_laid c.args.rows.now)) c.in-Ok.ensures.pattern c.in-Ok.ensures.found,
  slotted_begins (config_by c.args.regex.now) c.args.regex.now.texts c.args.haystack.now c.args.width c.args.slots.now c.in-Ok.next
      c.in-Ok.ensures.found,
)

pub loop-count-preserved : goal.loop-count-preserved
loop-count-preserved c = (
  c.find_next.ensures.own,
  c.find_next.ensures.groups,
  listing_goes_on (config_by c.args.regex.now) c.args.regex.now.texts c.args.haystack.now c.args.rows.now
      (length c.args.haystack.now + 1 - c.loop-count.count) (length c.args.haystack.now + 1 - (c.loop-count.count + 1)) c.loop-count.count
      c.loop-count.rows c.put.new.rows c.loop-count.next c.in-Ok-find_next.next c.in-Some.found
      (omega (arith, c.loop-count-test.true)) c.in-Some.is c.put.ensures
      c.in-Ok-find_next.ensures.found c.in-Ok-find_next.ensures.pattern c.loop-count.invariant.2,
  λ res read. slotted_goes_on (config_by c.args.regex.now).utf8 (alt_all res) c.args.haystack.now c.args.width c.args.slots.now
      (length c.args.haystack.now + 1 - c.loop-count.count) c.loop-count.count c.loop-count.slots c.loop-count.filled c.loop-count.next
      c.in-Some.found (c.loop-count.invariant.3 res read) c.in-Some.is (length c.args.haystack.now + 1 - (c.loop-count.count + 1))
      c.write_row.new.slots c.in-Ok-write_row.filled c.in-Ok-find_next.next (omega (arith, c.loop-count-test.true))
      (λ m span inside there done before fill. c.in-Ok-write_row.ensures.written c.args.regex.now.options c.args.regex.now.texts c.loop-count.invariant.1
      res read
      (subst (λ (p : Option FoundMatch). IfSome p (λ f. IsOfFirstPattern res c.args.haystack.now (as_found f))) c.in-Some.is
      (c.loop-count.invariant.2.next_named res read))
      m span inside there done before fill)
      (c.in-Ok-find_next.ensures.found res read),
)

pub returns-in_default : goal.returns-in_default
returns-in_default c =
    let slots : AreCaptured (config_by c.args.regex.now) c.args.regex.now.texts c.args.haystack.now c.args.width c.args.slots.now
    c.loop-count.slots = λ res read.
    slotted_ends (config_by c.args.regex.now).utf8 (alt_all res) c.args.haystack.now c.args.width c.args.slots.now
    (length c.args.haystack.now + 1 - c.loop-count.count) c.loop-count.count c.loop-count.slots c.loop-count.filled c.loop-count.next
    (c.loop-count.invariant.3 res read) c.in_default.is in
    search (rules, listing_ends)

pub returns : goal.returns
returns c =
    let last : c.loop-count.count ≡ length c.args.haystack.now + 1 = omega (arith, c.loop-count-test.false, c.loop-count.auto.count-end) in
    let slots : AreCaptured (config_by c.args.regex.now) c.args.regex.now.texts c.args.haystack.now c.args.width c.args.slots.now
    c.loop-count.slots = λ res read.
    slotted_runs_out (config_by c.args.regex.now).utf8 (alt_all res) c.args.haystack.now c.args.width c.args.slots.now
    (length c.args.haystack.now + 1 - c.loop-count.count) c.loop-count.count c.loop-count.slots c.loop-count.filled c.loop-count.next
    (c.loop-count.invariant.3 res read) (omega (arith, c.loop-count-test.false)) in
    let all = subst
    (λ (n : ℕ). AreAll (config_by c.args.regex.now) c.args.regex.now.texts c.args.haystack.now n c.args.rows.now c.loop-count.rows) last
    (listing_runs_out (config_by c.args.regex.now) c.args.regex.now.texts c.args.haystack.now c.args.rows.now
    (length c.args.haystack.now + 1 - c.loop-count.count) c.loop-count.count c.loop-count.rows c.loop-count.next
    (omega (arith, c.loop-count-test.false)) c.loop-count.invariant.2) in
    search rules

-- if the first search fails
pub returns-in-Err : goal.returns-in-Err
returns-in-Err c = search (rules, none_captured_yet, none_first, none_laid)

-- if the slots of a match can't be found
pub returns-in-Err-write_row : goal.returns-in-Err-write_row
returns-in-Err-write_row c =
    let begun : AreFirstCaptured (config_by c.args.regex.now) c.args.regex.now.texts c.args.haystack.now c.args.width c.loop-count.count
    c.args.slots.now c.write_row.new.slots = λ res read.
    inr (slotted_stops (config_by c.args.regex.now).utf8 (alt_all res) c.args.haystack.now c.args.width c.args.slots.now
    (length c.args.haystack.now + 1 - c.loop-count.count) c.loop-count.count c.loop-count.slots c.loop-count.filled c.loop-count.next
    (c.loop-count.invariant.3 res read) c.write_row.new.slots c.in-Err-write_row.ensures.cleared) in
    let first = first_so_far (config_by c.args.regex.now) c.args.regex.now.texts c.args.haystack.now
    (length c.args.haystack.now + 1 - c.loop-count.count) c.loop-count.count c.args.rows.now c.loop-count.rows c.loop-count.next
    c.loop-count.invariant.2 in
    search (rules, c.in-Err-write_row.ensures.keeps.own, c.in-Err-write_row.ensures.keeps.refused)

-- if the search for the next match fails
pub returns-in-Err-find_next : goal.returns-in-Err-find_next
returns-in-Err-find_next c =
    let begun : AreFirstCaptured (config_by c.args.regex.now) c.args.regex.now.texts c.args.haystack.now c.args.width (c.loop-count.count + 1)
    c.args.slots.now c.write_row.new.slots = λ res read.
    inl (slotted_fails (config_by c.args.regex.now).utf8 (alt_all res) c.args.haystack.now c.args.width c.args.slots.now
    (length c.args.haystack.now + 1 - c.loop-count.count) c.loop-count.count c.loop-count.slots c.loop-count.filled c.loop-count.next
    c.in-Some.found (c.loop-count.invariant.3 res read) c.in-Some.is c.write_row.new.slots c.in-Ok-write_row.filled
    (omega (arith, c.loop-count-test.true))
    (λ m span inside there done before fill. c.in-Ok-write_row.ensures.written c.args.regex.now.options c.args.regex.now.texts c.loop-count.invariant.1
    res read
    (subst (λ (p : Option FoundMatch). IfSome p (λ f. IsOfFirstPattern res c.args.haystack.now (as_found f))) c.in-Some.is
    (c.loop-count.invariant.2.next_named res read))
    m span inside there done before fill)) in
    let first = listing_fails_behind (config_by c.args.regex.now) c.args.regex.now.texts c.args.haystack.now c.args.rows.now
    (length c.args.haystack.now + 1 - c.loop-count.count) c.loop-count.count c.loop-count.rows c.put.new.rows c.loop-count.next
    c.in-Some.found (omega (arith, c.loop-count-test.true)) c.in-Some.is c.put.ensures c.loop-count.invariant.2 in
    search rules
