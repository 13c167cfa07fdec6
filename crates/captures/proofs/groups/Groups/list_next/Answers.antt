use Rattle.std.proofs.Common.{◌≡◌, ℕ, arith, length, refl, rules, subst}
use Rattle.meta_regex.specs.Regexes.{config_by}
use Rattle.captures.specs.NextMatches.{AreNext}
use Rattle.captures.proofs.NextLemmas.{filling_begins, filling_fails, filling_goes_on, next_begins, next_goes_on, rows_are_next}
use Rattle.captures.proofs.groups.Groups.list_next.Goals as goal

pub loop-count-init : goal.loop-count-init
loop-count-init c = (
  c.requires.own,
  c.requires.groups,
  next_begins (config_by c.args.regex.now) c.args.regex.now.texts c.args.haystack.now c.args.from.now c.args.rows.now,
  filling_begins (config_by c.args.regex.now) c.args.regex.now.texts c.args.haystack.now c.args.from.now c.args.width c.args.slots.now,
)

pub loop-count-preserved : goal.loop-count-preserved
loop-count-preserved c = (
  c.find_within.ensures.own,
  c.write_row.ensures.keeps.own c.args.regex.now.options c.args.regex.now.texts c.find_within.ensures.groups,
  next_goes_on (config_by c.args.regex.now) c.args.regex.now.texts c.args.haystack.now c.args.from.now c.loop-count.count c.loop-count.from
      c.args.rows.now c.loop-count.rows c.loop-count.invariant.2 c.in-Ok.next c.in-Some.found c.in-Some.is c.in-Ok.ensures.found _
      c.after.result refl c.in-Ok.ensures.pattern c.after.ensures,
  filling_goes_on (config_by c.args.regex.now) c.args.regex.now.texts c.args.haystack.now c.args.from.now c.loop-count.count
      c.loop-count.from c.args.rows.now c.loop-count.rows c.loop-count.invariant.2 c.in-Ok.next c.in-Some.found c.in-Some.is
      c.in-Ok.ensures.found c.args.width c.args.slots.now c.loop-count.slots c.write_row.new.slots c.loop-count.filled
      c.in-Ok-write_row.filled c.loop-count.invariant.3 c.in-Ok.ensures.pattern
      (c.in-Ok-write_row.ensures.written c.args.regex.now.options c.args.regex.now.texts c.find_within.ensures.groups),
)

-- no match follows
pub returns-in_default : goal.returns-in_default
returns-in_default c = search (rules, rows_are_next)

-- the rows are full
pub returns : goal.returns
returns c =
    let last : c.loop-count.count ≡ length c.loop-count.rows =
    omega (arith, c.loop-count-test.false, c.loop-count.auto.count-end, c.loop-count.auto.rows) in
    let next = subst (λ (n : ℕ). AreNext (config_by c.args.regex.now) c.args.regex.now.texts c.args.haystack.now c.args.from.now n
    c.loop-count.from c.args.rows.now c.loop-count.rows) last
    (rows_are_next (config_by c.args.regex.now) c.args.regex.now.texts c.args.haystack.now c.args.from.now c.loop-count.count
    c.loop-count.from c.args.rows.now c.loop-count.rows c.loop-count.invariant.2) in
    search rules

-- if a search fails
pub returns-in-Err : goal.returns-in-Err
returns-in-Err c = search (rules, rows_are_next, filling_fails)

-- if the slots of a match can't be found
pub returns-in-Err-write_row : goal.returns-in-Err-write_row
returns-in-Err-write_row c =
    let refused =
    c.in-Err-write_row.ensures.keeps.refused c.args.regex.now.options c.args.regex.now.texts c.find_within.ensures.groups c.args.haystack.now in
    search (rules, rows_are_next)
