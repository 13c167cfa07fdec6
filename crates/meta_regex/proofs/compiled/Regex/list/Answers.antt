use Rattle.std.proofs.Common.{◌≡◌, ℕ, ◌+◌, ◌-◌, arith, length, subst, sym}
use Rattle.meta_regex.specs.Regexes.{AreAll, config_by}
use Rattle.meta_regex.specs.Lists.{AreListed}
use Rattle.meta_regex.proofs.ListLemmas.{none_laid}
use Rattle.meta_regex.proofs.NextLemmas.{listing_begins, listing_ends, listing_fails_behind, listing_goes_on, listing_runs_out, none_first}
use Rattle.meta_regex.proofs.OrderLemmas.{none_listed, one_more_listed, order_begins, order_ends, order_goes_on, order_runs_out}
use Rattle.meta_regex.proofs.compiled.Regex.list.Goals as goal

pub loop-count-init : goal.loop-count-init
loop-count-init c = (
  c.search.ensures.own,
  λ on. listing_begins (config_by c.args.self.now) c.args.self.now.texts c.args.haystack.now c.args.rows.now c.in-Ok.next
      (sym (none_laid c.args.rows.now)) c.in-Ok.ensures.finds.found.pattern (c.in-Ok.ensures.finds.preferred on),
  order_begins (config_by c.args.self.now) c.args.self.now.texts c.args.haystack.now c.args.rows.now c.in-Ok.next
      (sym (none_laid c.args.rows.now)) c.in-Ok.ensures.finds.found,
)

pub loop-count-preserved : goal.loop-count-preserved
loop-count-preserved c = (
  c.find_next.ensures.own,
  λ on. listing_goes_on (config_by c.args.self.now) c.args.self.now.texts c.args.haystack.now c.args.rows.now
      (length c.args.haystack.now + 1 - c.loop-count.count) (length c.args.haystack.now + 1 - (c.loop-count.count + 1)) c.loop-count.count
      c.loop-count.rows c.put.new.rows c.loop-count.next c.in-Ok-find_next.next c.in-Some.found
      (omega (arith, c.loop-count-test.true)) c.in-Some.is c.put.ensures
      (c.in-Ok-find_next.ensures.next on) c.in-Ok-find_next.ensures.pattern (c.loop-count.invariant.1 on),
  order_goes_on (config_by c.args.self.now) c.args.self.now.texts c.args.haystack.now c.args.rows.now c.loop-count.count
      c.loop-count.rows c.put.new.rows c.loop-count.next c.in-Ok-find_next.next c.in-Some.found c.in-Some.is c.put.ensures
      c.in-Ok-find_next.ensures.listed c.loop-count.invariant.2,
)

pub returns-in_default-clause-lists : goal.returns-in_default-clause-lists
returns-in_default-clause-lists c =
    let v = c.args.self.now in
    let h = c.args.haystack.now in
    record {
      all = λ on. listing_ends (config_by v) v.texts h c.args.rows.now (length h + 1 - c.loop-count.count) c.loop-count.count
          c.loop-count.rows c.loop-count.next c.in_default.is (c.loop-count.invariant.1 on);
      first = λ on. tt;
      listed = order_ends (config_by v) v.texts h c.args.rows.now c.loop-count.count c.loop-count.rows c.loop-count.next c.in_default.is
          c.loop-count.invariant.2;
      begun = tt;
      refused = tt;
    }

pub returns-clause-lists : goal.returns-clause-lists
returns-clause-lists c =
    let v = c.args.self.now in
    let h = c.args.haystack.now in
    let last : c.loop-count.count ≡ length h + 1 = omega (arith, c.loop-count-test.false, c.loop-count.auto.count-end) in
    record {
      all = λ on. subst (λ (n : ℕ). AreAll (config_by v) v.texts h n c.args.rows.now c.loop-count.rows) last
          (listing_runs_out (config_by v) v.texts h c.args.rows.now (length h + 1 - c.loop-count.count) c.loop-count.count
          c.loop-count.rows c.loop-count.next (omega (arith, c.loop-count-test.false)) (c.loop-count.invariant.1 on));
      first = λ on. tt;
      listed = subst (λ (n : ℕ). AreListed (config_by v) v.texts h n c.args.rows.now c.loop-count.rows) last
          (order_runs_out (config_by v) v.texts h c.args.rows.now c.loop-count.count c.loop-count.rows c.loop-count.next
          (omega (arith, last)) c.loop-count.invariant.2);
      begun = tt;
      refused = tt;
    }

-- if a search fails
pub returns-in-Err-clause-lists : goal.returns-in-Err-clause-lists
returns-in-Err-clause-lists c =
    let v = c.args.self.now in
    let same = sym (none_laid c.args.rows.now) in
    record {
      all = λ on. tt;
      first = λ on. none_first (config_by v) v.texts c.args.haystack.now c.args.rows.now same;
      listed = tt;
      begun = none_listed (config_by v) v.texts c.args.haystack.now c.args.rows.now same;
      refused = c.in-Err.ensures.finds.refused;
    }

pub returns-in-Err-find_next-clause-lists : goal.returns-in-Err-find_next-clause-lists
returns-in-Err-find_next-clause-lists c =
    let v = c.args.self.now in
    let h = c.args.haystack.now in
    record {
      all = λ on. tt;
      first = λ on. listing_fails_behind (config_by v) v.texts h c.args.rows.now (length h + 1 - c.loop-count.count) c.loop-count.count
          c.loop-count.rows c.put.new.rows c.loop-count.next c.in-Some.found (omega (arith, c.loop-count-test.true)) c.in-Some.is
          c.put.ensures (c.loop-count.invariant.1 on);
      listed = tt;
      begun = one_more_listed (config_by v) v.texts h c.args.rows.now c.loop-count.count c.loop-count.rows c.put.new.rows
          c.loop-count.next c.in-Some.found c.in-Some.is c.put.ensures c.loop-count.invariant.2;
      refused = c.in-Err-find_next.ensures.refused;
    }
