use Rattle.std.proofs.Common.{◌≡◌, ◌-◌, min, arith, rules, reverse, length, get_or, sym, ap, ◌∙◌}
use Rattle.hirscan.specs.Words.{is_covered}
use Rattle.hirscan.proofs.LowEndLemmas.{least_past, least_below, covered_at, not_covered_at}
use Rattle.hirscan.proofs.RangeLemmas.{ranges_with_byte, ranges_without_byte, all_ranges}
use Rattle.hirscan.proofs.words.class_ranges.Goals as goal

pub loop-code-init : goal.loop-code-init
loop-code-init c =
    let lows = c.args.ends.now in
    let len : length lows ≡ 256 = ap length (sym c.ends.view_is) ∙ c.ends.told in
    record { least_is = least_past lows 256 (omega (arith, len)); ranges_are = search rules }

pub loop-code-preserved-in-Continue-1 : goal.loop-code-preserved-in-Continue-1
loop-code-preserved-in-Continue-1 c =
    let lows = c.args.ends.now in
    let len : length lows ≡ 256 = ap length (sym c.ends.view_is) ∙ c.ends.told in
    let now = c.min-low.ensures ∙ ap (λ ns. min c.loop-code.low (get_or ns (c.loop-code.code - 1) 0)) c.ends.view_is in
    let least_is = least_below lows c.loop-code.code _ _ (omega arith) (omega (arith, len)) c.loop-code.invariant.least_is now in
    record {
      least_is = least_is;
      ranges_are =
          ranges_with_byte (is_covered lows) c.loop-code.code (reverse c.loop-code.ranges.items) _ (omega arith) (omega arith)
          (covered_at lows (c.loop-code.code - 1) _ least_is (omega arith)) c.loop-code.invariant.ranges_are (search rules);
    }

pub loop-code-preserved : goal.loop-code-preserved
loop-code-preserved c =
    let lows = c.args.ends.now in
    let len : length lows ≡ 256 = ap length (sym c.ends.view_is) ∙ c.ends.told in
    let now = c.min-low.ensures ∙ ap (λ ns. min c.loop-code.low (get_or ns (c.loop-code.code - 1) 0)) c.ends.view_is in
    let least_is = least_below lows c.loop-code.code _ _ (omega arith) (omega (arith, len)) c.loop-code.invariant.least_is now in
    record {
      least_is = least_is;
      ranges_are =
          ranges_without_byte (is_covered lows) c.loop-code.code (reverse c.loop-code.ranges.items) (omega arith) (omega arith)
          (not_covered_at lows (c.loop-code.code - 1) _ least_is (omega arith)) c.loop-code.invariant.ranges_are;
    }

pub returns : goal.returns
returns c = λ items h.
    all_ranges items c.loop-code.ranges.items _ (is_covered c.args.ends.now) c.loop-code.code (omega arith)
    c.loop-code.invariant.ranges_are c.reverse.ensures.items h
