use Rattle.std.proofs.Common.{ℕ, ap, arith, false, map, slice_set, sym, ◌∙◌}
use Rattle.std.proofs.lemmas.List.{length-map}
use Rattle.meta_regex.specs.Regexes.{mark}
use Rattle.meta_regex.proofs.ListLemmas.{mapped_at, none_laid, one_more_byte}
use Rattle.meta_regex.proofs.matching_patterns.write_marks.Goals as goal

pub loop-at-init : goal.loop-at-init
loop-at-init c = sym (none_laid c.args.marks.now)

pub loop-at-preserved : goal.loop-at-preserved
loop-at-preserved c =
    one_more_byte (map mark c.args.tests.now) c.loop-at.at 0 c.args.marks.now c.loop-at.marks c.put.new.marks
    (omega (arith, c.loop-at-test.true, length-map c.args.tests.now mark)) c.loop-at.invariant
    (c.put.ensures
    ∙ ap (λ (b : ℕ). slice_set c.loop-at.marks c.loop-at.at b)
    (c.mark.ensures ∙ sym (mapped_at mark c.args.tests.now c.loop-at.at false 0 c.loop-at-test.true)))
