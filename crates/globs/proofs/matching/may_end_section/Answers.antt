use Rattle.std.proofs.Common.{map, ap}
use Rattle.globs.specs.Matching.{is_end, item_of, items_then, section_of}
use Rattle.globs.proofs.EndLemmas.{fails_as, section_fails}
use Rattle.globs.proofs.TableLemmas.{single}
use Rattle.globs.proofs.matching.may_end_section.Goals as goal

pub returns-then-section-eq1 : goal.returns-then-section-eq1
returns-then-section-eq1 c = λ refused.
    let only = single c.args.section.now c.index-section-0.result c.if-section-eq1.true c.index-section-0.is in
    section_fails c.args.c (section_of c.args.section.now) (map item_of c.index-section-0.result.items) (ap section_of only)
    (fails_as c.args.c (λ xs. items_then (map item_of xs) is_end) _ _ c.deref.ensures.value (c.may_end.ensures refused))
