use Rattle.std.proofs.Common.{◌∷◌, [], ap, sym}
use Rattle.globs.specs.Matching.{either_then, is_end, matches, section_of, sections_of}
use Rattle.globs.proofs.EndLemmas.{fails_as}
use Rattle.globs.proofs.TableLemmas.{single}
use Rattle.globs.proofs.matching.may_match_end.Goals as goal

pub returns-then-sections-eq1 : goal.returns-then-sections-eq1
returns-then-sections-eq1 c = λ refused.
    let only = single c.args.sections.now c.index-sections-0.result c.if-sections-eq1.true c.index-sections-0.is in
    let one = fails_as c.args.c (λ xs. matches (section_of xs ∷ [])) _ _ c.deref.ensures.value (c.may_end_section.ensures refused) in
    fails_as c.args.c matches _ _ (ap sections_of (sym only)) one
