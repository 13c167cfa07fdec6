use Rattle.std.proofs.Common.{ap, ◌∙◌}
use Rattle.regex_hir.specs.Meaning.{meaning}
use Rattle.regex_hir.proofs.MeaningLemmas.{meaning-Literal}
use Rattle.group_finder.proofs.LayoutLemmas.{literal_starts}
use Rattle.group_finder.proofs.layout.starts_of.Goals as goal

pub returns-in-Literal : goal.returns-in-Literal
returns-in-Literal c =
    literal_starts _ c.in-Literal.bytes.items c.deref.result.now _ _ (ap meaning c.in-Literal.is ∙ meaning-Literal _) c.deref.ensures.value
    c.first_of.ensures
