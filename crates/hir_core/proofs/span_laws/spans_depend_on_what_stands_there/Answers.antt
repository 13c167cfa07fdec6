use Rattle.hir_core.proofs.TwoTextsLemmas.{same_spans_in_both}
use Rattle.hir_core.proofs.span_laws.spans_depend_on_what_stands_there.Goals as goal

pub returns : goal.returns
returns c = same_spans_in_both
