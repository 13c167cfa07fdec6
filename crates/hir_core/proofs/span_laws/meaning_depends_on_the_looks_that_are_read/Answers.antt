use Rattle.hir_core.proofs.LocalLookLemmas.{same_ends_within, same_spans_within}
use Rattle.hir_core.proofs.span_laws.meaning_depends_on_the_looks_that_are_read.Goals as goal

pub returns-clause-ends : goal.returns-clause-ends
returns-clause-ends c = same_ends_within

pub returns-clause-spans : goal.returns-clause-spans
returns-clause-spans c = same_spans_within
