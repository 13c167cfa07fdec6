use Rattle.hir_regex.proofs.SearchLemmas.{answers_loosely}
use Rattle.hir_regex.proofs.search_laws.answers_are_leftmost_whatever_the_loops.Goals as goal

pub returns : goal.returns
returns c = answers_loosely
