use Rattle.hir_regex.proofs.SearchLemmas.{finds_near}
use Rattle.hir_regex.proofs.search_laws.searches_answer.Goals as goal

pub returns : goal.returns
returns c = finds_near
