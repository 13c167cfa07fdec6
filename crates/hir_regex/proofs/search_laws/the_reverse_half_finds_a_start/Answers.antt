use Rattle.hir_regex.proofs.SearchLemmas.{is_pair, quits_by_first, refuses_by_first}
use Rattle.hir_regex.proofs.search_laws.the_reverse_half_finds_a_start.Goals as goal

pub returns-clause-pair : goal.returns-clause-pair
returns-clause-pair c = is_pair

pub returns-clause-quits : goal.returns-clause-quits
returns-clause-quits c = quits_by_first

pub returns-clause-unsupported : goal.returns-clause-unsupported
returns-clause-unsupported c = refuses_by_first
