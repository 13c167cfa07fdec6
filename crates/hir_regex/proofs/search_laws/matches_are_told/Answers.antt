use Rattle.hir_regex.proofs.MatchLemmas.{match_is_told}
use Rattle.hir_regex.proofs.search_laws.matches_are_told.Goals as goal

pub returns : goal.returns
returns c = match_is_told
