use Rattle.search_core.proofs.CutLemmas.{first_decodes, last_decodes}
use Rattle.search_core.proofs.utf8_laws.spellings_decode.Goals as goal

pub returns-clause-first : goal.returns-clause-first
returns-clause-first c = first_decodes

pub returns-clause-last : goal.returns-clause-last
returns-clause-last c = last_decodes
