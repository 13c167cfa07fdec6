use Rattle.search_core.proofs.CharacterLemmas.{read_at_once, reads_at, read_before_once, reads_before}
use Rattle.search_core.proofs.utf8_laws.what_decode_reads.Goals as goal

pub returns-clause-behind : goal.returns-clause-behind
returns-clause-behind c = read_at_once

pub returns-clause-behind_decodes : goal.returns-clause-behind_decodes
returns-clause-behind_decodes c = reads_at

pub returns-clause-before : goal.returns-clause-before
returns-clause-before c = read_before_once

pub returns-clause-before_decodes : goal.returns-clause-before_decodes
returns-clause-before_decodes c = reads_before
