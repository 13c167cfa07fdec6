use Rattle.std.proofs.Common.{false}
use Rattle.search_core.specs.Text.{byte_before}
use Rattle.determinize_core.proofs.DecidedLemmas.{looks_forward, crlf_forward, known_half, known_word}
use Rattle.determinize_core.proofs.start_laws.what_is_decided_forward_is_known.Goals as goal

pub returns-clause-looks : goal.returns-clause-looks
returns-clause-looks c = looks_forward

pub returns-clause-crlf : goal.returns-clause-crlf
returns-clause-crlf c = crlf_forward

pub returns-clause-half : goal.returns-clause-half
returns-clause-half c = λ looks t h i m. known_half looks false t (byte_before h i) m

pub returns-clause-word : goal.returns-clause-word
returns-clause-word c = λ looks t h i m. known_word looks false t (byte_before h i) m
