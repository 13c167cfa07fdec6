use Rattle.std.proofs.Common.{true}
use Rattle.search_core.specs.Text.{byte_at}
use Rattle.determinize_core.proofs.DecidedLemmas.{looks_in_reverse, crlf_in_reverse, known_half, known_word}
use Rattle.determinize_core.proofs.start_laws.what_is_decided_in_reverse_is_known.Goals as goal

pub returns-clause-looks : goal.returns-clause-looks
returns-clause-looks c = looks_in_reverse

pub returns-clause-crlf : goal.returns-clause-crlf
returns-clause-crlf c = crlf_in_reverse

pub returns-clause-half : goal.returns-clause-half
returns-clause-half c = λ looks t h i m. known_half looks true t (byte_at h i) m

pub returns-clause-word : goal.returns-clause-word
returns-clause-word c = λ looks t h i m. known_word looks true t (byte_at h i) m
