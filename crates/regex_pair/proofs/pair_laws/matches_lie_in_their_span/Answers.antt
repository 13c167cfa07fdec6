use Rattle.regex_pair.proofs.JoinedLemmas.{match_lies}
use Rattle.regex_pair.proofs.pair_laws.matches_lie_in_their_span.Goals as goal

pub returns : goal.returns
returns c = match_lies
