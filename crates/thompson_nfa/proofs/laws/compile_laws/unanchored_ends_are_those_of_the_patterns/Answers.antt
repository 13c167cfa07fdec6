use Rattle.thompson_nfa.proofs.CallerLemmas.{unanchored_by_patterns}
use Rattle.thompson_nfa.proofs.laws.compile_laws.unanchored_ends_are_those_of_the_patterns.Goals as goal

pub returns : goal.returns
returns c = unanchored_by_patterns
