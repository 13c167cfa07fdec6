use Rattle.nfa_core.proofs.LatestLemmas.{lists_are_joins}
use Rattle.nfa_core.proofs.laws.place_laws.lists_join_what_arrives.Goals as goal

pub returns : goal.returns
returns c = λ eps step n len start lists graph below listed k h. lists_are_joins eps step n len graph start below lists listed k h
