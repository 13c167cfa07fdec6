use Rattle.std.proofs.Common.{◌≡◌, true}
use Rattle.search_types.proofs.ChainLemmas.{chains_begin_the_list, whole_chains_are_the_list}
use Rattle.search_types.proofs.all_answers_laws.chains_are_the_list.Goals as goal

pub returns-clause-begins : goal.returns-clause-begins
returns-clause-begins c = λ reported answer low s e fs one ok from l chain. chains_begin_the_list answer low e
    (λ k o. reported k o ≡ true) one ok s fs from l chain

pub returns-clause-whole : goal.returns-clause-whole
returns-clause-whole c = λ reported answer low s e fs one ok from l chain. whole_chains_are_the_list answer low e
    (λ k o. reported k o ≡ true) one ok s fs from l chain
