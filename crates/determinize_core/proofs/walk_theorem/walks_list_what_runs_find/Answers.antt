use Rattle.determinize_core.proofs.HaystackLemmas.{all_are_listed, one_is_listed, end_is_told, none_is_told}
use Rattle.determinize_core.proofs.walk_theorem.walks_list_what_runs_find.Goals as goal

pub returns-clause-all : goal.returns-clause-all
returns-clause-all c = λ a t q behind bytes states formed low are k v there. all_are_listed a t q behind bytes states formed low are k v
    there

pub returns-clause-one : goal.returns-clause-one
returns-clause-one c = λ a t q behind bytes states are k v there. one_is_listed a t q behind bytes states are k v there

pub returns-clause-some : goal.returns-clause-some
returns-clause-some c = λ a t q behind bytes states formed low are j p is. end_is_told a t q behind bytes states are formed low j p is

pub returns-clause-none : goal.returns-clause-none
returns-clause-none c = λ a t q behind bytes states formed low are none k v there. none_is_told a t q behind bytes states are formed low
    none k v there
