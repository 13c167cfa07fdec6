use Rattle.std.proofs.Common.{sym, subst}
use Rattle.determinize_core.specs.States.{StateValue}
use Rattle.lazy_dfa.specs.Caches.{HeldAt}
use Rattle.lazy_dfa.proofs.CacheChanges.ChangeLemmas.{one_id}
use Rattle.lazy_dfa.proofs.laws.cache_laws.rows_name_different_states.Goals as goal

pub returns : goal.returns
returns c = λ d v i j s t own held there apart same. apart (one_id v i j s own.shape held
    (subst (λ (x : StateValue). HeldAt v j x) (sym same) there))
