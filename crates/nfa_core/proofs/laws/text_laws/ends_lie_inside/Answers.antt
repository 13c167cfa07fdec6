use Rattle.nfa_core.proofs.InsideLemmas.{ends_inside, inside_forward, inside_reverse}
use Rattle.nfa_core.proofs.laws.text_laws.ends_lie_inside.Goals as goal

pub returns-clause-reached : goal.returns-clause-reached
returns-clause-reached c = λ a t i q e formed pair h. ends_inside a t i q formed pair e h

pub returns-clause-is_forward : goal.returns-clause-is_forward
returns-clause-is_forward c = λ a t i q e formed pair up h. inside_forward a t i e.0 up pair.0 (ends_inside a t i q formed pair e h)

pub returns-clause-is_reverse : goal.returns-clause-is_reverse
returns-clause-is_reverse c = λ a t i q e formed pair is_reverse here h. inside_reverse a t i e.0 is_reverse here
    (ends_inside a t i q formed pair e h)
