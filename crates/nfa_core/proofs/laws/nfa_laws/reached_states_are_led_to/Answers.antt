use Rattle.nfa_core.proofs.ReachLawLemmas.{led, comes}
use Rattle.nfa_core.proofs.laws.nfa_laws.reached_states_are_led_to.Goals as goal

pub returns-clause-led : goal.returns-clause-led
returns-clause-led c = λ a q sound h. led a sound q h

pub returns-clause-all : goal.returns-clause-all
returns-clause-all c = λ a q s r sound there chain e. comes a sound q s r there chain e
