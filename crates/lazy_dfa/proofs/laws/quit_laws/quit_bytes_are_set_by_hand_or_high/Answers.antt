use Rattle.lazy_dfa.proofs.Automata.QuitSetLemmas.{quits_by_hand, quits_of_ascii, quits_of_high, quits_off, quits_len}
use Rattle.lazy_dfa.proofs.laws.quit_laws.quit_bytes_are_set_by_hand_or_high.Goals as goal

pub returns-clause-by_hand : goal.returns-clause-by_hand
returns-clause-by_hand c = λ a boundaries set b l e. quits_by_hand a boundaries set b l e

pub returns-clause-ascii : goal.returns-clause-ascii
returns-clause-ascii c = λ a boundaries set b l. quits_of_ascii a boundaries set b l

pub returns-clause-high : goal.returns-clause-high
returns-clause-high c = λ a set b unicode from to. quits_of_high a set b unicode from to

pub returns-clause-off : goal.returns-clause-off
returns-clause-off c = λ a set. quits_off a set

pub returns-clause-len : goal.returns-clause-len
returns-clause-len c = λ a boundaries set e. quits_len a boundaries set e
