use Rattle.nfa_core.proofs.SameTextLemmas.{looks_alike, ways_alike, ends_alike}
use Rattle.nfa_core.proofs.laws.nfa_laws.texts_of_one_class_are_followed_alike.Goals as goal

pub returns-clause-looks : goal.returns-clause-looks
returns-clause-looks c = λ a t marks h g l i sound has low_h low_g classes there. looks_alike a t marks h g sound has low_h low_g classes 0
    0 l there i

pub returns-clause-ways : goal.returns-clause-ways
returns-clause-ways c = λ a t marks h g start end p sound has low_h low_g classes. ways_alike a t marks h g sound has low_h low_g classes
    start end p

pub returns-clause-ends : goal.returns-clause-ends
returns-clause-ends c = λ a t marks h g start end p sound has low_h low_g classes. ends_alike a t marks h g sound has low_h low_g classes
    start end p
