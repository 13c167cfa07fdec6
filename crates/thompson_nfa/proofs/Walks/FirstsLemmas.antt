-- Lists that are equal with repeats dropped.
use Rattle.std.proofs.Common.{◌≡◌, ℕ, List, [], ◌∷◌, ◌++◌, sym, ap, ◌∙◌, refl}
use Rattle.std.specs.Bool.{nat_eq}
use Rattle.std.specs.List.{flat_map}
use Rattle.nfa_core.specs.Walks.{join, distinct}
use Rattle.nfa_core.specs.Places.{same_pair}
use Rattle.nfa_core.proofs.ForCallers.{join-append, join_flat_map, pairs_equal, names_equal}
use Rattle.thompson_nfa.specs.Denotes.{HasSameFirsts}

pub same_firsts_trans : (k l m : List (ℕ × ℕ)) → HasSameFirsts k l → HasSameFirsts l m → HasSameFirsts k m
same_firsts_trans k l m a b = a ∙ b

abbrev one_each : ℕ × ℕ → List (ℕ × ℕ)
one_each p = p ∷ []

each_once : (l : List (ℕ × ℕ)) → flat_map one_each l ≡ l
each_once [] = refl
each_once (p ∷ l) = ap (λ (m : List (ℕ × ℕ)). p ∷ m) (each_once l)

-- repeats that are joined to others do not show
join_distinct : (seen l : List (ℕ × ℕ)) → join same_pair seen (distinct same_pair l) ≡ join same_pair seen l
join_distinct seen l =
    ap (join same_pair seen) (sym (each_once (distinct same_pair l)))
    ∙ join_flat_map same_pair pairs_equal same_pair pairs_equal one_each seen [] l
    ∙ ap (join same_pair seen) (each_once l)

pub same_firsts_append : (k l m n : List (ℕ × ℕ)) → HasSameFirsts k l → HasSameFirsts m n → HasSameFirsts (k ++ m) (l ++ n)
same_firsts_append k l m n a b =
    join-append same_pair [] k m
    ∙ ap (λ (seen : List (ℕ × ℕ)). join same_pair seen m) a
    ∙ sym (join_distinct (distinct same_pair l) m)
    ∙ ap (join same_pair (distinct same_pair l)) b
    ∙ join_distinct (distinct same_pair l) n
    ∙ sym (join-append same_pair [] l n)

-- what is listed for each of several offsets, with repeats of the offsets dropped
distinct_places : (lists : ℕ → List (ℕ × ℕ)) (js : List ℕ) → distinct same_pair (flat_map lists (distinct nat_eq js)) ≡ distinct same_pair
    (flat_map lists js)
distinct_places lists js = join_flat_map nat_eq names_equal same_pair pairs_equal lists [] [] js

pub same_firsts_each : (lists : ℕ → List (ℕ × ℕ)) (js ks : List ℕ) → distinct nat_eq js ≡ distinct nat_eq ks →
    HasSameFirsts (flat_map lists js) (flat_map lists ks)
same_firsts_each lists js ks e =
    sym (distinct_places lists js) ∙ ap (λ (places : List ℕ). distinct same_pair (flat_map lists places)) e ∙ distinct_places lists ks
