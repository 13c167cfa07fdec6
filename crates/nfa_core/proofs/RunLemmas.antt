-- The ends of runs: the first is that of the most preferred run, and each end of a run is among them.
use Rattle.std.proofs.Common.{◌≡◌, ℕ, ◌<◌, ◌≤◌, true, false, Bool, List, [], ◌∷◌, ◌++◌, length, refl, sym, ap, ◌∙◌, arith, ⊎_elim, Option}
use Rattle.std.proofs.Common.{Some, None, subst}
use Rattle.std.proofs.lemmas.Bool.{cases_Bool}
use Rattle.std.proofs.lemmas.List.{append-nil}
use Rattle.std.proofs.lemmas.List.Elements.{filter-append}
use Rattle.std.specs.List.{filter}
use Rattle.std.specs.Option.{option_to_list}
use Rattle.nfa_core.specs.Walks.{has, Has, join, distinct, chain_ends, Visits, HasNoneTwice, IsEquality, IsFinite}
use Rattle.nfa_core.specs.Runs.{IsChain, last_or, IsRun, IsMostPreferred, answers, run_ends, wanted_answer}
use Rattle.nfa_core.specs.Places.{first}
use Rattle.nfa_core.proofs.MemberLemmas.{none_in, has_or_not, not_both, of_cons}
use Rattle.nfa_core.proofs.JoinLemmas.{join_flat_map}
use Rattle.nfa_core.proofs.WalkLemmas.{walk_is_join}
use Rattle.nfa_core.proofs.ChainLemmas.{chain_of, once_of, keeps_off, stays_in}
use Rattle.nfa_core.proofs.PreferenceLemmas.{option_cases, best, Best, Short}

-- ---- the first of a list

first_kept : {A : Type 0} (same : A → A → Bool) (s : A) (seen xs : List A) → first (join same (s ∷ seen) xs) ≡ Some s
first_kept same s seen [] = refl
first_kept same s seen (x ∷ xs) = ⊎_elim
    (λ (e : has same x (s ∷ seen) ≡ true). rw e (first_kept same s seen xs))
    (λ (e : has same x (s ∷ seen) ≡ false). rw e (first_kept same s (seen ++ x ∷ []) xs)) (has_or_not same x (s ∷ seen))

pub first_distinct : {A : Type 0} (same : A → A → Bool) (xs : List A) → first (distinct same xs) ≡ first xs
first_distinct same [] = refl
first_distinct same (x ∷ xs) = first_kept same x [] xs

-- ---- a part of a list that a test keeps

pub has_filter : {A : Type 0} (same : A → A → Bool) → IsEquality same → (p : A → Bool) (x : A) (xs : List A) → p x ≡ true →
    has same x (filter p xs) ≡ has same x xs
has_filter same laws p x [] h = refl
has_filter same laws p x (y ∷ ys) h = ⊎_elim
    (λ (e : p y ≡ true). ⊎_elim (λ (i : same x y ≡ true). rw (e, i)) (λ (i : same x y ≡ false). rw (e, i) (has_filter same laws p x ys h))
    (cases_Bool (same x y)))
    (λ (e : p y ≡ false). ⊎_elim
    (λ (i : same x y ≡ true). let k : x ≡ y = (laws x y).0 i in not_both (p y) _ (sym (ap p k) ∙ h) e)
    (λ (i : same x y ≡ false). rw (e, i) (has_filter same laws p x ys h)) (cases_Bool (same x y))) (cases_Bool (p y))

pub filter_join : {A : Type 0} (same : A → A → Bool) → IsEquality same → (p : A → Bool) (seen xs : List A) →
    filter p (join same seen xs) ≡ join same (filter p seen) (filter p xs)
filter_join same laws p seen [] = refl
filter_join same laws p seen (x ∷ xs) = ⊎_elim
    (λ (e : has same x seen ≡ true). rw e (filter_join same laws p seen xs ∙ ⊎_elim
    (λ (i : p x ≡ true). let there : has same x (filter p seen) ≡ true = has_filter same laws p x seen i ∙ e in rw (i, there))
    (λ (i : p x ≡ false). rw i) (cases_Bool (p x))))
    (λ (e : has same x seen ≡ false). rw e (filter_join same laws p (seen ++ x ∷ []) xs
    ∙ ap (λ l. join same l (filter p xs)) (filter-append p seen (x ∷ [])) ∙ ⊎_elim
    (λ (i : p x ≡ true). let absent : has same x (filter p seen) ≡ false = has_filter same laws p x seen i ∙ e in rw (i, absent))
    (λ (i : p x ≡ false). rw i (ap (λ l. join same l (filter p xs)) (append-nil (filter p seen)))) (cases_Bool (p x))))
    (has_or_not same x seen)

filter_option : {B : Type 0} (wanted : B → Bool) (o : Option B) (l : List B) →
    option_to_list (wanted_answer wanted o) ++ filter wanted l ≡ filter wanted (option_to_list o ++ l)
filter_option wanted None l = refl
filter_option wanted (Some e) l = ⊎_elim (λ (i : wanted e ≡ true). rw i) (λ (i : wanted e ≡ false). rw i) (cases_Bool (wanted e))

filter_answers : {A B : Type 0} (wanted : B → Bool) (answer : A → Option B) (xs : List A) →
    answers (λ x. wanted_answer wanted (answer x)) xs ≡ filter wanted (answers answer xs)
filter_answers wanted answer [] = refl
filter_answers wanted answer (x ∷ xs) = ap (λ l. option_to_list (wanted_answer wanted (answer x)) ++ l) (filter_answers wanted answer xs)
    ∙ filter_option wanted (answer x) (answers answer xs)

wanted_is : {B : Type 0} (wanted : B → Bool) (o : Option B) (e : B) → wanted_answer wanted o ≡ Some e → o ≡ Some e
wanted_is wanted None e h = h
wanted_is wanted (Some d) e h = ⊎_elim (λ (i : wanted d ≡ true). rw i at h)
    (λ (i : wanted d ≡ false). let g : None ≡ Some e = (rw i at h) in cc) (cases_Bool (wanted d))

is_wanted : {B : Type 0} (wanted : B → Bool) (o : Option B) (e : B) → wanted e ≡ true → o ≡ Some e → wanted_answer wanted o ≡ Some e
is_wanted wanted o e t h = rw (h, t)

-- the first member that equals e is e
first_same : {B : Type 0} (same : B → B → Bool) → IsEquality same → (e : B) (l : List B) → Has same e l → first (filter (same e) l) ≡ Some e
first_same same laws e [] h = none_in same e _ h
first_same same laws e (x ∷ l) h = ⊎_elim (λ (i : same e x ≡ true). let k : e ≡ x = (laws e x).0 i in rw i (ap (λ y. Some y) (sym k)))
    (λ (i : same e x ≡ false). let g : Has same e l = (rw i at h) in rw i (first_same same laws e l g)) (cases_Bool (same e x))

first_in : {B : Type 0} (same : B → B → Bool) → IsEquality same → (e d : B) (l : List B) → first (filter (same e) l) ≡ Some d → Has same e l
first_in same laws e d [] h = cc
first_in same laws e d (x ∷ l) h = ⊎_elim (λ (i : same e x ≡ true). rw i)
    (λ (i : same e x ≡ false). let g : first (filter (same e) l) ≡ Some d = (rw i at h) in
    rw i (first_in same laws e d l g)) (cases_Bool (same e x))

module _ {A B : Type 0} (same : A → A → Bool) (laws : IsEquality same) (same_end : B → B →
    Bool) (laws_end : IsEquality same_end) (ways : A → List A) where
  module _ (In : A → Type 0) (n : ℕ) (finite : IsFinite same ways In n) (p : A) (here : In p) where
    shorter : (r : List A) → IsChain same ways p r → HasNoneTwice same (p ∷ r) → length r < n
    shorter r chain once = let l : length (p ∷ r) ≤ n = finite.room (p ∷ r) (stays_in same laws ways In n finite p r here chain) once in
        omega (arith, l)

    short : (answer : A → Option B) (s : List A) (d : B) → IsRun same ways answer p s d → Short same laws ways answer n [] p s d
    short answer s d run = (keeps_off same laws ways [] p s run.0 run.1 (λ z h. refl), run.2, shorter s run.0 run.1)

    pub first_is_most_preferred : (answer : A → Option B) → IsMostPreferred same ways answer p
        (first (run_ends same same_end ways answer n p))
    first_is_most_preferred answer =
        let xs : List B = answers answer (chain_ends same ways n [] p) in
        let Goal : Option B → Type 0 = λ o. IsMostPreferred same ways answer p o in
        let there : Best same laws ways answer n [] p (first xs) = best same laws ways answer n [] p in
        subst Goal (sym (first_distinct same_end xs)) (⊎_elim
        (λ (none : first xs ≡ None). let all = rw none at there in rw none (λ s d run. all s d (short answer s d run)))
        (λ (some : (e : B) × (first xs ≡ Some e)). let one = rw some.1 at there in
        rw some.1 (
          one.0,
          (chain_of same laws ways [] p one.0 one.1, once_of same laws ways [] p one.0 one.1, one.2),
          λ s d run. one.3 s d (short answer s d run),
        ))
        (option_cases (first xs)))

    pub wanted_ends : (answer : A → Option B) (wanted : B → Bool) →
        run_ends same same_end ways (λ x. wanted_answer wanted (answer x)) n p ≡ filter wanted (run_ends same same_end ways answer n p)
    wanted_ends answer wanted =
        let ends : List A = chain_ends same ways n [] p in
        ap (distinct same_end) (filter_answers wanted answer ends) ∙ sym (filter_join same_end laws_end wanted [] (answers answer ends))

    -- each end that is listed is that of a run
    pub listed_is_run : (answer : A → Option B) (e : B) → Has same_end e (run_ends same same_end ways answer n p) → (r : List A) ×
        IsRun same ways answer p r e
    listed_is_run answer e h =
        let l : List B = run_ends same same_end ways answer n p in
        let is : first (run_ends same same_end ways (λ x. wanted_answer (same_end e) (answer x)) n p) ≡ Some e =
        ap first (wanted_ends answer (same_end e)) ∙ first_same same_end laws_end e l h in
        let run = rw is at (first_is_most_preferred (λ x. wanted_answer (same_end e) (answer x))) in
        (run.0, (run.1.0, run.1.1, wanted_is (same_end e) (answer (last_or p run.0)) e run.1.2))

    pub run_is_listed : (answer : A → Option B) (e : B) (r : List A) → IsRun same ways answer p r e →
        Has same_end e (run_ends same same_end ways answer n p)
    run_is_listed answer e r run =
        let l : List B = run_ends same same_end ways answer n p in
        let wanted : A → Option B = λ x. wanted_answer (same_end e) (answer x) in
        let is : first (run_ends same same_end ways wanted n p) ≡ first (filter (same_end e) l) =
        ap first (wanted_ends answer (same_end e)) in
        let self : same_end e e ≡ true = (laws_end e e).1 refl in
        ⊎_elim
        (λ (none : first (run_ends same same_end ways wanted n p) ≡ None).
        let no_run = rw none at (first_is_most_preferred wanted) in
        absurd (no_run r e (run.0, run.1, is_wanted (same_end e) (answer (last_or p r)) e self run.2)))
        (λ (some : (d : B) × (first (run_ends same same_end ways wanted n p) ≡ Some d)). first_in same_end laws_end e some.0 l (sym is
        ∙ some.1))
        (option_cases (first (run_ends same same_end ways wanted n p)))

    -- the answers that a depth-first search with one set finds, repeats dropped, are the ends of runs
    pub walk_ends : (answer : A → Option B) (after : List A) → Visits same ways (p ∷ []) [] after →
        distinct same_end (answers answer after) ≡ run_ends same same_end ways answer n p
    walk_ends answer after visits =
        let is : after ≡ join same [] (chain_ends same ways n [] p ++ []) =
        walk_is_join same laws ways In n finite (p ∷ []) [] after (of_cons same laws In p [] here (λ q h. none_in same q _ h))
        (λ y h. none_in same y _ h) visits in
        ap (λ l. distinct same_end (answers answer l)) (is ∙ ap (join same []) (append-nil (chain_ends same ways n [] p)))
        ∙ join_flat_map same laws same_end laws_end (λ x. option_to_list (answer x)) [] [] (chain_ends same ways n [] p)
