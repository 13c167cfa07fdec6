-- The lists of states that one depth-first search for each position makes. Uncut, they are the joins of what arrives. Cut after the first
-- match, their latest match is that of the most preferred run.
use Rattle.std.proofs.Common.{◌≡◌, ℕ, zero, suc, ◌+◌, ◌*◌, ◌<◌, ◌≤◌, Bool, List, [], ◌∷◌, ◌++◌, refl, sym, ap, ◌∙◌, arith, ⊎_elim, Option}
use Rattle.std.proofs.Common.{Some, None}
use Rattle.std.proofs.lemmas.List.{append-nil}
use Rattle.std.specs.List.{flat_map}
use Rattle.std.specs.Option.{option_or, option_to_list}
use Rattle.std.specs.Bool.{nat_eq}
use Rattle.nfa_core.specs.Walks.{Has, chain_ends, join, Visits, done, held, fresh, IsEquality}
use Rattle.nfa_core.specs.Runs.{answers, run_ends}
use Rattle.nfa_core.specs.Places.{same_pair, nexts, StaysBelow, arrivals, AreStepLists, before_answer, answers_at, first, latest, IsGraph}
use Rattle.nfa_core.proofs.MemberLemmas.{none_in, has_first, has_later, of_cons, of_push, of_flat_map, flat_map_same, flat_map_twice}
use Rattle.nfa_core.proofs.JoinLemmas.{join_flat_map}
use Rattle.nfa_core.proofs.WalkLemmas.{walk_is_join}
use Rattle.nfa_core.proofs.PreferenceLemmas.{first_append, option_cases}
use Rattle.nfa_core.proofs.RunLemmas.{first_distinct}
use Rattle.nfa_core.proofs.PairLemmas.{names_equal, finite_names}
use Rattle.nfa_core.proofs.PlaceLemmas.{here, beyond, found, ends_by_offset}

pub stays : (ways : ℕ → List ℕ) (n : ℕ) → StaysBelow n ways → {stack seen after : List ℕ} → Visits nat_eq ways stack seen after →
    ((q : ℕ) → Has nat_eq q stack → q < n) → ((q : ℕ) → Has nat_eq q seen → q < n) → (q : ℕ) → Has nat_eq q after → q < n
stays ways n below (done seen after e) inside low q h = low q (rw e h)
stays ways n below (held x stack seen after there rest) inside low q h =
    stays ways n below rest (λ p g. inside p (has_later nat_eq p x stack g)) low q h
stays ways n below (fresh x stack seen mid after absent one two) inside low q h =
    let x_low : x < n = inside x (has_first nat_eq names_equal x stack) in
    stays ways n below two (λ p g. inside p (has_later nat_eq p x stack g))
    (stays ways n below one (below x x_low) (of_push nat_eq names_equal (λ p. p < n) seen x low x_low)) q h

or_assoc : {A : Type 0} (a b c : Option A) → option_or (option_or a b) c ≡ option_or a (option_or b c)
or_assoc None b c = refl
or_assoc (Some x) b c = refl

-- repeats below a flat_map do not change its first member
pub first_flat_map : {B : Type 0} (same : B → B → Bool) → IsEquality same → (g : ℕ → List B) (xs : List ℕ) →
    first (flat_map g (join nat_eq [] xs)) ≡ first (flat_map g xs)
first_flat_map same laws g xs = sym (first_distinct same (flat_map g (join nat_eq [] xs)))
    ∙ ap first (join_flat_map nat_eq names_equal same laws g [] [] xs)
    ∙ first_distinct same (flat_map g xs)

-- the runs that go on from states before the first match come before it, and all others after it
cut_first : {B : Type 0} (answer : ℕ → Option B) (r : ℕ → List B) (xs : List ℕ) →
    option_or (first (flat_map r (before_answer answer xs))) (first (answers answer xs)) ≡ first
    (flat_map (λ y. option_to_list (answer y) ++ r y) xs)
cut_first {B} answer r [] = refl
cut_first {B} answer r (x ∷ xs) = ⊎_elim
    (λ (e : answer x ≡ None). rw e
    (ap (λ o. option_or o (first (answers answer xs))) (first_append (r x) (flat_map r (before_answer answer xs)))
    ∙ or_assoc (first (r x)) (first (flat_map r (before_answer answer xs))) (first (answers answer xs))
    ∙ ap (λ o. option_or (first (r x)) o) (cut_first answer r xs)
    ∙ sym (first_append (r x) (flat_map (λ y. option_to_list (answer y) ++ r y) xs))))
    (λ (some : (d : B) × (answer x ≡ Some d)). rw some.1 refl) (option_cases (answer x))

has_before : {B : Type 0} (answer : ℕ → Option B) (xs : List ℕ) (q : ℕ) → Has nat_eq q (before_answer answer xs) → Has nat_eq q xs
has_before answer [] q h = h
has_before {B} answer (x ∷ xs) q h = ⊎_elim
    (λ (e : answer x ≡ None). let g : Has nat_eq q (x ∷ before_answer answer xs) = (rw e at h) in
    of_cons nat_eq names_equal (λ p. Has nat_eq p (x ∷ xs)) x (before_answer answer xs) (has_first nat_eq names_equal x xs)
    (λ p there. has_later nat_eq p x xs (has_before answer xs p there)) q g)
    (λ (some : (d : B) × (answer x ≡ Some d)). none_in nat_eq q _ (rw some.1 at h)) (option_cases (answer x))

module _ (eps step : ℕ → ℕ → List ℕ) (n len : ℕ) (graph : IsGraph eps step n len) where
  pub place : (k : ℕ) (xs list : List ℕ) → Visits nat_eq (eps k) xs [] list → ((q : ℕ) → Has nat_eq q xs → q < n) →
      list ≡ join nat_eq [] (flat_map (chain_ends nat_eq (eps k) n []) xs)
  place k xs list v low = walk_is_join nat_eq names_equal (eps k) (λ q. q < n) n (finite_names n (eps k) (graph.eps_below k)) xs [] list low
      (λ y h. none_in nat_eq y _ h) v

  pub stepped_low : (k : ℕ) (xs : List ℕ) → ((q : ℕ) → Has nat_eq q xs → q < n) → (q : ℕ) → Has nat_eq q (flat_map (step k) xs) → q < n
  stepped_low k xs low = of_flat_map nat_eq names_equal nat_eq (step k) (λ p. p < n) xs
      (λ x there q h. graph.step_below k x (low x there) q h)

  pub one_low : (start : ℕ) → start < n → (q : ℕ) → Has nat_eq q (start ∷ []) → q < n
  one_low start low = of_cons nat_eq names_equal (λ q. q < n) start [] low (λ q h. none_in nat_eq q _ h)

  module _ (start : ℕ) (start_low : start < n) (lists : ℕ → List ℕ) (listed : AreStepLists eps step (λ k xs. xs) len start lists) where
    lists_low : (k : ℕ) → k ≤ len → (q : ℕ) → Has nat_eq q (lists k) → q < n
    lists_low zero h = stays (eps 0) n (graph.eps_below 0) listed.first (one_low start start_low) (λ q g. none_in nat_eq q _ g)
    lists_low (suc k) h = stays (eps (suc k)) n (graph.eps_below (suc k)) (listed.later k (omega (arith, h)))
        (stepped_low k (lists k) (lists_low k (omega (arith, h)))) (λ q g. none_in nat_eq q _ g)

    -- the list at a position is the join of what arrives there
    pub lists_are_joins : (k : ℕ) → k ≤ len → lists k ≡ join nat_eq [] (arrivals eps step n start k)
    lists_are_joins zero h = place 0 (start ∷ []) (lists 0) listed.first (one_low start start_low)
        ∙ ap (join nat_eq []) (append-nil (chain_ends nat_eq (eps 0) n [] start))
    lists_are_joins (suc k) h =
        let ends : ℕ → List ℕ = chain_ends nat_eq (eps (suc k)) n [] in
        let arrived : List ℕ = arrivals eps step n start k in
        place (suc k) (flat_map (step k) (lists k)) (lists (suc k)) (listed.later k (omega (arith, h)))
        (stepped_low k (lists k) (lists_low k (omega (arith, h))))
        ∙ ap (λ l. join nat_eq [] (flat_map ends (flat_map (step k) l))) (lists_are_joins k (omega (arith, h)))
        ∙ ap (join nat_eq []) (flat_map_twice ends (step k) (join nat_eq [] arrived))
        ∙ join_flat_map nat_eq names_equal nat_eq names_equal (λ y. flat_map ends (step k y)) [] [] arrived
        ∙ ap (join nat_eq []) (sym (flat_map_twice ends (step k) arrived))

  module _ {B : Type 0} (same_end : B → B → Bool) (laws_end : IsEquality same_end) (answer : ℕ × ℕ → Option B) where
    no_more : (k : ℕ) (xs : List ℕ) → flat_map (found eps step answer n 0 k) xs ≡ answers_at answer k xs
    no_more k xs = flat_map_same nat_eq names_equal (found eps step answer n 0 k) (here eps step answer n k) xs
        (λ y h. append-nil (here eps step answer n k y))

    module _ (start : ℕ) (lists : ℕ → List ℕ)
        (listed : AreStepLists eps step (λ k xs. before_answer (λ x. answer (k, x)) xs) len start lists)
      where
        latest_from : (d k : ℕ) (xs : List ℕ) → k + d ≤ len → ((q : ℕ) → Has nat_eq q xs → q < n) → Visits nat_eq (eps k) xs [] (lists k) →
            latest answer lists d k ≡ first (flat_map (found eps step answer n d k) (flat_map (chain_ends nat_eq (eps k) n []) xs))
        latest_from zero k xs h low v =
            let arrived : List ℕ = flat_map (chain_ends nat_eq (eps k) n []) xs in
            ap (λ l. first (answers_at answer k l)) (place k xs (lists k) v low)
            ∙ first_flat_map same_end laws_end (here eps step answer n k) arrived
            ∙ ap first (sym (no_more k arrived))
        latest_from (suc d) k xs h low v =
            let arrived : List ℕ = flat_map (chain_ends nat_eq (eps k) n []) xs in
            let list_low : (q : ℕ) → Has nat_eq q (lists k) → q < n = stays (eps k) n (graph.eps_below k) v low
            (λ q g. none_in nat_eq q _ g) in
            let before : List ℕ = before_answer (λ x. answer (k, x)) (lists k) in
            let ends : ℕ → List ℕ = chain_ends nat_eq (eps (suc k)) n [] in
            let r : ℕ → List B = beyond eps step answer n (suc d) k in
            let later : latest answer lists d (suc k) ≡ first (flat_map (found eps step answer n d (suc k))
            (flat_map ends (flat_map (step k) before))) =
            latest_from d (suc k) (flat_map (step k) before) (omega (arith, h))
            (stepped_low k before (λ q there. list_low q (has_before (λ x. answer (k, x)) (lists k) q there)))
            (listed.later k (omega (arith, h))) in
            ap (λ o. option_or o (first (answers_at answer k (lists k))))
            (later ∙ ap (λ l. first (flat_map (found eps step answer n d (suc k)) l)) (flat_map_twice ends (step k) before)
            ∙ ap first (flat_map_twice (found eps step answer n d (suc k)) (λ y. flat_map ends (step k y)) before))
            ∙ cut_first (λ x. answer (k, x)) r (lists k)
            ∙ ap (λ l. first (flat_map (found eps step answer n (suc d) k) l)) (place k xs (lists k) v low)
            ∙ first_flat_map same_end laws_end (found eps step answer n (suc d) k) arrived

        -- leftmost-first: the latest match is that of the most preferred run
        pub latest_is_first : start < n → latest answer lists len 0 ≡ first
            (run_ends same_pair same_end (nexts eps step) answer (suc len * n) (0, start))
        latest_is_first start_low =
            latest_from len 0 (start ∷ []) (omega arith) (one_low start start_low) listed.first
            ∙ ap (λ l. first (flat_map (found eps step answer n len 0) l)) (append-nil (chain_ends nat_eq (eps 0) n [] start))
            ∙ ap first (sym (ends_by_offset eps step answer n len graph start start_low))
            ∙ sym (first_distinct same_end (answers answer (chain_ends same_pair (nexts eps step) (suc len * n) [] (0, start))))
