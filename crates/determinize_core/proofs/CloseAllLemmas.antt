-- Depth-first searches from several states, one after another, into a set that was empty.
use Rattle.std.proofs.Common.{◌≡◌, ℕ, zero, suc, ◌+◌, ◌<◌, ◌≤◌, true, false, Bool, not, List, [], ◌∷◌, ◌++◌, length, drop, refl, sym, ap}
use Rattle.std.proofs.Common.{◌∙◌, arith, ⊎_elim, subst, cond, append_assoc, append-nil, All}
use Rattle.std.proofs.lemmas.Bool.{cases_Bool}
use Rattle.std.proofs.lemmas.List.Sums.{sum_by-append, sum_by-cons}
use Rattle.std.proofs.lemmas.Map.Steps.{length-le_from_distinct_below}
use Rattle.std.proofs.Math.Seq.{drop-append_seam}
use Rattle.std.specs.Bool.{nat_eq}
use Rattle.std.specs.List.{sum_by, flat_map, IsDistinct, AllByRecursion}
use Rattle.look_core.specs.LookSets.{has_look}
use Rattle.nfa_core.specs.Walks.{has, Has, HasNoneTwice, join, distinct, chain_ends, Visits, done, held, fresh}
use Rattle.nfa_core.specs.Nfa.{Node, byte_range, sparse_node, dense_node, look_node, union_node, binary_union, capture_node, fail_node}
use Rattle.nfa_core.specs.Nfa.{match_node, Automaton, node_at, IsWellFormed}
use Rattle.nfa_core.specs.NfaValue.{free_steps}
use Rattle.nfa_core.specs.Ways.{on_nothing}
use Rattle.nfa_core.specs.Reached.{AreBelow}
use Rattle.nfa_core.proofs.ForCallers.{none_in, not_both, has_cons, has_first, has_later, of_cons, of_flat_map, join_once, of_join}
use Rattle.nfa_core.proofs.ForCallers.{names_equal, has_from_all, joined, chains_met}
use Rattle.determinize_core.specs.Costs.{known_ways, free_ways, sum_below}
use Rattle.determinize_core.specs.Steps.{known_steps, closed}
use Rattle.determinize_core.proofs.ClosureLemmas.{known_below}

-- ---- lists without repeats

-- the list without a number
abbrev pub but : ℕ → List ℕ → List ℕ
but n [] = []
but n (x ∷ xs) = cond (nat_eq x n) (but n xs) (x ∷ but n xs)

but_has : (n q : ℕ) (xs : List ℕ) → Has nat_eq q (but n xs) → Has nat_eq q xs
but_has n q [] h = h
but_has n q (x ∷ xs) h = ⊎_elim
    (λ (e : nat_eq x n ≡ true). let g : Has nat_eq q (but n xs) = (rw e at h) in has_later nat_eq q x xs (but_has n q xs g))
    (λ (e : nat_eq x n ≡ false). let g : Has nat_eq q (x ∷ but n xs) = (rw e at h) in
    of_cons nat_eq names_equal (λ p. Has nat_eq p (x ∷ xs)) x (but n xs) (has_first nat_eq names_equal x xs)
    (λ p i. has_later nat_eq p x xs (but_has n p xs i)) q g) (cases_Bool (nat_eq x n))

but_lacks : (n q : ℕ) (xs : List ℕ) → has nat_eq q xs ≡ false → has nat_eq q (but n xs) ≡ false
but_lacks n q xs absent = ⊎_elim (λ (h : Has nat_eq q (but n xs)). not_both (has nat_eq q xs) _ (but_has n q xs h) absent) (λ e. e)
    (cases_Bool (has nat_eq q (but n xs)))

but_once : (n : ℕ) (xs : List ℕ) → HasNoneTwice nat_eq xs → HasNoneTwice nat_eq (but n xs)
but_once n [] once = tt
but_once n (x ∷ xs) once = ⊎_elim
    (λ (e : nat_eq x n ≡ true). rw e (but_once n xs once.1))
    (λ (e : nat_eq x n ≡ false). rw e (but_lacks n x xs once.0, but_once n xs once.1)) (cases_Bool (nat_eq x n))

not_itself : (n : ℕ) (xs : List ℕ) → Has nat_eq n (but n xs) → ⊥
not_itself n [] h = none_in nat_eq n _ h
not_itself n (x ∷ xs) h = ⊎_elim
    (λ (e : nat_eq x n ≡ true). let g : Has nat_eq n (but n xs) = (rw e at h) in not_itself n xs g)
    (λ (e : nat_eq x n ≡ false). let g : Has nat_eq n (x ∷ but n xs) = (rw e at h) in
    ⊎_elim (λ (same : n ≡ x). absurd (grind (arith, e, same))) (λ (later : Has nat_eq n (but n xs)). not_itself n xs later)
    (has_cons nat_eq names_equal n x (but n xs) g)) (cases_Bool (nat_eq x n))

but_below : (n : ℕ) (xs : List ℕ) → AreBelow (suc n) xs → AreBelow n (but n xs)
but_below n xs below q h =
    let less : q < suc n = below q (but_has n q xs h) in
    ⊎_elim (λ (e : nat_eq q n ≡ true). let same : q ≡ n = grind (arith, e) in
    absurd (not_itself n xs (subst (λ (p : ℕ). Has nat_eq p (but n xs)) same h)))
    (λ (e : nat_eq q n ≡ false). grind (arith, e, less)) (cases_Bool (nat_eq q n))

module _ (f : ℕ → ℕ) where
  but_absent : (n : ℕ) (xs : List ℕ) → has nat_eq n xs ≡ false → but n xs ≡ xs
  but_absent n [] absent = refl
  but_absent n (x ∷ xs) absent = ⊎_elim
      (λ (e : nat_eq x n ≡ true). let same : n ≡ x = grind (arith, e) in
      not_both (has nat_eq n (x ∷ xs)) _ (subst (λ (p : ℕ). Has nat_eq p (x ∷ xs)) (sym same) (has_first nat_eq names_equal x xs))
      absent)
      (λ (e : nat_eq x n ≡ false). rw e (ap (λ (l : List ℕ). x ∷ l) (but_absent n xs
      (⊎_elim (λ (h : Has nat_eq n xs). not_both (has nat_eq n (x ∷ xs)) _ (has_later nat_eq n x xs h) absent) (λ i. i)
      (cases_Bool (has nat_eq n xs)))))) (cases_Bool (nat_eq x n))

  sum_but : (n : ℕ) (xs : List ℕ) → HasNoneTwice nat_eq xs → sum_by f xs ≤ f n + sum_by f (but n xs)
  sum_but n [] once = omega arith
  sum_but n (x ∷ xs) once = ⊎_elim
      (λ (e : nat_eq x n ≡ true).
      let same : x ≡ n = grind (arith, e) in
      let rest : but n xs ≡ xs = but_absent n xs (subst (λ (p : ℕ). has nat_eq p xs ≡ false) same once.0) in
      let value : f x ≡ f n = ap f same in
      rw e (rw rest (omega (arith, sum_by-cons f x xs, value))))
      (λ (e : nat_eq x n ≡ false). rw e (omega (arith, sum_by-cons f x xs, sum_by-cons f x (but n xs), sum_but n xs once.1)))
      (cases_Bool (nat_eq x n))

  -- if numbers are below a bound, none twice, the sum over them is at most that over all numbers below the bound
  pub sum_once : (n : ℕ) (xs : List ℕ) → HasNoneTwice nat_eq xs → AreBelow n xs → sum_by f xs ≤ sum_below f n
  sum_once zero [] once below = omega arith
  sum_once zero (x ∷ xs) once below = let never : x < 0 = below x (has_first nat_eq names_equal x xs) in absurd (omega (arith, never))
  sum_once (suc n) xs once below = omega (arith, sum_but n xs once, sum_once n (but n xs) (but_once n xs once) (but_below n xs below))

-- a list without repeats, and below a bound, in the form of the contracts' conditions
apart : (x : ℕ) (xs : List ℕ) → has nat_eq x xs ≡ false → AllByRecursion (λ y. nat_eq x y ≡ false) xs
apart x [] absent = tt
apart x (y ∷ ys) absent = ⊎_elim (λ (e : nat_eq x y ≡ true). let f : true ≡ false = (rw e at absent) in cc)
    (λ (e : nat_eq x y ≡ false). (e, apart x ys (rw e at absent))) (cases_Bool (nat_eq x y))

pub distinct_from_once : (xs : List ℕ) → HasNoneTwice nat_eq xs → IsDistinct nat_eq xs
unfolding IsDistinct
distinct_from_once [] once = tt
distinct_from_once (x ∷ xs) once = (apart x xs once.0, distinct_from_once xs once.1)

absent_from : (x : ℕ) (xs : List ℕ) → AllByRecursion (λ y. nat_eq x y ≡ false) xs → has nat_eq x xs ≡ false
absent_from x [] all = refl
absent_from x (y ∷ ys) all = rw all.0 (absent_from x ys all.1)

pub once_from_distinct : (xs : List ℕ) → IsDistinct nat_eq xs → HasNoneTwice nat_eq xs
unfolding IsDistinct
once_from_distinct [] once = tt
once_from_distinct (x ∷ xs) once = (absent_from x xs once.0, once_from_distinct xs once.1)

pub all_from_below : (n : ℕ) (xs : List ℕ) → AreBelow n xs → All (λ q. q < n) xs
all_from_below n [] below k d p = absurd (omega (arith, p))
all_from_below n (x ∷ xs) below zero d p = below x (has_first nat_eq names_equal x xs)
all_from_below n (x ∷ xs) below (suc k) d p = all_from_below n xs (λ q h. below q (has_later nat_eq q x xs h)) k d (omega (arith, p))

pub few_once : (n : ℕ) (xs : List ℕ) → IsDistinct nat_eq xs → AreBelow n xs → length xs ≤ n
few_once n xs once below = length-le_from_distinct_below xs n once below

-- a list without repeats has no repeats to drop
lacks_all : (x : ℕ) (seen : List ℕ) (xs : List ℕ) → HasNoneTwice nat_eq (seen ++ x ∷ xs) → has nat_eq x seen ≡ false
lacks_all x [] xs once = refl
lacks_all x (y ∷ seen) xs once = ⊎_elim
    (λ (e : nat_eq x y ≡ true). let same : x ≡ y = grind (arith, e) in
    not_both (has nat_eq y (seen ++ x ∷ xs)) _ (subst (λ (p : ℕ). Has nat_eq p (seen ++ x ∷ xs)) same (there x seen xs)) once.0)
    (λ (e : nat_eq x y ≡ false). rw e (lacks_all x seen xs once.1)) (cases_Bool (nat_eq x y))
  where
    there : (x : ℕ) (seen xs : List ℕ) → Has nat_eq x (seen ++ x ∷ xs)
    there x [] xs = has_first nat_eq names_equal x xs
    there x (y ∷ seen) xs = has_later nat_eq x y (seen ++ x ∷ xs) (there x seen xs)

join_of_once : (seen xs : List ℕ) → HasNoneTwice nat_eq (seen ++ xs) → join nat_eq seen xs ≡ seen ++ xs
join_of_once seen [] once = sym (append-nil seen)
join_of_once seen (x ∷ xs) once =
    let absent : has nat_eq x seen ≡ false = lacks_all x seen xs once in
    let again : (seen ++ x ∷ []) ++ xs ≡ seen ++ (x ∷ xs) = append_assoc seen (x ∷ []) xs in
    rw absent (join_of_once (seen ++ x ∷ []) xs (subst (λ (l : List ℕ). HasNoneTwice nat_eq l) (sym again) once) ∙ again)

pub distinct_already : (xs : List ℕ) → IsDistinct nat_eq xs → distinct nat_eq xs ≡ xs
distinct_already xs once = join_of_once [] xs (once_from_distinct xs once)

-- ---- closures

-- the list with which a search ends begins with what was visited before
pub grows : (ways : ℕ → List ℕ) (stack seen after : List ℕ) → Visits nat_eq ways stack seen after → (more : List ℕ) × (after ≡ seen ++ more)
grows ways stack seen after v = by_walk ways v
  where
    by_walk : (ways : ℕ → List ℕ) {stack seen after : List ℕ} → Visits nat_eq ways stack seen after → (more : List ℕ) ×
        (after ≡ seen ++ more)
    by_walk ways (done seen after e) = ([], sym e ∙ sym (append-nil seen))
    by_walk ways (held x stack seen after there rest) = by_walk ways rest
    by_walk ways (fresh x stack seen mid after absent one two) =
        let first = by_walk ways one in
        let then = by_walk ways two in (
          (x ∷ first.0) ++ then.0,
          then.1 ∙ (ap (λ (l : List ℕ). l ++ then.0) (first.1 ∙ append_assoc seen (x ∷ []) first.0)
              ∙ append_assoc seen (x ∷ first.0) then.0),
        )

module _ (a : Automaton) (looks : ℕ) where
  -- a closure as the function `closed` gives it
  pub closed_is : IsWellFormed a → (qs after : List ℕ) → AreBelow (length a.states) qs → Visits nat_eq (known_steps a looks) qs [] after →
      after ≡ closed a looks qs
  closed_is formed qs after below v = chains_met (known_steps a looks) (length a.states) qs [] after (known_below a looks formed) below
      (λ y h. none_in nat_eq y _ h) v

  pub closed_once : (qs : List ℕ) → HasNoneTwice nat_eq (closed a looks qs)
  closed_once qs = join_once nat_eq names_equal [] (flat_map (chain_ends nat_eq (known_steps a looks) (length a.states) []) qs) tt

  fewer_if : (b : Bool) (next : ℕ) → length (cond b (next ∷ []) []) ≤ 1
  fewer_if true next = omega arith
  fewer_if false next = omega arith

  fewer_of : (node : Node) → length (on_nothing node (has_look looks)) ≤ length (on_nothing node (λ l. true))
  fewer_of (byte_range low high next) = omega arith
  fewer_of (sparse_node ranges) = omega arith
  fewer_of (dense_node names) = omega arith
  fewer_of (look_node l next) = fewer_if (has_look looks l) next
  fewer_of (union_node names) = omega arith
  fewer_of (binary_union first second) = omega arith
  fewer_of (capture_node next pattern group slot) = omega arith
  fewer_of fail_node = omega arith
  fewer_of (match_node pattern) = omega arith

  fewer : (qs : List ℕ) → known_ways a looks qs ≤ sum_by (λ q. length (free_steps a q)) qs
  fewer [] = omega arith
  fewer (q ∷ qs) = omega (
    arith,
    fewer_of (node_at a q),
    fewer qs,
    sum_by-cons (λ p. length (known_steps a looks p)) q qs,
    sum_by-cons (λ p. length (free_steps a p)) q qs,
  )

  pub ways_once : (qs : List ℕ) → HasNoneTwice nat_eq qs → AreBelow (length a.states) qs → known_ways a looks qs ≤ free_ways a
  ways_once qs once below = omega (arith, fewer qs, sum_once (λ q. length (free_steps a q)) (length a.states) qs once below)

  module _ (formed : IsWellFormed a) where
    chain_below : (fuel : ℕ) (path : List ℕ) (x : ℕ) → x < length a.states →
        AreBelow (length a.states) (chain_ends nat_eq (known_steps a looks) fuel path x)
    chain_below zero path x low q h = none_in nat_eq q _ h
    chain_below (suc fuel) path x low q h = ⊎_elim
        (λ (e : has nat_eq x path ≡ true). none_in nat_eq q _ (rw e at h))
        (λ (e : has nat_eq x path ≡ false). of_cons nat_eq names_equal (λ p. p < length a.states) x
        (flat_map (chain_ends nat_eq (known_steps a looks) fuel (x ∷ path)) (known_steps a looks x)) low
        (of_flat_map nat_eq names_equal nat_eq (chain_ends nat_eq (known_steps a looks) fuel (x ∷ path)) (λ p. p < length a.states)
        (known_steps a looks x)
        (λ y way p g. chain_below fuel (x ∷ path) y (known_below a looks formed x low y way) p g)) q (rw e at h))
        (cases_Bool (has nat_eq x path))

    pub closed_below : (qs : List ℕ) → AreBelow (length a.states) qs → AreBelow (length a.states) (closed a looks qs)
    closed_below qs below =
        of_join nat_eq names_equal (λ q. q < length a.states) [] (flat_map
        (chain_ends nat_eq (known_steps a looks) (length a.states) []) qs) (λ q h. none_in nat_eq q _ h)
        (of_flat_map nat_eq names_equal nat_eq (chain_ends nat_eq (known_steps a looks) (length a.states) []) (λ q. q < length a.states) qs
        (λ x there p g. chain_below (length a.states) [] x (below x there) p g))

-- Some states were closed, one after another, and others are left. To go on with these is to go on with all. Each closing costs one step,
-- in addition to the edges of what it met.
pub record HasClosed (a : Automaton) (looks : ℕ) (all left met : List ℕ) (before count now : ℕ) : Type 0 where
  pub walk : (after : List ℕ) → Visits nat_eq (known_steps a looks) left met after → Visits nat_eq (known_steps a looks) all [] after
  pub cost : now ≤ before + count + known_ways a looks met

module _ (a : Automaton) (looks : ℕ) (all : List ℕ) (before : ℕ) where
  pub closes_none : (met : List ℕ) → met ≡ [] → HasClosed a looks all all met before 0 before
  closes_none met e = record {
    walk = λ after v. subst (λ (l : List ℕ). Visits nat_eq (known_steps a looks) all l after) e v;
    cost = omega arith;
  }

  module _ (left met : List ℕ) (count now : ℕ) (of : HasClosed a looks all left met before count now) where
    pub closes_more : (part rest new : List ℕ) (then : ℕ) → left ≡ part ++ rest → Visits nat_eq (known_steps a looks) part met new →
        then ≤ now + 1 + known_ways a looks (drop (length met) new) → HasClosed a looks all rest new before (count + 1) then
    closes_more part rest new then e v cost =
        let more = grows (known_steps a looks) part met new v in
        let others : drop (length met) new ≡ more.0 = ap (drop (length met)) more.1 ∙ drop-append_seam met more.0 in
        let sum : known_ways a looks new ≡ known_ways a looks met + known_ways a looks more.0 =
        ap (known_ways a looks) more.1 ∙ sum_by-append (λ q. length (known_steps a looks q)) met more.0 in
        let ways : known_ways a looks (drop (length met) new) ≡ known_ways a looks more.0 = ap (known_ways a looks) others in
        record {
          walk = λ after w. of.walk after (subst (λ (l : List ℕ). Visits nat_eq (known_steps a looks) l met after) (sym e)
              (joined nat_eq (known_steps a looks) part rest met new after v w));
          cost = omega (arith, of.cost, cost, sum, ways);
        }

    -- wherever the search is cut off, it has cost no more
    pub here_cost : IsDistinct nat_eq met → All (λ q. q < length a.states) met → (most : ℕ) → count ≤ most →
        now ≤ before + most + free_ways a
    here_cost once below most few = omega (
      arith,
      of.cost,
      few,
      ways_once a looks met (once_from_distinct met once)
          (has_from_all (length a.states) met below),
    )

    pub cut_cost : (new : List ℕ) (then most : ℕ) → ((more : List ℕ) × (new ≡ met ++ more)) → IsDistinct nat_eq new →
        All (λ q. q < length a.states) new →
        then ≤ now + 1 + known_ways a looks (drop (length met) new) → count + 1 ≤ most → then ≤ before + most + free_ways a
    cut_cost new then most grown once below cost few =
        let others : drop (length met) new ≡ grown.0 = ap (drop (length met)) grown.1 ∙ drop-append_seam met grown.0 in
        let sum : known_ways a looks new ≡ known_ways a looks met + known_ways a looks grown.0 =
        ap (known_ways a looks) grown.1 ∙ sum_by-append (λ q. length (known_steps a looks q)) met grown.0 in
        let ways : known_ways a looks (drop (length met) new) ≡ known_ways a looks grown.0 = ap (known_ways a looks) others in
        omega (
          arith,
          of.cost,
          cost,
          sum,
          ways,
          few,
          ways_once a looks new (once_from_distinct new once)
              (has_from_all (length a.states) new below),
        )

    -- if none is left, the closure is complete
    module _ (formed : IsWellFormed a) (below : AreBelow (length a.states) all) (none : left ≡ []) where
      pub closes_all : met ≡ closed a looks all
      closes_all = closed_is a looks formed all met below (of.walk met
          (subst (λ (l : List ℕ). Visits nat_eq (known_steps a looks) l met met) (sym none) (done met met refl)))

      pub closes_cost : (most : ℕ) → count ≤ most → now ≤ before + most + free_ways a
      closes_cost most few =
          let ways : known_ways a looks met ≡ known_ways a looks (closed a looks all) = ap (known_ways a looks) closes_all in
          omega (
            arith,
            of.cost,
            few,
            ways,
            ways_once a looks (closed a looks all) (closed_once a looks all)
                (closed_below a looks formed all below),
          )

-- a number that is put into a set is joined to it
pub joins_one : (x : ℕ) (rest old new whole : List ℕ) (b : Bool) → join nat_eq old (x ∷ rest) ≡ whole → b ≡ not (has nat_eq x old) →
    new ≡ cond b (old ++ x ∷ []) old →
    join nat_eq new rest ≡ whole
joins_one x rest old new whole b all reports e = ⊎_elim
    (λ (h : has nat_eq x old ≡ true).
    let none : b ≡ false = reports ∙ ap not h in
    let same : new ≡ old = e ∙ ap (λ (t : Bool). cond t (old ++ x ∷ []) old) none in
    let left : join nat_eq old rest ≡ whole = (rw h at all) in ap (λ (l : List ℕ). join nat_eq l rest) same ∙ left)
    (λ (h : has nat_eq x old ≡ false).
    let some : b ≡ true = reports ∙ ap not h in
    let more : new ≡ old ++ x ∷ [] = e ∙ ap (λ (t : Bool). cond t (old ++ x ∷ []) old) some in
    let left : join nat_eq (old ++ x ∷ []) rest ≡ whole = (rw h at all) in
    ap (λ (l : List ℕ). join nat_eq l rest) more ∙ left) (cases_Bool (has nat_eq x old))
