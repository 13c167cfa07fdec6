-- Runs over pairs, position by position: the states that arrive at a position, and how runs go on from there.
use Rattle.std.proofs.Common.{◌≡◌, ℕ, zero, suc, ◌+◌, ◌*◌, ◌<◌, ◌≤◌, true, false, List, [], ◌∷◌, ◌++◌, length, map, refl, sym, ap, ◌∙◌}
use Rattle.std.proofs.Common.{arith, ⊎_elim, Option}
use Rattle.std.proofs.lemmas.List.{append_assoc}
use Rattle.std.proofs.lemmas.Grind.{flat_map-append}
use Rattle.std.proofs.lemmas.List.Folds.{flat_map-map}
use Rattle.std.specs.List.{flat_map}
use Rattle.std.specs.Option.{option_to_list}
use Rattle.std.specs.Bool.{nat_eq}
use Rattle.nfa_core.specs.Walks.{has, Has, chain_ends, HasNoneTwice}
use Rattle.nfa_core.specs.Runs.{answers}
use Rattle.nfa_core.specs.Places.{same_pair, nexts, IsGraph}
use Rattle.nfa_core.proofs.MemberLemmas.{none_in, has_or_not, of_cons, flat_map_same, flat_map_twice}
use Rattle.nfa_core.proofs.WalkLemmas.{room_for}
use Rattle.nfa_core.proofs.PairLemmas.{names_equal, same_here, not_here, finite_names, pairs, pairs_is}

-- what is known of a path at position k: `inner` are its states at that position, and no pair is of a later one
abbrev Knows : ℕ → List ℕ → List (ℕ × ℕ) → Type 0
Knows k inner path = ((y : ℕ) → has same_pair (k, y) path ≡ has nat_eq y inner) × ((j y : ℕ) → k < j → has same_pair (j, y) path ≡ false)

knows_way : (k x : ℕ) (inner : List ℕ) (path : List (ℕ × ℕ)) → Knows k inner path → Knows k (x ∷ inner) ((k, x) ∷ path)
knows_way k x inner path knows = (λ y. rw (same_here k y x, knows.0 y), λ j y less. rw (not_here j k y x less, knows.1 j y less))

knows_byte : (k x : ℕ) (inner : List ℕ) (path : List (ℕ × ℕ)) → Knows k inner path → Knows (suc k) [] ((k, x) ∷ path)
knows_byte k x inner path knows = (
  λ y. let less : k < suc k = omega arith in rw (not_here (suc k) k y x less, knows.1 (suc k) y less),
  λ j y less. let l : k < j = omega (arith, less) in rw (not_here j k y x l, knows.1 j y l),
)

module _ {B : Type 0} (eps step : ℕ → ℕ → List ℕ) (answer : ℕ × ℕ → Option B) (n : ℕ) where
  abbrev pub here : ℕ → ℕ → List B
  here k y = option_to_list (answer (k, y))

  -- what the runs from state y at position k find after that position, over d more bytes
  abbrev pub beyond : ℕ → ℕ → ℕ → List B
  beyond zero k y = []
  beyond (suc d) k y = flat_map (λ z. here (suc k) z ++ beyond d (suc k) z) (flat_map (chain_ends nat_eq (eps (suc k)) n []) (step k y))

  -- what the runs find that arrive in y
  abbrev pub found : ℕ → ℕ → ℕ → List B
  found d k y = here k y ++ beyond d k y

  module _ (len : ℕ) (graph : IsGraph eps step n len) where
    -- the states of the path at its position: they are without repeats and below n, and at most g are missing to n of them
    abbrev Fits : ℕ → List ℕ → Type 0
    Fits g inner = (n ≤ g + length inner) × HasNoneTwice nat_eq inner × ((q : ℕ) → Has nat_eq q inner → q < n)

    fits_nil : Fits n []
    fits_nil = (omega arith, tt, λ q h. none_in nat_eq q _ h)

    fits_cons : (g x : ℕ) (inner : List ℕ) → x < n → has nat_eq x inner ≡ false → Fits (suc g) inner → Fits g (x ∷ inner)
    fits_cons g x inner below off fits = (
      omega (arith, fits.0),
      (off, fits.1),
      of_cons nat_eq names_equal (λ q. q < n) x inner below fits.2,
    )

    full : (k x : ℕ) (inner : List ℕ) → x < n → Fits 0 inner → has nat_eq x inner ≡ true
    full k x inner below fits = ⊎_elim (λ t. t) (λ (e : has nat_eq x inner ≡ false).
        let l : length inner < n = room_for nat_eq names_equal (eps k) (λ q. q < n) n
        (finite_names n (eps k) (graph.eps_below k)) x inner below fits.2 fits.1 e in
        absurd (omega (arith, l, fits.0))) (has_or_not nat_eq x inner)

    drafts : (k x : ℕ) (t : ℕ × ℕ → List B) → flat_map t (nexts eps step (k, x)) ≡ flat_map (λ y. t (suc k, y)) (step k x)
        ++ flat_map (λ y. t (k, y)) (eps k x)
    drafts k x t = flat_map-append t (map (λ y. (suc k, y)) (step k x)) (map (λ y. (k, y)) (eps k x))
        ∙ ap (λ l. l ++ flat_map t (map (λ y. (k, y)) (eps k x))) (flat_map-map t (λ y. (suc k, y)) (step k x))
        ∙ ap (λ l. flat_map (λ y. t (suc k, y)) (step k x) ++ l) (flat_map-map t (λ y. (k, y)) (eps k x))

    byte_part : (d k x : ℕ) (t : ℕ × ℕ → List B) → len ≤ k + d →
        ((e y : ℕ) → d ≡ suc e → Has nat_eq y (step k x) → t (suc k, y) ≡ flat_map (found e (suc k))
        (chain_ends nat_eq (eps (suc k)) n [] y)) →
        flat_map (λ y. t (suc k, y)) (step k x) ≡ beyond d k x
    byte_part zero k x t end each = let none : step k x ≡ [] = graph.text_ends k x (omega (arith, end)) in rw none
    byte_part (suc d) k x t end each =
        flat_map_same nat_eq names_equal (λ y. t (suc k, y)) (λ y. flat_map (found d (suc k)) (chain_ends nat_eq (eps (suc k)) n [] y))
        (step k x) (λ y way. each d y refl way)
        ∙ sym (flat_map_twice (found d (suc k)) (chain_ends nat_eq (eps (suc k)) n []) (step k x))

    linked : (f g d k x : ℕ) (inner : List ℕ) (path : List (ℕ × ℕ)) → g + pairs n d ≤ f → len ≤ k + d → x < n → Fits g inner →
        Knows k inner path →
        answers answer (chain_ends same_pair (nexts eps step) f path (k, x)) ≡ flat_map (found d k) (chain_ends nat_eq (eps k) g inner x)
    linked zero zero d k x inner path fuel end below fits knows = refl
    linked zero (suc g) d k x inner path fuel end below fits knows = absurd (omega (arith, fuel))
    linked (suc f) zero d k x inner path fuel end below fits knows =
        let on : has same_pair (k, x) path ≡ true = knows.0 x ∙ full k x inner below fits in rw on
    linked (suc f) (suc g) d k x inner path fuel end below fits knows = ⊎_elim
        (λ (e : has nat_eq x inner ≡ true). let on : has same_pair (k, x) path ≡ true = knows.0 x ∙ e in rw (on, e))
        (λ (e : has nat_eq x inner ≡ false). let off : has same_pair (k, x) path ≡ false = knows.0 x ∙ e in rw (off, e)
        (let p : ℕ × ℕ = (k, x) in
        let ends : ℕ × ℕ → List (ℕ × ℕ) = chain_ends same_pair (nexts eps step) f (p ∷ path) in
        let t : ℕ × ℕ → List B = λ q. answers answer (ends q) in
        let inside : List ℕ = flat_map (chain_ends nat_eq (eps k) g (x ∷ inner)) (eps k x) in
        let way_part : flat_map (λ y. t (k, y)) (eps k x) ≡ flat_map (found d k) inside =
        flat_map_same nat_eq names_equal (λ y. t (k, y)) (λ y. flat_map (found d k) (chain_ends nat_eq (eps k) g (x ∷ inner) y)) (eps k x)
        (λ y way. linked f g d k y (x ∷ inner) (p ∷ path) (omega (arith, fuel)) end (graph.eps_below k x below y way)
        (fits_cons g x inner below e fits) (knows_way k x inner path knows))
        ∙ sym (flat_map_twice (found d k) (chain_ends nat_eq (eps k) g (x ∷ inner)) (eps k x)) in
        let bytes : flat_map (λ y. t (suc k, y)) (step k x) ≡ beyond d k x = byte_part d k x t end
        (λ b y is way. let m : pairs n d ≡ n + pairs n b = ap (pairs n) is in
        linked f n b (suc k) y [] (p ∷ path) (omega (arith, m, fuel)) (omega (arith, is, end)) (graph.step_below k x below y way) fits_nil
        (knows_byte k x inner path knows)) in
        ap (λ l. here k x ++ l)
        (flat_map_twice (λ q. option_to_list (answer q)) ends (nexts eps step p)
        ∙ drafts k x t
        ∙ ap (λ l. l ++ flat_map (λ y. t (k, y)) (eps k x)) bytes
        ∙ ap (λ l. beyond d k x ++ l) way_part)
        ∙ sym (append_assoc (here k x) (beyond d k x) (flat_map (found d k) inside))))
        (has_or_not nat_eq x inner)

    -- the ends of chains over pairs, from a state at the first position
    pub ends_by_offset : (start : ℕ) → start < n →
        answers answer (chain_ends same_pair (nexts eps step) (suc len * n) [] (0, start)) ≡ flat_map (found len 0)
        (chain_ends nat_eq (eps 0) n [] start)
    ends_by_offset start below =
        let enough : pairs n (suc len) ≡ suc len * n = pairs_is n (suc len) in
        linked (suc len * n) n len 0 start [] [] (omega (arith, enough)) (omega arith) below fits_nil (λ y. refl, λ j y less. refl)
