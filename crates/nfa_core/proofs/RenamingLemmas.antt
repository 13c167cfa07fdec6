-- States that stand for themselves. From each state, fewer steps than there are states lead to such a one, since no state is met twice on
-- the way.
use Rattle.std.proofs.Common.{◌≡◌, ℕ, zero, suc, ◌<◌, ◌≤◌, List, [], ◌∷◌, length, Option, Some, None, refl, sym, ap, ◌∙◌, arith, ⊎_elim}
use Rattle.std.specs.Prelude.{All}
use Rattle.std.specs.Bool.{nat_eq}
use Rattle.std.proofs.lemmas.List.{get_or_past}
use Rattle.std.proofs.lemmas.List.Elements.{All-get_or}
use Rattle.std.proofs.lemmas.Bool.Decides.{leb_tells}
use Rattle.nfa_core.specs.BuilderStates.{DraftNode, empty_draft, range_draft, sparse_draft, look_draft, capture_start_draft}
use Rattle.nfa_core.specs.BuilderStates.{capture_end_draft, union_draft, union_reverse_draft, fail_draft, match_draft, draft_at}
use Rattle.nfa_core.specs.Walks.{Has, HasNoneTwice, IsFinite}
use Rattle.nfa_core.specs.Renaming.{stands_for, past_within, going_on, past, HasNoLoop}
use Rattle.nfa_core.specs.CanBuild.{names_of}
use Rattle.nfa_core.proofs.MemberLemmas.{none_in, has_or_not, of_cons}
use Rattle.nfa_core.proofs.PairLemmas.{names_equal, finite_names}
use Rattle.nfa_core.proofs.PreferenceLemmas.{option_cases, one_value, no_value}

pub past_itself : (drafts : List DraftNode) (n q : ℕ) → stands_for (draft_at drafts q) ≡ None → past_within drafts n q ≡ q
past_itself drafts zero q e = refl
past_itself drafts (suc n) q e = ap (going_on q (past_within drafts n)) e

-- what a state stands for is a state that it names
stand_in_named : (n : ℕ) (draft : DraftNode) (r : ℕ) → stands_for draft ≡ Some r → All (λ x. x < n) (names_of draft) → r < n
stand_in_named n (empty_draft next) r e all = let i : next ≡ r = cc in let l : next < n = all 0 next (omega arith) in omega (arith, i, l)
stand_in_named n (range_draft low high next) r e all = cc
stand_in_named n (sparse_draft ranges) r e all = cc
stand_in_named n (look_draft look next) r e all = cc
stand_in_named n (capture_start_draft pattern group next) r e all = cc
stand_in_named n (capture_end_draft pattern group next) r e all = cc
stand_in_named n (union_draft []) r e all = cc
stand_in_named n (union_draft (next ∷ [])) r e all = let i : next ≡ r = cc in let l : next < n = all 0 next (omega arith) in
    omega (arith, i, l)
stand_in_named n (union_draft (next ∷ other ∷ others)) r e all = cc
stand_in_named n (union_reverse_draft []) r e all = cc
stand_in_named n (union_reverse_draft (next ∷ [])) r e all = let i : next ≡ r = cc in let l : next < n = all 0 next (omega arith) in
    omega (arith, i, l)
stand_in_named n (union_reverse_draft (next ∷ other ∷ others)) r e all = cc
stand_in_named n fail_draft r e all = cc
stand_in_named n (match_draft pattern) r e all = cc

-- each name that a state names is that of a state
abbrev pub AreNamed : List DraftNode → Type 0
AreNamed drafts = All (λ draft. All (λ q. q < length drafts) (names_of draft)) drafts

module _ (drafts : List DraftNode) where
  abbrev pub stood_for : ℕ → Option ℕ
  stood_for q = stands_for (draft_at drafts q)

  -- exactly so many steps lead to a state that stands for itself
  abbrev pub Comes : ℕ → ℕ → Type 0
  Comes zero q = stood_for q ≡ None
  Comes (suc m) q = (r : ℕ) × (stood_for q ≡ Some r) × Comes m r

  comes : (n q : ℕ) → stood_for (past_within drafts n q) ≡ None → (m : ℕ) × Comes m q
  comes zero q e = (0, e)
  comes (suc n) q e = ⊎_elim
      (λ (none : stood_for q ≡ None). (0, none))
      (λ (some : (r : ℕ) × (stood_for q ≡ Some r)).
      let back : stood_for (past_within drafts n some.0) ≡ stood_for (past_within drafts (suc n) q) =
      ap (λ o. stood_for (going_on q (past_within drafts n) o)) (sym some.1) in
      let more = comes n some.0 (back ∙ e) in (suc more.0, (some.0, some.1, more.1)))
      (option_cases (stood_for q))

  one_count : (m k q : ℕ) → Comes m q → Comes k q → m ≡ k
  one_count zero zero q a b = refl
  one_count zero (suc k) q a b = no_value (stood_for q) b.0 _ a b.1
  one_count (suc m) zero q a b = no_value (stood_for q) a.0 _ b a.1
  one_count (suc m) (suc k) q a b =
      let same : a.0 ≡ b.0 = one_value (stood_for q) a.0 b.0 a.1 b.1 in
      let there : Comes k a.0 = rw same b.2 in
      ap (λ j. suc j) (one_count m k a.0 a.2 there)

  -- a state that stands for another is one of the states
  there_if_stands : (q r : ℕ) → stood_for q ≡ Some r → q < length drafts
  there_if_stands q r e = ⊎_elim
      (λ reported. let past_end : stood_for q ≡ None = ap stands_for (get_or_past drafts q fail_draft reported.1) in
      no_value (stood_for q) r _ past_end e)
      (λ reported. reported.1) (leb_tells (length drafts) q)

  -- the states on the way, without the last
  abbrev trail : (m q : ℕ) → Comes m q → List ℕ
  trail zero q c = []
  trail (suc m) q c = q ∷ trail m c.0 c.2

  length_trail : (m q : ℕ) (c : Comes m q) → length (trail m q c) ≡ m
  length_trail zero q c = refl
  length_trail (suc m) q c = ap (λ j. suc j) (length_trail m c.0 c.2)

  on_trail : (m q : ℕ) (c : Comes m q) (z : ℕ) → Has nat_eq z (trail m q c) → (k : ℕ) × (k ≤ m) × Comes k z
  on_trail zero q c z h = none_in nat_eq z _ h
  on_trail (suc m) q c z h = of_cons nat_eq names_equal (λ w. (k : ℕ) × (k ≤ suc m) × Comes k w) q (trail m c.0 c.2) (suc m, omega arith, c)
      (λ w g. let o = on_trail m c.0 c.2 w g in (o.0, omega (arith, o.1), o.2)) z h

  trail_once : (m q : ℕ) (c : Comes m q) → HasNoneTwice nat_eq (trail m q c)
  trail_once zero q c = tt
  trail_once (suc m) q c = (
    ⊎_elim (λ (h : Has nat_eq q (trail m c.0 c.2)). let o = on_trail m c.0 c.2 q h in let e : o.0 ≡ suc m = one_count o.0 (suc m) q o.2 c in
        absurd (omega (arith, e, o.1)))
        (λ e. e) (has_or_not nat_eq q (trail m c.0 c.2)),
    trail_once m c.0 c.2,
  )

  trail_inside : (m q : ℕ) (c : Comes m q) (z : ℕ) → Has nat_eq z (trail m q c) → z < length drafts
  trail_inside zero q c z h = none_in nat_eq z _ h
  trail_inside (suc m) q c z h = of_cons nat_eq names_equal (λ w. w < length drafts) q (trail m c.0 c.2) (there_if_stands q c.0 c.1)
      (trail_inside m c.0 c.2) z h

  -- there are no more steps than states
  few_steps : (m q : ℕ) → Comes m q → m ≤ length drafts
  few_steps m q c =
      let finite : IsFinite nat_eq (λ x. []) (λ x. x < length drafts) (length drafts) =
      finite_names (length drafts) (λ x. []) (λ x h y g. none_in nat_eq y _ g) in
      let l : length (trail m q c) ≤ length drafts = finite.room (trail m q c) (trail_inside m q c) (trail_once m q c) in
      let e : length (trail m q c) ≡ m = length_trail m q c in omega (arith, l, e)

  module _ (named : AreNamed drafts) where
    pub next_inside : (q r : ℕ) → stood_for q ≡ Some r → r < length drafts
    next_inside q r e = stand_in_named (length drafts) (draft_at drafts q) r e
        (All-get_or (λ draft. All (λ x. x < length drafts) (names_of draft)) drafts q fail_draft (there_if_stands q r e) named)

    within_inside : (n q : ℕ) → q < length drafts → past_within drafts n q < length drafts
    within_inside zero q inside = inside
    within_inside (suc n) q inside = ⊎_elim
        (λ (none : stood_for q ≡ None). let e : past_within drafts (suc n) q ≡ q = past_itself drafts (suc n) q none in
        omega (arith, e, inside))
        (λ (some : (r : ℕ) × (stood_for q ≡ Some r)). let e : past_within drafts (suc n) q ≡ past_within drafts n some.0 =
        ap (going_on q (past_within drafts n)) some.1 in
        let l : past_within drafts n some.0 < length drafts = within_inside n some.0 (next_inside q some.0 some.1) in omega (arith, e, l))
        (option_cases (stood_for q))

    pub past_inside : (q : ℕ) → q < length drafts → past drafts q < length drafts
    past_inside q inside = within_inside (length drafts) q inside

  -- more steps change nothing
  same_within : (m j k q : ℕ) → Comes m q → m ≤ j → m ≤ k → past_within drafts j q ≡ past_within drafts k q
  same_within zero j k q c a b = past_itself drafts j q c ∙ sym (past_itself drafts k q c)
  same_within (suc m) zero k q c a b = absurd (omega (arith, a))
  same_within (suc m) (suc j) zero q c a b = absurd (omega (arith, b))
  same_within (suc m) (suc j) (suc k) q c a b =
      ap (going_on q (past_within drafts j)) c.1 ∙ same_within m j k c.0 c.2 (omega (arith, a)) (omega (arith, b))
      ∙ sym (ap (going_on q (past_within drafts k)) c.1)

  stands_at_last : (m q k : ℕ) → Comes m q → m ≤ k → stood_for (past_within drafts k q) ≡ None
  stands_at_last zero q k c a = ap stood_for (past_itself drafts k q c) ∙ c
  stands_at_last (suc m) q zero c a = absurd (omega (arith, a))
  stands_at_last (suc m) q (suc k) c a = ap (λ o. stood_for (going_on q (past_within drafts k) o)) c.1
      ∙ stands_at_last m c.0 k c.2 (omega (arith, a))

  module _ (no_loop : HasNoLoop drafts) where
    pub comes_to : (q : ℕ) → q < length drafts → (m : ℕ) × Comes m q
    comes_to q inside = let n = no_loop q inside in comes n.0 q n.1

    pub past_stands : (q : ℕ) → q < length drafts → stood_for (past drafts q) ≡ None
    past_stands q inside = let c = comes_to q inside in stands_at_last c.0 q (length drafts) c.1 (few_steps c.0 q c.1)

    pub past_twice : (q : ℕ) → q < length drafts → past drafts (past drafts q) ≡ past drafts q
    past_twice q inside = past_itself drafts (length drafts) (past drafts q) (past_stands q inside)

    pub past_next : (q r : ℕ) → stood_for q ≡ Some r → past drafts q ≡ past drafts r
    past_next q r e =
        let c = comes_to q (there_if_stands q r e) in
        let l : c.0 ≤ length drafts = few_steps c.0 q c.1 in
        same_within c.0 (length drafts) (suc (length drafts)) q c.1 l (omega (arith, l))
        ∙ ap (going_on q (past_within drafts (length drafts))) e
