-- The ends of the built automaton's runs are those of the builder's states, in order. This also holds with loops whose body can match the
-- empty string.
use Rattle.std.proofs.Common.{◌≡◌, ℕ, zero, suc, ◌*◌, ◌<◌, ◌≤◌, Bool, List, [], ◌∷◌, ◌++◌, map, length, refl, sym, ap, ap₂, ◌∙◌, subst}
use Rattle.std.proofs.Common.{true, false, ⊎_elim, Option, Some, None}
use Rattle.std.specs.Prelude.{is_none}
use Rattle.std.specs.List.{filter}
use Rattle.std.specs.Option.{option_map, option_to_list}
use Rattle.nfa_core.specs.BuilderStates.{DraftNode, draft_at, Assembly}
use Rattle.nfa_core.specs.CanBuild.{CanBuild}
use Rattle.nfa_core.specs.Drafted.{drafted, table_ways, table_match, table_ends}
use Rattle.nfa_core.specs.Nfa.{Node}
use Rattle.nfa_core.specs.Places.{same_pair}
use Rattle.nfa_core.specs.Renaming.{stands_for, new_name, automaton_of}
use Rattle.nfa_core.specs.Runs.{answers}
use Rattle.nfa_core.specs.Walks.{Has, distinct, IsEquality, IsFinite}
use Rattle.nfa_core.specs.Ways.{Text, reads, is_satisfied, on_read, on_nothing, offset_after, node_ways, ways, matched, ends_from, IsPairOf}
use Rattle.nfa_core.proofs.AutomatonLemmas.{behind_inside, reads_beside, finite_automaton}
use Rattle.nfa_core.proofs.ExistLemmas.{walk_from}
use Rattle.nfa_core.proofs.MemberLemmas.{has_first, has_later, of_append}
use Rattle.nfa_core.proofs.PairLemmas.{pairs_equal, from_map, pairs_room}
use Rattle.nfa_core.proofs.PassedLemmas.{ComesOut, walk_passed}
use Rattle.nfa_core.proofs.PreferenceLemmas.{option_cases}
use Rattle.nfa_core.proofs.RenamingAutomaton.{state_ways, state_match, one_state, renamed_pair}
use Rattle.nfa_core.proofs.RenamingEnds.{name_inside, is_well_formed}
use Rattle.nfa_core.proofs.RenamingLemmas.{Comes, comes_to}
use Rattle.nfa_core.proofs.RenamingNodes.{ways_of_stand, match_of_stand}
use Rattle.nfa_core.proofs.RenamingAnswers.{stays, same_name}
use Rattle.nfa_core.proofs.RunLemmas.{walk_ends}

-- no edge leads beyond the end of the haystack
ways_placed : (is_reverse : Bool) (t : Text) (node : Node) (i : ℕ) → i ≤ t.end → (p : ℕ × ℕ) →
    Has same_pair p (node_ways is_reverse t node i) → p.0 ≤ t.end
ways_placed is_reverse t node i here =
    let j : ℕ = offset_after i (reads is_reverse t i) in
    let there : j ≤ t.end = behind_inside is_reverse t i (reads is_reverse t i) (reads_beside is_reverse t i) here in
    let I : ℕ × ℕ → Type 0 = λ p. p.0 ≤ t.end in
    of_append same_pair pairs_equal I (map (λ q. (j, q)) (on_read node (reads is_reverse t i)))
    (map (λ q. (i, q)) (on_nothing node (λ l. is_satisfied is_reverse t l i)))
    (λ p h. let o = from_map j p (on_read node (reads is_reverse t i)) h in subst I (sym o.2) there)
    (λ p h. let o = from_map i p (on_nothing node (λ l. is_satisfied is_reverse t l i)) h in subst I (sym o.2) here)

-- the answers at the vertices that stand for themselves are all answers
module _ {A B C : Type 0} (same : A → A → Bool) (laws : IsEquality same) (name : A → C) (stands : A → Option A) (answer : A →
    Option B) (answer_o : C → Option B)
    (In : A → Type 0) (kept : (x : A) → In x → stands x ≡ None → answer_o (name x) ≡ answer x) (other : (x r : A) → stands x ≡ Some r →
    answer x ≡ None) where
  answers_kept : (xs : List A) → ((x : A) → Has same x xs → In x) → answers answer_o
      (map name (filter (λ x. is_none (stands x)) xs)) ≡ answers answer xs
  answers_kept [] inside = refl
  answers_kept (x ∷ xs) inside =
      let rest : answers answer_o (map name (filter (λ y. is_none (stands y)) xs)) ≡ answers answer xs =
      answers_kept xs (λ y h. inside y (has_later same y x xs h)) in
      ⊎_elim
      (λ (none : stands x ≡ None).
      let is : is_none (stands x) ≡ true = ap is_none none in
      rw is (ap₂ ◌++◌ (ap option_to_list (kept x (inside x (has_first same laws x xs)) none)) rest))
      (λ (some : (r : A) × (stands x ≡ Some r)).
      let is : is_none (stands x) ≡ false = ap is_none some.1 in
      rw is (rest ∙ ap (λ o. option_to_list o ++ answers answer xs) (sym (other x some.0 some.1))))
      (option_cases (stands x))

-- ---- pairs that stand for others

abbrev pair_at : ℕ → ℕ → ℕ × ℕ
pair_at i q = (i, q)

abbrev pair_stands : List DraftNode → ℕ × ℕ → Option (ℕ × ℕ)
pair_stands drafts p = option_map (pair_at p.0) (stands_for (draft_at drafts p.1))

no_pair : (i : ℕ) (o : Option ℕ) → option_map (pair_at i) o ≡ None → o ≡ None
no_pair i None e = refl
no_pair i (Some q) e = cc

some_pair : (i : ℕ) (o : Option ℕ) (r : ℕ × ℕ) → option_map (pair_at i) o ≡ Some r → (q : ℕ) × (o ≡ Some q) × (r ≡ pair_at i q)
some_pair i None r e = cc
some_pair i (Some q) r e = let one : pair_at i q ≡ r = cc in (q, refl, sym one)

pair_comes_out : (drafts : List DraftNode) (m i q : ℕ) → Comes drafts m q →
    ComesOut same_pair pairs_equal same_pair pairs_equal (renamed_pair drafts) (λ p. []) (λ p. []) (pair_stands drafts) m (i, q)
pair_comes_out drafts zero i q c = ap (option_map (pair_at i)) c
pair_comes_out drafts (suc m) i q c = ((i, c.0), ap (option_map (pair_at i)) c.1, pair_comes_out drafts m i c.0 c.2)

-- ---- the builder's states and what is built of them

module _ (b : Assembly) (x y : ℕ) (can : CanBuild b x y) (t : Text) where
  abbrev In : ℕ × ℕ → Type 0
  In p = (p.0 ≤ t.end) × (p.1 < length b.drafts)

  abbrev from : ℕ × ℕ → List (ℕ × ℕ)
  from p = table_ways b.reverse t (draft_at b.drafts) p

  abbrev from_built : ℕ × ℕ → List (ℕ × ℕ)
  from_built p = ways (automaton_of b x y) t p

  stays_in : (p : ℕ × ℕ) → In p → (q : ℕ × ℕ) → Has same_pair q (from p) → In q
  stays_in p here q way = (ways_placed b.reverse t (drafted (draft_at b.drafts p.1)) p.0 here.0 q way, stays b x y can t p here.1 q way)

  finite_table : IsFinite same_pair from In (suc t.end * length b.drafts)
  finite_table = record { stays = stays_in; room = pairs_room (length b.drafts) t.end }

  kept_ways : (p : ℕ × ℕ) → In p → pair_stands b.drafts p ≡ None → from_built (renamed_pair b.drafts p) ≡ map (renamed_pair b.drafts)
      (from p)
  kept_ways p here none = state_ways b x y p.1 p.0 t here.1 (no_pair p.0 (stands_for (draft_at b.drafts p.1)) none)

  stand_ways : (p r : ℕ × ℕ) → pair_stands b.drafts p ≡ Some r → (from p ≡ r ∷ []) × (renamed_pair b.drafts p ≡ renamed_pair b.drafts r)
  stand_ways p r some =
      let s = some_pair p.0 (stands_for (draft_at b.drafts p.1)) r some in (
        ways_of_stand (draft_at b.drafts p.1) s.0 s.1 b.reverse t p.0 ∙ ap (λ z. z ∷ []) (sym s.2),
        ap (pair_at p.0) (same_name b x y can t p.1 s.0 s.1) ∙ ap (renamed_pair b.drafts) (sym s.2),
      )

  apart : (p q : ℕ × ℕ) → In p → In q → pair_stands b.drafts p ≡ None → pair_stands b.drafts q ≡ None →
      renamed_pair b.drafts p ≡ renamed_pair b.drafts q → p ≡ q
  apart p q in_p in_q none_p none_q e =
      let one : p.1 ≡ q.1 = one_state b.drafts p.1 q.1 in_p.1 in_q.1 (no_pair p.0 (stands_for (draft_at b.drafts p.1)) none_p)
      (no_pair q.0 (stands_for (draft_at b.drafts q.1)) none_q)
      (ap (λ z. z.1) e) in
      let place : p.0 ≡ q.0 = ap (λ z. z.0) e in
      ap₂ pair_at place one

  out : (p : ℕ × ℕ) → In p → (m : ℕ) × ComesOut same_pair pairs_equal same_pair pairs_equal (renamed_pair b.drafts) from from_built
      (pair_stands b.drafts) m p
  out p here = let c = comes_to b.drafts can.no_loop p.1 here.1 in (c.0, pair_comes_out b.drafts c.0 p.0 p.1 c.1)

  pub ends_kept : (q i : ℕ) → q < length b.drafts → i ≤ t.end → ends_from (automaton_of b x y) t (
    i,
    new_name b.drafts q,
  ) ≡ table_ends b.reverse t b.drafts (i, q)
  ends_kept q i inside place =
      let here : In (i, q) = (place, inside) in
      let there : IsPairOf (automaton_of b x y) t (i, new_name b.drafts q) = (place, name_inside b x y can q inside) in
      let met = walk_from same_pair pairs_equal from In (suc t.end * length b.drafts) finite_table (i, q) here in
      let passed = walk_passed same_pair pairs_equal same_pair pairs_equal (renamed_pair b.drafts) from from_built
      (pair_stands b.drafts) In stays_in kept_ways stand_ways apart out (i, q) here met.0 met.1 in
      let found : ℕ × ℕ → Option (ℕ × ℕ) = λ p. table_match (draft_at b.drafts) p in
      let one : distinct same_pair (answers (matched (automaton_of b x y))
      (map (renamed_pair b.drafts) (filter (λ p. is_none (pair_stands b.drafts p)) met.0))) ≡ ends_from (automaton_of b x y) t (
        i,
        new_name b.drafts q,
      ) =
      walk_ends same_pair pairs_equal same_pair pairs_equal from_built (IsPairOf (automaton_of b x y) t)
      (suc t.end * length (automaton_of b x y).states)
      (finite_automaton (automaton_of b x y) t (is_well_formed b x y can)) (
        i,
        new_name b.drafts q,
      ) there (matched (automaton_of b x y)) _ passed.0 in
      let two : distinct same_pair (answers found met.0) ≡ table_ends b.reverse t b.drafts (i, q) =
      walk_ends same_pair pairs_equal same_pair pairs_equal from In (suc t.end * length b.drafts) finite_table (
        i,
        q,
      ) here found met.0 met.1 in
      let same : answers (matched (automaton_of b x y)) (map (renamed_pair b.drafts) (filter (λ p. is_none (pair_stands b.drafts p)) met.0))
      ≡ answers found met.0 =
      answers_kept same_pair pairs_equal (renamed_pair b.drafts) (pair_stands b.drafts) found (matched (automaton_of b x y)) In
      (λ p p_in none. state_match b x y p.1 p.0 p_in.1 (no_pair p.0 (stands_for (draft_at b.drafts p.1)) none))
      (λ p r some. let s = some_pair p.0 (stands_for (draft_at b.drafts p.1)) r some in match_of_stand (draft_at b.drafts p.1) s.0 s.1 p.0)
      met.0 passed.1 in
      sym one ∙ ap (distinct same_pair) same ∙ two
