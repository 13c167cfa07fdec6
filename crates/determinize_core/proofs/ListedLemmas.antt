-- What a sequence of states lists: the ends of runs at each offset, and under leftmost-first the end of the most preferred one.
use Rattle.std.proofs.Common.{◌≡◌, ℕ, zero, suc, ◌+◌, ◌<◌, ◌≤◌, true, false, List, [], ◌∷◌, ◌++◌, map, length, Option, Some, None, refl}
use Rattle.std.proofs.Common.{sym, ap, ◌∙◌, ◌⊎◌, inl, inr, ⊎_elim, subst, arith}
use Rattle.std.proofs.lemmas.Bool.{cases_lt}
use Rattle.std.specs.List.{filter}
use Rattle.std.specs.Option.{option_or, option_to_list}
use Rattle.std.specs.Bool.{nat_eq}
use Rattle.look_core.specs.Terminators.{Terminator}
use Rattle.search_types.specs.declared.match_kind.MatchKind.TheVariants.{All as AllMatches, LeftmostFirst}
use Rattle.nfa_core.specs.Walks.{has, join, distinct}
use Rattle.nfa_core.specs.Runs.{answers, IsMostPreferred}
use Rattle.nfa_core.specs.Places.{same_pair, answers_at, first, latest}
use Rattle.nfa_core.specs.Nfa.{Node, byte_range, sparse_node, dense_node, look_node, union_node, binary_union, capture_node, fail_node}
use Rattle.nfa_core.specs.Nfa.{match_node, Automaton, node_at, IsWellFormed}
use Rattle.nfa_core.specs.Ways.{Text, span, match_of, ways, matched, matched_after, offset_of, bytes_left, ends_from}
use Rattle.nfa_core.proofs.ForCallers.{has_or_not, same_here, option_cases, one_value, no_value, most_preferred, list_matches}
use Rattle.nfa_core.proofs.ForCallers.{latest_is_preferred, first_of_option, map_appended}
use Rattle.determinize_core.specs.States.{StateValue}
use Rattle.determinize_core.specs.Steps.{pattern_of, pattern_at, value_after}
use Rattle.determinize_core.specs.Walked.{lists_along, end_at, latest_listed}
use Rattle.determinize_core.proofs.WalkedLemmas.{lists_are_lists, matches_are}

-- ---- patterns with their offset

abbrev at : ℕ → ℕ → ℕ × ℕ
at j p = (j, p)

abbrev pattern : ℕ × ℕ → ℕ
pattern x = x.1

one_end : (node : Node) (j : ℕ) → option_to_list (match_of node j) ≡ map (at j) (option_to_list (pattern_of node))
one_end (byte_range low high next) j = refl
one_end (sparse_node ranges) j = refl
one_end (dense_node names) j = refl
one_end (look_node l next) j = refl
one_end (union_node names) j = refl
one_end (binary_union first second) j = refl
one_end (capture_node next pattern group slot) j = refl
one_end fail_node j = refl
one_end (match_node pattern) j = refl

ends_there : (a : Automaton) (i k : ℕ) (xs : List ℕ) → answers_at (matched_after a i) k xs ≡ map (at (offset_of a.reverse i k))
    (answers (pattern_at a) xs)
ends_there a i k [] = refl
ends_there a i k (x ∷ xs) =
    let j : ℕ = offset_of a.reverse i k in
    ap (λ l. l ++ answers_at (matched_after a i) k xs) (one_end (node_at a x) j)
    ∙ ap (λ l. map (at j) (option_to_list (pattern_at a x)) ++ l) (ends_there a i k xs)
    ∙ sym (map_appended (at j) (option_to_list (pattern_at a x)) (answers (pattern_at a) xs))

has_at : (j x : ℕ) (xs : List ℕ) → has same_pair (j, x) (map (at j) xs) ≡ has nat_eq x xs
has_at j x [] = refl
has_at j x (y ∷ ys) = rw (same_here j x y, has_at j x ys) refl

join_at : (j : ℕ) (seen xs : List ℕ) → map (at j) (join nat_eq seen xs) ≡ join same_pair (map (at j) seen) (map (at j) xs)
join_at j seen [] = refl
join_at j seen (x ∷ xs) = ⊎_elim
    (λ (e : has nat_eq x seen ≡ true). let f : has same_pair (j, x) (map (at j) seen) ≡ true = has_at j x seen ∙ e in
    rw (e, f) (join_at j seen xs))
    (λ (e : has nat_eq x seen ≡ false). let f : has same_pair (j, x) (map (at j) seen) ≡ false = has_at j x seen ∙ e in
    rw (e, f) (join_at j (seen ++ x ∷ []) xs ∙ ap (λ l. join same_pair l (map (at j) xs)) (map_appended (at j) seen (x ∷ []))))
    (has_or_not nat_eq x seen)

patterns_of : (j : ℕ) (xs : List ℕ) → map pattern (map (at j) xs) ≡ xs
patterns_of j [] = refl
patterns_of j (x ∷ xs) = ap (λ l. x ∷ l) (patterns_of j xs)

-- ---- the last of states that lists a match

first_at : (j : ℕ) (ps : List ℕ) → end_at j (first ps) ≡ first (map (at j) ps)
first_at j [] = refl
first_at j (p ∷ ps) = refl

at_most_one : {A : Type 0} (o : Option A) → length (option_to_list o) ≤ 1
at_most_one None = omega arith
at_most_one (Some x) = omega arith

none_first : (ps : List ℕ) (j : ℕ) → end_at j (first ps) ≡ None → ps ≡ []
none_first [] j e = refl
none_first (p ∷ ps) j e = no_value (Some (j, p)) (j, p) _ e refl

module _ (states : ℕ → StateValue) (place : ℕ → ℕ) where
  abbrev reported : ℕ → Option (ℕ × ℕ)
  reported k = end_at (place k) (first (states (suc k)).matches)

  abbrev Silent : ℕ → ℕ → Type 0
  Silent from to = (m : ℕ) → from < m → m ≤ to → (states (suc m)).matches ≡ []

  none_or : (x y : Option (ℕ × ℕ)) → option_or x y ≡ None → (x ≡ None) × (y ≡ None)
  none_or None y e = (refl, e)
  none_or (Some x) y e = let n : Some x ≡ None = e in cc

  at_or_past : (k m : ℕ) → k ≤ m → (m ≡ k) ⊎ (suc k ≤ m)
  at_or_past k m l = ⊎_elim (λ less. inr less) (λ past. inl (omega (arith, l, past))) (cases_lt k m)

  pub none_listed : (d k : ℕ) → latest_listed states place d k ≡ None → (m : ℕ) → k ≤ m → m ≤ k + d → (states (suc m)).matches ≡ []
  none_listed zero k e m from to =
      let is : m ≡ k = omega (arith, from, to) in ap (λ n. (states (suc n)).matches) is ∙ none_first (states (suc k)).matches (place k) e
  none_listed (suc d) k e m from to =
      let parts = none_or (latest_listed states place d (suc k)) (reported k) e in
      ⊎_elim (λ (is : m ≡ k). ap (λ n. (states (suc n)).matches) is ∙ none_first (states (suc k)).matches (place k) parts.1)
      (λ (past : suc k ≤ m). none_listed d (suc k) parts.0 m past (omega (arith, to))) (at_or_past k m from)

  -- the last one that lists a match, and its first pattern
  abbrev Last : ℕ → ℕ → ℕ → ℕ → Type 0
  Last k to j p = (m : ℕ) × (k ≤ m) × (m ≤ to) × (j ≡ place m) × (first (states (suc m)).matches ≡ Some p) × Silent m to

  told_there : (k : ℕ) (o : Option ℕ) (j p : ℕ) → end_at (place k) o ≡ Some (j, p) → (j ≡ place k) × (o ≡ Some p)
  told_there k None j p e = no_value None (j, p) _ refl e
  told_there k (Some r) j p e = let same : (place k, r) ≡ (j, p) = one_value (Some (place k, r)) (place k, r) (j, p) refl e in
      (sym (ap (λ (x : ℕ × ℕ). x.0) same), ap (λ (x : ℕ × ℕ). Some x.1) same)

  pub last_listed : (d k j p : ℕ) → latest_listed states place d k ≡ Some (j, p) → Last k (k + d) j p
  last_listed zero k j p e =
      let is = told_there k (first (states (suc k)).matches) j p e in
      (k, omega arith, omega arith, is.0, is.1, (λ m past to. absurd (omega (arith, past, to))))
  last_listed (suc d) k j p e = ⊎_elim
      (λ (none : latest_listed states place d (suc k) ≡ None).
      let now : reported k ≡ Some (j, p) = (rw none at e) in
      let is = told_there k (first (states (suc k)).matches) j p now in
      (k, omega arith, omega arith, is.0, is.1, (λ m past to. none_listed d (suc k) none m past (omega (arith, to)))))
      (λ (some : (x : ℕ × ℕ) × (latest_listed states place d (suc k) ≡ Some x)).
      let later : latest_listed states place d (suc k) ≡ Some (j, p) = some.1 ∙ sym (ap (λ o. option_or o (reported k)) some.1) ∙ e in
      let r = last_listed d (suc k) j p later in
      let from = r.1 in
      let to = r.2 in
      (r.0, omega (arith, from), omega (arith, to), r.3, r.4, (λ m past up. r.5 m past (omega (arith, up)))))
      (option_cases (latest_listed states place d (suc k)))

  only_first : (ps : List ℕ) (p : ℕ) → length ps ≤ 1 → first ps ≡ Some p → ps ≡ p ∷ []
  only_first [] p l e = let n : None ≡ Some p = e in cc
  only_first (r ∷ []) p l e = ap (λ x. x ∷ []) (one_value (Some r) r p refl e)
  only_first (r ∷ s ∷ ps) p l e = absurd (omega (arith, l))

-- ---- sequences of states

module _ (a : Automaton) (t : Terminator) (h : List ℕ) (s e i q : ℕ) (formed : IsWellFormed a) (below : i ≤ e) (within : e ≤ length h)
    (low : q < length a.states) where
  abbrev text : Text
  text = span t h s e

  abbrev len : ℕ
  len = bytes_left a.reverse text i

  pub all_listed : (k : ℕ) → k ≤ len →
      (value_after a t AllMatches h i q (suc k)).matches ≡ map pattern (filter (λ x. nat_eq x.0 (offset_of a.reverse i k))
      (ends_from a text (i, q)))
  all_listed k l =
      let j : ℕ = offset_of a.reverse i k in
      let ps : List ℕ = answers (pattern_at a) (lists_along AllMatches a text i q k) in
      matches_are AllMatches a t h s e i q formed below within low k l
      ∙ sym (patterns_of j (distinct nat_eq ps))
      ∙ ap (map pattern) (join_at j [] ps ∙ ap (distinct same_pair) (sym (ends_there a i k (lists_along AllMatches a text i q k)))
      ∙ list_matches a text i formed below q low (lists_along AllMatches a text i q)
      (lists_are_lists AllMatches a text i q formed low) k l)

  abbrev state : ℕ → StateValue
  state k = value_after a t LeftmostFirst h i q k

  abbrev lists : ℕ → List ℕ
  lists k = lists_along LeftmostFirst a text i q k

  abbrev place : ℕ → ℕ
  place k = offset_of a.reverse i k

  progress_reached : (k : ℕ) → k ≤ len → end_at (place k) (first (state (suc k)).matches) ≡
      first (answers_at (matched_after a i) k (lists k))
  progress_reached k l =
      ap (λ ms. end_at (place k) (first ms)) (matches_are LeftmostFirst a t h s e i q formed below within low k l)
      ∙ ap (end_at (place k)) (first_of_option (first (answers (pattern_at a) (lists k))))
      ∙ first_at (place k) (answers (pattern_at a) (lists k))
      ∙ ap first (sym (ends_there a i k (lists k)))

  latest_is : (d k : ℕ) → k + d ≤ len → latest_listed state place d k ≡ latest (matched_after a i) lists d k
  latest_is zero k l = progress_reached k (omega (arith, l))
  latest_is (suc d) k l =
      ap (λ o. option_or o (end_at (place k) (first (state (suc k)).matches))) (latest_is d (suc k) (omega (arith, l)))
      ∙ ap (option_or (latest (matched_after a i) lists d (suc k))) (progress_reached k (omega (arith, l)))

  pub latest_is_first : latest_listed state place len 0 ≡ first (ends_from a text (i, q))
  latest_is_first = latest_is len 0 (omega arith) ∙ latest_is_preferred a text i formed below q low lists
      (lists_are_lists LeftmostFirst a text i q formed low)

  pub latest_is_preferred_run : IsMostPreferred same_pair (ways a text) (matched a) (i, q) (latest_listed state place len 0)
  latest_is_preferred_run =
      let P : Option (ℕ × ℕ) → Type 0 = λ o. IsMostPreferred same_pair (ways a text) (matched a) (i, q) o in
      subst P (sym latest_is_first) (most_preferred a text (i, q) formed (below, low))

pub one_listed : (a : Automaton) (t : Terminator) (h : List ℕ) (i q k : ℕ) → length (value_after a t LeftmostFirst h i q k).matches ≤ 1
one_listed a t h i q zero = omega arith
one_listed a t h i q (suc k) = at_most_one _

module _ (a : Automaton) (t : Terminator) (h : List ℕ) (s e i q : ℕ) (formed : IsWellFormed a) (below : i ≤ e) (within : e ≤ length h)
    (low : q < length a.states) where
  abbrev listed : ℕ → List ℕ
  listed k = (value_after a t LeftmostFirst h i q (suc k)).matches

  abbrev left : ℕ
  left = bytes_left a.reverse (span t h s e) i

  pub some_listed : (j p : ℕ) → first (ends_from a (span t h s e) (i, q)) ≡ Some (j, p) →
      (k : ℕ) × (k ≤ left) × (j ≡ offset_of a.reverse i k) × (listed k ≡ p ∷ []) × ((m : ℕ) → k < m → m ≤ left → listed m ≡ [])
  some_listed j p is =
      let r = last_listed (value_after a t LeftmostFirst h i q) (offset_of a.reverse i) left 0 j p
      (latest_is_first a t h s e i q formed below within low ∙ is) in
      let to = r.2 in (
        r.0,
        omega (arith, to),
        r.3,
        only_first (value_after a t LeftmostFirst h i q) (offset_of a.reverse i) (listed r.0) p (one_listed a t h i q (suc r.0)) r.4,
        (λ m past up. r.5 m past (omega (arith, up))),
      )

  pub never_listed : first (ends_from a (span t h s e) (i, q)) ≡ None → (k : ℕ) → k ≤ left → listed k ≡ []
  never_listed none k l = none_listed (value_after a t LeftmostFirst h i q) (offset_of a.reverse i) left 0
      (latest_is_first a t h s e i q formed below within low ∙ none) k (omega arith) (omega (arith, l))
