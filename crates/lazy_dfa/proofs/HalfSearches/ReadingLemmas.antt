-- Looks beyond what a scan reads may hold or not. What the scan finds is the first end in any case.
use Rattle.std.proofs.Common.{◌≡◌, ℕ, zero, suc, ◌+◌, ◌<◌, ◌≤◌, Bool, true, false, ◌||◌, not, List, [], ◌∷◌, ◌++◌, length, get_or, Option}
use Rattle.std.proofs.Common.{Some, None, refl, sym, ap, ◌∙◌, ◌⊎◌, inl, inr, ⊎_elim, subst, arith, if◌then◌else◌}
use Rattle.std.proofs.lemmas.Bool.{cases_Bool, le-ltb}
use Rattle.std.proofs.lemmas.Bool.Decides.{leb_tells}
use Rattle.std.specs.Bool.{nat_eq, nat_lt, nat_le}
use Rattle.std.specs.List.{flat_map, list_any}
use Rattle.look_core.specs.declared.look.Look.{Look}
use Rattle.look_core.specs.Looks.{holds_ascii}
use Rattle.look_core.specs.LookSets.{has_look}
use Rattle.look_core.specs.Terminators.{Terminator}
use Rattle.search_types.specs.declared.match_kind.MatchKind.{MatchKind}
use Rattle.search_types.specs.declared.match_kind.MatchKind.TheVariants.{LeftmostFirst}
use Rattle.search_types.specs.declared.anchored.Anchored.{Anchored}
use Rattle.search_types.specs.Modes.{is_supported}
use Rattle.nfa_core.specs.Walks.{chain_ends, distinct}
use Rattle.nfa_core.specs.Places.{first}
use Rattle.nfa_core.specs.Nfa.{Node, Automaton, fail_node, node_at, IsWellFormed}
use Rattle.nfa_core.specs.NfaValue.{looks_of, is_capture}
use Rattle.nfa_core.specs.Reaches.{read_by}
use Rattle.nfa_core.specs.Ways.{Text, span, reads, is_satisfied, on_read, byte_steps, offset_of, bytes_left, ends_from}
use Rattle.nfa_core.proofs.ForCallers.{first_same, alike_by_looks, place_zero}
use Rattle.determinize_core.specs.States.{StateValue}
use Rattle.determinize_core.specs.Starts.{start_of}
use Rattle.determinize_core.specs.Steps.{closed, known_steps, kept_among, unit_steps, reading, ids_before}
use Rattle.determinize_core.specs.Steps.{look_behind_of, start_value, step_value}
use Rattle.determinize_core.specs.Steps.{unit_at, unit_before}
use Rattle.determinize_core.specs.Walked.{cut_of, lists_along}
use Rattle.determinize_core.proofs.ForCallers.{lists_are_lists, states_are, entries_alike}
use Rattle.lazy_dfa.specs.Readers.{Reader, found}
use Rattle.lazy_dfa.specs.Scans.{is_dead, next_value, next_offset, start_name, start_or_dead, scan}
use Rattle.lazy_dfa.specs.ScanLaws.{units_read, scan_len_of}
use Rattle.lazy_dfa.proofs.HalfSearches.TurnLemmas.{place_next, dead_is}
use Rattle.lazy_dfa.proofs.HalfSearches.PassQuitLemmas.{found_in_mode, reads_all}
use Rattle.lazy_dfa.proofs.HalfSearches.BothKindsLemmas.{first_joined}
use Rattle.lazy_dfa.proofs.HalfSearches.PassLemmas.{walk, walk_steps, walk_starts, pass_finds_first}

-- ---- automata without captures keep all states

none_of_nodes : (nodes : List Node) (q : ℕ) → list_any is_capture nodes ≡ false → is_capture (get_or nodes q fail_node) ≡ false
none_of_nodes [] q e = refl
none_of_nodes (x ∷ xs) zero e = left (is_capture x) (list_any is_capture xs) e
  where
    left : (a b : Bool) → (a || b) ≡ false → a ≡ false
    left false b e = refl
    left true b e = let never : true ≡ false = e in absurd (grind (arith, never))
none_of_nodes (x ∷ xs) (suc q) e = none_of_nodes xs q (right (is_capture x) (list_any is_capture xs) e)
  where
    right : (a b : Bool) → (a || b) ≡ false → b ≡ false
    right false b e = e
    right true b e = let never : true ≡ false = e in absurd (grind (arith, never))

-- from at least one state, at least one state is reached
some_met : (ways : ℕ → List ℕ) (n : ℕ) (xs : List ℕ) → 0 < n → distinct nat_eq (flat_map (chain_ends nat_eq ways n []) xs) ≡ [] →
    xs ≡ []
some_met ways n [] l e = refl
some_met ways zero (x ∷ xs) l e = absurd (omega (arith, l))
some_met ways (suc n) (x ∷ xs) l e =
    nothing (sym (first_joined x []
    (flat_map (chain_ends nat_eq ways n (x ∷ [])) (ways x) ++ flat_map (chain_ends nat_eq ways (suc n) []) xs)) ∙ ap first e)
  where
    nothing : Some x ≡ None → x ∷ xs ≡ []
    nothing never = let no_way : true ≡ false = cc in absurd (grind (arith, no_way))

module _ (a : Automaton) (none : list_any is_capture a.states ≡ false) (some : 0 < length a.states) where
  kept_all : (xs : List ℕ) → kept_among a xs ≡ xs
  kept_all [] = refl
  kept_all (x ∷ xs) = ap (λ (c : Bool). if not c then x ∷ kept_among a xs else kept_among a xs) (none_of_nodes a.states x none)
      ∙ ap (λ (l : List ℕ). x ∷ l) (kept_all xs)

  none_met : (looks : ℕ) (xs : List ℕ) → kept_among a (closed a looks xs) ≡ [] → xs ≡ []
  none_met looks xs e = some_met (known_steps a looks) (length a.states) xs some (sym (kept_all (closed a looks xs)) ∙ e)

  step_dead : (t : Terminator) (kind : MatchKind) (v : StateValue) (u : Option ℕ) → is_dead (step_value a t kind v u) ≡ true →
      flat_map (unit_steps a u) (reading kind a (ids_before a t v u)) ≡ []
  step_dead t kind v u dead =
      none_met _ (flat_map (unit_steps a u) (reading kind a (ids_before a t v u)))
      (ap (λ (w : StateValue). w.ids) (dead_is (step_value a t kind v u) dead))

  start_lives : (t : Terminator) (o : Option ℕ) (q : ℕ) → is_dead (start_value a t (start_of t o) q) ≡ true → ⊥
  start_lives t o q dead =
      no_list q (none_met (look_behind_of a t (start_of t o)).look_have (q ∷ [])
      (ap (λ (w : StateValue). w.ids) (dead_is (start_value a t (start_of t o) q) dead)))
    where
      no_list : (q : ℕ) → q ∷ [] ≡ [] → ⊥
      no_list q e = let never : true ≡ false = cc in absurd (grind (arith, never))

-- ---- at the end of the input no byte is read

flat_none : (f : ℕ → List ℕ) (xs : List ℕ) → ((x : ℕ) → f x ≡ []) → flat_map f xs ≡ []
flat_none f [] none = refl
flat_none f (x ∷ xs) none = ap (λ (l : List ℕ). l ++ flat_map f xs) (none x) ∙ flat_none f xs none

not_below : (j e : ℕ) (P : Option (ℕ × ℕ)) → e ≤ j → (if nat_lt j e then P else None) ≡ None
not_below j e P l = ap (λ (b : Bool). if b then P else None) (le-ltb j e l)

reads_none : (is_reverse : Bool) (t : Terminator) (h : List ℕ) (s e i j : ℕ) → i ≤ e →
    j ≡ offset_of is_reverse i (bytes_left is_reverse (span t h s e) i) →
    reads is_reverse (span t h s e) j ≡ None
reads_none false t h s e i j below is = not_below j e _ (omega (arith, is))
reads_none true t h s e i zero below is = refl
reads_none true t h s e i (suc j) below is = not_from j s _ (omega (arith, is))
  where
    not_from : (j s : ℕ) (P : Option (ℕ × ℕ)) → j < s → (if nat_le s j then P else None) ≡ None
    not_from j s P l = ⊎_elim
        (λ reported. let up = reported.1 in absurd (omega (arith, l, up)))
        (λ reported. ap (λ (b : Bool). if b then P else None) reported.0) (leb_tells s j)

-- ---- how far a scan goes

-- states that follow each other: all units are read, or the last state is dead
module _ (r : Reader) (h : List ℕ) (i : ℕ) (state : ℕ → StateValue)
    (steps : (k : ℕ) → state (suc k) ≡ next_value r h (offset_of r.automaton.reverse i k) (state k)) where
  abbrev count : ℕ → ℕ → ℕ
  count n k = units_read r false h n (offset_of r.automaton.reverse i k) (state k)

  count_dead : (n k : ℕ) → is_dead (state k) ≡ true → count (suc n) k ≡ 0
  count_dead n k dead =
      ap (λ (b : Bool). if b then 0 else suc
      (units_read r false h n (next_offset r (offset_of r.automaton.reverse i k))
      (next_value r h (offset_of r.automaton.reverse i k) (state k)))) dead

  count_lives : (n k : ℕ) → is_dead (state k) ≡ false → count (suc n) k ≡ suc (count n (suc k))
  count_lives n k lives =
      ap (λ (b : Bool). if b then 0 else suc
      (units_read r false h n (next_offset r (offset_of r.automaton.reverse i k))
      (next_value r h (offset_of r.automaton.reverse i k) (state k)))) lives
      ∙ ap (λ (j : ℕ). suc (units_read r false h n j (next_value r h (offset_of r.automaton.reverse i k) (state k))))
      (place_next r.automaton.reverse i k)
      ∙ ap (λ (v : StateValue). suc (units_read r false h n (offset_of r.automaton.reverse i (suc k)) v)) (sym (steps k))

  abbrev IsDeadAt : ℕ → Type 0
  IsDeadAt k = is_dead (state k) ≡ true

  pub all_or_dead : (n k : ℕ) → (count n k ≡ n) ⊎ ((count n k < n) × IsDeadAt (k + count n k))
  all_or_dead zero k = inl refl
  all_or_dead (suc n) k = ⊎_elim
      (λ (dead : is_dead (state k) ≡ true).
      let none = count_dead n k dead in
      inr (omega (arith, none), subst IsDeadAt (stays k (count (suc n) k) none) dead))
      (λ (lives : is_dead (state k) ≡ false).
      let more = count_lives n k lives in
      ⊎_elim
      (λ (all : count n (suc k) ≡ n). inl (omega (arith, more, all)))
      (λ (some : (count n (suc k) < n) × IsDeadAt (suc k + count n (suc k))).
      let less = some.0 in
      inr (omega (arith, more, less), subst IsDeadAt (moves k (count n (suc k)) (count (suc n) k) more) some.1))
      (all_or_dead n (suc k)))
      (cases_Bool (is_dead (state k)))
    where
      stays : (k c : ℕ) → c ≡ 0 → k ≡ k + c
      stays k c none = omega (arith, none)

      moves : (k c d : ℕ) → d ≡ suc c → suc k + c ≡ k + d
      moves k c d is = omega (arith, is)

same_place : (d : ℕ) → 0 + suc d ≡ suc d
same_place d = omega arith

-- ---- what a scan finds

module _ (r : Reader) (mode : Anchored) (h : List ℕ) (s e i q : ℕ) (leftmost : r.kind ≡ LeftmostFirst)
    (formed : IsWellFormed r.automaton)
    (plain : list_any is_capture r.automaton.states ≡ false) (below : i ≤ e) (within : e ≤ length h)
    (named : start_name r.automaton mode ≡ Some q) (low : q < length r.automaton.states) where
  abbrev a : Automaton
  a = r.automaton

  abbrev t : Terminator
  t = r.terminator

  abbrev text : Text
  text = span t h s e

  abbrev left : ℕ
  left = bytes_left a.reverse text i

  abbrev place : ℕ → ℕ
  place k = offset_of a.reverse i k

  abbrev state : ℕ → StateValue
  state k = walk r h i q k

  abbrev leads : MatchKind → ℕ → List ℕ
  leads kind d = flat_map (byte_steps a text (place d)) (cut_of kind a i d (lists_along kind a text i q d))

  some : 0 < length a.states
  some = omega (arith, low)

  over_at : (d : ℕ) → d < left → is_dead (state (suc d)) ≡ true → leads r.kind d ≡ []
  over_at d less dead =
      sym (entries_alike a r.kind t h s e i d below within less (ids_before a t (state d) (unit_at a.reverse h (place d)))
      (lists_along r.kind a text i q d)
      (states_are r.kind a t h s e i q formed below within low d (omega (arith, less))))
      ∙ step_dead a plain some t r.kind (state d) (unit_at a.reverse h (place d)) dead

  over_end : (kind : MatchKind) → leads kind left ≡ []
  over_end kind = flat_none (byte_steps a text (place left)) (cut_of kind a i left (lists_along kind a text i q left))
      (λ x. ap (on_read (node_at a x)) (reads_none a.reverse t h s e i (place left) below refl))

  abbrev len : ℕ
  len = scan_len_of r mode false h left i

  len_is : is_supported r.starts_for_each_pattern mode ≡ true → len ≡ count r h i state (walk_steps r h i q) (suc left) 0
  len_is fit =
      sym (reads_all r mode false h left i fit)
      ∙ ap (λ (name : Option ℕ). units_read r false h (suc left) i (start_or_dead r (unit_before a.reverse h i) name)) named
      ∙ ap (λ (v : StateValue). units_read r false h (suc left) i v) (walk_starts r h i q)
      ∙ ap (λ (j : ℕ). units_read r false h (suc left) j (state 0)) (sym (place_zero a.reverse i))

  module _ (holds : Look → ℕ → Bool)
      (agree : (l : Look) (k : ℕ) → has_look (looks_of r.automaton.states) l ≡ true →
      k < scan_len_of r mode false h (bytes_left r.automaton.reverse (span r.terminator h s e) i) i →
      is_satisfied r.automaton.reverse (span r.terminator h s e) l (offset_of r.automaton.reverse i k) ≡ is_satisfied r.automaton.reverse
      (read_by holds h s e) l (offset_of r.automaton.reverse i k)) where
    same_first : (d : ℕ) → d < len → leads r.kind d ≡ [] →
        first (ends_from a text (i, q)) ≡ first (ends_from a (read_by holds h s e) (i, q))
    same_first d less over =
        first_same a text (read_by holds h s e) i q d (lists_along LeftmostFirst a text i q)
        (alike_by_looks a (holds_ascii t h) holds h s e i d (λ l k there up. agree l k there (omega (arith, less, up))))
        (lists_are_lists LeftmostFirst a text i q formed low) (subst (λ (kind : MatchKind). leads kind d ≡ []) leftmost over) formed
        (below, low)

    pub pass_finds_first_anyhow : (o : Option (ℕ × ℕ)) → scan r mode false h left i ≡ found o →
        o ≡ first (ends_from a (read_by holds h s e) (i, q))
    pass_finds_first_anyhow o is =
        let fit = found_in_mode r mode false h left i o is in
        let same = len_is fit.0 in
        pass_finds_first r mode h s e i q formed below within named low o leftmost is
        ∙ ⊎_elim
        (λ (all : count r h i state (walk_steps r h i q) (suc left) 0 ≡ suc left).
        same_first left (omega (arith, same, all)) (over_end r.kind))
        (λ (some_left : (count r h i state (walk_steps r h i q) (suc left) 0 < suc left) ×
        (is_dead (state (0 + count r h i state (walk_steps r h i q) (suc left) 0)) ≡ true)).
        by_count (count r h i state (walk_steps r h i q) (suc left) 0) same some_left.0 some_left.1)
        (all_or_dead r h i state (walk_steps r h i q) (suc left) 0)
      where
        by_count : (c : ℕ) → len ≡ c → c < suc left → is_dead (state (0 + c)) ≡ true →
            first (ends_from a text (i, q)) ≡ first (ends_from a (read_by holds h s e) (i, q))
        by_count zero is less dead = absurd (start_lives a plain some t (unit_before a.reverse h i) q dead)
        by_count (suc d) is less dead =
            same_first d (omega (arith, is))
            (over_at d (omega (arith, less)) (subst (λ (k : ℕ). is_dead (state k) ≡ true) (same_place d) dead))
