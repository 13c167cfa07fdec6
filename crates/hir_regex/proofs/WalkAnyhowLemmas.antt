-- The ends of runs are the same with other readings of looks, if the readings agree wherever an overlapping search over all of them has
-- states left. The lists of states that this search comes to are those of both.
use Rattle.std.proofs.Common.{◌≡◌, ◌⊎◌, ◌↔◌, ℕ, zero, suc, ◌<◌, ◌≤◌, Bool, true, false, not, List, [], ◌∷◌, length, refl, sym, ap}
use Rattle.std.proofs.Common.{◌∙◌, ⊎_elim, subst, arith}
use Rattle.std.proofs.lemmas.Bool.{cases_Bool}
use Rattle.std.proofs.lemmas.Bool.Decides.{Decides-eqb}
use Rattle.std.specs.Bool.{nat_eq}
use Rattle.std.specs.List.{filter, flat_map}
use Rattle.look_core.specs.declared.look.Look.{Look}
use Rattle.look_core.specs.LookSets.{has_look}
use Rattle.look_core.specs.Looks.{holds_ascii}
use Rattle.look_core.specs.Terminators.{Terminator}
use Rattle.hir_core.specs.Means.{Looks}
use Rattle.search_types.specs.declared.match_kind.MatchKind.TheVariants.{All as AllMatches}
use Rattle.nfa_core.specs.Nfa.{Node, byte_range, sparse_node, dense_node, look_node, union_node, binary_union, capture_node, fail_node}
use Rattle.nfa_core.specs.Nfa.{match_node, Automaton, node_at, IsWellFormed}
use Rattle.nfa_core.specs.NfaValue.{is_capture, looks_of}
use Rattle.nfa_core.specs.Places.{same_pair}
use Rattle.nfa_core.specs.Reaches.{read_by}
use Rattle.nfa_core.specs.Walks.{Has, Visits}
use Rattle.nfa_core.specs.Ways.{Text, span, reads, is_satisfied, on_read, on_nothing, plain_steps, byte_steps, offset_of, bytes_left}
use Rattle.nfa_core.specs.Ways.{AreLists}
use Rattle.nfa_core.specs.Ways.{ends_from}
use Rattle.nfa_core.proofs.ForCallers.{none_in, has_filter, names_equal, pairs_equal, stays_closed, list_matches, ends_inside, looks_any}
use Rattle.nfa_core.proofs.ForCallers.{nothing_same}
use Rattle.determinize_core.specs.States.{StateValue}
use Rattle.determinize_core.specs.Steps.{is_kept, kept_among, value_after, unit_at}
use Rattle.determinize_core.specs.Walked.{lists_along}
use Rattle.determinize_core.proofs.ForCallers.{lists_are_lists, states_are}
use Rattle.hir_regex.proofs.WalkReadLemmas.{none_before}

-- ---- where states lead

-- a capture is passed however looks are read
capture_same : (node : Node) (f g : Look → Bool) → not (is_capture node) ≡ false → on_nothing node f ≡ on_nothing node g
capture_same (look_node l next) f g is = cc
capture_same (byte_range low high next) f g is = refl
capture_same (sparse_node ranges) f g is = refl
capture_same (dense_node names) f g is = refl
capture_same (union_node names) f g is = refl
capture_same (binary_union first second) f g is = refl
capture_same (capture_node next pattern group slot) f g is = refl
capture_same fail_node f g is = refl
capture_same (match_node pattern) f g is = refl

reads_same : (b : Bool) (f g : Looks) (h : List ℕ) (s e i : ℕ) → reads b (read_by f h s e) i ≡ reads b (read_by g h s e) i
reads_same false f g h s e i = refl
reads_same true f g h s e zero = refl
reads_same true f g h s e (suc i) = refl

left_same : (b : Bool) (f g : Looks) (h : List ℕ) (s e i : ℕ) → bytes_left b (read_by f h s e) i ≡ bytes_left b (read_by g h s e) i
left_same false f g h s e i = refl
left_same true f g h s e i = refl

-- of a list without kept states each is a capture
none_kept : (a : Automaton) (x : ℕ) (xs : List ℕ) → kept_among a xs ≡ [] → Has nat_eq x xs → is_kept a x ≡ false
none_kept a x xs none there = ⊎_elim
    (λ (is : is_kept a x ≡ true).
    none_in nat_eq x _ (subst (λ (l : List ℕ). Has nat_eq x l) none (has_filter nat_eq names_equal (is_kept a) x xs is ∙ there)))
    (λ (is : is_kept a x ≡ false). is)
    (cases_Bool (is_kept a x))

module _ (a : Automaton) (t : Terminator) (h : List ℕ) (s e i q : ℕ) (formed : IsWellFormed a) (below : i ≤ e) (within : e ≤ length h)
    (low : q < length a.states) (looks : Looks) where
  abbrev text : Text
  text = span t h s e

  abbrev other : Text
  other = read_by looks h s e

  abbrev place : ℕ → ℕ
  place k = offset_of a.reverse i k

  abbrev list : ℕ → List ℕ
  list k = lists_along AllMatches a text i q k

  abbrev state : ℕ → StateValue
  state k = value_after a t AllMatches h i q k

  -- at the offset after k bytes the looks of the automaton are read alike
  abbrev pub AreAlikeAt : ℕ → Type 0
  AreAlikeAt k = (l : Look) → has_look (looks_of a.states) l ≡ true → is_satisfied a.reverse text l (place k) ≡
      is_satisfied a.reverse other l
      (place k)

  lists : AreLists a text (i, q) (λ k xs. xs) list
  lists = lists_are_lists AllMatches a text i q formed low

  none_there : (k : ℕ) → k ≤ bytes_left a.reverse text i → (state k).ids ≡ [] → kept_among a (list k) ≡ []
  none_there k l none =
      sym (states_are AllMatches a t h s e i q formed below within low k l)
      ∙ ap (kept_among a) (none_before a t (state k) (unit_at a.reverse h (place k)) none)

  bytes_same : (k x : ℕ) → byte_steps a text (place k) x ≡ byte_steps a other (place k) x
  bytes_same k x = ap (on_read (node_at a x)) (reads_same a.reverse (holds_ascii t h) looks h s e (place k))

  module _ (alike : (k : ℕ) → k ≤ bytes_left a.reverse (span t h s e) i → AreAlikeAt k ⊎
      ((value_after a t AllMatches h i q k).ids ≡ [])) where
    steps_same : (k : ℕ) → k ≤ bytes_left a.reverse text i → (x : ℕ) → Has nat_eq x (list k) →
        plain_steps a text (place k) x ≡ plain_steps a other (place k) x
    steps_same k l x there = ⊎_elim
        (λ (agree : AreAlikeAt k).
        nothing_same (node_at a x) (λ m. is_satisfied a.reverse text m (place k)) (λ m. is_satisfied a.reverse other m (place k))
        (λ m next is. agree m ((looks_any m a).1 (x, next, is))))
        (λ (none : (state k).ids ≡ []).
        capture_same (node_at a x) (λ m. is_satisfied a.reverse text m (place k)) (λ m. is_satisfied a.reverse other m (place k))
        (none_kept a x (list k) (none_there k l none) there))
        (alike k l)

    same_left : bytes_left a.reverse text i ≡ bytes_left a.reverse other i
    same_left = left_same a.reverse (holds_ascii t h) looks h s e i

    visits_same : (k : ℕ) → k ≤ bytes_left a.reverse text i → (stack : List ℕ) →
        Visits nat_eq (plain_steps a text (place k)) stack [] (list k) → Visits nat_eq (plain_steps a other (place k)) stack [] (list k)
    visits_same k l stack v =
        stays_closed nat_eq names_equal (plain_steps a text (place k)) (plain_steps a other (place k)) v (steps_same k l)

    entries_same : (k : ℕ) → flat_map (byte_steps a text (place k)) (list k) ≡ flat_map (byte_steps a other (place k)) (list k)
    entries_same k = ap (λ (f : ℕ → List ℕ). flat_map f (list k)) (λ n. λ x. bytes_same k x n)

    later_same : (k : ℕ) → k < bytes_left a.reverse other i →
        Visits nat_eq (plain_steps a other (place (suc k))) (flat_map (byte_steps a other (place k)) (list k)) [] (list (suc k))
    later_same k l =
        let inside : k < bytes_left a.reverse text i = omega (arith, l, same_left) in
        subst (λ (stack : List ℕ). Visits nat_eq (plain_steps a other (place (suc k))) stack [] (list (suc k))) (entries_same k)
        (visits_same (suc k) inside (flat_map (byte_steps a text (place k)) (list k)) (lists.later k inside))

    other_lists : AreLists a other (i, q) (λ k xs. xs) list
    other_lists = record { first = visits_same 0 (omega arith) (q ∷ []) lists.first; later = later_same }

    abbrev ends : Text → List (ℕ × ℕ)
    ends u = ends_from a u (i, q)

    same_there : (k : ℕ) → k ≤ bytes_left a.reverse text i →
        filter (λ x. nat_eq x.0 (place k)) (ends text) ≡ filter (λ x. nat_eq x.0 (place k)) (ends other)
    same_there k l =
        sym (list_matches a text i formed below q low list lists k l)
        ∙ list_matches a other i formed below q low list other_lists k (omega (arith, l, same_left))

    -- the same ends at one offset
    has_there : (x : ℕ × ℕ) (k : ℕ) → x.0 ≡ place k → (l m : List (ℕ × ℕ)) →
        filter (λ x. nat_eq x.0 (place k)) l ≡ filter (λ x. nat_eq x.0 (place k)) m → Has same_pair x l → Has same_pair x m
    has_there x k at l m same there =
        let here : nat_eq x.0 (place k) ≡ true = (Decides-eqb x.0 (place k)).1 at in
        sym (has_filter same_pair pairs_equal (λ y. nat_eq y.0 (place k)) x m here)
        ∙ subst (λ (z : List (ℕ × ℕ)). Has same_pair x z) same
        (has_filter same_pair pairs_equal (λ y. nat_eq y.0 (place k)) x l here ∙ there)

    pub ends_same : (x : ℕ × ℕ) → Has same_pair x (ends_from a (span t h s e) (i, q)) ↔
        Has same_pair x (ends_from a (read_by looks h s e) (i, q))
    ends_same x = (
      λ there.
          let at = ends_inside a text i q formed (below, low) x there in
          has_there x at.0 at.2 (ends text) (ends other) (same_there at.0 at.1) there,
      λ there.
          let at = ends_inside a other i q formed (below, low) x there in
          let up = at.1 in
          has_there x at.0 at.2 (ends other) (ends text) (sym (same_there at.0 (omega (arith, up, same_left)))) there,
    )
