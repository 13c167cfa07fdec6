-- The unanchored start of the automaton that is built of a compile's states, when reading forward: it leads to the anchored one at one
-- offset after the other.
use Rattle.std.proofs.Common.{◌≡◌, ℕ, zero, suc, ◌+◌, ◌-◌, ◌<◌, ◌≤◌, nat_lt, Bool, true, false, List, [], ◌∷◌, ◌++◌, map, length}
use Rattle.std.proofs.Common.{take, inl, inr, ⊎_elim, if◌then◌else◌, Option, Some, None, refl, sym, ap, ap₂, ◌∙◌, subst, arith, append-nil}
use Rattle.std.specs.Prelude.{All}
use Rattle.std.specs.Bool.{nat_eq}
use Rattle.std.specs.List.{flat_map}
use Rattle.std.proofs.lemmas.Bool.{lt-ltb, le-ltb, cases_lt, or_left}
use Rattle.std.proofs.lemmas.List.Elements.{All-get_or, All-head}
use Rattle.search_core.specs.Text.{byte_at}
use Rattle.hir_core.specs.Tree.{Tree}
use Rattle.nfa_core.specs.BuilderStates.{DraftNode, Assembly, draft_at, empty_draft, sparse_draft, union_reverse_draft, fail_draft}
use Rattle.nfa_core.specs.CanBuild.{names_of}
use Rattle.nfa_core.specs.Drafted.{Table, table_ways}
use Rattle.nfa_core.specs.Nfa.{node_at}
use Rattle.nfa_core.specs.Places.{same_pair}
use Rattle.nfa_core.specs.Renaming.{stands_for, kept, new_name, automaton_of}
use Rattle.nfa_core.specs.Runs.{IsChain, last_or}
use Rattle.nfa_core.specs.Walks.{Has, distinct}
use Rattle.nfa_core.specs.Ways.{Text, reads, with_offset, is_satisfied, on_read, on_nothing, offset_after, ways}
use Rattle.nfa_core.proofs.ForCallers.{join_once_more, of_append, ends_by_ways, renamed_pair, state_ways, chain_to, join-append, none_in}
use Rattle.nfa_core.proofs.ForCallers.{has_first, has_cons, names_equal, pairs_equal, from_map, state_match, one_state, name_inside}
use Rattle.nfa_core.proofs.ForCallers.{is_well_formed, past_next}
use Rattle.thompson_nfa.specs.Assembled.{IsAssembled, TriesEachOffset, AllAnchored}
use Rattle.search_types.specs.FirstFound.{offsets_from}
use Rattle.thompson_nfa.specs.Compilations.{IsReadTo, IsPlainText}
use Rattle.thompson_nfa.specs.Configs.{Options, reverse_of}
use Rattle.thompson_nfa.specs.Denotes.{at}
use Rattle.thompson_nfa.proofs.Walks.AnchorLemmas.{anchored_place}
use Rattle.thompson_nfa.proofs.Assembled.AssembledSpans.{anchored_found}
use Rattle.thompson_nfa.proofs.Assembled.AssembledStarts.{stays_in, ends, ends_again}
use Rattle.thompson_nfa.proofs.Walks.TriedPlaces.{any_range, any_ends, IsText, ends_forward}
use Rattle.thompson_nfa.proofs.Walks.WayLemmas.{byte_ends, Goes, goes_union, goes_fail, goes_choice, goes_sparse}

behind_or_here : (i : ℕ) (c : Bool) (o : Option ℕ) → i ≤ offset_after i (if c then with_offset (suc i) o else None)
behind_or_here i true None = omega arith
behind_or_here i true (Some b) = omega arith
behind_or_here i false o = omega arith

none_there : (l : List (ℕ × ℕ)) → ((e : ℕ × ℕ) → Has same_pair e l → ⊥) → l ≡ []
none_there [] none = refl
none_there (e ∷ l) none = absurd (none e (has_first same_pair pairs_equal e l))

distinct_behind : (xs ys : List (ℕ × ℕ)) → distinct same_pair (xs ++ distinct same_pair ys) ≡ distinct same_pair (xs ++ ys)
distinct_behind xs ys =
    join-append same_pair [] xs (distinct same_pair ys) ∙ join_once_more same_pair pairs_equal (distinct same_pair xs) ys
    ∙ sym (join-append same_pair [] xs ys)

pub nothing_read : (t : Text) (i : ℕ) → t.end ≤ i → any_ends false t i ≡ []
nothing_read t i l =
    ap (λ (c : Bool). byte_ends any_range (if c then with_offset (suc i) (byte_at t.haystack i) else None)) (le-ltb i t.end l)

module _ (o : Options) (xs : List Tree) (b : Assembly) (A U : ℕ) (is : IsAssembled o xs b A U) (up : b.reverse ≡ false) (t : Text) where
  abbrev T : Table
  T = draft_at b.drafts

  abbrev go : ℕ × ℕ → List (ℕ × ℕ)
  go p = ways (automaton_of b A U) t p

  abbrev from : ℕ × ℕ → List (ℕ × ℕ)
  from p = ends o xs b A U is t p

  -- ---- offsets only go up

  way_forward : (p q : ℕ × ℕ) → Has same_pair q (go p) → p.0 ≤ q.0
  way_forward p q h =
      let node = node_at (automaton_of b A U) p.1 in
      let read : Option (ℕ × ℕ) = reads b.reverse t p.0 in
      let R : Bool → Type 0 = λ back. p.0 ≤ offset_after p.0 (reads back t p.0) in
      let above : p.0 ≤ offset_after p.0 read = subst R (sym up) (behind_or_here p.0 (nat_lt p.0 t.end) (byte_at t.haystack p.0)) in
      let I : ℕ × ℕ → Type 0 = λ w. p.0 ≤ w.0 in
      of_append same_pair pairs_equal I (map (λ k. (offset_after p.0 read, k)) (on_read node read))
      (map (λ k. (p.0, k)) (on_nothing node (λ l. is_satisfied b.reverse t l p.0)))
      (λ w g. let m = from_map (offset_after p.0 read) w (on_read node read) g in let e : w.0 ≡ offset_after p.0 read =
      ap (λ (k : ℕ × ℕ). k.0) m.2 in omega (arith, e, above))
      (λ w g. let m = from_map p.0 w (on_nothing node (λ l. is_satisfied b.reverse t l p.0)) g in let e : w.0 ≡ p.0 =
      ap (λ (k : ℕ × ℕ). k.0) m.2 in omega (arith, e)) q h

  chain_forward : (p : ℕ × ℕ) (r : List (ℕ × ℕ)) → IsChain same_pair go p r → p.0 ≤ (last_or p r).0
  chain_forward p [] c = omega arith
  chain_forward p (q ∷ r) c = let a = way_forward p q c.0 in let l = chain_forward q r c.1 in omega (arith, a, l)

  -- ---- no chain from the anchored start leads to the other

  module _ (kept_u : stands_for (draft_at b.drafts U) ≡ None) where
    starts_apart : (s i : ℕ) (r : List (ℕ × ℕ)) → Has nat_eq s b.starts → IsChain same_pair (table_ways b.reverse t T) (i, s) r →
        (last_or (i, s) r).1 ≡ U → ⊥
    starts_apart s i r has c last =
        stays_in o xs b A U is t s i r has c
        (or_left (nat_lt (last_or (i, s) r).1 is.low) (nat_eq (last_or (i, s) r).1 is.free.hole)
        (ap (λ (k : ℕ). nat_lt k is.low) last ∙ lt-ltb U is.low is.below))

    table_apart : (i : ℕ) (r : List (ℕ × ℕ)) → IsChain same_pair (table_ways b.reverse t T) (i, A) r → (last_or (i, A) r).1 ≡ U → ⊥
    table_apart i [] c last = let l = is.below in let m = is.above in let e : A ≡ U = last in absurd (omega (arith, l, m, e))
    table_apart i (q ∷ r) c last =
        let W : List (ℕ × ℕ) → Type 0 = λ ws. Has same_pair q ws in
        let C : ℕ × ℕ → Type 0 = λ k. IsChain same_pair (table_ways b.reverse t T) k r in
        let F : List ℕ → Type 0 = λ ss. Has nat_eq A ss in
        elim is.leads [
          | inl one ↦ starts_apart A i (q ∷ r) (subst F (sym one) (has_first nat_eq names_equal A [])) c last
          | inr rest ↦ elim rest [
            | inl union ↦
                let s = from_map i q b.starts (subst W ((goes_union b.reverse t T A b.starts union).ways i) c.0) in
                starts_apart s.0 i r s.1 (subst C s.2 c.1) (ap (λ (k : ℕ × ℕ). (last_or k r).1) (sym s.2) ∙ last)
            | inr none ↦ none_in same_pair q _ (subst W ((goes_fail b.reverse t T A none.1).ways i) c.0)
          ]
        ]

    anchored_apart : (i : ℕ) (r : List (ℕ × ℕ)) → IsChain same_pair go (i, new_name b.drafts A) r →
        last_or (i, new_name b.drafts A) r ≡ (i, new_name b.drafts U) → ⊥
    anchored_apart i r c last =
        let back =
        chain_to b A U is.can_build t U is.can_build.unanchored_there kept_u A i r is.can_build.anchored_there c
        (ap (λ (k : ℕ × ℕ). k.1) last) in
        table_apart i back.0 back.1 back.2

  -- ---- each offset is tried

  module _ (x : TriesEachOffset T U A) (text : IsText t) where
    kept_u : stands_for (draft_at b.drafts U) ≡ None
    kept_u = ap stands_for x.loop

    kept_byte : stands_for (draft_at b.drafts x.byte) ≡ None
    kept_byte = ap stands_for x.any

    byte_there : x.byte < length b.drafts
    byte_there =
        let named : All (λ r. r < length b.drafts) (names_of (draft_at b.drafts U)) =
        All-get_or (λ draft. All (λ r. r < length b.drafts)
        (names_of draft)) b.drafts U fail_draft is.can_build.unanchored_there is.can_build.named in
        let N : DraftNode → Type 0 = λ draft. All (λ r. r < length b.drafts) (names_of draft) in
        All-head (λ r. r < length b.drafts) x.byte (A ∷ []) (subst N x.loop named)

    u_goes : Goes b.reverse t T U (λ i. (i, A) ∷ (i, x.byte) ∷ [])
    u_goes = goes_choice b.reverse t T U false x.byte A x.loop

    byte_goes : Goes b.reverse t T x.byte (λ i. at x.back (byte_ends any_range (reads b.reverse t i)))
    byte_goes = goes_sparse b.reverse t T x.byte any_range x.back x.any

    u_ways : (i : ℕ) → go (i, new_name b.drafts U) ≡ (i, new_name b.drafts A) ∷ (i, new_name b.drafts x.byte) ∷ []
    u_ways i = state_ways b A U U i t is.can_build.unanchored_there kept_u ∙ ap (map (renamed_pair b.drafts)) (u_goes.ways i)

    byte_ways : (i : ℕ) (js : List ℕ) → any_ends false t i ≡ js →
        go (i, new_name b.drafts x.byte) ≡ map (renamed_pair b.drafts) (at x.back js)
    byte_ways i js e =
        let R : Bool → Type 0 = λ back. any_ends back t i ≡ js in
        let read : any_ends b.reverse t i ≡ js = subst R (sym up) e in
        state_ways b A U x.byte i t byte_there kept_byte ∙ ap (map (renamed_pair b.drafts)) (byte_goes.ways i)
        ∙ ap (λ (k : List ℕ). map (renamed_pair b.drafts) (at x.back k)) read

    -- after a byte is read, the offset is one further on
    byte_moves : (i : ℕ) (q : ℕ × ℕ) → Has same_pair q (go (i, new_name b.drafts x.byte)) → suc i ≤ q.0
    byte_moves i q h =
        let W : List (ℕ × ℕ) → Type 0 = λ ws. Has same_pair q ws in
        ⊎_elim
        (λ (less : i < t.end).
        let m = has_cons same_pair pairs_equal q (suc i, new_name b.drafts x.back) []
        (subst W (byte_ways i (suc i ∷ []) (ends_forward t i text less)) h) in
        elim m [
          | inl same ↦ (let e : q.0 ≡ suc i = ap (λ (k : ℕ × ℕ). k.0) same in omega (arith, e))
          | inr none ↦ none_in same_pair q _ none
        ])
        (λ (over : t.end ≤ i). none_in same_pair q _ (subst W (byte_ways i [] (nothing_read t i over)) h))
        (cases_lt i t.end)

    byte_apart : (i k : ℕ) (q : ℕ × ℕ) → Has same_pair q (go (i, new_name b.drafts x.byte)) → (r : List (ℕ × ℕ)) →
        IsChain same_pair go q r → last_or q r ≡ (i, k) → ⊥
    byte_apart i k q h r c last =
        let a = byte_moves i q h in let l = chain_forward q r c in let e : (last_or q r).0 ≡ i = ap (λ (w : ℕ × ℕ). w.0) last in
        absurd (omega (arith, a, l, e))

    byte_ends_are : (i : ℕ) (js : List ℕ) → i ≤ t.end → any_ends false t i ≡ js →
        from (i, new_name b.drafts x.byte) ≡ distinct same_pair (flat_map from (map (renamed_pair b.drafts) (at x.back js)))
    byte_ends_are i js place e =
        ends_by_ways (automaton_of b A U) t (i, new_name b.drafts x.byte) (is_well_formed b A U is.can_build)
        (place, name_inside b A U is.can_build x.byte byte_there)
        (λ q h r c last. byte_apart i (new_name b.drafts x.byte) q h r c last)
        (state_match b A U x.byte i byte_there kept_byte ∙ byte_goes.is_open i)
        ∙ ap (λ (ws : List (ℕ × ℕ)). distinct same_pair (flat_map from ws)) (byte_ways i js e)

    back_is : new_name b.drafts x.back ≡ new_name b.drafts U
    back_is = ap (λ k. length (kept (take k b.drafts))) (past_next b.drafts is.can_build.no_loop x.back U (ap stands_for x.again))

    further_ends : (i : ℕ) → i < t.end → from (i, new_name b.drafts x.byte) ≡ from (suc i, new_name b.drafts U)
    further_ends i less =
        byte_ends_are i (suc i ∷ []) (omega arith) (ends_forward t i text less)
        ∙ ends_again o xs b A U is t (suc i, new_name b.drafts x.back)
        ∙ ap (λ (k : ℕ). from (suc i, k)) back_is

    last_ends : (i : ℕ) → i ≡ t.end → from (i, new_name b.drafts x.byte) ≡ []
    last_ends i e = byte_ends_are i [] (omega (arith, e)) (nothing_read t i (omega (arith, e)))

    byte_not_u : x.byte ≡ U → ⊥
    byte_not_u e = let same : sparse_draft ((0, 255, x.back) ∷ []) ≡ union_reverse_draft (x.byte ∷ A ∷ []) = sym x.any ∙ ap T e ∙ x.loop in
        cc

    -- from the second edge of the start
    byte_far : (i : ℕ) (r : List (ℕ × ℕ)) → IsChain same_pair go (i, new_name b.drafts x.byte) r →
        last_or (i, new_name b.drafts x.byte) r ≡ (i, new_name b.drafts U) → ⊥
    byte_far i [] c last =
        byte_not_u (one_state b.drafts x.byte U byte_there is.can_build.unanchored_there kept_byte kept_u (ap (λ (k : ℕ × ℕ). k.1) last))
    byte_far i (q ∷ r) c last = byte_apart i (new_name b.drafts U) q c.0 r c.1 last

    u_apart : (i : ℕ) (q : ℕ × ℕ) → Has same_pair q (go (i, new_name b.drafts U)) → (r : List (ℕ × ℕ)) → IsChain same_pair go q r →
        last_or q r ≡ (i, new_name b.drafts U) → ⊥
    u_apart i q h r c last =
        let W : List (ℕ × ℕ) → Type 0 = λ ws. Has same_pair q ws in
        let C : ℕ × ℕ → Type 0 = λ k. IsChain same_pair go k r in
        let E : ℕ × ℕ → Type 0 = λ k. last_or k r ≡ (i, new_name b.drafts U) in
        elim (has_cons same_pair pairs_equal q (i, new_name b.drafts A) ((i, new_name b.drafts x.byte) ∷ []) (subst W (u_ways i) h)) [
          | inl first ↦ anchored_apart kept_u i r (subst C first c) (subst E first last)
          | inr later ↦ elim (has_cons same_pair pairs_equal q (i, new_name b.drafts x.byte) [] later) [
            | inl second ↦ byte_far i r (subst C second c) (subst E second last)
            | inr none ↦ none_in same_pair q _ none
          ]
        ]

    u_ends : (i : ℕ) → i ≤ t.end →
        from (i, new_name b.drafts U) ≡ distinct same_pair (from (i, new_name b.drafts A) ++ from (i, new_name b.drafts x.byte))
    u_ends i place =
        ends_by_ways (automaton_of b A U) t (i, new_name b.drafts U) (is_well_formed b A U is.can_build)
        (place, name_inside b A U is.can_build U is.can_build.unanchored_there)
        (u_apart i) (state_match b A U U i is.can_build.unanchored_there kept_u ∙ u_goes.is_open i)
        ∙ ap (λ (ws : List (ℕ × ℕ)). distinct same_pair (flat_map from ws)) (u_ways i)
        ∙ ap (λ (l : List (ℕ × ℕ)). distinct same_pair (from (i, new_name b.drafts A) ++ l))
        (append-nil (from (i, new_name b.drafts x.byte)))

    abbrev anchored_at : ℕ → List (ℕ × ℕ)
    anchored_at k = from (k, new_name b.drafts A)

    pub tried_starts : (n i : ℕ) → i + n ≡ t.end →
        from (i, new_name b.drafts U) ≡ distinct same_pair (flat_map anchored_at (offsets_from i (suc n)))
    tried_starts zero i e =
        u_ends i (omega (arith, e)) ∙ ap (λ (l : List (ℕ × ℕ)). distinct same_pair (anchored_at i ++ l)) (last_ends i (omega (arith, e)))
    tried_starts (suc n) i e =
        u_ends i (omega (arith, e))
        ∙ ap (λ (l : List (ℕ × ℕ)). distinct same_pair (anchored_at i ++ l))
        (further_ends i (omega (arith, e)) ∙ tried_starts n (suc i) (omega (arith, e)))
        ∙ distinct_behind (anchored_at i) (flat_map anchored_at (offsets_from (suc i) (suc n)))

  -- ---- all trees are anchored

  module _ (all : AllAnchored (reverse_of o) xs) (at_once : draft_at b.drafts U ≡ empty_draft A) (read : IsPlainText t) where
    abbrev anchored_from : ℕ → List (ℕ × ℕ)
    anchored_from k = from (k, new_name b.drafts A)

    none_later : (i k : ℕ) → t.start ≤ i → i < k → k ≤ t.end → anchored_from k ≡ []
    none_later i k low less high =
        none_there (anchored_from k) (λ e h.
        let R : Bool → Type 0 = λ back. IsReadTo back t i k in
        let choice = (anchored_found o xs b A U is t k e high).0 h in
        let same =
        anchored_place t read (reverse_of o) xs i k e all low (omega arith)
        (subst R (sym up ∙ is.reverse) (omega arith, high)) choice in
        absurd (omega (arith, same, less)))

    nothing_later : (i : ℕ) → t.start ≤ i → (n k : ℕ) → i < k → k + n ≤ suc t.end → flat_map anchored_from (offsets_from k n) ≡ []
    nothing_later i low zero k less high = refl
    nothing_later i low (suc n) k less high =
        ap₂ (λ (l m : List (ℕ × ℕ)). l ++ m) (none_later i k low less (omega (arith, high)))
        (nothing_later i low n (suc k) (omega arith) (omega (arith, high)))

    pub starts_at_once : (n i : ℕ) → t.start ≤ i → i + n ≡ t.end →
        from (i, new_name b.drafts U) ≡ distinct same_pair (flat_map anchored_from (offsets_from i (suc n)))
    starts_at_once n i low e =
        ap (λ (k : ℕ). from (i, k)) (ap (λ k. length (kept (take k b.drafts)))
        (past_next b.drafts is.can_build.no_loop U A (ap stands_for at_once)))
        ∙ sym (ends_again o xs b A U is t (i, new_name b.drafts A))
        ∙ ap (λ (l : List (ℕ × ℕ)). distinct same_pair (anchored_from i ++ l))
        (sym (nothing_later i low n (suc i) (omega arith) (omega (arith, e))))

  pub unanchored_starts : (i : ℕ) → IsPlainText t → t.start ≤ i → i ≤ t.end →
      from (i, new_name b.drafts U) ≡ distinct same_pair (flat_map (λ k. from (k, new_name b.drafts A)) (offsets_from i (suc t.end - i)))
  unanchored_starts i read low high =
      let sum : i + (t.end - i) ≡ t.end = omega (arith, high) in
      let count : suc (t.end - i) ≡ suc t.end - i = omega (arith, high) in
      (elim is.before [
        | inl x ↦ starts_at_once x.0 x.1 read (t.end - i) i low sum
        | inr x ↦ tried_starts x.1 (record { within = read.within; bytes = read.bytes }) (t.end - i) i sum
      ]) ∙ ap (λ (n : ℕ). distinct same_pair (flat_map (λ k. from (k, new_name b.drafts A)) (offsets_from i n))) count
