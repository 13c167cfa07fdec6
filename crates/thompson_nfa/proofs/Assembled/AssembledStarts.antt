-- The starts of the automaton that is built of a compile's states: the anchored one leads to those of the patterns, one
-- after the other.
use Rattle.std.proofs.Common.{◌≡◌, ◌≢◌, ℕ, suc, ◌+◌, ◌*◌, ◌<◌, ◌≤◌, ◌||◌, nat_lt, Bool, true, false, List, [], ◌∷◌, ◌++◌, map, length}
use Rattle.std.proofs.Common.{get_or, take, inl, inr, None, refl, sym, ap, ap₂, ◌∙◌, subst, arith, append-nil}
use Rattle.std.specs.Bool.{nat_eq}
use Rattle.std.specs.List.{flat_map}
use Rattle.std.proofs.lemmas.Bool.{le-ltb, eq-eqb}
use Rattle.hir_core.specs.Tree.{Tree}
use Rattle.nfa_core.specs.BuilderStates.{Assembly, draft_at, union_draft, fail_draft}
use Rattle.nfa_core.specs.Drafted.{Table, table_ways}
use Rattle.nfa_core.specs.Nfa.{Automaton}
use Rattle.nfa_core.specs.Places.{same_pair}
use Rattle.nfa_core.specs.Renaming.{stands_for, kept, new_name, automaton_of}
use Rattle.nfa_core.specs.Runs.{IsChain, last_or, answers}
use Rattle.nfa_core.specs.Walks.{Has, distinct, chain_ends}
use Rattle.nfa_core.specs.Ways.{Text, ways, matched, ends_from}
use Rattle.nfa_core.proofs.ForCallers.{none_in, pairs_equal, from_map, state_match, name_inside, is_well_formed, past_next, join_once_more}
use Rattle.nfa_core.proofs.ForCallers.{ends_by_ways, renamed_pair, state_ways, from_mapped, every_of_all, chain_to, unequal}
use Rattle.thompson_nfa.specs.Assembled.{AcceptAll, IsAssembled}
use Rattle.search_types.specs.FirstFound.{offsets_from}
use Rattle.thompson_nfa.specs.Compilations.{pattern_start}
use Rattle.thompson_nfa.specs.Configs.{Options}
use Rattle.thompson_nfa.proofs.Walks.ApartLemmas.{kept_off}
use Rattle.thompson_nfa.proofs.Walks.ChoiceLemmas.{accept_count}
use Rattle.thompson_nfa.proofs.Walks.WayLemmas.{each_at, goes_union, goes_fail}

or_right : (a : Bool) → (a || true) ≡ true
or_right true = refl
or_right false = refl

module _ (o : Options) (xs : List Tree) (b : Assembly) (A U : ℕ) (is : IsAssembled o xs b A U) where
  abbrev pub auto : Automaton
  auto = automaton_of b A U

  abbrev T : Table
  T = draft_at b.drafts

  -- the states on which the behaviour of the patterns does not depend
  abbrev out : ℕ → Bool
  out q = nat_lt q is.low || nat_eq q is.free.hole

  is_in : (q : ℕ) → is.low ≤ q → q ≢ is.free.hole → out q ≡ false
  is_in q l ne = ap₂ (λ (p k : Bool). p || k) (le-ltb q is.low l) (unequal q is.free.hole ne)

  accept_free : (table : Table) → ((q : ℕ) → out q ≡ false → table q ≡ T q) → AcceptAll b.reverse table 0 b.starts xs
  accept_free table agree =
      let P : Bool → Type 0 = λ back. AcceptAll back table 0 b.starts xs in
      subst P (sym is.reverse) (is.free.accept table (λ q l h ne. agree q (is_in q l ne)))

  pub stays_in : (t : Text) (s i : ℕ) (r : List (ℕ × ℕ)) → Has nat_eq s b.starts →
      IsChain same_pair (table_ways b.reverse t T) (i, s) r → out (last_or (i, s) r).1 ≡ true → ⊥
  stays_in t s i r has c e = kept_off b.reverse t T out b.starts xs accept_free s i r has c e

  start_there : (s : ℕ) → Has nat_eq s b.starts → s < length b.drafts
  start_there s has = every_of_all (λ q. q < length b.drafts) b.starts is.can_build.starts_there s has

  abbrev pub ends : Text → ℕ × ℕ → List (ℕ × ℕ)
  ends t p = ends_from auto t p

  pub ends_again : (t : Text) (p : ℕ × ℕ) → distinct same_pair (ends t p ++ []) ≡ ends t p
  ends_again t p = ap (distinct same_pair) (append-nil (ends t p))
      ∙ join_once_more same_pair pairs_equal []
      (answers (matched auto) (chain_ends same_pair (ways auto t) (suc t.end * length auto.states) [] p))

  -- ---- a union of the starts

  module _ (kept_a : stands_for (draft_at b.drafts A) ≡ None) (union : draft_at b.drafts A ≡ union_draft b.starts) (hole : is.free.hole ≡ A)
      (t : Text) (i : ℕ) (place : i ≤ t.end) where
    a_ways : ways auto t (i, new_name b.drafts A) ≡ map (renamed_pair b.drafts) (each_at b.starts i)
    a_ways = state_ways b A U A i t is.can_build.anchored_there kept_a
        ∙ ap (map (renamed_pair b.drafts)) ((goes_union b.reverse t T A b.starts union).ways i)

    a_open : matched auto (i, new_name b.drafts A) ≡ None
    a_open = state_match b A U A i is.can_build.anchored_there kept_a ∙ (goes_union b.reverse t T A b.starts union).is_open i

    out_a : out A ≡ true
    out_a = ap (λ (k : Bool). nat_lt A is.low || k) (eq-eqb A is.free.hole (sym hole)) ∙ or_right (nat_lt A is.low)

    a_apart : (q : ℕ × ℕ) → Has same_pair q (ways auto t (i, new_name b.drafts A)) → (r : List (ℕ × ℕ)) →
        IsChain same_pair (ways auto t) q r →
        last_or q r ≡ (i, new_name b.drafts A) → ⊥
    a_apart q h r chain last =
        let W : List (ℕ × ℕ) → Type 0 = λ ws. Has same_pair q ws in
        let C : ℕ × ℕ → Type 0 = λ k. IsChain same_pair (ways auto t) k r in
        let w = from_mapped same_pair pairs_equal same_pair pairs_equal (renamed_pair b.drafts) q (each_at b.starts i)
        (subst W a_ways h) in
        let s = from_map i w.0 b.starts w.1 in
        let e : q ≡ (i, new_name b.drafts s.0) = w.2 ∙ ap (renamed_pair b.drafts) s.2 in
        let end : (last_or (i, new_name b.drafts s.0) r).1 ≡ new_name b.drafts A = ap (λ (k : ℕ × ℕ). (last_or k r).1) (sym e)
        ∙ ap (λ (k : ℕ × ℕ). k.1) last in
        let back =
        chain_to b A U is.can_build t A is.can_build.anchored_there kept_a s.0 i r (start_there s.0 s.1) (subst C e chain) end in
        stays_in t s.0 i back.0 s.1 back.1 (ap out back.2 ∙ out_a)

    pub union_ends : ends t (i, new_name b.drafts A)
        ≡ distinct same_pair (flat_map (ends t) (map (renamed_pair b.drafts) (each_at b.starts i)))
    union_ends =
        ends_by_ways auto t (i, new_name b.drafts A) (is_well_formed b A U is.can_build)
        (place, name_inside b A U is.can_build A is.can_build.anchored_there) a_apart a_open
        ∙ ap (λ (ws : List (ℕ × ℕ)). distinct same_pair (flat_map (ends t) ws)) a_ways

  -- the ends from starts that follow one another in a list
  starts_listed : (t : Text) (i : ℕ) (all ss : List ℕ) (k : ℕ) →
      ((n : ℕ) → n < length ss → get_or all (k + n) 0 ≡ get_or (map (new_name b.drafts) ss) n 0) →
      flat_map (ends t) (map (renamed_pair b.drafts) (each_at ss i))
      ≡ flat_map (λ p. ends t (i, get_or all p 0)) (offsets_from k (length ss))
  starts_listed t i all [] k same = refl
  starts_listed t i all (s ∷ ss) k same =
      let first : k ≡ k + 0 = omega arith in
      ap₂ (λ (l m : List (ℕ × ℕ)). l ++ m)
      (ap (λ (n : ℕ). ends t (i, n)) (sym (ap (λ (n : ℕ). get_or all n 0) first ∙ same 0 (omega arith))))
      (starts_listed t i all ss (suc k)
      (λ n l. ap (λ (m : ℕ). get_or all m 0) (let e : suc k + n ≡ k + suc n = omega arith in e) ∙ same (suc n) (omega arith)))

  all_listed : (t : Text) (i : ℕ) →
      flat_map (ends t) (map (renamed_pair b.drafts) (each_at b.starts i))
      ≡ flat_map (λ p. ends t (i, pattern_start auto p)) (offsets_from 0 (length xs))
  all_listed t i =
      starts_listed t i (map (new_name b.drafts) b.starts) b.starts 0
      (λ n l. ap (λ (m : ℕ). get_or (map (new_name b.drafts) b.starts) m 0) (let e : 0 + n ≡ n = omega arith in e))
      ∙ ap (λ (n : ℕ). flat_map (λ p. ends t (i, pattern_start auto p)) (offsets_from 0 n))
      (accept_count b.reverse T 0 b.starts xs (accept_free T (λ q e. refl)))

  -- one start alone
  one_listed : (t : Text) (i s : ℕ) → b.starts ≡ s ∷ [] → new_name b.drafts A ≡ new_name b.drafts s →
      ends t (i, new_name b.drafts A) ≡ distinct same_pair (flat_map (ends t) (map (renamed_pair b.drafts) (each_at b.starts i)))
  one_listed t i s one same =
      ap (λ (k : ℕ). ends t (i, k)) same ∙ sym (ends_again t (i, new_name b.drafts s))
      ∙ ap (λ (ss : List ℕ). distinct same_pair (flat_map (ends t) (map (renamed_pair b.drafts) (each_at ss i)))) (sym one)

  union_listed : (starts : List ℕ) → b.starts ≡ starts → draft_at b.drafts A ≡ union_draft b.starts → is.free.hole ≡ A →
      (t : Text) (i : ℕ) → i ≤ t.end →
      ends t (i, new_name b.drafts A) ≡ distinct same_pair (flat_map (ends t) (map (renamed_pair b.drafts) (each_at b.starts i)))
  union_listed [] e union hole t i place = union_ends (ap stands_for (union ∙ ap union_draft e)) union hole t i place
  union_listed (s ∷ []) e union hole t i place =
      one_listed t i s e (ap (λ k. length (kept (take k b.drafts)))
      (past_next b.drafts is.can_build.no_loop A s (ap stands_for (union ∙ ap union_draft e))))
  union_listed (s ∷ r ∷ ss) e union hole t i place = union_ends (ap stands_for (union ∙ ap union_draft e)) union hole t i place

  fail_listed : (t : Text) (i : ℕ) → i ≤ t.end → b.starts ≡ [] → draft_at b.drafts A ≡ fail_draft →
      ends t (i, new_name b.drafts A) ≡ distinct same_pair (flat_map (ends t) (map (renamed_pair b.drafts) (each_at b.starts i)))
  fail_listed t i place none fails =
      let stands : stands_for (draft_at b.drafts A) ≡ None = ap stands_for fails in
      let go = goes_fail b.reverse t T A fails in
      let nowhere : ways auto t (i, new_name b.drafts A) ≡ [] = state_ways b A U A i t is.can_build.anchored_there stands
      ∙ ap (map (renamed_pair b.drafts)) (go.ways i) in
      let W : ℕ × ℕ → List (ℕ × ℕ) → Type 0 = λ q ws. Has same_pair q ws in
      ends_by_ways auto t (i, new_name b.drafts A) (is_well_formed b A U is.can_build)
      (place, name_inside b A U is.can_build A is.can_build.anchored_there)
      (λ q h r chain last. none_in same_pair q _ (subst (W q) nowhere h))
      (state_match b A U A i is.can_build.anchored_there stands ∙ go.is_open i)
      ∙ ap (λ (ws : List (ℕ × ℕ)). distinct same_pair (flat_map (ends t) ws))
      (nowhere ∙ ap (λ (ss : List ℕ). map (renamed_pair b.drafts) (each_at ss i)) (sym none))

  pub anchored_starts : (t : Text) (i : ℕ) → i ≤ t.end →
      ends t (i, new_name b.drafts A) ≡ distinct same_pair (flat_map (λ p. ends t (i, pattern_start auto p)) (offsets_from 0 (length xs)))
  anchored_starts t i place =
      (elim is.leads [
        | inl one ↦ one_listed t i A one refl
        | inr rest ↦ elim rest [
          | inl union ↦ elim is.free.hole_is [
            | inl hole ↦ union_listed b.starts refl union hole t i place
            | inr one ↦ one_listed t i A one refl
          ]
          | inr none ↦ fail_listed t i place none.0 none.1
        ]
      ]) ∙ ap (distinct same_pair) (all_listed t i)
