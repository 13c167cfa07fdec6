-- Whether a match of the automaton that is built of a compile's states is reached without a byte: whether some tree means the empty span,
-- with every look taken to hold.
use Rattle.std.proofs.Common.{◌≡◌, ◌↔◌, ℕ, ◌<◌, Bool, true, false, List, [], ◌∷◌, length, map, get_or, slice_get, inl, inr, ⊎_elim, Some}
use Rattle.std.proofs.Common.{refl, sym, ap, ◌∙◌, subst, arith}
use Rattle.std.specs.Bool.{nat_eq}
use Rattle.std.specs.List.{list_any}
use Rattle.std.proofs.lemmas.Bool.{cases_Bool}
use Rattle.hir_core.specs.Tree.{Tree}
use Rattle.hir_core.specs.Means.{Means}
use Rattle.nfa_core.specs.Walks.{Has}
use Rattle.nfa_core.specs.Runs.{IsChain, last_or}
use Rattle.nfa_core.specs.Places.{same_pair}
use Rattle.nfa_core.specs.Nfa.{Node, byte_range, sparse_node, dense_node, look_node, union_node, binary_union, capture_node, fail_node}
use Rattle.nfa_core.specs.Nfa.{match_node, Automaton, node_at}
use Rattle.nfa_core.specs.NfaValue.{is_match, free_steps, reached_freely, has_empty}
use Rattle.nfa_core.specs.Ways.{Text, node_ways, on_nothing, ways, match_of, matched}
use Rattle.nfa_core.specs.BuilderStates.{Assembly, draft_at}
use Rattle.nfa_core.specs.Renaming.{new_name, automaton_of}
use Rattle.nfa_core.proofs.ForCallers.{none_in, has_cons, has_same, has_first, has_later, names_equal, pairs_equal, from_map, match_is}
use Rattle.nfa_core.proofs.ForCallers.{listed_run, chain_listed, name_inside, is_well_formed}
use Rattle.thompson_nfa.specs.Configs.{Options, reverse_of}
use Rattle.thompson_nfa.specs.Denotes.{IsMeant}
use Rattle.thompson_nfa.specs.Compilations.{pattern_start}
use Rattle.thompson_nfa.specs.Assembled.{IsAssembled}
use Rattle.thompson_nfa.proofs.Walks.ChoiceLemmas.{accept_at, accept_of}
use Rattle.thompson_nfa.proofs.Assembled.AssembledSpans.{start_is, start_inside, patterns_found}

-- ---- lists

any_has : (test : ℕ → Bool) (xs : List ℕ) → list_any test xs ≡ true → (q : ℕ) × Has nat_eq q xs × (test q ≡ true)
any_has test [] e = cc
any_has test (x ∷ xs) e = ⊎_elim
    (λ (yes_here : test x ≡ true). (x, has_first nat_eq names_equal x xs, yes_here))
    (λ (not_here : test x ≡ false). let r = any_has test xs (rw not_here at e) in
    (r.0, has_later nat_eq r.0 x xs r.1, r.2)) (cases_Bool (test x))

has_any : (test : ℕ → Bool) (xs : List ℕ) (q : ℕ) → Has nat_eq q xs → test q ≡ true → list_any test xs ≡ true
has_any test [] q h e = none_in nat_eq q _ h
has_any test (x ∷ xs) q h e = ⊎_elim
    (λ (yes_here : test x ≡ true). rw yes_here)
    (λ (not_here : test x ≡ false). elim (has_cons nat_eq names_equal q x xs h) [
      | inl is ↦ (let f : test x ≡ true = ap test (sym is) ∙ e in cc)
      | inr g ↦ rw not_here (has_any test xs q g e)
    ]) (cases_Bool (test x))

map_has : (f : ℕ → ℕ) (xs : List ℕ) (y : ℕ) → Has nat_eq y (map f xs) → (x : ℕ) × Has nat_eq x xs × (f x ≡ y)
map_has f [] y h = none_in nat_eq y _ h
map_has f (x ∷ xs) y h = elim (has_cons nat_eq names_equal y (f x) (map f xs) h) [
  | inl is ↦ (x, has_first nat_eq names_equal x xs, sym is)
  | inr g ↦ let r = map_has f xs y g in (r.0, has_later nat_eq r.0 x xs r.1, r.2)
]

has_map : (f : ℕ → ℕ) (xs : List ℕ) (x : ℕ) → Has nat_eq x xs → Has nat_eq (f x) (map f xs)
has_map f [] x h = none_in nat_eq x _ h
has_map f (y ∷ xs) x h = elim (has_cons nat_eq names_equal x y xs h) [
  | inl is ↦ has_same nat_eq names_equal (f x) (f y) (map f xs) (ap f is)
  | inr g ↦ has_later nat_eq (f x) (f y) (map f xs) (has_map f xs x g)
]

abbrev here : ℕ → ℕ × ℕ
here q = (0, q)

has_here : (q : ℕ) (qs : List ℕ) → Has nat_eq q qs → Has same_pair (here q) (map here qs)
has_here q [] h = none_in nat_eq q _ h
has_here q (z ∷ qs) h = elim (has_cons nat_eq names_equal q z qs h) [
  | inl is ↦ has_same same_pair pairs_equal (here q) (here z) (map here qs) (ap here is)
  | inr g ↦ has_later same_pair (here q) (here z) (map here qs) (has_here q qs g)
]

-- ---- the haystack of no byte in which each look holds

abbrev pub free_text : Text
free_text = record { haystack = []; start = 0; end = 0; holds = λ l i. true }

node_freely : (back : Bool) (n : Node) → node_ways back free_text n 0 ≡ map here (on_nothing n (λ l. true))
node_freely false n = refl
node_freely true n = refl

means_there : (back : Bool) (x : Tree) (j : ℕ) → IsMeant back free_text x 0 j → j ≡ 0 → Means (λ l i. true) [] x 0 0
means_there false x j m e = let P : ℕ → Type 0 = λ k. Means (λ l i. true) [] x 0 k in subst P e m
means_there true x j m e = let P : ℕ → Type 0 = λ k. Means (λ l i. true) [] x k 0 in subst P e m.0

there_meant : (back : Bool) (x : Tree) → Means (λ l i. true) [] x 0 0 → IsMeant back free_text x 0 0
there_meant false x m = m
there_meant true x m = (m, omega arith)

module _ (a : Automaton) where
  ways_freely : (q : ℕ) → ways a free_text (here q) ≡ map here (free_steps a q)
  ways_freely q = node_freely a.reverse (node_at a q)

  chain_here : (s : ℕ) (r : List ℕ) → IsChain nat_eq (free_steps a) s r → IsChain same_pair (ways a free_text) (here s) (map here r)
  chain_here s [] c = tt
  chain_here s (q ∷ r) c =
      let P : List (ℕ × ℕ) → Type 0 = λ ws. Has same_pair (here q) ws in
      (subst P (sym (ways_freely s)) (has_here q (free_steps a s) c.0), chain_here q r c.1)

  last_here : (s : ℕ) (r : List ℕ) → last_or (here s) (map here r) ≡ here (last_or s r)
  last_here s [] = refl
  last_here s (q ∷ r) = last_here q r

  -- a chain of such transitions, from its pairs
  abbrev Freely : ℕ → ℕ × ℕ → Type 0
  Freely s e = (w : List ℕ) × IsChain nat_eq (free_steps a) s w × (e ≡ here (last_or s w))

  chain_freely : (s : ℕ) (p : ℕ × ℕ) (r : List (ℕ × ℕ)) → p ≡ here s → IsChain same_pair (ways a free_text) p r → Freely s (last_or p r)
  chain_freely s p [] is c = ([], tt, is)
  chain_freely s p (q ∷ r) is c =
      let P : List (ℕ × ℕ) → Type 0 = λ ws. Has same_pair q ws in
      let o = from_map 0 q (free_steps a s) (subst P (ap (ways a free_text) is ∙ ways_freely s) c.0) in
      let w = chain_freely o.0 q r o.2 c.1 in
      (o.0 ∷ w.0, (o.1, w.1), w.2)

-- ---- matches

match_there : (n : Node) → is_match n ≡ true → (p : ℕ) × (n ≡ match_node p)
match_there (byte_range low high next) e = cc
match_there (sparse_node ranges) e = cc
match_there (dense_node names) e = cc
match_there (look_node l next) e = cc
match_there (union_node names) e = cc
match_there (binary_union first second) e = cc
match_there (capture_node next pattern group slot) e = cc
match_there fail_node e = cc
match_there (match_node pattern) e = (pattern, refl)

is_match_of : (n : Node) (e : ℕ × ℕ) → match_of n 0 ≡ Some e → is_match n ≡ true
is_match_of n e h = ap is_match (match_is n 0 e h).1

module _ (o : Options) (xs : List Tree) (b : Assembly) (A U : ℕ) (is : IsAssembled o xs b A U) where
  abbrev auto : Automaton
  auto = automaton_of b A U

  abbrev IsReached : ℕ → Type 0
  IsReached q = (s : ℕ) × Has nat_eq s auto.start_pattern × (r : List ℕ) × IsChain nat_eq (free_steps auto) s r × (last_or s r ≡ q)

  abbrev IsEmptyMeant : Type 0
  IsEmptyMeant = (p : ℕ) × (x : Tree) × (slice_get xs p ≡ Some x) × Means (λ l i. true) [] x 0 0

  -- each start is that of a tree
  start_of_tree : (s : ℕ) → Has nat_eq s auto.start_pattern → (p : ℕ) × (x : Tree) × (slice_get xs p ≡ Some x) × (pattern_start auto p ≡ s)
  start_of_tree s h =
      let m = map_has (new_name b.drafts) b.starts s h in
      let r = accept_of (reverse_of o) (draft_at b.drafts) 0 b.starts xs is.accept m.0 m.1 in
      (r.0, r.1, r.2, start_is o xs b A U is r.0 r.1 r.2 ∙ ap (new_name b.drafts) r.3 ∙ m.2)

  start_named : (p : ℕ) (x : Tree) → slice_get xs p ≡ Some x → Has nat_eq (pattern_start auto p) auto.start_pattern
  start_named p x got =
      let a = accept_at (reverse_of o) (draft_at b.drafts) 0 b.starts xs is.accept p p x (omega arith) got in
      let P : ℕ → Type 0 = λ q. Has nat_eq q auto.start_pattern in
      subst P (sym (start_is o xs b A U is p x got)) (has_map (new_name b.drafts) b.starts (get_or b.starts p 0) a.there)

  start_below : (p : ℕ) (x : Tree) → slice_get xs p ≡ Some x → pattern_start auto p < length auto.states
  start_below p x got =
      let e = start_is o xs b A U is p x got in
      let l = name_inside b A U is.can_build (get_or b.starts p 0) (start_inside o xs b A U is p x got) in
      omega (arith, e, l)

  reached_is_meant : (q p : ℕ) → IsReached q → node_at auto q ≡ match_node p → IsEmptyMeant
  reached_is_meant q p (s, has, r, chain, last) node =
      let tree = start_of_tree s has in
      let P : ℕ → Type 0 = λ k. IsChain nat_eq (free_steps auto) k r in
      let k : ℕ = pattern_start auto tree.0 in
      let c = chain_here auto k r (subst P (sym tree.3) chain) in
      let ends : last_or (here k) (map here r) ≡ here q = last_here auto k r ∙ ap (λ (n : ℕ). here (last_or n r)) tree.3 ∙ ap here last in
      let final : matched auto (last_or (here k) (map here r)) ≡ Some (0, p) =
      ap (matched auto) ends ∙ ap (λ (n : Node). match_of n 0) node in
      let listed = chain_listed auto free_text (here k) (is_well_formed b A U is.can_build) (
        omega arith,
        start_below tree.0 tree.1 tree.2,
      ) (0, p) (map here r) c final in
      let m = (patterns_found o xs b A U is tree.0 tree.1 tree.2 free_text 0 (0, p) (omega arith)).0 listed in
      (tree.0, tree.1, tree.2, means_there (reverse_of o) tree.1 0 m.1 refl)

  meant_is_reached : IsEmptyMeant → (q : ℕ) × IsReached q × (is_match (node_at auto q) ≡ true)
  meant_is_reached (p, x, got, means) =
      let k : ℕ = pattern_start auto p in
      let listed = (patterns_found o xs b A U is p x got free_text 0 (0, p) (omega arith)).1 (refl, there_meant (reverse_of o) x means) in
      let run = listed_run auto free_text (here k) (is_well_formed b A U is.can_build) (omega arith, start_below p x got) (0, p) listed in
      let w = chain_freely auto k (here k) run.0 refl run.1.0 in
      let q : ℕ = last_or k w.0 in
      let final : match_of (node_at auto q) 0 ≡ Some (0, p) = ap (matched auto) (sym w.2) ∙ run.1.2 in
      (q, (k, start_named p x got, w.0, w.1, refl), is_match_of (node_at auto q) (0, p) final)

  empty_is_meant : ((q : ℕ) → Has nat_eq q (reached_freely auto) ↔ IsReached q) → (has_empty auto ≡ true) ↔ IsEmptyMeant
  empty_is_meant reached = (
    λ e.
        let r = any_has (λ q. is_match (node_at auto q)) (reached_freely auto) e in
        let m = match_there (node_at auto r.0) r.2 in
        reached_is_meant r.0 m.0 ((reached r.0).0 r.1) m.1,
    λ means.
        let r = meant_is_reached means in
        has_any (λ q. is_match (node_at auto q)) (reached_freely auto) r.0 ((reached r.0).1 r.1) r.2,
  )

pub assembled_empty : (o : Options) (xs : List Tree) (b : Assembly) (A U : ℕ) → IsAssembled o xs b A U →
    ((q : ℕ) → Has nat_eq q (reached_freely (automaton_of b A U))
    ↔ ((s : ℕ) × Has nat_eq s (automaton_of b A U).start_pattern × (r : List ℕ) × IsChain nat_eq (free_steps (automaton_of b A U)) s r ×
    (last_or s r ≡ q))) →
    (has_empty (automaton_of b A U) ≡ true) ↔ ((p : ℕ) × (x : Tree) × (slice_get xs p ≡ Some x) × Means (λ l i. true) [] x 0 0)
assembled_empty o xs b A U is reached = empty_is_meant o xs b A U is reached
