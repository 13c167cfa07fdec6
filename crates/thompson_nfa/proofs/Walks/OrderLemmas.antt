-- What a depth-first search lists from a state, up to repeats: how states that are joined list what their parts list.
use Rattle.std.proofs.Common.{◌≡◌, ℕ, zero, suc, ◌+◌, ◌<◌, ◌≤◌, Bool, true, false, List, [], ◌∷◌, ◌++◌, if◌then◌else◌, inl, inr, refl, sym}
use Rattle.std.proofs.Common.{ap, subst, arith, append-nil, ⊎_elim}
use Rattle.std.proofs.lemmas.Bool.{cases_Bool}
use Rattle.std.specs.Bool.{nat_eq}
use Rattle.std.specs.List.{flat_map}
use Rattle.hir_core.specs.PreferredEnds.{Has as HasEnd, in_order}
use Rattle.nfa_core.specs.Walks.{Has, Lists, lists_none, lists_ways, distinct}
use Rattle.nfa_core.specs.Ways.{Text}
use Rattle.nfa_core.specs.Drafted.{Table, table_ways, table_match}
use Rattle.nfa_core.proofs.ForCallers.{join_brings, of_join, lists_append, lists_split, one_list, none_in, has_first, has_later}
use Rattle.nfa_core.proofs.ForCallers.{names_equal}
use Rattle.thompson_nfa.specs.Denotes.{at, HasSameFirsts, Orders}
use Rattle.thompson_nfa.proofs.Walks.WayLemmas.{at_append, both_at, Goes}
use Rattle.thompson_nfa.proofs.Walks.FirstsLemmas.{same_firsts_trans, same_firsts_append, same_firsts_each}

module _ (t : Text) (T : Table) where
  -- what the search of a stack lists when reading forward
  abbrev pub Listed : List (ℕ × ℕ) → List (ℕ × ℕ) → Type 0
  Listed stack l = Lists (table_ways false t T) (table_match T) stack l

  -- a list that is listed up to repeats
  abbrev pub ListedFirsts : List (ℕ × ℕ) → List (ℕ × ℕ) → Type 0
  ListedFirsts stack l = (m : List (ℕ × ℕ)) × Listed stack m × HasSameFirsts m l

  pub firsts_of : (stack l : List (ℕ × ℕ)) → Listed stack l → ListedFirsts stack l
  firsts_of stack l walk = (l, walk, refl)

  listed_append : (xs ys l m : List (ℕ × ℕ)) → Listed xs l → Listed ys m → Listed (xs ++ ys) (l ++ m)
  listed_append xs ys l m a b = lists_append (table_ways false t T) (table_match T) a ys m b

  pub firsts_append : (xs ys l m : List (ℕ × ℕ)) → ListedFirsts xs l → ListedFirsts ys m → ListedFirsts (xs ++ ys) (l ++ m)
  firsts_append xs ys l m a b = (a.0 ++ b.0, listed_append xs ys a.0 b.0 a.1 b.1, same_firsts_append a.0 l b.0 m a.2 b.2)

  -- one stack lists what another lists, whatever that is
  pub firsts_behind : (xs us l : List (ℕ × ℕ)) → ((m : List (ℕ × ℕ)) → Listed xs m → ListedFirsts us m) → ListedFirsts xs l →
      ListedFirsts us l
  firsts_behind xs us l on a =
      let b = on a.0 a.1 in
      (b.0, b.1, same_firsts_trans b.0 a.0 l b.2 a.2)

  -- the parts of a stack may be replaced by others that list the same
  pub firsts_parts : (xs ys us vs l : List (ℕ × ℕ)) → ((m : List (ℕ × ℕ)) → Listed xs m → ListedFirsts us m) →
      ((m : List (ℕ × ℕ)) → Listed ys m → ListedFirsts vs m) →
      Listed (xs ++ ys) l → ListedFirsts (us ++ vs) l
  firsts_parts xs ys us vs l one two walk =
      let s = lists_split (table_ways false t T) (table_match T) xs ys l walk in
      let P : List (ℕ × ℕ) → Type 0 = λ m. ListedFirsts (us ++ vs) m in
      subst P (sym s.2) (firsts_append us vs s.0 s.1 (one s.0 s.3) (two s.1 s.4))

  listed_on : (s : ℕ) (to : ℕ → List (ℕ × ℕ)) (i : ℕ) (l : List (ℕ × ℕ)) → Goes false t T s to → Listed (to i) l → Listed ((i, s) ∷ []) l
  listed_on s to i l g walk =
      let P : List (ℕ × ℕ) → Type 0 = λ st. Listed st l in
      lists_ways (i, s) [] l (g.is_open i) (subst P (sym (append-nil (table_ways false t T (i, s)))) (subst P (sym (g.ways i)) walk))

  -- a state lists what its edges list
  pub firsts_on : (s : ℕ) (to : ℕ → List (ℕ × ℕ)) (i : ℕ) (l : List (ℕ × ℕ)) → Goes false t T s to → ListedFirsts (to i) l →
      ListedFirsts ((i, s) ∷ []) l
  firsts_on s to i l g a = (a.0, listed_on s to i a.0 g a.1, a.2)

  -- at each of the offsets
  pub firsts_each : (s e : ℕ) (ends : ℕ → List ℕ) (js : List ℕ) (l : List (ℕ × ℕ)) →
      ((k : ℕ) (m : List (ℕ × ℕ)) → HasEnd js k → Listed (at e (ends k)) m → ListedFirsts ((k, s) ∷ []) m) →
      Listed (at e (flat_map ends js)) l → ListedFirsts (at s js) l
  firsts_each s e ends [] l one walk = firsts_of [] l walk
  firsts_each s e ends (k ∷ ks) l one walk =
      let P : List (ℕ × ℕ) → Type 0 = λ st. Listed st l in
      firsts_parts (at e (ends k)) (at e (flat_map ends ks)) ((k, s) ∷ []) (at s ks) l (λ m. one k m (inl refl))
      (λ m. firsts_each s e ends ks m (λ j n h. one j n (inr h))) (subst P (at_append e (ends k) (flat_map ends ks)) walk)

  pub orders_here : (s : ℕ) → Orders t T s s (λ i. i ∷ [])
  orders_here s = record { lists = λ i l walk. firsts_of ((i, s) ∷ []) l walk }

  pub orders_like : (s e : ℕ) (p q : ℕ → List ℕ) → ((i : ℕ) → p i ≡ q i) → Orders t T s e p → Orders t T s e q
  orders_like s e p q same a =
      record { lists = λ i l walk. a.lists i l (let P : List ℕ → Type 0 = λ js. Listed (at e js) l in subst P (sym (same i)) walk) }

  pub orders_join : (s m e : ℕ) (p q : ℕ → List ℕ) → Orders t T s m p → Orders t T m e q → Orders t T s e (λ i. flat_map q (p i))
  orders_join s m e p q a b = record {
    lists = λ i l walk. firsts_behind (at m (p i)) ((i, s) ∷ []) l (a.lists i) (firsts_each m e q (p i) l (λ k n h. b.lists k n) walk);
  }

  pub orders_leaf : (s e : ℕ) (ends : ℕ → List ℕ) → Goes false t T s (λ i. at e (ends i)) → Orders t T s e ends
  orders_leaf s e ends g = record { lists = λ i l walk. firsts_on s (λ k. at e (ends k)) i l g (firsts_of (at e (ends i)) l walk) }

  pub orders_nowhere : (s e : ℕ) → Goes false t T s (λ i. []) → Orders t T s e (λ i. [])
  orders_nowhere s e g = record { lists = λ i l walk. firsts_on s (λ k. []) i l g (firsts_of [] l walk) }

  -- from a choice: what the body lists, and then the end, or the other way round
  firsts_choice : (greedy : Bool) (u a e i : ℕ) (more : List ℕ) (l : List (ℕ × ℕ)) → Goes false t T u (both_at greedy a e) →
      ((m : List (ℕ × ℕ)) → Listed (at e more) m → ListedFirsts ((i, a) ∷ []) m) → Listed (at e (in_order greedy more i)) l →
      ListedFirsts ((i, u) ∷ []) l
  firsts_choice true u a e i more l g body walk =
      let P : List (ℕ × ℕ) → Type 0 = λ st. Listed st l in
      firsts_on u (both_at true a e) i l g
      (firsts_parts (at e more) ((i, e) ∷ []) ((i, a) ∷ []) ((i, e) ∷ []) l body (firsts_of ((i, e) ∷ []))
      (subst P (at_append e more (i ∷ [])) walk))
  firsts_choice false u a e i more l g body walk =
      firsts_on u (both_at false a e) i l g (firsts_parts ((i, e) ∷ []) (at e more) ((i, e) ∷ []) ((i, a) ∷ []) l
      (firsts_of ((i, e) ∷ [])) body walk)

  pub orders_choice : (greedy : Bool) (u a e : ℕ) (more : ℕ → List ℕ) → Goes false t T u (both_at greedy a e) → Orders t T a e more →
      Orders t T u e (λ i. in_order greedy (more i) i)
  orders_choice greedy u a e more g x = record { lists = λ i l walk. firsts_choice greedy u a e i (more i) l g (λ m w. x.lists i m w) walk }

  -- a loop whose rounds consume at least one byte each: u leads to a body, which comes back to u, and to e
  module _ (greedy : Bool) (a u e : ℕ) (body loops : ℕ → List ℕ) (len : ℕ) (reading : (i k : ℕ) → HasEnd (body i) k → (i < k) × (k ≤ len))
      (more_or_stop : (i : ℕ) → loops i ≡ in_order greedy (flat_map loops (body i)) i) (loop : Goes false t T u (both_at greedy a e))
      (x : Orders t T a u body) where
    loop_step : (q i : ℕ) (l : List (ℕ × ℕ)) → Goes false t T q (both_at greedy a e) →
        ((k : ℕ) (m : List (ℕ × ℕ)) → i < k → k ≤ len → Listed (at e (loops k)) m → ListedFirsts ((k, u) ∷ []) m) →
        Listed (at e (loops i)) l → ListedFirsts ((i, q) ∷ []) l
    loop_step q i l g later walk =
        let P : List ℕ → Type 0 = λ js. Listed (at e js) l in
        firsts_choice greedy q a e i (flat_map loops (body i)) l g
        (λ m w. firsts_behind (at u (body i)) ((i, a) ∷ []) m (x.lists i)
        (firsts_each u e loops (body i) m (λ k n h v. let r = reading i k h in later k n r.0 r.1 v) w))
        (subst P (more_or_stop i) walk)

    loop_order : (room q i : ℕ) (l : List (ℕ × ℕ)) → len ≤ i + room → Goes false t T q (both_at greedy a e) → Listed (at e (loops i)) l →
        ListedFirsts ((i, q) ∷ []) l
    loop_order zero q i l le g walk = loop_step q i l g (λ k m less within w. absurd (omega arith)) walk
    loop_order (suc room) q i l le g walk = loop_step q i l g (λ k m less within w. loop_order room u k m (omega arith) loop w) walk

    pub orders_rounds : (q : ℕ) → Goes false t T q (both_at greedy a e) → Orders t T q e loops
    orders_rounds q g = record { lists = λ i l walk. loop_order len q i l (omega arith) g walk }

  -- ---- equal offsets, repeats dropped

  -- what is listed from the state at each of the offsets
  pub record ListedAt (e : ℕ) (js : List ℕ) : Type 0 where
    pub lists : ℕ → List (ℕ × ℕ)
    pub each : (k : ℕ) → Has nat_eq k js → Listed ((k, e) ∷ []) (lists k)

  one_more_place : (e j : ℕ) (js : List ℕ) (m : List (ℕ × ℕ)) → Listed ((j, e) ∷ []) m → ListedAt e js → ListedAt e (j ∷ js)
  one_more_place e j js m one others =
      let lists : ℕ → List (ℕ × ℕ) = λ k. if nat_eq k j then m else others.lists k in
      record {
        lists = lists;
        each = λ k h. ⊎_elim
            (λ (same : nat_eq k j ≡ true).
            let is : j ≡ k = sym ((names_equal k j).0 same) in
            let P : ℕ → Type 0 = λ p. Listed ((p, e) ∷ []) m in
            let Q : List (ℕ × ℕ) → Type 0 = λ l. Listed ((k, e) ∷ []) l in
            subst Q (sym (ap (λ (c : Bool). if c then m else others.lists k) same)) (subst P is one))
            (λ (apart : nat_eq k j ≡ false).
            let there : Has nat_eq k js = (rw apart at h) in
            let Q : List (ℕ × ℕ) → Type 0 = λ l. Listed ((k, e) ∷ []) l in
            subst Q (sym (ap (λ (c : Bool). if c then m else others.lists k) apart)) (others.each k there))
            (cases_Bool (nat_eq k j));
      }

  each_listed : (e : ℕ) (js : List ℕ) (l : List (ℕ × ℕ)) → Listed (at e js) l → ListedAt e js
  each_listed e [] l walk = record { lists = λ k. []; each = λ k h. none_in nat_eq k _ h }
  each_listed e (j ∷ js) l walk =
      let s = lists_split (table_ways false t T) (table_match T) ((j, e) ∷ []) (at e js) l walk in
      one_more_place e j js s.0 s.3 (each_listed e js s.1 s.4)

  listed_at_each : (e : ℕ) (js : List ℕ) (lists : ℕ → List (ℕ × ℕ)) → ((k : ℕ) → Has nat_eq k js → Listed ((k, e) ∷ []) (lists k)) →
      Listed (at e js) (flat_map lists js)
  listed_at_each e [] lists each = lists_none
  listed_at_each e (j ∷ js) lists each =
      listed_append ((j, e) ∷ []) (at e js) (lists j) (flat_map lists js) (each j (has_first nat_eq names_equal j js))
      (listed_at_each e js lists (λ k h. each k (has_later nat_eq k j js h)))

  firsts_of_places : (e : ℕ) (js ks : List ℕ) (l : List (ℕ × ℕ)) → distinct nat_eq js ≡ distinct nat_eq ks → Listed (at e ks) l →
      ListedFirsts (at e js) l
  firsts_of_places e js ks l same walk =
      let a = each_listed e ks l walk in
      let all = listed_at_each e ks a.lists a.each in
      let is : flat_map a.lists ks ≡ l = one_list (table_ways false t T) (table_match T) all l walk in
      let inside : (k : ℕ) → Has nat_eq k js → Has nat_eq k ks = λ k h.
      of_join nat_eq names_equal (λ p. Has nat_eq p ks) [] ks (λ p g. none_in nat_eq p _ g) (λ p g. g) k
      (let P : List ℕ → Type 0 = λ places. Has nat_eq k places in subst P same (join_brings nat_eq names_equal [] js k h)) in (
        flat_map a.lists js,
        listed_at_each e js a.lists (λ k h. a.each k (inside k h)),
        let Q : List (ℕ × ℕ) → Type 0 = λ m. HasSameFirsts (flat_map a.lists js) m in subst Q is (same_firsts_each a.lists js ks same),
      )

  pub orders_same_firsts : (s e : ℕ) (p q : ℕ → List ℕ) → ((i : ℕ) → distinct nat_eq (p i) ≡ distinct nat_eq (q i)) → Orders t T s e p →
      Orders t T s e q
  orders_same_firsts s e p q same a = record {
    lists = λ i l walk. firsts_behind (at e (p i)) ((i, s) ∷ []) l (a.lists i) (firsts_of_places e (p i) (q i) l (same i) walk);
  }
