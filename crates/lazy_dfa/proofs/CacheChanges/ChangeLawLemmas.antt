-- When a sequence of changes clears a cache, and what it adds.
use Rattle.std.proofs.Common.{◌≡◌, ◌⊎◌, ℕ, suc, ◌+◌, ◌*◌, ◌<◌, ◌≤◌, Bool, true, false, List, [], ◌∷◌, ◌++◌, length, refl, sym}
use Rattle.std.proofs.Common.{ap, ◌∙◌, subst, inl, inr, ⊎_elim, arith, true≢false, Option, Some, None}
use Rattle.std.specs.Prelude.{min, not, nat_le, ◌&&◌, is_none, All}
use Rattle.std.proofs.Math.Nat.{mul-le-mul_right, suc-mul}
use Rattle.std.proofs.lemmas.Bool.Decides.{leb_tells}
use Rattle.std.proofs.lemmas.List.{append_assoc, append-nil, length-append}
use Rattle.std.proofs.lemmas.List.Elements.{All-nil, All-head, All-tail, All-push}
use Rattle.determinize_core.specs.States.{StateValue}
use Rattle.lazy_dfa.specs.Accounting.{states_cost}
use Rattle.lazy_dfa.specs.Caches.{CacheValue, IsCacheOf, state_at, usage, fits, is_clear_denied, needs_clear, with_state, cleared}
use Rattle.lazy_dfa.specs.Caches.{row_holding}
use Rattle.lazy_dfa.specs.Caches.{greatest}
use Rattle.lazy_dfa.specs.Changes.{Changes, unchanged, keeps, adds, clears, row_state, greatest_cost, HasRoomFor, IsSpent, FirstClear}
use Rattle.lazy_dfa.specs.Changes.{AddsFew, LastClear}
use Rattle.lazy_dfa.specs.ConfigValue.{clears_of, minimum_bytes_of}
use Rattle.lazy_dfa.specs.Dfas.{Dfa, IsDfa, IsStateOf, is_dead, cost}
use Rattle.lazy_dfa.specs.Ids.{tag}
use Rattle.lazy_dfa.specs.Linked.{CacheGrows}
use Rattle.lazy_dfa.specs.Steps.{HasStatesOf, AddsState, MakesRoom, kept_of}
use Rattle.lazy_dfa.proofs.CacheChanges.LinkedLemmas.{grows_refl, grows_trans}

-- ---- counts of clears

kept_clears : (from : Option ℕ) (v : CacheValue) → (kept_of from v).clears ≡ min (v.clears + 1) greatest
kept_clears None v = refl
kept_clears (Some k) v = refl

-- a clear that makes room increases the count by one
pub room_clears : (d : Dfa) (b : Bool) (from : Option ℕ) (s : StateValue) (v w : CacheValue) → MakesRoom d b from s v w →
    w.clears ≡ min (v.clears + 1) greatest
room_clears d b from s v w x =
    ⊎_elim (λ (e : HasStatesOf w x.middle). e.2) (λ (e : HasStatesOf w (with_state b s x.middle)). e.2) x.states
    ∙ ⊎_elim (λ (e : x.middle ≡ cleared v). ap (λ (y : CacheValue). y.clears) e)
    (λ (e : x.middle ≡ kept_of from v). ap (λ (y : CacheValue). y.clears) e ∙ kept_clears from v) x.clears.left

one_more : (a b c n m : ℕ) → c ≡ min (b + 1) greatest → a ≤ b → b ≤ a + m → m < n → b ≤ greatest → (a ≤ c) × (c ≤ a + n) × (c ≤ greatest)
one_more a b c n m e f g l h = (omega (arith, e, f, h), omega (arith, e, g, l), omega (arith, e))

module _ (d : Dfa) (P : Bool → Option StateValue → StateValue → Type 0) (v : CacheValue) (small : v.clears ≤ greatest) where
  pub clears_few : (w : CacheValue) (n : ℕ) → Changes d P v w n → (v.clears ≤ w.clears) × (w.clears ≤ v.clears + n) × (w.clears ≤ greatest)
  clears_few _ _ (unchanged w n e) = let f = ap (λ (x : CacheValue). x.clears) e in
      (omega (arith, f), omega (arith, f), omega (arith, f, small))
  clears_few _ _ (keeps mid w n c g e) = let x = clears_few mid n c in let a = x.0 in let b = x.1 in let h = x.2 in let f = e.2 in
      (omega (arith, a, f), omega (arith, b, f), omega (arith, h, f))
  clears_few _ _ (adds b o s mid w m n l c own made g a) =
      let x = clears_few mid m c in let lo = x.0 in let hi = x.1 in let h = x.2 in let f = a.states.2 in
      (omega (arith, lo, f), omega (arith, hi, f, l), omega (arith, h, f))
  clears_few _ _ (clears b from s mid w m n l c own made x) =
      let y = clears_few mid m c in
      one_more v.clears mid.clears w.clears n m (room_clears d b from s mid w x) y.0 y.1 l y.2

-- ---- what is added

-- The changes cleared the cache: before any clear, they came to a state that needed one.
pub record Cleared (d : Dfa) (P : Bool → Option StateValue → StateValue → Type 0) (v w : CacheValue) (n : ℕ) : Type 0 where
  pub before : CacheValue
  pub made_before : ℕ
  pub less : made_before < n
  pub adds : AddsFew d P v before made_before
  pub own : IsCacheOf d before
  pub is_start : Bool
  pub from : Option StateValue
  pub state : StateValue
  pub made : P is_start from state
  pub is : IsStateOf d state
  pub needs : needs_clear d before state ≡ true
  pub allowed : is_clear_denied (clears_of d.options) (minimum_bytes_of d.options) before ≡ false
  pub cleared : min (v.clears + 1) greatest ≤ w.clears

module _ (d : Dfa) (P : Bool → Option StateValue → StateValue → Type 0) (fit : IsDfa d) (v : CacheValue) (own : IsCacheOf d v) where
  abbrev Made : StateValue → Type 0
  Made s = (b : Bool) × (o : Option StateValue) × P b o s

  add_none : (w : CacheValue) (n : ℕ) → w ≡ v → AddsFew d P v w n
  add_none w n e = record {
    grows = subst (CacheGrows d v) (sym e) (grows_refl d v);
    added = [];
    states = ap (λ (x : CacheValue). x.states) e ∙ sym (append-nil v.states);
    few = omega arith;
    made = All-nil Made;
    are = All-nil (IsStateOf d);
  }

  add_keeps : (mid w : CacheValue) (n : ℕ) → CacheGrows d mid w → HasStatesOf w mid → AddsFew d P v mid n → AddsFew d P v w n
  add_keeps mid w n g e a = record {
    grows = grows_trans d v mid w fit own a.grows g;
    added = a.added;
    states = e.0 ∙ a.states;
    few = a.few;
    made = a.made;
    are = a.are;
  }

  add_one : (b : Bool) (o : Option StateValue) (s : StateValue) (mid w : CacheValue) (m n : ℕ) → m < n → P b o s → CacheGrows d mid w →
      AddsState d b s mid w → AddsFew d P v mid m → AddsFew d P v w n
  add_one b o s mid w m n l made g x a = record {
    grows = grows_trans d v mid w fit own a.grows g;
    added = a.added ++ s ∷ [];
    states = x.states.0 ∙ (ap (λ (xs : List StateValue). xs ++ s ∷ []) a.states ∙ append_assoc v.states a.added (s ∷ []));
    few = let e = length-append a.added (s ∷ []) in let f = a.few in omega (arith, e, f, l);
    made = All-push Made a.added s a.made (b, o, made);
    are = All-push (IsStateOf d) a.added s a.are x.is;
  }

  still : (mid w : CacheValue) (m n : ℕ) → m ≤ n → mid.clears ≤ w.clears → Cleared d P v mid m → Cleared d P v w n
  still mid w m n l more x = let less = x.less in let c = x.cleared in
      record {
        before = x.before;
        made_before = x.made_before;
        less = omega (arith, l, less);
        adds = x.adds;
        own = x.own;
        is_start = x.is_start;
        from = x.from;
        state = x.state;
        made = x.made;
        is = x.is;
        needs = x.needs;
        allowed = x.allowed;
        cleared = omega (arith, c, more);
      }

  again : (mid w : CacheValue) (m n : ℕ) → m < n → w.clears ≡ min (mid.clears + 1) greatest → Cleared d P v mid m → Cleared d P v w n
  again mid w m n l more x = let less = x.less in let c = x.cleared in
      record {
        before = x.before;
        made_before = x.made_before;
        less = omega (arith, l, less);
        adds = x.adds;
        own = x.own;
        is_start = x.is_start;
        from = x.from;
        state = x.state;
        made = x.made;
        is = x.is;
        needs = x.needs;
        allowed = x.allowed;
        cleared = omega (arith, c, more);
      }

  room_made : (b : Bool) (from : Option ℕ) (s : StateValue) (mid w : CacheValue) (m n : ℕ) → m < n → IsCacheOf d mid →
      P b (row_state from mid) s → MakesRoom d b from s mid w → AddsFew d P v mid m → Cleared d P v w n
  room_made b from s mid w m n l mine made x a =
      let e = room_clears d b from s mid w x in
      let f = a.grows.clears in
      record {
        before = mid;
        made_before = m;
        less = l;
        adds = a;
        own = mine;
        is_start = b;
        from = row_state from mid;
        state = s;
        made = made;
        is = x.clears.is;
        needs = x.clears.needs;
        allowed = x.clears.allowed;
        cleared = omega (arith, e, f);
      }

  no_less : (x y : ℕ) → y ≡ x → x ≤ y
  no_less x y e = omega (arith, e)

  -- nothing was cleared, or something was
  pub added_or_cleared : (w : CacheValue) (n : ℕ) → Changes d P v w n → AddsFew d P v w n ⊎ Cleared d P v w n
  added_or_cleared _ _ (unchanged w n e) = inl (add_none w n e)
  added_or_cleared _ _ (keeps mid w n c g e) = ⊎_elim
      (λ (a : AddsFew d P v mid n). inl (add_keeps mid w n g e a))
      (λ (x : Cleared d P v mid n). inr (still mid w n n (omega arith) (no_less mid.clears w.clears e.2) x))
      (added_or_cleared mid n c)
  added_or_cleared _ _ (adds b o s mid w m n l c mine made g x) = ⊎_elim
      (λ (a : AddsFew d P v mid m). inl (add_one b o s mid w m n l made g x a))
      (λ (y : Cleared d P v mid m). inr (still mid w m n (omega (arith, l)) (no_less mid.clears w.clears x.states.2) y))
      (added_or_cleared mid m c)
  added_or_cleared _ _ (clears b from s mid w m n l c mine made x) = ⊎_elim
      (λ (a : AddsFew d P v mid m). inr (room_made b from s mid w m n l mine made x a))
      (λ (y : Cleared d P v mid m). inr (again mid w m n l (room_clears d b from s mid w x) y))
      (added_or_cleared mid m c)

  -- ---- if nothing is cleared

  unless_cleared : (w : CacheValue) (n : ℕ) → (Cleared d P v w n → ⊥) → Changes d P v w n → AddsFew d P v w n
  unless_cleared w n never c =
      ⊎_elim (λ (a : AddsFew d P v w n). a) (λ (x : Cleared d P v w n). absurd (never x)) (added_or_cleared w n c)

  pub kept_if_same : (w : CacheValue) (n : ℕ) → w.clears ≡ v.clears → v.clears < greatest → Changes d P v w n → AddsFew d P v w n
  kept_if_same w n e l c = unless_cleared w n (λ x. let f = x.cleared in omega (arith, e, l, f)) c

  pub first_of_clears : (w : CacheValue) (n : ℕ) → (w.clears ≡ v.clears → ⊥) → Changes d P v w n → FirstClear d P v
  first_of_clears w n differ c = ⊎_elim
      (λ (a : AddsFew d P v w n). absurd (differ a.grows.clears))
      (λ (x : Cleared d P v w n). record {
        before = x.before;
        grows = x.adds.grows;
        is_start = x.is_start;
        from = x.from;
        state = x.state;
        made = x.made;
        needs = x.needs;
        allowed = x.allowed;
      })
      (added_or_cleared w n c)

  le_true : (m n : ℕ) → m ≤ n → nat_le m n ≡ true
  le_true m n l = ⊎_elim (λ p. p.0) (λ q. let g = q.1 in absurd (omega (arith, l, g))) (leb_tells m n)

  pub kept_if_spent : (w : CacheValue) (n : ℕ) → IsSpent d v → Changes d P v w n → AddsFew d P v w n
  kept_if_spent w n spent c = unless_cleared w n never c
    where
      refused : (x : Cleared d P v w n) → is_clear_denied (Some spent.0) None x.before ≡ true
      refused x = let l = spent.3 in let e = x.adds.grows.clears in
          ap (λ (b : Bool). b && true) (le_true spent.0 x.before.clears (omega (arith, l, e)))

      never : Cleared d P v w n → ⊥
      never x = true≢false (sym (refused x) ∙ (ap (λ (o : Option ℕ). is_clear_denied (Some spent.0) o x.before) (sym spent.2)
          ∙ (ap (λ (o : Option ℕ). is_clear_denied o (minimum_bytes_of d.options) x.before) (sym spent.1) ∙ x.allowed)))

  -- ---- room

  costs_append : (stride : ℕ) (xs ys : List StateValue) → states_cost stride (xs ++ ys) ≡ states_cost stride xs + states_cost stride ys
  costs_append stride [] ys = omega arith
  costs_append stride (x ∷ xs) ys = let e = costs_append stride xs ys in omega (arith, e)

  costs_few : (ss : List StateValue) → All (IsStateOf d) ss → states_cost d.measures.stride ss ≤ length ss * greatest_cost d
  costs_few [] are = omega arith
  costs_few (s ∷ ss) are =
      let short = (All-head (IsStateOf d) s ss are).short in
      let rest = costs_few ss (All-tail (IsStateOf d) s ss are) in
      let e = suc-mul (length ss) (greatest_cost d) in
      omega (arith, short, rest, e)

  pub kept_if_room : (w : CacheValue) (n : ℕ) → HasRoomFor d v n → Changes d P v w n → AddsFew d P v w n
  kept_if_room w n room c = unless_cleared w n never c
    where
      in_bytes : (x : Cleared d P v w n) → usage x.before + cost x.before.stride x.state ≤ d.capacity
      in_bytes x =
          let fresh : x.before.fresh ≡ v.fresh = x.own.fresh ∙ sym own.fresh in
          let all : states_cost x.before.stride x.before.states ≡ states_cost d.measures.stride v.states
          + states_cost d.measures.stride x.adds.added =
          ap (λ (k : ℕ). states_cost k x.before.states) x.own.stride
          ∙ (ap (states_cost d.measures.stride) x.adds.states ∙ costs_append d.measures.stride v.states x.adds.added) in
          let was : states_cost v.stride v.states ≡ states_cost d.measures.stride v.states =
          ap (λ (k : ℕ). states_cost k v.states) own.stride in
          let more = costs_few x.adds.added x.adds.are in
          let one : cost x.before.stride x.state ≡ cost d.measures.stride x.state = ap (λ (k : ℕ). cost k x.state) x.own.stride in
          let short = x.is.short in
          let few = x.adds.few in
          let less = x.less in
          let fits = room.0 in
          let scaled = mul-le-mul_right {m = suc (length x.adds.added)} {n = n} (greatest_cost d) (omega (arith, few, less)) in
          let e = suc-mul (length x.adds.added) (greatest_cost d) in
          omega (arith, fresh, all, was, more, one, short, fits, scaled, e)

      in_cells : (x : Cleared d P v w n) → length x.before.cells + x.before.stride ≤ tag
      in_cells x =
          let sized = x.own.shape.sized in
          let stride = x.own.stride in
          let long = ap length x.adds.states ∙ length-append v.states x.adds.added in
          let few = x.adds.few in
          let less = x.less in
          let fits = room.1 in
          cells_fit (length x.before.cells) (length x.before.states) x.before.stride (length v.states + n + 3) d.measures.stride sized
          stride
          (omega (arith, long, few, less)) fits
        where
          cells_fit : (cells states stride k m : ℕ) → cells ≡ (states + 3) * stride → stride ≡ m → states + 4 ≤ k → k * m ≤ tag →
              cells + stride ≤ tag
          cells_fit cells states stride k m e f l g =
              let scaled = mul-le-mul_right {m = states + 4} {n = k} m l in
              let one : suc (states + 3) ≡ states + 4 = omega arith in
              let four : (states + 4) * m ≡ (states + 3) * m + m = ap (λ (z : ℕ). z * m) (sym one) ∙ suc-mul (states + 3) m in
              let here : (states + 3) * stride ≡ (states + 3) * m = ap (λ (z : ℕ). (states + 3) * z) f in
              omega (arith, e, f, g, scaled, four, here)

      fits_before : (x : Cleared d P v w n) → fits d.capacity x.state x.before ≡ true
      fits_before x = both_true (nat_le (usage x.before + cost x.before.stride x.state) d.capacity)
          (nat_le (length x.before.cells + x.before.stride) tag)
          (le_true (usage x.before + cost x.before.stride x.state) d.capacity (in_bytes x))
          (le_true (length x.before.cells + x.before.stride) tag (in_cells x))
        where
          both_true : (a b : Bool) → a ≡ true → b ≡ true → (a && b) ≡ true
          both_true a b e f = rw (e, f) refl

      no_need : (dead none fitting : Bool) → fitting ≡ true → (not dead && (none && not fitting)) ≡ false
      no_need true none fitting e = refl
      no_need false true true e = refl
      no_need false false fitting e = refl
      no_need false true false e = absurd (true≢false (sym e))

      never : Cleared d P v w n → ⊥
      never x = true≢false (sym x.needs ∙ no_need (is_dead x.state) (is_none (row_holding x.state x.before.states))
          (fits d.capacity x.state x.before) (fits_before x))

-- ---- what the last clear left

module _ (d : Dfa) (P : Bool → Option StateValue → StateValue → Type 0) (v : CacheValue) where
  abbrev IsMade : StateValue → Type 0
  IsMade s = (b : Bool) × (o : Option StateValue) × P b o s

  later : (mid w : CacheValue) (m n : ℕ) → m ≤ n → w.states ≡ mid.states → LastClear d P mid m → LastClear d P w n
  later mid w m n l e x = record {
    is_start = x.is_start;
    from = x.from;
    state = x.state;
    made = x.made;
    kept = x.kept;
    alone = x.alone;
    added = x.added;
    states = e ∙ x.states;
    few = let f = x.few in omega (arith, l, f);
    since = x.since;
  }

  one_later : (b : Bool) (o : Option StateValue) (s : StateValue) (mid w : CacheValue) (m n : ℕ) → m < n → P b o s →
      w.states ≡ mid.states ++ s ∷ [] → LastClear d P mid m → LastClear d P w n
  one_later b o s mid w m n l made e x = record {
    is_start = x.is_start;
    from = x.from;
    state = x.state;
    made = x.made;
    kept = x.kept;
    alone = x.alone;
    added = x.added ++ s ∷ [];
    states = e ∙ (ap (λ (xs : List StateValue). xs ++ s ∷ []) x.states ∙ append_assoc x.kept x.added (s ∷ []));
    few = let long = length-append x.added (s ∷ []) in let f = x.few in omega (arith, long, f, l);
    since = All-push IsMade x.added s x.since (b, o, made);
  }

  abbrev IsKept : Option StateValue → List StateValue → Type 0
  IsKept from kept = (kept ≡ []) ⊎ ((s : StateValue) × (from ≡ Some s) × (kept ≡ s ∷ []))

  -- what a clear leaves
  left_of : (from : Option ℕ) (mid : CacheValue) → IsKept (row_state from mid) (kept_of from mid).states
  left_of None mid = inl refl
  left_of (Some k) mid = inr (state_at mid k, refl, refl)

  left_by : (from : Option ℕ) (mid middle : CacheValue) → (middle ≡ cleared mid) ⊎ (middle ≡ kept_of from mid) →
      IsKept (row_state from mid) middle.states
  left_by from mid middle (inl e) = inl (ap (λ (x : CacheValue). x.states) e)
  left_by from mid middle (inr e) = subst (λ (x : CacheValue). IsKept (row_state from mid) x.states) (sym e) (left_of from mid)

  room_left : (b : Bool) (from : Option ℕ) (s : StateValue) (mid w : CacheValue) (m n : ℕ) → m < n → P b (row_state from mid) s →
      MakesRoom d b from s mid w → LastClear d P w n
  room_left b from s mid w m n l made x = by x.states
    where
      left : IsKept (row_state from mid) x.middle.states
      left = left_by from mid x.middle x.clears.left

      by : HasStatesOf w x.middle ⊎ HasStatesOf w (with_state b s x.middle) → LastClear d P w n
      by (inl e) = record {
        is_start = b;
        from = row_state from mid;
        state = s;
        made = made;
        kept = x.middle.states;
        alone = left;
        added = [];
        states = e.0 ∙ sym (append-nil x.middle.states);
        few = omega arith;
        since = All-nil IsMade;
      }
      by (inr e) = record {
        is_start = b;
        from = row_state from mid;
        state = s;
        made = made;
        kept = x.middle.states;
        alone = left;
        added = s ∷ [];
        states = e.0;
        few = omega (arith, l);
        since = All-push IsMade [] s (All-nil IsMade) (b, row_state from mid, made);
      }

  pub last_of_clears : (w : CacheValue) (n : ℕ) → (w.clears ≡ v.clears → ⊥) → Changes d P v w n → LastClear d P w n
  last_of_clears _ _ differ (unchanged w n e) = absurd (differ (ap (λ (x : CacheValue). x.clears) e))
  last_of_clears _ _ differ (keeps mid w n c g e) =
      later mid w n n (omega arith) e.0 (last_of_clears mid n (λ same. differ (e.2 ∙ same)) c)
  last_of_clears _ _ differ (adds b o s mid w m n l c own made g x) =
      one_later b o s mid w m n l made x.states.0 (last_of_clears mid m (λ same. differ (x.states.2 ∙ same)) c)
  last_of_clears _ _ differ (clears b from s mid w m n l c own made x) = room_left b from s mid w m n l made x
