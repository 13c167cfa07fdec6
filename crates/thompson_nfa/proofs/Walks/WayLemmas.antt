-- Where a state of each form leads from an offset, and that it is no match.
use Rattle.std.proofs.Common.{◌≡◌, ℕ, Bool, true, false, List, [], ◌∷◌, ◌++◌, map, Option, Some, None, if◌then◌else◌, ◌&&◌, ◌||◌, nat_le}
use Rattle.std.proofs.Common.{◌⊎◌, inl, inr, refl, sym, ap, ◌∙◌}
use Rattle.look_core.specs.declared.look.Look.{Look}
use Rattle.hir_core.specs.Means.{is_member}
use Rattle.hir_core.specs.PreferredEnds.{Has as HasEnd}
use Rattle.nfa_core.specs.Nfa.{Node, byte_range, sparse_node, look_node, union_node, capture_node, fail_node, match_node}
use Rattle.nfa_core.specs.BuilderStates.{DraftNode, empty_draft, range_draft, sparse_draft, look_draft, capture_start_draft}
use Rattle.nfa_core.specs.BuilderStates.{capture_end_draft, union_draft, fail_draft}
use Rattle.nfa_core.specs.Walks.{Has}
use Rattle.nfa_core.specs.Places.{same_pair}
use Rattle.nfa_core.specs.Ways.{Text, reads, is_satisfied, in_ranges, on_byte, on_nothing, on_read, offset_after, node_ways, match_of}
use Rattle.nfa_core.specs.Drafted.{drafted, Table, table_ways, table_match}
use Rattle.nfa_core.proofs.ForCallers.{none_in, has_cons, has_same, has_later, pairs_equal, match_is}
use Rattle.thompson_nfa.specs.Denotes.{at, choice}

-- ---- a state at several offsets, and several states at an offset

abbrev pub each_at : List ℕ → ℕ → List (ℕ × ℕ)
each_at qs i = map (λ q. (i, q)) qs

abbrev pub both_at : Bool → ℕ → ℕ → ℕ → List (ℕ × ℕ)
both_at true a e i = (i, a) ∷ (i, e) ∷ []
both_at false a e i = (i, e) ∷ (i, a) ∷ []

pub at_append : (q : ℕ) (xs ys : List ℕ) → at q (xs ++ ys) ≡ at q xs ++ at q ys
at_append q [] ys = refl
at_append q (x ∷ xs) ys = ap (λ (l : List (ℕ × ℕ)). (x, q) ∷ l) (at_append q xs ys)

pub has_at : (e : ℕ) (js : List ℕ) (j : ℕ) → HasEnd js j → Has same_pair (j, e) (at e js)
has_at e [] j h = elim h [ ]
has_at e (k ∷ ks) j (inl is) = has_same same_pair pairs_equal (j, e) (k, e) (at e ks) (ap (λ (n : ℕ). (n, e)) (sym is))
has_at e (k ∷ ks) j (inr h) = has_later same_pair (j, e) (k, e) (at e ks) (has_at e ks j h)

pub at_has : (e : ℕ) (js : List ℕ) (w : ℕ × ℕ) → Has same_pair w (at e js) → (k : ℕ) × HasEnd js k × (w ≡ (k, e))
at_has e [] w h = none_in same_pair w _ h
at_has e (k ∷ ks) w h = elim (has_cons same_pair pairs_equal w (k, e) (at e ks) h) [
  | inl is ↦ (k, inl refl, is)
  | inr g ↦ let r = at_has e ks w g in (r.0, inr r.1, r.2)
]

pub has_both : (greedy : Bool) (a e i : ℕ) (w : ℕ × ℕ) → Has same_pair w (both_at greedy a e i) → (w ≡ (i, a)) ⊎ (w ≡ (i, e))
has_both true a e i w h = elim (has_cons same_pair pairs_equal w (i, a) ((i, e) ∷ []) h) [
  | inl is ↦ inl is
  | inr g ↦ elim (has_cons same_pair pairs_equal w (i, e) [] g) [ inl is ↦ inr is | inr n ↦ none_in same_pair w _ n ]
]
has_both false a e i w h = elim (has_cons same_pair pairs_equal w (i, e) ((i, a) ∷ []) h) [
  | inl is ↦ inr is
  | inr g ↦ elim (has_cons same_pair pairs_equal w (i, a) [] g) [ inl is ↦ inl is | inr n ↦ none_in same_pair w _ n ]
]

pub both_has_body : (greedy : Bool) (a e i : ℕ) → Has same_pair (i, a) (both_at greedy a e i)
both_has_body true a e i = has_same same_pair pairs_equal (i, a) (i, a) ((i, e) ∷ []) refl
both_has_body false a e i = has_later same_pair (i, a) (i, e) ((i, a) ∷ []) (has_same same_pair pairs_equal (i, a) (i, a) [] refl)

pub both_has_exit : (greedy : Bool) (a e i : ℕ) → Has same_pair (i, e) (both_at greedy a e i)
both_has_exit true a e i = has_later same_pair (i, e) (i, a) ((i, e) ∷ []) (has_same same_pair pairs_equal (i, e) (i, e) [] refl)
both_has_exit false a e i = has_same same_pair pairs_equal (i, e) (i, e) ((i, a) ∷ []) refl

-- ---- nodes

no_byte : (n : Node) → ((b : ℕ) → on_byte n b ≡ []) → (o : Option (ℕ × ℕ)) → on_read n o ≡ []
no_byte n none None = refl
no_byte n none (Some (b, j)) = none b

-- a node that reads no byte
plain_node : (back : Bool) (t : Text) (n : Node) (i : ℕ) → ((b : ℕ) → on_byte n b ≡ []) →
    node_ways back t n i ≡ each_at (on_nothing n (λ l. is_satisfied back t l i)) i
plain_node back t n i none =
    ap (λ (qs : List ℕ). map (λ q. (offset_after i (reads back t i), q)) qs ++ each_at (on_nothing n (λ l. is_satisfied back t l i)) i)
    (no_byte n none (reads back t i))

-- the end of a byte of the ranges, if this byte or none is read
abbrev pub byte_ends : List (ℕ × ℕ) → Option (ℕ × ℕ) → List ℕ
byte_ends ranges None = []
byte_ends ranges (Some (b, j)) = if is_member ranges b then j ∷ [] else []

one_byte : (c : Bool) (j e : ℕ) → map (λ q. (j, q)) (if c then e ∷ [] else []) ++ [] ≡ at e (if c || false then j ∷ [] else [])
one_byte true j e = refl
one_byte false j e = refl

range_ways : (low high e i : ℕ) (o : Option (ℕ × ℕ)) →
    map (λ q. (offset_after i o, q)) (on_read (byte_range low high e) o) ++ [] ≡ at e (byte_ends ((low, high) ∷ []) o)
range_ways low high e i None = refl
range_ways low high e i (Some (b, j)) = one_byte (nat_le low b && nat_le b high) j e

first_range : (c d : Bool) (e : ℕ) (xs : List ℕ) → xs ≡ (if d then e ∷ [] else []) →
    (if c then e ∷ [] else xs) ≡ (if c || d then e ∷ [] else [])
first_range true d e xs is = refl
first_range false d e xs is = is

abbrev pub to_one : ℕ → List (ℕ × ℕ) → List (ℕ × ℕ × ℕ)
to_one e ranges = map (λ r. (r.0, r.1, e)) ranges

ranges_to_one : (ranges : List (ℕ × ℕ)) (b e : ℕ) → in_ranges (to_one e ranges) b ≡ (if is_member ranges b then e ∷ [] else [])
ranges_to_one [] b e = refl
ranges_to_one (r ∷ rs) b e = first_range (nat_le r.0 b && nat_le b r.1) (is_member rs b) e (in_ranges (to_one e rs) b)
    (ranges_to_one rs b e)

byte_or_none : (c : Bool) (j e : ℕ) → map (λ q. (j, q)) (if c then e ∷ [] else []) ++ [] ≡ at e (if c then j ∷ [] else [])
byte_or_none true j e = refl
byte_or_none false j e = refl

sparse_ways : (ranges : List (ℕ × ℕ)) (e i : ℕ) (o : Option (ℕ × ℕ)) →
    map (λ q. (offset_after i o, q)) (on_read (sparse_node (to_one e ranges)) o) ++ [] ≡ at e (byte_ends ranges o)
sparse_ways ranges e i None = refl
sparse_ways ranges e i (Some (b, j)) =
    ap (λ (qs : List ℕ). map (λ q. (j, q)) qs ++ []) (ranges_to_one ranges b e) ∙ byte_or_none (is_member ranges b) j e

passed_or_not : (c : Bool) (i e : ℕ) → each_at (if c then e ∷ [] else []) i ≡ at e (if c then i ∷ [] else [])
passed_or_not true i e = refl
passed_or_not false i e = refl

-- ---- states of a table

-- the state leads from each offset to these pairs, and is no match
pub record Goes (back : Bool) (t : Text) (table : Table) (s : ℕ) (to : ℕ → List (ℕ × ℕ)) : Type 0 where
  pub ways : (i : ℕ) → table_ways back t table (i, s) ≡ to i
  pub is_open : (i : ℕ) → table_match table (i, s) ≡ None

-- a match is an end
pub match_has_no_ways : (back : Bool) (t : Text) (T : Table) (p m : ℕ × ℕ) → table_match T p ≡ Some m → table_ways back t T p ≡ []
match_has_no_ways back t T p m h =
    let is = match_is (drafted (T p.1)) p.0 m h in
    ap (λ (n : Node). node_ways back t n p.0) is.1 ∙ plain_node back t (match_node is.0) p.0 (λ b. refl)

module _ (back : Bool) (t : Text) (T : Table) (s : ℕ) where
  goes_as : (n : DraftNode) (to : ℕ → List (ℕ × ℕ)) → T s ≡ n → ((i : ℕ) → match_of (drafted n) i ≡ None) →
      ((i : ℕ) → node_ways back t (drafted n) i ≡ to i) → Goes back t T s to
  goes_as n to is none same = record {
    ways = λ i. ap (λ (p : DraftNode). node_ways back t (drafted p) i) is ∙ same i;
    is_open = λ i. ap (λ (p : DraftNode). match_of (drafted p) i) is ∙ none i;
  }

  pub goes_empty : (e : ℕ) → T s ≡ empty_draft e → Goes back t T s (λ i. at e (i ∷ []))
  goes_empty e is = goes_as (empty_draft e) (λ i. at e (i ∷ [])) is (λ i. refl) (λ i. plain_node back t (union_node (e ∷ [])) i (λ b. refl))

  pub goes_capture_start : (pattern group e : ℕ) → T s ≡ capture_start_draft pattern group e → Goes back t T s (λ i. at e (i ∷ []))
  goes_capture_start pattern group e is =
      goes_as (capture_start_draft pattern group e) (λ i. at e (i ∷ [])) is (λ i. refl)
      (λ i. plain_node back t (capture_node e pattern group 0) i (λ b. refl))

  pub goes_capture_end : (pattern group e : ℕ) → T s ≡ capture_end_draft pattern group e → Goes back t T s (λ i. at e (i ∷ []))
  goes_capture_end pattern group e is =
      goes_as (capture_end_draft pattern group e) (λ i. at e (i ∷ [])) is (λ i. refl)
      (λ i. plain_node back t (capture_node e pattern group 0) i (λ b. refl))

  pub goes_fail : T s ≡ fail_draft → Goes back t T s (λ i. [])
  goes_fail is = goes_as fail_draft (λ i. []) is (λ i. refl) (λ i. plain_node back t fail_node i (λ b. refl))

  pub goes_union : (qs : List ℕ) → T s ≡ union_draft qs → Goes back t T s (each_at qs)
  goes_union qs is = goes_as (union_draft qs) (each_at qs) is (λ i. refl) (λ i. plain_node back t (union_node qs) i (λ b. refl))

  pub goes_choice : (greedy : Bool) (a e : ℕ) → T s ≡ choice greedy a e → Goes back t T s (both_at greedy a e)
  goes_choice true a e is = goes_as (choice true a e) (both_at true a e) is (λ i. refl)
      (λ i. plain_node back t (union_node (a ∷ e ∷ [])) i (λ b. refl))
  goes_choice false a e is = goes_as (choice false a e) (both_at false a e) is (λ i. refl)
      (λ i. plain_node back t (union_node (e ∷ a ∷ [])) i (λ b. refl))

  pub goes_look : (l : Look) (e : ℕ) → T s ≡ look_draft l e → Goes back t T s (λ i. at e (if is_satisfied back t l i then i ∷ [] else []))
  goes_look l e is = goes_as (look_draft l e) (λ i. at e (if is_satisfied back t l i then i ∷ [] else [])) is (λ i. refl)
      (λ i. plain_node back t (look_node l e) i (λ b. refl) ∙ passed_or_not (is_satisfied back t l i) i e)

  pub goes_range : (low high e : ℕ) → T s ≡ range_draft low high e → Goes back t T s
      (λ i. at e (byte_ends ((low, high) ∷ []) (reads back t i)))
  goes_range low high e is = goes_as (range_draft low high e) (λ i. at e (byte_ends ((low, high) ∷ []) (reads back t i))) is (λ i. refl)
      (λ i. range_ways low high e i (reads back t i))

  pub goes_sparse : (ranges : List (ℕ × ℕ)) (e : ℕ) → T s ≡ sparse_draft (to_one e ranges) →
      Goes back t T s (λ i. at e (byte_ends ranges (reads back t i)))
  goes_sparse ranges e is = goes_as (sparse_draft (to_one e ranges)) (λ i. at e (byte_ends ranges (reads back t i))) is (λ i. refl)
      (λ i. sparse_ways ranges e i (reads back t i))
