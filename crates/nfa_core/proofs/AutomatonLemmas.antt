-- The edges of an automaton over a haystack: they stay in it, and a match has none.
use Rattle.std.proofs.Common.{◌≡◌, ℕ, zero, suc, ◌*◌, ◌<◌, ◌≤◌, true, false, Bool, ◌&&◌, List, [], ◌∷◌, length, map, get_or, if◌then◌else◌}
use Rattle.std.proofs.Common.{refl, arith, ⊎_elim, Option, Some, None}
use Rattle.std.proofs.lemmas.Bool.{cases_Bool}
use Rattle.std.proofs.lemmas.Bool.Decides.{Decides-ltb, leb_tells}
use Rattle.std.specs.Bool.{nat_eq, nat_le, nat_lt}
use Rattle.search_core.specs.Text.{byte_at}
use Rattle.look_core.specs.declared.look.Look.{Look}
use Rattle.nfa_core.specs.Walks.{Has, IsFinite}
use Rattle.nfa_core.specs.Places.{same_pair}
use Rattle.nfa_core.specs.Nfa.{Node, byte_range, sparse_node, dense_node, look_node, union_node, binary_union, capture_node, fail_node}
use Rattle.nfa_core.specs.Nfa.{match_node, Automaton, node_at, leads_to, IsWellFormed}
use Rattle.nfa_core.specs.Ways.{Text, reads, with_offset, is_satisfied, in_ranges, named, on_byte, on_nothing, on_read, offset_after}
use Rattle.nfa_core.specs.Ways.{byte_steps, plain_steps, ways, match_of, matched, IsPairOf}
use Rattle.nfa_core.proofs.MemberLemmas.{none_in, has_later, has_first, has_one, has_same, of_cons, of_append}
use Rattle.nfa_core.proofs.PairLemmas.{pairs_equal, names_equal, from_map, pairs_room}

-- a list that a test keeps or empties has no new members
of_if : (t : Bool) (xs : List ℕ) (r : ℕ) → Has nat_eq r (if t then xs else []) → Has nat_eq r xs
of_if true xs r h = h
of_if false xs r h = none_in nat_eq r _ h

of_either : (t : Bool) (xs ys zs : List ℕ) (r : ℕ) → (Has nat_eq r xs → Has nat_eq r zs) → (Has nat_eq r ys → Has nat_eq r zs) →
    Has nat_eq r (if t then xs else ys) → Has nat_eq r zs
of_either true xs ys zs r left right h = left h
of_either false xs ys zs r left right h = right h

in_ranges_led : (ranges : List (ℕ × ℕ × ℕ)) (b r : ℕ) → Has nat_eq r (in_ranges ranges b) → Has nat_eq r (map (λ r. r.2) ranges)
in_ranges_led [] b r h = h
in_ranges_led ((low, high, next) ∷ others) b r h =
    of_either (nat_le low b && nat_le b high) (next ∷ []) (in_ranges others b) (next ∷ map (λ r. r.2) others) r
    (of_cons nat_eq names_equal (λ q. Has nat_eq q (next ∷ map (λ r. r.2) others)) next []
    (has_first nat_eq names_equal next (map (λ r. r.2) others)) (λ q g. none_in nat_eq q _ g) r)
    (λ g. has_later nat_eq r next (map (λ r. r.2) others) (in_ranges_led others b r g)) h

named_is : (m r : ℕ) → Has nat_eq r (named m) → r ≡ m
named_is zero r h = none_in nat_eq r _ h
named_is (suc m) r h = has_one nat_eq names_equal r (suc m) h

named_led : (names : List ℕ) (b r : ℕ) → Has nat_eq r (named (get_or names b 0)) → Has nat_eq r names
named_led [] b r h = none_in nat_eq r _ h
named_led (x ∷ xs) zero r h = has_same nat_eq names_equal r x xs (named_is x r h)
named_led (x ∷ xs) (suc b) r h = has_later nat_eq r x xs (named_led xs b r h)

byte_led : (node : Node) (b r : ℕ) → Has nat_eq r (on_byte node b) → Has nat_eq r (leads_to node)
byte_led (byte_range low high next) b r h = of_if (nat_le low b && nat_le b high) (next ∷ []) r h
byte_led (sparse_node ranges) b r h = in_ranges_led ranges b r h
byte_led (dense_node names) b r h = named_led names b r h
byte_led (look_node l next) b r h = none_in nat_eq r _ h
byte_led (union_node names) b r h = none_in nat_eq r _ h
byte_led (binary_union first second) b r h = none_in nat_eq r _ h
byte_led (capture_node next pattern group slot) b r h = none_in nat_eq r _ h
byte_led fail_node b r h = none_in nat_eq r _ h
byte_led (match_node pattern) b r h = none_in nat_eq r _ h

pub nothing_led : (node : Node) (passed : Look → Bool) (r : ℕ) → Has nat_eq r (on_nothing node passed) → Has nat_eq r (leads_to node)
nothing_led (byte_range low high next) passed r h = none_in nat_eq r _ h
nothing_led (sparse_node ranges) passed r h = none_in nat_eq r _ h
nothing_led (dense_node names) passed r h = none_in nat_eq r _ h
nothing_led (look_node l next) passed r h = of_if (passed l) (next ∷ []) r h
nothing_led (union_node names) passed r h = h
nothing_led (binary_union first second) passed r h = h
nothing_led (capture_node next pattern group slot) passed r h = h
nothing_led fail_node passed r h = none_in nat_eq r _ h
nothing_led (match_node pattern) passed r h = none_in nat_eq r _ h

pub read_led : (node : Node) (read : Option (ℕ × ℕ)) (r : ℕ) → Has nat_eq r (on_read node read) → Has nat_eq r (leads_to node)
read_led node None r h = none_in nat_eq r _ h
read_led node (Some (b, j)) r h = byte_led node b r h

-- ---- offsets

-- what is read at an offset is followed by the next offset, or nothing is read
abbrev pub IsOutsideOf : Bool → Text → ℕ → Option (ℕ × ℕ) → Type 0
IsOutsideOf is_reverse t i None = Unit {0}
IsOutsideOf false t i (Some (b, j)) = (j ≡ suc i) × (i < t.end)
IsOutsideOf true t i (Some (b, j)) = (i ≡ suc j) × (t.start ≤ j)

beside_forward : (t : Text) (i : ℕ) (o : Option ℕ) → i < t.end → IsOutsideOf false t i (with_offset (suc i) o)
beside_forward t i None h = tt
beside_forward t i (Some b) h = (refl, h)

beside_reverse : (t : Text) (i : ℕ) (o : Option ℕ) → t.start ≤ i → IsOutsideOf true t (suc i) (with_offset i o)
beside_reverse t i None h = tt
beside_reverse t i (Some b) h = (refl, h)

pub reads_beside : (is_reverse : Bool) (t : Text) (i : ℕ) → IsOutsideOf is_reverse t i (reads is_reverse t i)
reads_beside false t i = ⊎_elim (λ (e : nat_lt i t.end ≡ true). rw e (beside_forward t i (byte_at t.haystack i)
    ((Decides-ltb i t.end).0 e))) (λ (e : nat_lt i t.end ≡ false). rw e tt) (cases_Bool (nat_lt i t.end))
reads_beside true t zero = tt
reads_beside true t (suc i) = ⊎_elim (λ reported. rw reported.0 (beside_reverse t i (byte_at t.haystack i) reported.1)) (λ reported. rw
    reported.0 tt)
    (leb_tells t.start i)

pub behind_inside : (is_reverse : Bool) (t : Text) (i : ℕ) (read : Option (ℕ × ℕ)) → IsOutsideOf is_reverse t i read → i ≤ t.end →
    offset_after i read ≤ t.end
behind_inside is_reverse t i None beside h = h
behind_inside false t i (Some (b, j)) beside h = omega (arith, beside.0, beside.1)
behind_inside true t i (Some (b, j)) beside h = omega (arith, beside.0, h)

pub finite_automaton : (a : Automaton) (t : Text) → IsWellFormed a → IsFinite same_pair (ways a t) (IsPairOf a t)
    (suc t.end * length a.states)
finite_automaton a t formed = record {
  stays = λ p here.
      let j : ℕ = offset_after p.0 (reads a.reverse t p.0) in
      let inside : j ≤ t.end = behind_inside a.reverse t p.0 (reads a.reverse t p.0) (reads_beside a.reverse t p.0) here.0 in
      of_append same_pair pairs_equal (IsPairOf a t) (map (λ q. (j, q)) (byte_steps a t p.0 p.1))
      (map (λ q. (p.0, q)) (plain_steps a t p.0 p.1))
      (λ q h. let o = from_map j q (byte_steps a t p.0 p.1) h in
      let below : o.0 < length a.states = formed p.1 o.0 (read_led (node_at a p.1) (reads a.reverse t p.0) o.0 o.1) in
      rw o.2 (inside, below))
      (λ q h. let o = from_map p.0 q (plain_steps a t p.0 p.1) h in
      let below : o.0 < length a.states = formed p.1 o.0 (nothing_led (node_at a p.1) (λ l. is_satisfied a.reverse t l p.0) o.0 o.1) in
      rw o.2 (here.0, below));
  room = pairs_room (length a.states) t.end;
}

read_nothing : (read : Option (ℕ × ℕ)) (pattern : ℕ) → on_read (match_node pattern) read ≡ []
read_nothing None pattern = refl
read_nothing (Some (b, j)) pattern = refl

pub match_is : (node : Node) (i : ℕ) (e : ℕ × ℕ) → match_of node i ≡ Some e → (pattern : ℕ) × (node ≡ match_node pattern)
match_is (byte_range low high next) i e h = cc
match_is (sparse_node ranges) i e h = cc
match_is (dense_node names) i e h = cc
match_is (look_node l next) i e h = cc
match_is (union_node names) i e h = cc
match_is (binary_union first second) i e h = cc
match_is (capture_node next pattern group slot) i e h = cc
match_is fail_node i e h = cc
match_is (match_node pattern) i e h = (pattern, refl)

-- a match leads nowhere
pub match_ends : (a : Automaton) (t : Text) (p : ℕ × ℕ) (e : ℕ × ℕ) → matched a p ≡ Some e → ways a t p ≡ []
match_ends a t p e h =
    let is = match_is (node_at a p.1) p.0 e h in
    rw (is.1, read_nothing (reads a.reverse t p.0) is.0)
