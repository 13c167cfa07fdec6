-- A kept state under new names: it leads where it led, and matches what it matched.
use Rattle.std.proofs.Common.{◌≡◌, ℕ, true, false, Bool, List, [], ◌∷◌, ◌++◌, map, reverse, refl, sym, ap, ◌∙◌, Option, Some, None}
use Rattle.std.proofs.Common.{if◌then◌else◌, ◌&&◌}
use Rattle.std.specs.Bool.{nat_le}
use Rattle.std.proofs.lemmas.List.{map-append}
use Rattle.look_core.specs.declared.look.Look.{Look}
use Rattle.search_types.specs.Groups.{Groups}
use Rattle.nfa_core.specs.Nfa.{union_node, leads_to}
use Rattle.nfa_core.specs.BuilderStates.{DraftNode, empty_draft, range_draft, sparse_draft, look_draft, capture_start_draft}
use Rattle.nfa_core.specs.BuilderStates.{capture_end_draft, union_draft, union_reverse_draft, fail_draft, match_draft}
use Rattle.nfa_core.specs.Drafted.{drafted}
use Rattle.nfa_core.specs.Ways.{Text, reads, is_satisfied, in_ranges, on_byte, on_nothing, on_read, offset_after, node_ways, match_of}
use Rattle.nfa_core.specs.Renaming.{stands_for, ways_node, ranges_node, renamed}
use Rattle.nfa_core.proofs.BuildLemmas.{leads_ways}

abbrev at_place : ℕ → ℕ → ℕ × ℕ
at_place i q = (i, q)

abbrev under : (ℕ → ℕ) → ℕ × ℕ → ℕ × ℕ
under name p = (p.0, name p.1)

abbrev under_range : (ℕ → ℕ) → ℕ × ℕ × ℕ → ℕ × ℕ × ℕ
under_range name r = (r.0, r.1, name r.2)

if_mapped : (name : ℕ → ℕ) (c : Bool) (next : ℕ) → (if c then name next ∷ [] else []) ≡ map name (if c then next ∷ [] else [])
if_mapped name true next = refl
if_mapped name false next = refl

in_ranges_of : (c : Bool) (name : ℕ → ℕ) (next : ℕ) (xs ys : List ℕ) → xs ≡ map name ys →
    (if c then name next ∷ [] else xs) ≡ map name (if c then next ∷ [] else ys)
in_ranges_of true name next xs ys e = refl
in_ranges_of false name next xs ys e = e

in_ranges_mapped : (name : ℕ → ℕ) (ranges : List (ℕ × ℕ × ℕ)) (b : ℕ) →
    in_ranges (map (λ r. (r.0, r.1, name r.2)) ranges) b ≡ map name (in_ranges ranges b)
in_ranges_mapped name [] b = refl
in_ranges_mapped name ((low, high, next) ∷ others) b =
    in_ranges_of (nat_le low b && nat_le b high) name next (in_ranges (map (λ r. (r.0, r.1, name r.2)) others) b) (in_ranges others b)
    (in_ranges_mapped name others b)

ranges_on_byte : (ranges : List (ℕ × ℕ × ℕ)) (b : ℕ) → on_byte (ranges_node ranges) b ≡ in_ranges ranges b
ranges_on_byte [] b = refl
ranges_on_byte ((low, high, next) ∷ []) b = refl
ranges_on_byte ((low, high, next) ∷ other ∷ others) b = refl

ranges_on_nothing : (ranges : List (ℕ × ℕ × ℕ)) (passed : Look → Bool) → on_nothing (ranges_node ranges) passed ≡ []
ranges_on_nothing [] passed = refl
ranges_on_nothing ((low, high, next) ∷ []) passed = refl
ranges_on_nothing ((low, high, next) ∷ other ∷ others) passed = refl

ranges_match : (ranges : List (ℕ × ℕ × ℕ)) (i : ℕ) → match_of (ranges_node ranges) i ≡ None
ranges_match [] i = refl
ranges_match ((low, high, next) ∷ []) i = refl
ranges_match ((low, high, next) ∷ other ∷ others) i = refl

ways_on_byte : (names : List ℕ) (b : ℕ) → on_byte (ways_node names) b ≡ []
ways_on_byte [] b = refl
ways_on_byte (x ∷ []) b = refl
ways_on_byte (x ∷ y ∷ []) b = refl
ways_on_byte (x ∷ y ∷ z ∷ names) b = refl

ways_on_nothing : (names : List ℕ) (passed : Look → Bool) → on_nothing (ways_node names) passed ≡ names
ways_on_nothing [] passed = refl
ways_on_nothing (x ∷ []) passed = refl
ways_on_nothing (x ∷ y ∷ []) passed = refl
ways_on_nothing (x ∷ y ∷ z ∷ names) passed = refl

ways_match : (names : List ℕ) (i : ℕ) → match_of (ways_node names) i ≡ None
ways_match [] i = refl
ways_match (x ∷ []) i = refl
ways_match (x ∷ y ∷ []) i = refl
ways_match (x ∷ y ∷ z ∷ names) i = refl

ranges_lead : (ranges : List (ℕ × ℕ × ℕ)) → leads_to (ranges_node ranges) ≡ map (λ r. r.2) ranges
ranges_lead [] = refl
ranges_lead ((low, high, next) ∷ []) = refl
ranges_lead ((low, high, next) ∷ other ∷ others) = refl

ranges_led : (name : ℕ → ℕ) (ranges : List (ℕ × ℕ × ℕ)) → map (λ r. r.2) (map (under_range name) ranges) ≡ map name (map (λ r. r.2) ranges)
ranges_led name [] = refl
ranges_led name (range ∷ others) = ap (λ l. name range.2 ∷ l) (ranges_led name others)

module _ (name : ℕ → ℕ) (groups : Groups) where
  -- the names that a kept state leads to are the new ones
  pub leads_renamed : (draft : DraftNode) → stands_for draft ≡ None → leads_to (renamed name groups draft) ≡ map name
      (leads_to (drafted draft))
  leads_renamed (empty_draft next) kept = cc
  leads_renamed (range_draft low high next) kept = refl
  leads_renamed (sparse_draft ranges) kept = ranges_lead (map (under_range name) ranges) ∙ ranges_led name ranges
  leads_renamed (look_draft look next) kept = refl
  leads_renamed (capture_start_draft pattern group next) kept = refl
  leads_renamed (capture_end_draft pattern group next) kept = refl
  leads_renamed (union_draft names) kept = leads_ways (map name names)
  leads_renamed (union_reverse_draft names) kept = leads_ways (map name (reverse names))
  leads_renamed fail_draft kept = refl
  leads_renamed (match_draft pattern) kept = refl

  byte_renamed : (draft : DraftNode) → stands_for draft ≡ None → (b : ℕ) →
      on_byte (renamed name groups draft) b ≡ map name (on_byte (drafted draft) b)
  byte_renamed (empty_draft next) kept b = refl
  byte_renamed (range_draft low high next) kept b = if_mapped name (nat_le low b && nat_le b high) next
  byte_renamed (sparse_draft ranges) kept b = ranges_on_byte (map (λ r. (r.0, r.1, name r.2)) ranges) b ∙ in_ranges_mapped name ranges b
  byte_renamed (look_draft look next) kept b = refl
  byte_renamed (capture_start_draft pattern group next) kept b = refl
  byte_renamed (capture_end_draft pattern group next) kept b = refl
  byte_renamed (union_draft names) kept b = ways_on_byte (map name names) b
  byte_renamed (union_reverse_draft names) kept b = ways_on_byte (map name (reverse names)) b
  byte_renamed fail_draft kept b = refl
  byte_renamed (match_draft pattern) kept b = refl

  read_renamed : (draft : DraftNode) → stands_for draft ≡ None → (read : Option (ℕ × ℕ)) →
      on_read (renamed name groups draft) read ≡ map name (on_read (drafted draft) read)
  read_renamed draft kept None = refl
  read_renamed draft kept (Some (b, j)) = byte_renamed draft kept b

  nothing_renamed : (draft : DraftNode) → stands_for draft ≡ None → (passed : Look → Bool) →
      on_nothing (renamed name groups draft) passed ≡ map name (on_nothing (drafted draft) passed)
  nothing_renamed (empty_draft next) kept passed = cc
  nothing_renamed (range_draft low high next) kept passed = refl
  nothing_renamed (sparse_draft ranges) kept passed = ranges_on_nothing (map (λ r. (r.0, r.1, name r.2)) ranges) passed
  nothing_renamed (look_draft look next) kept passed = if_mapped name (passed look) next
  nothing_renamed (capture_start_draft pattern group next) kept passed = refl
  nothing_renamed (capture_end_draft pattern group next) kept passed = refl
  nothing_renamed (union_draft names) kept passed = ways_on_nothing (map name names) passed
  nothing_renamed (union_reverse_draft names) kept passed = ways_on_nothing (map name (reverse names)) passed
  nothing_renamed fail_draft kept passed = refl
  nothing_renamed (match_draft pattern) kept passed = refl

  pub match_renamed : (draft : DraftNode) (i : ℕ) → match_of (renamed name groups draft) i ≡ match_of (drafted draft) i
  match_renamed (empty_draft next) i = refl
  match_renamed (range_draft low high next) i = refl
  match_renamed (sparse_draft ranges) i = ranges_match (map (λ r. (r.0, r.1, name r.2)) ranges) i
  match_renamed (look_draft look next) i = refl
  match_renamed (capture_start_draft pattern group next) i = refl
  match_renamed (capture_end_draft pattern group next) i = refl
  match_renamed (union_draft names) i = ways_match (map name names) i
  match_renamed (union_reverse_draft names) i = ways_match (map name (reverse names)) i
  match_renamed fail_draft i = refl
  match_renamed (match_draft pattern) i = refl

  placed : (j : ℕ) (names : List ℕ) → map (at_place j) (map name names) ≡ map (under name) (map (at_place j) names)
  placed j [] = refl
  placed j (x ∷ names) = ap (λ l. at_place j (name x) ∷ l) (placed j names)

  pub ways_renamed : (draft : DraftNode) → stands_for draft ≡ None → (reverse : Bool) (t : Text) (i : ℕ) →
      node_ways reverse t (renamed name groups draft) i ≡ map (λ p. (p.0, name p.1)) (node_ways reverse t (drafted draft) i)
  ways_renamed draft kept is_reverse t i =
      let read : Option (ℕ × ℕ) = reads is_reverse t i in
      let j : ℕ = offset_after i read in
      let passed : Look → Bool = λ l. is_satisfied is_reverse t l i in
      let first : List ℕ = on_read (drafted draft) read in
      let second : List ℕ = on_nothing (drafted draft) passed in
      ap (λ l. map (at_place j) l ++ map (at_place i) (on_nothing (renamed name groups draft) passed)) (read_renamed draft kept read)
      ∙ ap (λ l. map (at_place j) (map name first) ++ map (at_place i) l) (nothing_renamed draft kept passed)
      ∙ ap (λ l. l ++ map (at_place i) (map name second)) (placed j first)
      ∙ ap (λ l. map (under name) (map (at_place j) first) ++ l) (placed i second)
      ∙ sym (map-append (under name) (map (at_place j) first) (map (at_place i) second))

-- ---- a state that stands for another leads there, and nowhere else

one_way_read : (next i : ℕ) (read : Option (ℕ × ℕ)) → map (at_place (offset_after i read)) (on_read (union_node (next ∷ [])) read)
    ++ (at_place i next ∷ []) ≡ at_place i next ∷ []
one_way_read next i None = refl
one_way_read next i (Some (b, j)) = refl

one_way : (is_reverse : Bool) (t : Text) (next i : ℕ) → node_ways is_reverse t (union_node (next ∷ [])) i ≡ at_place i next ∷ []
one_way is_reverse t next i = one_way_read next i (reads is_reverse t i)

drafted_stand : (draft : DraftNode) (r : ℕ) → stands_for draft ≡ Some r → drafted draft ≡ union_node (r ∷ [])
drafted_stand (empty_draft next) r e = let i : next ≡ r = cc in ap (λ n. union_node (n ∷ [])) i
drafted_stand (range_draft low high next) r e = cc
drafted_stand (sparse_draft ranges) r e = cc
drafted_stand (look_draft look next) r e = cc
drafted_stand (capture_start_draft pattern group next) r e = cc
drafted_stand (capture_end_draft pattern group next) r e = cc
drafted_stand (union_draft []) r e = cc
drafted_stand (union_draft (next ∷ [])) r e = let i : next ≡ r = cc in ap (λ n. union_node (n ∷ [])) i
drafted_stand (union_draft (next ∷ other ∷ others)) r e = cc
drafted_stand (union_reverse_draft []) r e = cc
drafted_stand (union_reverse_draft (next ∷ [])) r e = let i : next ≡ r = cc in ap (λ n. union_node (n ∷ [])) i
drafted_stand (union_reverse_draft (next ∷ other ∷ others)) r e = cc
drafted_stand fail_draft r e = cc
drafted_stand (match_draft pattern) r e = cc

pub ways_of_stand : (draft : DraftNode) (r : ℕ) → stands_for draft ≡ Some r → (is_reverse : Bool) (t : Text) (i : ℕ) →
    node_ways is_reverse t (drafted draft) i ≡ at_place i r ∷ []
ways_of_stand draft r e is_reverse t i = ap (λ node. node_ways is_reverse t node i) (drafted_stand draft r e) ∙ one_way is_reverse t r i

pub match_of_stand : (draft : DraftNode) (r : ℕ) → stands_for draft ≡ Some r → (i : ℕ) → match_of (drafted draft) i ≡ None
match_of_stand draft r e i = ap (λ node. match_of node i) (drafted_stand draft r e)
