-- States that are shared by sequences of ranges that begin alike, where the automaton reads in reverse. A state reads a byte of
-- a range and leads to the state of the ranges before it; the first range's state leads to the end that all have in common.
use Rattle.std.specs.Prelude.{◌≡◌, ℕ, ◌<◌, ◌≤◌, false, List, [], ◌∷◌, ◌++◌, length, Some}
use Rattle.nfa_core.specs.BuilderStates.{Assembly, draft_at, is_sparse, range_draft}
use Rattle.thompson_nfa.specs.Added.{AddsDraft, Led}
use Rattle.thompson_nfa.specs.SlotTables.{SlotTable, held_at, with_held}
use Rattle.thompson_nfa.specs.declared.class_fragments.utf8_suffix_map.Utf8SuffixKey.{Utf8SuffixKey}

-- the key under which a state is kept that reads a byte of the range and leads to `next`
abbrev pub key_of : ℕ → ℕ × ℕ → Utf8SuffixKey
key_of next range = record { from = next; start = range.0; end = range.1 }

-- a state for the range was added that leads to `next`, and a slot keeps it
pub record AddsRange (old new : Assembly) (map changed : SlotTable Utf8SuffixKey) (next : ℕ) (range : ℕ × ℕ) (id : ℕ) : Type 0 where
  pub place : ℕ
  pub inside : place < map.capacity
  pub added : AddsDraft old new id (range_draft range.0 range.1 next) old.groups
  pub kept : changed ≡ with_held map place (key_of next range) id

-- a state for the range that leads to `next` is kept in a slot, or was added
pub data SharesRange (old new : Assembly) (map changed : SlotTable Utf8SuffixKey) (next : ℕ) (range : ℕ × ℕ) (id : ℕ) : Type 0 where
  finds_state : (place : ℕ) → held_at map place ≡ Some (key_of next range, id) → new ≡ old → changed ≡ map →
      SharesRange old new map changed next range id
  adds_state : AddsRange old new map changed next range id → SharesRange old new map changed next range id

-- states are kept or were added for one range after the other, and the first one's state leads to the end: `id` is the state of
-- the last one, or the end if there is none
pub data SharesRanges (end : ℕ) (old : Assembly) (map : SlotTable Utf8SuffixKey) : Assembly → SlotTable Utf8SuffixKey → ℕ → List (ℕ × ℕ) →
    Type 0 where
  shares_none : SharesRanges end old map old map end []
  shares_more : (mid new : Assembly) (kept changed : SlotTable Utf8SuffixKey) (next id : ℕ) (ranges : List (ℕ × ℕ)) (range : ℕ × ℕ) →
      SharesRanges end old map mid kept next ranges → SharesRange mid new kept changed next range id →
      SharesRanges end old map new changed id (ranges ++ range ∷ [])

-- the state is one of the builder's, of a kind to which further ways can be added
pub record TakesWays (b : Assembly) (choice : ℕ) : Type 0 where
  pub inside : choice < length b.drafts
  pub kind : is_sparse (draft_at b.drafts choice) ≡ false

-- The choice has one more way, to the states of a sequence of at most four ranges. The state of the last range is new: no
-- sequence is another one, or the beginning of another.
pub record AddsSequence (old new : Assembly) (map changed : SlotTable Utf8SuffixKey) (choice end : ℕ) (ranges : List (ℕ × ℕ)) : Type 0 where
  pub others : List (ℕ × ℕ)
  pub last : ℕ × ℕ
  pub split : others ++ last ∷ [] ≡ ranges
  pub few : length ranges ≤ 4
  pub shared : Assembly
  pub whole : Assembly
  pub kept : SlotTable Utf8SuffixKey
  pub next : ℕ
  pub first : ℕ
  pub shares : SharesRanges end old map shared kept next others
  pub adds : AddsRange shared whole kept changed next last first
  pub leads : Led whole new choice first

-- the choice has one more way for each of the sequences, one after the other
pub data AddsSequences (choice end : ℕ) (old : Assembly) (map : SlotTable Utf8SuffixKey) : Assembly → SlotTable Utf8SuffixKey →
    List (List (ℕ × ℕ)) → Type 0 where
  sequences_none : AddsSequences choice end old map old map []
  sequences_more : (mid new : Assembly) (kept changed : SlotTable Utf8SuffixKey) (sequences : List (List (ℕ × ℕ))) (ranges : List (ℕ × ℕ)) →
      AddsSequences choice end old map mid kept sequences → AddsSequence mid new kept changed choice end ranges →
      AddsSequences choice end old map new changed (sequences ++ ranges ∷ [])
