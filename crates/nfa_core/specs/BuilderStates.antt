-- What contracts see of a builder of automata. Its states are named by their indices, as those of the automaton are.
use Rattle.std.specs.Prelude.{ℕ, suc, ◌+◌, ◌-◌, ◌*◌, ◌≤◌, nat_lt, min, Bool, true, false, List, [], ◌∷◌, ◌++◌, length, get_or, set}
use Rattle.std.specs.Prelude.{replicate, Option, None, if◌then◌else◌}
use Rattle.std.specs.List.{sum_by}
use Rattle.search_types.specs.Groups.{Name, Groups}
use Rattle.look_core.specs.declared.look.Look.{Look}
use Rattle.look_core.specs.Terminators.{Terminator}

-- a state that is being built, with where it leads as far as that is known
pub data DraftNode : Type 0 where
  empty_draft : ℕ → DraftNode  -- leads on as the state that it names does
  range_draft : ℕ → ℕ → ℕ → DraftNode  -- a byte from the first to the second number leads to the third
  sparse_draft : List (ℕ × ℕ × ℕ) → DraftNode  -- the same by several ranges
  look_draft : Look → ℕ → DraftNode  -- leads on where the look holds
  capture_start_draft : ℕ → ℕ → ℕ → DraftNode  -- pattern and group, whose start it marks, and where it leads
  capture_end_draft : ℕ → ℕ → ℕ → DraftNode  -- pattern and group, whose end it marks, and where it leads
  union_draft : List ℕ → DraftNode  -- leads to each of these, the preferred first
  union_reverse_draft : List ℕ → DraftNode  -- leads to each of these, the preferred last
  fail_draft : DraftNode  -- leads nowhere
  match_draft : ℕ → DraftNode  -- the pattern with this number matches

pub record Assembly : Type 0 where
  pub drafts : List DraftNode
  pub starts : List ℕ  -- for each finished pattern the state in which it starts
  pub groups : Groups  -- for each pattern its groups, as far as they came
  pub is_open : Bool  -- whether a pattern was begun that isn't finished
  pub utf8 : Bool
  pub reverse : Bool
  pub terminator : Terminator
  pub size_limit : Option ℕ  -- in bytes; None: any size is allowed

-- a builder without states, patterns and a limit
abbrev pub blank : Terminator → Assembly
blank terminator = record {
  drafts = [];
  starts = [];
  groups = [];
  is_open = false;
  utf8 = true;
  reverse = false;
  terminator = terminator;
  size_limit = None;
}

-- the builder with one more state
abbrev pub with_draft : Assembly → DraftNode → Assembly
with_draft b draft = record b { drafts = b.drafts ++ draft ∷ [] }

-- the list, extended to n by fillers if it is shorter
abbrev pub filled : {A : Type 0} → A → List A → ℕ → List A
filled filler xs n = xs ++ replicate (n - length xs) filler

-- If the pattern has no group with this index, it gets one with this name, and the missing groups before that get no name. A group that
-- exists stays.
abbrev pub with_name : List (Option Name) → ℕ → Option Name → List (Option Name)
with_name names index name = if nat_lt index (length names) then names else (filled None names index ++ name ∷ [])

-- the groups of all patterns up to this one at least; a pattern that was missing has none
abbrev pub up_to_pattern : Groups → ℕ → Groups
up_to_pattern groups pattern = filled [] groups (suc pattern)

abbrev pub with_group : Groups → ℕ → ℕ → Option Name → Groups
with_group groups pattern index name = set (up_to_pattern groups pattern) pattern
    (with_name (get_or (up_to_pattern groups pattern) pattern []) index name)

-- how many patterns there are, with the one that isn't finished
abbrev pub pattern_count : Assembly → ℕ
pattern_count b = if b.is_open then length b.starts + 1 else length b.starts

-- the state with one more way: where it leads, or one more state that a union leads to
abbrev pub patched : ℕ → DraftNode → DraftNode
patched to (empty_draft next) = empty_draft to
patched to (range_draft low high next) = range_draft low high to
patched to (sparse_draft ranges) = sparse_draft ranges
patched to (look_draft look next) = look_draft look to
patched to (capture_start_draft pattern group next) = capture_start_draft pattern group to
patched to (capture_end_draft pattern group next) = capture_end_draft pattern group to
patched to (union_draft names) = union_draft (names ++ to ∷ [])
patched to (union_reverse_draft names) = union_reverse_draft (names ++ to ∷ [])
patched to fail_draft = fail_draft
patched to (match_draft pattern) = match_draft pattern

-- the bytes of a state: 24 for itself, 8 for each range of a sparse one and 4 for each name of a union
abbrev pub list_bytes : DraftNode → ℕ
list_bytes (sparse_draft ranges) = 8 * length ranges
list_bytes (union_draft names) = 4 * length names
list_bytes (union_reverse_draft names) = 4 * length names
list_bytes _ = 0

abbrev pub draft_bytes : DraftNode → ℕ
draft_bytes draft = 24 + list_bytes draft

-- the bytes that one more way takes
abbrev pub way_bytes : DraftNode → ℕ
way_bytes (union_draft names) = 4
way_bytes (union_reverse_draft names) = 4
way_bytes _ = 0

-- the bytes of all states; the count stops at the largest number of 64 bits
abbrev pub bytes_of_drafts : List DraftNode → ℕ
bytes_of_drafts drafts = min (sum_by draft_bytes drafts) 18446744073709551615

abbrev pub is_sparse : DraftNode → Bool
is_sparse (sparse_draft ranges) = true
is_sparse _ = false

-- whether each range has a byte, they ascend, and no two have a byte in common; the first one starts at `low` or above
abbrev pub AscendsFrom : ℕ → List (ℕ × ℕ × ℕ) → Type 0
AscendsFrom low [] = Unit {0}
AscendsFrom low ((start, end, next) ∷ others) = (low ≤ start) × (start ≤ end) × AscendsFrom (end + 1) others

-- the state with this name; if there is none, a state that leads nowhere
abbrev pub draft_at : List DraftNode → ℕ → DraftNode
draft_at drafts q = get_or drafts q fail_draft

-- the states, after one of them got one more way
abbrev pub patched_at : List DraftNode → ℕ → ℕ → List DraftNode
patched_at drafts from to = set drafts from (patched to (draft_at drafts from))
