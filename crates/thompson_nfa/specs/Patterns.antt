-- What the compile of patterns, one after the other, adds to a builder, and why it fails.
use Rattle.std.specs.Prelude.{◌≡◌, ◌≢◌, ℕ, ◌+◌, ◌*◌, ◌<◌, ◌≤◌, nat_lt, Bool, true, false, ◌||◌, List, [], ◌∷◌, ◌++◌, length, slice_get, All}
use Rattle.std.specs.Prelude.{Option, None, Some, if◌then◌else◌}
use Rattle.search_core.specs.Index.{greatest_index}
use Rattle.look_core.specs.declared.look.Look.{Look}
use Rattle.hir_core.specs.Tree.{Tree}
use Rattle.nfa_core.specs.BuilderStates.{Assembly, DraftNode, empty_draft, union_draft, match_draft, draft_at}
use Rattle.nfa_core.specs.Renaming.{stands_for}
use Rattle.nfa_core.specs.CanBuild.{names_of, is_known}
use Rattle.nfa_core.specs.Drafted.{Table}
use Rattle.nfa_core.specs.declared.build_error.BuildError.{BuildError}
use Rattle.nfa_core.specs.declared.build_error.BuildError.TheVariants as error
use Rattle.thompson_nfa.specs.Added.{AddsDraft}
use Rattle.thompson_nfa.specs.Compiled.{past_in, sum_of_bytes, looks_in, any_uses}
use Rattle.thompson_nfa.specs.Assembled.{AcceptAll, LeadsToAll, IsIndependent}
use Rattle.thompson_nfa.specs.Configs.{Options, utf8_of, reverse_of, limit_of, terminator_of}
use Rattle.thompson_nfa.specs.NotedGroups.{HasGroup, noted_from}
use Rattle.thompson_nfa.specs.Prefix.{HasPrefix}
use Rattle.thompson_nfa.specs.Refusals.{FailsStates, FailsIndex}
use Rattle.thompson_nfa.specs.Room.{room}
use Rattle.thompson_nfa.specs.declared.which_captures.WhichCaptures.{WhichCaptures}

-- the table has these states from `low` on, but for the hole
abbrev pub Holds : ℕ → ℕ → List DraftNode → Table → Type 0
Holds hole low drafts table = (q : ℕ) → low ≤ q → q < length drafts → q ≢ hole → table q ≡ draft_at drafts q

-- from q, states that stand for others lead to one that stands for itself, at `low` or above
abbrev pub ComesToKept : ℕ → Table → ℕ → Type 0
ComesToKept low table q = (n : ℕ) × (stands_for (table (past_in table n q)) ≡ None) × (low ≤ past_in table n q)

-- what patterns need at most: 3 states each, and those of their trees
abbrev pub room_for : Bool → List Tree → ℕ
room_for shrink [] = 0
room_for shrink (x ∷ xs) = room shrink x + 3 + room_for shrink xs

-- The trees xs were compiled, as patterns from the next number on, to n states at most; of 4096 bytes for each, `spare` are
-- left. Their starts are `starts`. One state, `hole`, may be any: what the patterns do doesn't depend on it.
pub record HasPatterns (which : WhichCaptures) (hole : ℕ) (old new : Assembly) (starts : List ℕ) (xs : List Tree)
    (n spare : ℕ) : Type 0 where
  pub settings : new ≡ record old { drafts = new.drafts; groups = new.groups; starts = new.starts }
  pub starts_are : new.starts ≡ old.starts ++ starts
  pub as_many : length starts ≡ length xs
  pub groups : new.groups ≡ noted_from which (length old.starts) xs old.groups
  pub known_more : (draft : DraftNode) → is_known old.groups draft ≡ true → is_known new.groups draft ≡ true
  pub longer : length old.drafts ≤ length new.drafts
  pub same : (q : ℕ) → q < length old.drafts → q ≢ hole → draft_at new.drafts q ≡ draft_at old.drafts q
  pub starts_new : All (λ s. length old.drafts ≤ s) starts
  pub starts_there : All (λ s. s < length new.drafts) starts
  pub accept : (table : Table) → Holds hole (length old.drafts) new.drafts table → AcceptAll old.reverse table (length old.starts) starts xs
  pub stands : (table : Table) → Holds hole (length old.drafts) new.drafts table → (q : ℕ) → length old.drafts ≤ q → q < length new.drafts →
      q ≢ hole → ComesToKept (length old.drafts) table q
  pub named : (q : ℕ) → length old.drafts ≤ q → q < length new.drafts → q ≢ hole →
      All (λ r. r < length new.drafts) (names_of (draft_at new.drafts q))
  pub known : (q : ℕ) → length old.drafts ≤ q → q < length new.drafts → q ≢ hole → is_known new.groups (draft_at new.drafts q) ≡ true
  pub numbered : (q p : ℕ) → length old.drafts ≤ q → q < length new.drafts → q ≢ hole → draft_at new.drafts q ≡ match_draft p →
      (length old.starts ≤ p) × (p < length new.starts)
  pub one_match : (q r p : ℕ) → length old.drafts ≤ q → q < length new.drafts → q ≢ hole → length old.drafts ≤ r → r < length new.drafts →
      r ≢ hole →
      draft_at new.drafts q ≡ match_draft p → draft_at new.drafts r ≡ match_draft p → q ≡ r
  pub looks : (l : Look) → looks_in new.drafts l ≡ (looks_in old.drafts l || any_uses old.reverse xs l)
  pub states : length new.drafts ≤ length old.drafts + n
  pub bytes : sum_of_bytes new + spare + 4096 * length old.drafts ≤ sum_of_bytes old + 4096 * length new.drafts
  pub last : length old.drafts ≤ greatest_index + 1 → length new.drafts ≤ greatest_index + 1

-- All patterns were compiled, without a hole.
abbrev pub HasAll : WhichCaptures → Assembly → Assembly → List ℕ → List Tree → ℕ → ℕ → Type 0
HasAll which old new starts xs n spare = HasPatterns which (length new.drafts) old new starts xs n spare

-- All patterns were compiled, and the state c leads to them.
abbrev pub LeadsToPatterns : WhichCaptures → Assembly → Assembly → ℕ → List Tree → ℕ → Type 0
LeadsToPatterns which old new c xs n =
    (starts : List ℕ) × HasAll which old new starts xs n 0 × LeadsToAll (draft_at new.drafts) c starts × (c < length new.drafts) ×
    (length old.drafts ≤ c)
    × IsIndependent old.reverse (length old.drafts) (length old.starts) new.drafts c starts xs

-- The union led to some states, and leads to the starts of further patterns too.
abbrev pub LeadsToFurther : WhichCaptures → ℕ → Assembly → Assembly → List Tree → ℕ → Type 0
LeadsToFurther which union old new xs n =
    (starts : List ℕ) × HasPatterns which union old new starts xs n 0
    × ((ways : List ℕ) → draft_at old.drafts union ≡ union_draft ways → draft_at new.drafts union ≡ union_draft (ways ++ starts))

-- What precedes the patterns: one state that is led on to them if all are anchored, or else a prefix.
abbrev pub HasStart : Bool → Assembly → Assembly → ℕ → Type 0
HasStart true old new u = AddsDraft old new u (empty_draft 0) old.groups
HasStart false old new u = HasPrefix old new u

-- a builder without states and patterns, with what these options say
abbrev pub begun_with : Options → Assembly
begun_with o = record {
  drafts = [];
  starts = [];
  groups = [];
  is_open = false;
  utf8 = utf8_of o;
  reverse = reverse_of o;
  terminator = terminator_of o;
  size_limit = limit_of o;
}

-- Patterns that need at most n states are rejected: some tree's group has an index that is too great, or adding the states fails.
abbrev pub FailsPatterns : WhichCaptures → Assembly → ℕ → List Tree → BuildError → Type 0
FailsPatterns which b n xs (error.Captures err) =
    (k index : ℕ) × (x : Tree) × (slice_get xs k ≡ Some x) × HasGroup which index x × FailsIndex (length b.starts + k) index err
FailsPatterns which b n xs e = FailsStates b n e

-- if the limit has no room for as many states as can be numbered, it is exceeded before the numbers run out
abbrev pub error_under : Option ℕ → BuildError → BuildError
error_under (Some limit) error.TooManyStates = if nat_lt limit (24 * (greatest_index + 1)) then error.ExceededSizeLimit limit
    else error.TooManyStates
error_under limit e = e
