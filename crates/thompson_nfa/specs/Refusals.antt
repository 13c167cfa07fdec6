-- Why a compile fails.
use Rattle.std.specs.Prelude.{◌≡◌, ℕ, ◌+◌, ◌*◌, ◌<◌, ◌≤◌, length, Some}
use Rattle.search_core.specs.Index.{greatest_index}
use Rattle.search_types.specs.declared.group_info_error.GroupInfoError.{GroupInfoError}
use Rattle.search_types.specs.GroupFaults.{TooManyGroups}
use Rattle.search_types.specs.GroupRefusals as group
use Rattle.hir_core.specs.Tree.{Tree}
use Rattle.nfa_core.specs.BuilderStates.{Assembly}
use Rattle.nfa_core.specs.declared.build_error.BuildError.{BuildError}
use Rattle.nfa_core.specs.declared.build_error.BuildError.TheVariants as error
use Rattle.thompson_nfa.specs.Compiled.{sum_of_bytes, way_at}
use Rattle.thompson_nfa.specs.NotedGroups.{HasGroup}
use Rattle.thompson_nfa.specs.declared.which_captures.WhichCaptures.{WhichCaptures}

-- Adding n more states with so many bytes fails: more states are wanted than can be numbered, their bytes exceed the limit, or an
-- allocation fails. The count of bytes stops at the largest number of 64 bits, which no limit is below.
abbrev pub FailsStep : Assembly → ℕ → ℕ → BuildError → Type 0
FailsStep b n bytes error.TooManyStates = greatest_index + 1 < length b.drafts + n
FailsStep b n bytes (error.ExceededSizeLimit limit) = (b.size_limit ≡ Some limit) × (limit < sum_of_bytes b + bytes) ×
    (limit < 18446744073709551615)
FailsStep b n bytes error.NoMemory = Unit {0}
FailsStep b n bytes _ = ⊥

-- The bytes that a builder had at least, with what it was asked for, when it returned this error: more than the limit, or those
-- of as many states as can be numbered.
abbrev pub least_bytes : BuildError → ℕ
least_bytes error.TooManyStates = 24 * (greatest_index + 1)
least_bytes (error.ExceededSizeLimit limit) = limit + 1
least_bytes _ = 0

-- what fails would have needed so many bytes at most, and they are too many
abbrev pub ExceedsLimit : Assembly → ℕ → BuildError → Type 0
ExceedsLimit b bytes e = least_bytes e ≤ sum_of_bytes b + bytes

-- Adding a fragment of at most n states fails.
abbrev pub FailsStates : Assembly → ℕ → BuildError → Type 0
FailsStates b n e = FailsStep b n (4096 * n) e

-- the index is too great, and the error reports that, or that memory ran out while reporting it
abbrev pub FailsIndex : ℕ → ℕ → GroupInfoError → Type 0
FailsIndex p index err = (greatest_index < index) × group.ReportsFaultOf err (Some (TooManyGroups p index))

-- Adding a tree of pattern p, of at most n states, fails. Its groups may have an index that is too great.
abbrev pub FailsTree : WhichCaptures → ℕ → Assembly → ℕ → Tree → BuildError → Type 0
FailsTree kept p b n x (error.Captures err) = (index : ℕ) × HasGroup kept index x × FailsIndex p index err
FailsTree kept p b n x e = FailsStates b n e

-- a step fails, and the builder is as it was
pub record Stays (old new : Assembly) (n bytes : ℕ) (e : BuildError) : Type 0 where
  pub same : new ≡ old
  pub cause : FailsStep old n bytes e
  pub passed : ExceedsLimit old bytes e

-- a step that leads the state q on fails, and the builder is as it was; the step takes the bytes of one more way of q
pub record StaysAt (old new : Assembly) (q : ℕ) (e : BuildError) : Type 0 where
  pub stays : Stays old new 0 4 e
  pub passed : ExceedsLimit old (way_at old q) e

-- adding a fragment of n states for the tree fails, and the builder has its settings
pub record FailsFragment (kept : WhichCaptures) (old new : Assembly) (n : ℕ) (x : Tree) (e : BuildError) : Type 0 where
  pub settings : new ≡ record old { drafts = new.drafts; groups = new.groups }
  pub cause : FailsTree kept (length old.starts) old n x e

-- adding a fragment of n states without groups fails, and the builder has its settings
pub record Quits (old new : Assembly) (n : ℕ) (e : BuildError) : Type 0 where
  pub settings : new ≡ record old { drafts = new.drafts; groups = new.groups }
  pub cause : FailsStates old n e

-- adding a state at an end of a group of pattern p fails
abbrev pub FailsGroup : ℕ → ℕ → Assembly → BuildError → Type 0
FailsGroup p index b (error.Captures err) = FailsIndex p index err
FailsGroup p index b e = FailsStep b 1 24 e

-- adding a state at an end of a group fails, and groups may have been noted before
pub record QuitsGroup (old new : Assembly) (index : ℕ) (e : BuildError) : Type 0 where
  pub settings : new ≡ record old { drafts = new.drafts; groups = new.groups }
  pub cause : FailsGroup (length old.starts) index old e
  pub passed : ExceedsLimit old 24 e
