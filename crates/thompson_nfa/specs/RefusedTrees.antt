-- Why trees are rejected under options.
use Rattle.std.specs.Prelude.{◌≡◌, ◌⊎◌, ℕ, ◌+◌, ◌*◌, ◌<◌, ◌≤◌, ◌&&◌, true, false, List, [], length, slice_get, Option, Some, None}
use Rattle.search_core.specs.Index.{greatest_index}
use Rattle.search_types.specs.declared.group_info_error.GroupInfoError.{GroupInfoError}
use Rattle.search_types.specs.GroupFaults.{GroupFault, group_fault}
use Rattle.search_types.specs.GroupRefusals as group
use Rattle.hir_core.specs.Tree.{Tree}
use Rattle.nfa_core.specs.BuilderStates.{Assembly}
use Rattle.nfa_core.specs.declared.build_error.BuildError.{BuildError}
use Rattle.nfa_core.specs.declared.build_error.BuildError.TheVariants as error
use Rattle.thompson_nfa.specs.Configs.{Options, reverse_of, limit_of, captures_of, is_any, is_shrunk}
use Rattle.thompson_nfa.specs.ByteRoom.{at_most}
use Rattle.thompson_nfa.specs.Compilations.{bytes_needed}
use Rattle.thompson_nfa.specs.NotedGroups.{HasGroup, noted_from}
use Rattle.thompson_nfa.specs.Refusals.{FailsStates, FailsIndex}
use Rattle.thompson_nfa.specs.Room.{list_room}

-- adding n states fails, and some of them may have been added
pub record Breaks (old new : Assembly) (n : ℕ) (e : BuildError) : Type 0 where
  pub settings : new ≡ record old { drafts = new.drafts }
  pub cause : FailsStates old n e

-- the limit, if there is one, has room for as many states as can be numbered
abbrev pub FitsStates : Option ℕ → Type 0
FitsStates None = Unit {0}
FitsStates (Some limit) = 24 * (greatest_index + 1) ≤ limit

-- the groups of the trees break a rule, or a group that is kept has an index that is too great
abbrev pub FailsGroups : Options → List Tree → GroupInfoError → Type 0
FailsGroups o xs err =
    ((fault : GroupFault) × (group_fault (noted_from (captures_of o) 0 xs []) ≡ Some fault) × group.ReportsFaultOf err (Some fault))
    ⊎ ((p index : ℕ) × (x : Tree) × (slice_get xs p ≡ Some x) × HasGroup (captures_of o) index x × FailsIndex p index err)

-- what they would need, at most, exceeds a limit or the numbers that there are; or groups are rejected, or an allocation fails
abbrev pub RejectsTrees : Options → List Tree → BuildError → Type 0
RejectsTrees o xs error.TooManyPatterns = greatest_index + 1 < length xs
RejectsTrees o xs error.TooManyStates = (greatest_index + 1 < list_room (is_shrunk o) xs) × FitsStates (limit_of o) ×
    (24 * (greatest_index + 1) ≤ bytes_needed (at_most (is_shrunk o)) o xs)
RejectsTrees o xs (error.ExceededSizeLimit limit) = (limit_of o ≡ Some limit) × (limit < 4096 * list_room (is_shrunk o) xs) ×
    (limit < bytes_needed (at_most (is_shrunk o)) o xs)
RejectsTrees o xs error.UnsupportedCaptures = (reverse_of o && is_any (captures_of o)) ≡ true
RejectsTrees o xs (error.Captures err) = (reverse_of o ≡ false) × FailsGroups o xs err
RejectsTrees o xs error.NoMemory = Unit {0}
