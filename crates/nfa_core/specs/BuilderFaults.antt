-- Why a call of a builder fails, and how the error reports it.
use Rattle.std.specs.Prelude.{◌≡◌, ◌<◌, ◌⊎◌, ℕ, nat_lt, List, [], ◌∷◌, ◌++◌, length, Option, Some, None, if◌then◌else◌, Result, MatchResult}
use Rattle.std.specs.Option.{option_or}
use Rattle.search_core.specs.Index.{greatest_index}
use Rattle.nfa_core.specs.BuilderStates.{DraftNode, Assembly, bytes_of_drafts, with_draft, with_group, patched_at}
use Rattle.search_types.specs.Groups.{Name}
use Rattle.search_types.specs.GroupFaults.{GroupFault, TooManyGroups, group_fault}
use Rattle.search_types.specs.GroupRefusals as group
use Rattle.search_types.specs.declared.group_info_error.GroupInfoError.TheVariants as group_error
use Rattle.nfa_core.specs.declared.build_error.BuildError.{BuildError}
use Rattle.nfa_core.specs.declared.build_error.BuildError.TheVariants as error

pub data BuildFault : Type 0 where
  too_many_patterns : BuildFault
  too_many_states : BuildFault
  exceeded_size_limit : ℕ → BuildFault
  unsupported_captures : BuildFault
  captures_refused : GroupFault → BuildFault  -- why the groups can't be taken

-- the error reports this fault; if there is no fault, it reports that memory ran out
abbrev pub ReportsFaultOf : BuildError → Option BuildFault → Type 0
ReportsFaultOf error.TooManyPatterns found = found ≡ Some too_many_patterns
ReportsFaultOf error.TooManyStates found = found ≡ Some too_many_states
ReportsFaultOf (error.ExceededSizeLimit limit) found = found ≡ Some (exceeded_size_limit limit)
ReportsFaultOf error.UnsupportedCaptures found = found ≡ Some unsupported_captures
ReportsFaultOf (error.Captures err) found = (fault : GroupFault) × (found ≡ Some (captures_refused fault)) ×
    group.ReportsFaultOf err (Some fault)
ReportsFaultOf error.NoMemory found = found ≡ None

-- the fault if so many bytes exceed the limit
abbrev pub limit_fault : Option ℕ → ℕ → Option BuildFault
limit_fault None bytes = None
limit_fault (Some limit) bytes = if nat_lt limit bytes then Some (exceeded_size_limit limit) else None

-- the fault if no name is left for one more state
abbrev pub state_count_fault : List DraftNode → Option BuildFault
state_count_fault drafts = if nat_lt greatest_index (length drafts) then Some too_many_states else None

-- why one more state can't be added
abbrev pub add_fault : Assembly → DraftNode → Option BuildFault
add_fault b draft = option_or (state_count_fault b.drafts) (limit_fault b.size_limit (bytes_of_drafts (b.drafts ++ draft ∷ [])))

-- The state is appended, and the result is its name. If the call fails, the builder stays as it was, and the error reports why.
abbrev pub Adds : Assembly → Assembly → Result ℕ BuildError → DraftNode → Type 0
Adds old new result draft = MatchResult result
    (λ id. (id ≡ length old.drafts) × (new ≡ with_draft old draft) × (add_fault old draft ≡ None))
    (λ e. (new ≡ old) × ReportsFaultOf e (add_fault old draft))

-- the fault if no number is left for one more pattern
abbrev pub pattern_count_fault : Assembly → Option BuildFault
pattern_count_fault b = if nat_lt greatest_index (length b.starts) then Some too_many_patterns else None

-- why a state can't get one more transition
abbrev pub patch_fault : Assembly → ℕ → ℕ → Option BuildFault
patch_fault b from to = limit_fault b.size_limit (bytes_of_drafts (patched_at b.drafts from to))

-- the fault if there is no index for the group
abbrev pub index_fault : ℕ → ℕ → Option BuildFault
index_fault pattern index = if nat_lt greatest_index index then Some (captures_refused (TooManyGroups pattern index)) else None

-- if the index is too great, the error reports that, whatever else fails
abbrev pub ReportsIndex : BuildError → ℕ → ℕ → Type 0
ReportsIndex e pattern index = greatest_index < index → e ≡ error.Captures (group_error.TooManyGroups pattern index)

-- What a call does that appends a state at the end of a group. The index of the group may also be too great.
abbrev pub AddsGroupEnd : Assembly → Assembly → Result ℕ BuildError → ℕ → ℕ → DraftNode → Type 0
AddsGroupEnd old new result pattern index draft = MatchResult result
    (λ id. (id ≡ length old.drafts) × (new ≡ with_draft old draft) × (option_or (index_fault pattern index) (add_fault old draft) ≡ None))
    (λ e. (new ≡ old) × ReportsFaultOf e (option_or (index_fault pattern index) (add_fault old draft)) × ReportsIndex e pattern index)

-- What a call does that appends a state at the start of a group. The group's name is recorded first. If the call fails, the name may stay
-- recorded, or, if an allocation fails, only in part. That failed allocation is then reported before any fault except that of the index. If
-- the index is too great, nothing is recorded.
abbrev pub AddsGroup : Assembly → Assembly → Result ℕ BuildError → ℕ → ℕ → Option Name → DraftNode → Type 0
AddsGroup old new result pattern index name draft = MatchResult result
    (λ id. (id ≡ length old.drafts) × (new ≡ record (with_draft old draft) { groups = with_group old.groups pattern index name })
    × (option_or (index_fault pattern index) (add_fault old draft) ≡ None))
    (λ e. (new ≡ record old { groups = new.groups }) × ((e ≡ error.NoMemory) ⊎
    ReportsFaultOf e (option_or (index_fault pattern index) (add_fault old draft)))
    × ReportsIndex e pattern index × (greatest_index < index → new ≡ old))

-- why building fails: the groups break a rule
abbrev pub groups_fault : Option GroupFault → Option BuildFault
groups_fault None = None
groups_fault (Some fault) = Some (captures_refused fault)

abbrev pub build_fault : Assembly → Option BuildFault
build_fault b = groups_fault (group_fault b.groups)
