-- The preconditions of building an automaton from a builder.
use Rattle.std.specs.Prelude.{◌≡◌, ℕ, ◌<◌, Bool, true, false, List, [], ◌∷◌, map, length, is_some, All}
use Rattle.search_types.specs.Groups.{Groups, slot}
use Rattle.nfa_core.specs.BuilderStates.{DraftNode, empty_draft, range_draft, sparse_draft, look_draft, capture_start_draft}
use Rattle.nfa_core.specs.BuilderStates.{capture_end_draft, union_draft, union_reverse_draft, fail_draft, match_draft, Assembly}
use Rattle.nfa_core.specs.Renaming.{HasNoLoop}

-- the states that a state names
abbrev pub names_of : DraftNode → List ℕ
names_of (empty_draft next) = next ∷ []
names_of (range_draft low high next) = next ∷ []
names_of (sparse_draft ranges) = map (λ r. r.2) ranges
names_of (look_draft look next) = next ∷ []
names_of (capture_start_draft pattern group next) = next ∷ []
names_of (capture_end_draft pattern group next) = next ∷ []
names_of (union_draft names) = names
names_of (union_reverse_draft names) = names
names_of fail_draft = []
names_of (match_draft pattern) = []

-- whether the group of the state exists, if the state has one
abbrev pub is_known : Groups → DraftNode → Bool
is_known groups (capture_start_draft pattern group next) = is_some (slot groups pattern group)
is_known groups (capture_end_draft pattern group next) = is_some (slot groups pattern group)
is_known groups _ = true

-- no pattern is open, all names are of states, all groups exist, and no states that stand for others make a loop
pub record CanBuild (b : Assembly) (anchored unanchored : ℕ) : Type 0 where
  pub closed : b.is_open ≡ false
  pub anchored_there : anchored < length b.drafts
  pub unanchored_there : unanchored < length b.drafts
  pub starts_there : All (λ q. q < length b.drafts) b.starts
  pub named : All (λ draft. All (λ q. q < length b.drafts) (names_of draft)) b.drafts
  pub known : All (λ draft. is_known b.groups draft ≡ true) b.drafts
  pub no_loop : HasNoLoop b.drafts
