-- The state of a builder that its code holds, as contracts see it.
use Rattle.std.specs.Prelude.{map}
use Rattle.nfa_core.specs.BuilderStates.{DraftNode, empty_draft, range_draft, sparse_draft, look_draft, capture_start_draft}
use Rattle.nfa_core.specs.BuilderStates.{capture_end_draft, union_draft, union_reverse_draft, fail_draft, match_draft}
use Rattle.nfa_core.specs.Transitions.{range_of}
use Rattle.nfa_core.specs.declared.building.draft.Draft.{Draft}
use Rattle.nfa_core.specs.declared.building.draft.Draft.TheVariants.{Empty, ByteRange, Sparse, Look, CaptureStart, CaptureEnd, Union, UnionReverse}
use Rattle.nfa_core.specs.declared.building.draft.Draft.TheVariants.{Fail, Match}

abbrev pub draft_of : Draft → DraftNode
draft_of (Empty next) = empty_draft next
draft_of (ByteRange t) = range_draft t.start t.end t.next
draft_of (Sparse transitions) = sparse_draft (map range_of transitions.items)
draft_of (Look look next) = look_draft look next
draft_of (CaptureStart pattern group next) = capture_start_draft pattern group next
draft_of (CaptureEnd pattern group next) = capture_end_draft pattern group next
draft_of (Union alternates) = union_draft alternates.items
draft_of (UnionReverse alternates) = union_reverse_draft alternates.items
draft_of Fail = fail_draft
draft_of (Match pattern) = match_draft pattern
