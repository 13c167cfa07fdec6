-- States that are to have two ways, of which one is preferred.
use Rattle.std.specs.Prelude.{Bool, true, false, []}
use Rattle.nfa_core.specs.BuilderStates.{DraftNode, union_draft, union_reverse_draft}

-- a choice with no way as yet
abbrev pub no_choice : Bool → DraftNode
no_choice true = union_draft []
no_choice false = union_reverse_draft []
