use Rattle.std.proofs.Common.{◌≡◌, map, take}
use Rattle.nfa_core.specs.Drafts.{draft_of}
use Rattle.nfa_core.specs.Pasts.{name_in}
use Rattle.nfa_core.specs.Renaming.{kept, renamed}
use Rattle.nfa_core.specs.States.{node_of}
use Rattle.nfa_core.proofs.building.kept_states.kept_states.Given as goal

abbrev pub invariant-loop-draft : goal.invariant-loop-draft
invariant-loop-draft l = map node_of l.states.items ≡ map (renamed (name_in l.names) l.groups)
    (kept (take l.draft-index (map draft_of l.drafts)))
