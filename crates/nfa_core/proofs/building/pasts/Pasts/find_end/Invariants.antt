use Rattle.std.proofs.Common.{◌≡◌, ◌+◌, map}
use Rattle.nfa_core.specs.Drafts.{draft_of}
use Rattle.nfa_core.proofs.PastLemmas.{IsUnderway, steps_from}
use Rattle.nfa_core.proofs.building.pasts.Pasts.find_end.Given as goal

abbrev pub invariant-loop-next : goal.invariant-loop-next
invariant-loop-next g l = record {
  way : IsUnderway (map draft_of l.drafts) l.self.table.items l.initial.at l.at l.len;
  moves : l.steps ≡ l.initial.steps + l.len;
}

abbrev pub decreases-loop-next : goal.decreases-loop-next
decreases-loop-next g l = steps_from (map draft_of l.drafts) l.at
