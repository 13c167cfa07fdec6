use Rattle.std.proofs.Common.{◌≡◌, ◌+◌, ◌-◌, map}
use Rattle.nfa_core.specs.Drafts.{draft_of}
use Rattle.nfa_core.proofs.PastLemmas.{IsSettling}
use Rattle.nfa_core.proofs.building.pasts.Pasts.settle_path.Given as goal

abbrev pub invariant-loop-passed : goal.invariant-loop-passed
invariant-loop-passed g l = record {
  way : IsSettling (map draft_of l.drafts) l.initial.self.table.items l.self.table.items l.end l.at l.passed (l.len - l.passed);
  moves : l.steps ≡ l.initial.steps + l.passed;
}
