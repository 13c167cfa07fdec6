use Rattle.std.proofs.Common.{◌≡◌, ◌+◌, ◌*◌, ◌<◌, ◌≤◌, ℕ, true, map}
use Rattle.nfa_core.specs.Drafts.{draft_of}
use Rattle.nfa_core.specs.Pasts.{IsPastTable, is_settled, settled_count}
use Rattle.nfa_core.proofs.building.pasts.settle_all.Given as goal

abbrev pub invariant-loop-index : goal.invariant-loop-index
invariant-loop-index g l = record {
  reported : IsPastTable (map draft_of l.drafts) l.pasts.table.items;
  there : (q : ℕ) → q < l.index → is_settled l.pasts.table.items q ≡ true;
  moves : l.steps ≤ l.initial.steps + 2 * settled_count l.pasts.table.items;
}
