use Rattle.std.proofs.Common.{◌≡◌, ◌<◌, map, None, ℕ}
use Rattle.nfa_core.specs.BuilderStates.{draft_at}
use Rattle.nfa_core.specs.Drafts.{draft_of}
use Rattle.nfa_core.specs.Renaming.{stands_for, past}
use Rattle.nfa_core.proofs.building.builder_checks.has_no_loop.Given as goal

abbrev pub invariant-loop-index : goal.invariant-loop-index
invariant-loop-index l = (q : ℕ) → q < l.index → stands_for (draft_at (map draft_of l.drafts) (past (map draft_of l.drafts) q)) ≡ None
