use Rattle.std.proofs.Common.{◌≡◌, ◌-◌, map, length}
use Rattle.nfa_core.specs.Drafts.{draft_of}
use Rattle.nfa_core.specs.Renaming.{past, past_within}
use Rattle.nfa_core.proofs.building.builder_checks.is_satisfied.Given as goal

abbrev pub invariant-loop-index : goal.invariant-loop-index
invariant-loop-index l = past_within (map draft_of l.drafts) (length l.drafts - l._index) l.at ≡ past (map draft_of l.drafts) l.initial.at
