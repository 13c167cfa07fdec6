use Rattle.std.proofs.Common.{◌≡◌, drop, map}
use Rattle.std.specs.List.{list_all}
use Rattle.search_types.specs.GroupFaults.{groups_in}
use Rattle.nfa_core.specs.CanBuild.{is_known}
use Rattle.nfa_core.specs.Drafts.{draft_of}
use Rattle.nfa_core.proofs.building.builder_checks.are_known.Given as goal

abbrev pub invariant-loop-draft : goal.invariant-loop-draft
invariant-loop-draft l = list_all (is_known (groups_in l.groups)) (map draft_of (drop l.draft-index l.drafts)) ≡ list_all
    (is_known (groups_in l.groups)) (map draft_of l.drafts)
