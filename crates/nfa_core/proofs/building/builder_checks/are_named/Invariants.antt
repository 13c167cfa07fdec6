use Rattle.std.proofs.Common.{◌≡◌, drop, map, length}
use Rattle.std.specs.Prelude.{nat_lt}
use Rattle.std.specs.List.{list_all}
use Rattle.nfa_core.specs.CanBuild.{names_of}
use Rattle.nfa_core.specs.Drafts.{draft_of}
use Rattle.nfa_core.proofs.building.builder_checks.are_named.Given as goal

abbrev pub invariant-loop-draft : goal.invariant-loop-draft
invariant-loop-draft l = list_all (λ draft. list_all (λ q. nat_lt q (length l.drafts)) (names_of draft))
    (map draft_of (drop l.draft-index l.drafts)) ≡ list_all (λ draft. list_all (λ q. nat_lt q (length l.drafts)) (names_of draft))
    (map draft_of l.drafts)
