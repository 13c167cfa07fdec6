use Rattle.hirgrep_main.specs.Outcomes.{Continues}
use Rattle.hirgrep_main.proofs.searching.search_folder.Given as goal

abbrev pub invariant-loop-index : goal.invariant-loop-index
invariant-loop-index l = Continues l.initial.outcome l.outcome
