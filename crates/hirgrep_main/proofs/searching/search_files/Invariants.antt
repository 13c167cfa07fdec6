use Rattle.std.proofs.Common.{Bool, drop, map}
use Rattle.grep_cli.specs.Selecting.{selection}
use Rattle.hirgrep_main.specs.declared.results.outcome.Outcome.{Outcome}
use Rattle.hirgrep_main.specs.Outcomes.{Continues}
use Rattle.hirgrep_main.specs.Walking.{AreHandled}
use Rattle.hirgrep_main.proofs.searching.search_files.Given as goal

abbrev pub invariant-loop-path : goal.invariant-loop-path
invariant-loop-path l = record {
  continues : Continues l.initial.outcome l.outcome;
  rest : (done : Bool) (last : Outcome)
      → AreHandled l.task.asked.now (selection l.task.selection.now) l.task.bare done last (map (λ p. p.now) (drop l.path-index l.paths)) l.outcome
      → AreHandled l.task.asked.now (selection l.task.selection.now) l.task.bare done last (map (λ p. p.now) l.paths) l.initial.outcome;
}
