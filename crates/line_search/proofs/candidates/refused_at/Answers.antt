use Rattle.std.proofs.Common.{sym, ◌∙◌}
use Rattle.line_search.proofs.CandidateLemmas.{quit_told}
use Rattle.line_search.proofs.candidates.refused_at.Goals as goal

pub returns-in-Quit-clause-reported : goal.returns-in-Quit-clause-reported
returns-in-Quit-clause-reported c xs block refused =
    quit_told xs block c.args.at c.args.error.now c.in-Quit.byte c.in-Quit.offset (sym c.kind.ensures ∙ c.in-Quit.is) refused
