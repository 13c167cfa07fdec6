use Rattle.std.proofs.Common.{refl, ap, ◌∙◌, map}
use Rattle.grep_core.specs.Reporting.{counts_matches, flags_after, reported_item, reported_lines, shown}
use Rattle.grep_core.proofs.TellingLemmas.{none_yet, starts_told}
use Rattle.grep_core.proofs.reporter.Reporter.new.Goals as goal

pub returns-clause-starts : goal.returns-clause-starts
returns-clause-starts c w first f name with_name lines =
    ap (λ k. reported_lines w.print w name with_name c.new.result k (flags_after w f 0 lines) (map (reported_item w f) lines))
    (none_yet (counts_matches w.print))
    ∙ starts_told w.print w f name with_name c.args.known c.new.result (c.new.ensures.starts w first (shown with_name name)) refl lines
