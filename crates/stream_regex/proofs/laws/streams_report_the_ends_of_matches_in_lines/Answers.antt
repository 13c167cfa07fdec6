use Rattle.std.proofs.Common.{◌↔◌, ◌∙◌, ap, subst, sym}
use Rattle.lazy_dfa.specs.Overlapping.{Rest}
use Rattle.nfa_core.specs.Places.{same_pair}
use Rattle.nfa_core.specs.Walks.{Has}
use Rattle.streams.specs.Lines.{lines_in}
use Rattle.stream_regex.specs.Meaning.{IsEndOfLine}
use Rattle.stream_regex.proofs.LineMeaningLemmas.{lines_exactly, quiet_each}
use Rattle.stream_regex.proofs.laws.streams_report_the_ends_of_matches_in_lines.Goals as goal

pub returns-clause-exactly : goal.returns-clause-exactly
returns-clause-exactly c o texts d it h bytes valid res read end pattern =
    subst (λ (r : Rest). Has same_pair (end, pattern) r.ends ↔ IsEndOfLine o.syntax.utf8 res h end pattern)
    (sym (c.lines_are_searched_by_themselves.ensures d 10 h))
    (lines_exactly d (λ l. c.streams_report_the_ends_of_matches.ensures.quiet o texts d it l) o.syntax.utf8 res h bytes valid
    (λ l few text at number. c.streams_report_the_ends_of_matches.ensures.exactly o texts d it l few text res read at number) end pattern)

pub returns-clause-quiet : goal.returns-clause-quiet
returns-clause-quiet c o texts d it h =
    ap (λ (r : Rest). r.rejection) (c.lines_are_searched_by_themselves.ensures d 10 h)
    ∙ quiet_each d (λ l. c.streams_report_the_ends_of_matches.ensures.quiet o texts d it l) (lines_in 10 h)
