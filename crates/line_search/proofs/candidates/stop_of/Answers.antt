use Rattle.std.proofs.Common.{List, Option, ℕ, length, sym, subst}
use Rattle.std.specs.Prelude.{IfErr, IfOk, Result}
use Rattle.search_types.specs.declared.match_error.MatchErrorKind.{MatchErrorKind}
use Rattle.ucd_perl.specs.Perl.{is_word_char}
use Rattle.growing_regex.specs.Earliest.{IsEarliestEnd, IsEarliestError, looks_by}
use Rattle.line_search.specs.Candidates.{IsStopIfAny}
use Rattle.line_search.specs.Searchers.{line_settings}
use Rattle.line_search.proofs.CandidateLemmas.{end_told, ends_told}
use Rattle.line_search.proofs.candidates.stop_of.Goals as goal

pub returns-in-Ok-clause-reported : goal.returns-in-Ok-clause-reported
returns-in-Ok-clause-reported c xs block found refused =
    subst (λ (o : Option ℕ). IsStopIfAny xs block c.args.at o) (sym c.stop_at.ensures)
    (end_told xs block c.args.at c.in-Ok.end
    (subst (λ (r : Result (Option ℕ) MatchErrorKind).
    IfOk r (λ o. IsEarliestEnd xs (looks_by is_word_char line_settings block) block c.args.at (length block) o)) c.in-Ok.is found))

pub returns-in-Ok-clause-ends : goal.returns-in-Ok-clause-ends
returns-in-Ok-clause-ends c xs block found =
    ends_told xs block c.args.at c.stop_at.result c.in-Ok.end c.stop_at.ensures
    (subst (λ (r : Result (Option ℕ) MatchErrorKind).
    IfOk r (λ o. IsEarliestEnd xs (looks_by is_word_char line_settings block) block c.args.at (length block) o)) c.in-Ok.is found)

pub returns-clause-reported : goal.returns-clause-reported
returns-clause-reported c xs block found refused =
    c.in-Ok-refused_at.ensures.reported xs block
    (subst (λ (r : Result (Option ℕ) MatchErrorKind). IfErr r (λ e. IsEarliestError is_word_char xs line_settings block c.args.at e))
    c.in-Err.is refused)
