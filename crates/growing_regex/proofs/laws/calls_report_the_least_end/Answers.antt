use Rattle.std.proofs.Common.{Bool, subst}
use Rattle.hir_regex.specs.Regexes.{IsRegexOf}
use Rattle.growing_regex.proofs.AnswerLemmas.{found_by_call, refused_by_call}
use Rattle.growing_regex.proofs.laws.calls_report_the_least_end.Goals as goal

pub returns-clause-found : goal.returns-clause-found
returns-clause-found c = λ xs s p made first plain h bytes words set at v o answers.
    found_by_call xs s p made
    (subst (λ (b : Bool). IsRegexOf xs b s.line_terminator p) plain (c.built_regexes_are_of_the_trees.ensures.regex xs s p made first))
    (c.built_regexes_are_of_the_trees.ensures.quits xs s p made).0 h bytes words set at v o answers

pub returns-clause-refused : goal.returns-clause-refused
returns-clause-refused c = λ xs s p made first plain h bytes words set at v e answers.
    refused_by_call xs s p made
    (subst (λ (b : Bool). IsRegexOf xs b s.line_terminator p) plain (c.built_regexes_are_of_the_trees.ensures.regex xs s p made first))
    (c.built_regexes_are_of_the_trees.ensures.quits xs s p made).0 h bytes words set at v e answers
