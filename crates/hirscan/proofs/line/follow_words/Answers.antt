use Rattle.std.proofs.Common.{refl, sym, ◌∙◌}
use Rattle.hirscan.specs.QueryReports.{words_left, query_value}
use Rattle.hirscan.proofs.StageLemmas.{known_fault_count, fault_of_first, done_by_first}
use Rattle.hirscan.proofs.line.follow_words.Goals as goal

pub returns-then-not-is_word_count-clause-err : goal.returns-then-not-is_word_count-clause-err
returns-then-not-is_word_count-clause-err c =
    known_fault_count c.args.word c.args.first.now (words_left c.args.args) c.requires.first (query_value c.args.state.now)
    c.requires.allowed
    (sym c.is_word_count.ensures ∙ c.if-not-is_word_count.true)

pub returns-clause-ok : goal.returns-clause-ok
returns-clause-ok c =
    done_by_first c.args.word c.args.first.now (words_left c.args.args) c.requires.first c.follow_counted.result c.args.first.now
    refl (query_value c.args.state.now) c.requires.allowed
    (sym c.is_word_count.ensures ∙ c.if-not-is_word_count.false)
    (sym c.is_class.ensures ∙ c.if-is_class.false) _ c.follow_counted.ensures.ok

pub returns-clause-err : goal.returns-clause-err
returns-clause-err c =
    fault_of_first c.args.word c.args.first.now (words_left c.args.args) c.requires.first c.follow_counted.result c.args.first.now
    refl (query_value c.args.state.now) c.requires.allowed
    (sym c.is_word_count.ensures ∙ c.if-not-is_word_count.false)
    (sym c.is_class.ensures ∙ c.if-is_class.false) c.follow_counted.ensures.err
