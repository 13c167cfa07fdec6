use Rattle.std.proofs.Common.{◌∙◌, ap, arith, refl}
use Rattle.grep_core.specs.Report.{after_hidden}
use Rattle.grep_core.proofs.NumberLemmas.{passed_if_counted}
use Rattle.grep_core.proofs.PassLemmas.{passes_none}
use Rattle.grep_core.proofs.passing.skip_over.Goals as goal

pub returns-then-start-eq0-clause-passes : goal.returns-then-start-eq0-clause-passes
returns-then-start-eq0-clause-passes c f out = passes_none c.args.task f c.args.progress.now c.args.lines.now out

pub returns-clause-passes : goal.returns-clause-passes
returns-clause-passes c f out =
    passed_if_counted c.args.task f c.args.progress.now c.count_over.new.progress.telling _ c.count_over.new.progress.number
    c.count_over.new.progress.place c.held_of.result c.last_lines-start.result c.args.lines.now _ out
    c.in_ok-count_over.ensures.telling c.requires.may c.requires.whole c.last_lines-start.ensures.within
    (omega (arith, c.if-start-eq0.false)) c.last_lines-start.ensures.starts c.held_of.ensures
    (c.last_lines-start.ensures.enough (omega (arith, c.if-start-eq0.false))) refl c.in_ok-count_over.ensures.number
    c.in_ok-count_over.ensures.place c.forget_waiting.ensures.left c.forget_waiting.ensures.none
    (c.after_hidden-progress.ensures ∙ ap after_hidden c.forget_waiting.ensures.known)
