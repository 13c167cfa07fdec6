use Rattle.std.proofs.Common.{◌∙◌, ap}
use Rattle.hir_regex.specs.Loops.{first_empty_loop}
use Rattle.hirscan.specs.Rejections.{first_not_utf8}
use Rattle.hirscan.proofs.CauseLemmas.{cause_of_loops, cause_of_utf8}
use Rattle.hirscan.proofs.causes.pattern_cause.Goals as goal

pub returns-in-Some : goal.returns-in-Some
returns-in-Some c =
    cause_of_loops c.args.head.now.settings.utf8 c.args.head.now.patterns.items c.in-Some.pattern _
    (c.in-Some.ensures ∙ ap first_empty_loop c.deref.ensures.value) c.in_ok-cause.ensures.ok

pub returns-in-Some-first_not_utf8 : goal.returns-in-Some-first_not_utf8
returns-in-Some-first_not_utf8 c =
    cause_of_utf8 c.args.head.now.settings.utf8 c.args.head.now.patterns.items c.in-Some-first_not_utf8.pattern _
    (c.in_default.ensures ∙ ap first_empty_loop c.deref.ensures.value) c.if-head.true
    (c.in-Some-first_not_utf8.ensures ∙ ap first_not_utf8 c.deref-then-head.ensures.value) c.in_ok-cause-2.ensures.ok
