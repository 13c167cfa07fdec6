use Rattle.hir_regex.proofs.BuiltLemmas.{built_regex, forward_quits, built_supported, forward_room, reverse_room}
use Rattle.hir_regex.proofs.building.build.Goals as goal

pub returns-in-Ok-clause-regex : goal.returns-in-Ok-clause-regex
returns-in-Ok-clause-regex c = built_regex c.args.exprs.now c.args.settings.now _ c.in-Ok.ensures.built

pub returns-in-Ok-clause-quits : goal.returns-in-Ok-clause-quits
returns-in-Ok-clause-quits c = forward_quits c.args.exprs.now c.args.settings.now _ c.in-Ok.ensures.built

pub returns-in-Ok-clause-supported : goal.returns-in-Ok-clause-supported
returns-in-Ok-clause-supported c = built_supported c.args.exprs.now c.args.settings.now _ c.in-Ok.ensures.built

pub returns-in-Ok-clause-roomy : goal.returns-in-Ok-clause-roomy
returns-in-Ok-clause-roomy c = (
  forward_room c.args.exprs.now c.args.settings.now _ c.in-Ok.ensures.built,
  reverse_room c.args.exprs.now c.args.settings.now _ c.in-Ok.ensures.built,
)
