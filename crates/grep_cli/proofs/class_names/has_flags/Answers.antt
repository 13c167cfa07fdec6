use Rattle.std.proofs.Common.{◌∙◌, sym}
use Rattle.grep_cli.proofs.ClassLemmas.{flags_on}
use Rattle.grep_cli.proofs.class_names.has_flags.Goals as goal

pub loop-from-preserved : goal.loop-from-preserved
loop-from-preserved c =
    sym (flags_on c.args.text.now c.loop-from.from c.loop-from-test.true (sym c.if-starts_with.ensures.value)) ∙ c.loop-from.invariant
