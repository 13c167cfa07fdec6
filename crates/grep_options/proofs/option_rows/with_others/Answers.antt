use Rattle.std.proofs.lemmas.Result.{IfOk-weaker}
use Rattle.grep_options.proofs.Rows.{row_related}
use Rattle.grep_options.proofs.option_rows.with_others.Goals as goal

pub returns : goal.returns
returns c =
    IfOk-weaker c.conflicts_with_all.result _ _
    (λ a h. row_related c.args.arg c.in-Ok.arg c.in-Ok-overrides_with_all.arg a c.args.row.now.aliases.now c.args.row.now.over.now c.args.row.now.without.now
    c.in-Ok.ensures c.in-Ok-overrides_with_all.ensures h)
    c.conflicts_with_all.ensures
