use Rattle.std.proofs.lemmas.Result.{IfOk-weaker}
use Rattle.grep_options.proofs.Rows.{row_lettered}
use Rattle.grep_options.proofs.option_rows.with_other_letter.Goals as goal

pub returns : goal.returns
returns c = IfOk-weaker c.short_alias.result _ _ (λ a h. row_lettered c.args.arg a c.args.letter c.if-letter-eq-NO_LETTER.false h) c.short_alias.ensures
