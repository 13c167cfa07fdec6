use Rattle.std.proofs.Common.{arith, ap, refl, string_bytes, ◌∙◌}
use Rattle.hir_core.specs.Tree.{literal}
use Rattle.line_search.specs.Meant.{line_config}
use Rattle.line_search.proofs.PlainLemmas.{escape_meant}
use Rattle.line_search.proofs.plain_patterns.plain_tree.Goals as goal

pub returns : goal.returns
returns c =
    escape_meant (line_config c.args.how.now) c.args.pattern.now (string_bytes c.in-Some.text) c.literal.result (omega arith)
    c.if-how.false refl c.in-Some.ensures (c.parts_agree.ensures.literal (string_bytes c.in-Some.text))
    (c.literal.ensures ∙ ap (λ v. literal v.items) c.into_bytes.ensures.value)
