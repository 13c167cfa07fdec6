use Rattle.std.proofs.Common.{sym, ◌∙◌}
use Rattle.hir_regex.proofs.AskedLemmas.{not_utf8}
use Rattle.hir_regex.proofs.searching.is_search_of.Goals as goal

pub returns-then-not-are_utf8 : goal.returns-then-not-are_utf8
returns-then-not-are_utf8 c =
    not_utf8 c.args.trees.now c.args.utf8 c.args.input.now c.if-not-utf8.false (sym c.are_utf8.ensures ∙ c.if-not-are_utf8.true)
