use Rattle.std.proofs.Common.{List, subst, sym, ◌∙◌}
use Rattle.regex_hir.specs.Re.{Re}
use Rattle.regex_syntax.specs.declared.Config.{Config}
use Rattle.pattern_fallback.specs.Fallbacks.{AreParsedOf}
use Rattle.pattern_search.proofs.ForCallers.{read_texts}
use Rattle.line_search.specs.Fallbacks.{AreBoundedOf}
use Rattle.line_search.proofs.FallbackLemmas.{bounded_alike}
use Rattle.line_search.proofs.fallback.trees_of.Goals as goal

pub returns : goal.returns
returns c =
    let texts = read_texts c.args.texts.now in
    let plain = c.in_ok-parsed.parsed.hirs.items in
    subst (λ (xs : List Re). AreBoundedOf c.args.how.now texts xs) (sym c.in_ok-hirs.ensures)
    (bounded_alike c.args.how.now texts plain
    (subst (λ (k : Config). AreParsedOf k texts plain) (c.options.ensures ∙ c.config_of.ensures) c.in_ok-parsed.ensures))
