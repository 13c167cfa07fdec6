use Rattle.std.proofs.Common.{◌∙◌, ap, subst}
use Rattle.regex_syntax.specs.declared.Config.{Config}
use Rattle.meta_regex.specs.Fallbacks.{IsFoundFor}
use Rattle.meta_regex.specs.Regexes.{config_by}
use Rattle.meta_regex.specs.declared.options.Options.{Options}
use Rattle.meta_regex.proofs.FallbackLemmas.{finds_slowly}
use Rattle.meta_regex.proofs.compiled.Regex.find_by_fallbacks.Goals as goal

pub returns-in-Ok-reported-clause-finds : goal.returns-in-Ok-reported-clause-finds
returns-in-Ok-reported-clause-finds c =
    let h = c.args.haystack.now in
    let found = c.in-Ok-reported.found in
    finds_slowly (config_by c.args.self.now) c.args.self.now.texts h c.args.from found
    (λ res read. subst (λ (k : Config). IsFoundFor k.utf8 res h c.args.from found)
    (c.options-utf8.ensures ∙ ap (λ (o : Options). o.syntax) c.options.ensures)
    (c.in-Ok-reported.ensures res (c.in-Ok.ensures.made res read)))
    c.args.self.now.loops

pub returns-in-Err-clause-finds : goal.returns-in-Err-clause-finds
returns-in-Err-clause-finds c = record {
  found = tt;
  preferred = λ on. tt;
  refused = c.in-Err.ensures.refused (config_by c.args.self.now) c.args.haystack.now;
}
