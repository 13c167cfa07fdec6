use Rattle.std.proofs.Common.{◌≡◌, ◌∙◌, Bool, List, ap, length, map, subst, sym}
use Rattle.regex_syntax.specs.declared.Config.{Config}
use Rattle.meta_regex.specs.Fallbacks.{finds_any}
use Rattle.meta_regex.specs.Regexes.{config_by}
use Rattle.meta_regex.specs.Wordless.{both_true}
use Rattle.meta_regex.specs.declared.options.Options.{Options}
use Rattle.meta_regex.proofs.FallbackLemmas.{which_of_may}
use Rattle.meta_regex.proofs.compiled.Regex.matching_by_fallbacks.Goals as goal

pub returns-in-Ok-reported-clause-says : goal.returns-in-Ok-reported-clause-says
returns-in-Ok-reported-clause-says c =
    let h = c.args.haystack.now in
    let tests = c.in-Ok-reported.tests.items in
    record {
      reported = which_of_may h (config_by c.args.self.now) c.args.self.now.texts c.in-Ok.may.items tests c.in-Ok.ensures.may
          c.in-Ok.ensures.long
          (λ res read many. subst (λ (k : Config). tests ≡ both_true c.in-Ok.may.items (map (finds_any k.utf8 h) res))
          (c.options-utf8.ensures ∙ ap (λ (o : Options). o.syntax) c.options.ensures)
          (subst (λ (l : List Bool). tests ≡ both_true l (map (finds_any c.options-utf8.result.utf8 h) res)) c.deref.ensures.value
          (c.in-Ok-reported.ensures res (c.in-Ok-take_fallbacks.ensures.made res read)
          (subst (λ (l : List Bool). length l ≡ length res) (sym c.deref.ensures.value) many))));
      refused = tt;
    }

pub returns-in-Err-take_fallbacks-clause-says : goal.returns-in-Err-take_fallbacks-clause-says
returns-in-Err-take_fallbacks-clause-says c = record {
  reported = tt;
  refused = c.in-Err-take_fallbacks.ensures.refused (config_by c.args.self.now) c.args.haystack.now;
}
