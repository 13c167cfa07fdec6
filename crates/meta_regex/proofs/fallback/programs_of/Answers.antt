use Rattle.std.proofs.Common.{List, map, subst, sym}
use Rattle.regex_hir.specs.Meaning.{meaning}
use Rattle.regex_hir.specs.Re.{Re}
use Rattle.regex_hir.specs.declared.hir.Hir.{Hir}
use Rattle.regex_syntax.specs.declared.Config.{Config}
use Rattle.pattern_fallback.specs.Fallbacks.{AreAlike, AreParsedOf}
use Rattle.pattern_search.proofs.ForCallers.{read_texts}
use Rattle.meta_regex.proofs.FallbackLemmas.{parsed_alike}
use Rattle.meta_regex.proofs.fallback.programs_of.Goals as goal

pub returns : goal.returns
returns c res read =
    let config = c.args.config.now in
    let hirs = c.in_ok-parsed.parsed.hirs.items in
    let alike : AreAlike (map meaning hirs) res =
    parsed_alike config (read_texts c.args.texts.now) hirs res
    (subst (λ (k : Config). AreParsedOf k (read_texts c.args.texts.now) hirs) c.options-options.ensures c.in_ok-parsed.ensures) read in
    record {
      all = c.in_ok-all.ensures res alike;
      each = c.in_ok-each.ensures res (subst (λ (xs : List Re). AreAlike xs res) (sym c.in_ok-copies_of.ensures)
          (subst (λ (xs : List Hir). AreAlike (map meaning xs) res) (sym c.deref.ensures.value) alike));
    }
