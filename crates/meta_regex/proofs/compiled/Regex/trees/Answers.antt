use Rattle.std.proofs.Common.{List, Option, map, subst, sym}
use Rattle.std.specs.Prelude.{IfSome, Vec, string_bytes}
use Rattle.std.specs.declared.alloc.Global.{Global}
use Rattle.hir_core.specs.Tree.{Tree}
use Rattle.pattern_search.specs.Texts.{AllMean}
use Rattle.meta_regex.specs.Options.{config_of}
use Rattle.meta_regex.specs.Regexes.{RegexValue, config_by}
use Rattle.meta_regex.proofs.compiled.Regex.trees.Goals as goal

pub returns-in-Some : goal.returns-in-Some
returns-in-Some c =
    let v = c.args.self.now in
    let r = c.self.inside in
    subst (λ (xs : List Tree). AllMean (config_by v) v.texts xs) (sym c.as_slice.ensures.value)
    (subst (λ (u : RegexValue). AllMean (config_by u) u.texts c.in-Some.trees.items) c.self.view_is
    (subst (λ (o : Option (Vec Tree Global)). IfSome o (λ xs. AllMean (config_of r.options) (map string_bytes r.texts.items) xs.items))
    c.in-Some.is c.self.invariant.3))
