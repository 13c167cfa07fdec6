use Rattle.std.proofs.Common.{List, ap, subst, true, ◌≡◌, ◌↔◌, All}
use Rattle.hir_core.specs.Facts.{LoopsRead}
use Rattle.hir_core.specs.Tree.{Tree}
use Rattle.lazy_dfa.specs.ConfigValue.{kind_of}
use Rattle.hir_regex.specs.declared.settings.Settings.{Settings}
use Rattle.hir_regex.specs.Built.{IsBuilt, FailsBuild}
use Rattle.meta_regex.proofs.building.build_pair.Goals as goal

pub returns-in-Err-build-clause-refused : goal.returns-in-Err-build-clause-refused
returns-in-Err-build-clause-refused c = (
  c.in-Ok.trees.items,
  c.in-Ok.ensures.means,
  subst (λ (s : Settings). FailsBuild c.in-Ok.trees.items s c.in-Err-build.e) c.settings-settings.ensures
      (subst (λ (xs : List Tree). FailsBuild xs c.settings-settings.result c.in-Err-build.e)
      c.deref-3.ensures.value c.in-Err-build.ensures.refused),
)

pub returns-clause-made : goal.returns-clause-made
returns-clause-made c =
    let reported : (c.all_loops_read-loops.result ≡ true) ↔ All LoopsRead c.in-Ok.trees.items =
    subst (λ (xs : List Tree). (c.all_loops_read-loops.result ≡ true) ↔ All LoopsRead xs)
    c.deref-2.ensures.value c.all_loops_read-loops.ensures in (
      (
        record {
          trees = c.in-Ok.trees.items;
          settings = c.settings-settings.result;
          mean = c.in-Ok.ensures.means;
          built = subst (λ (xs : List Tree). IsBuilt xs c.settings-settings.result c.in-Ok-build.pair)
              c.deref-3.ensures.value c.in-Ok-build.ensures.built;
          kind_is = ap (λ (s : Settings). kind_of s.dfa) c.settings-settings.ensures;
          lines = ap (λ (s : Settings). s.line_terminator) c.settings-settings.ensures;
          mode = ap (λ (s : Settings). s.utf8) c.settings-settings.ensures;
          utf8_trees = c.in-Ok.ensures.utf8;
        },
        reported,
      ),
      λ off. reported.1 (subst (λ (xs : List Tree). All LoopsRead xs) c.deref.ensures.value (c.in_default.ensures.none off)),
    )

pub returns-clause-trees : goal.returns-clause-trees
returns-clause-trees c = record {
  mean = c.in-Ok.ensures.means;
  utf8 = c.in-Ok.ensures.utf8;
  loops_read = (subst (λ (xs : List Tree). (c.all_loops_read-loops.result ≡ true) ↔ All LoopsRead xs)
      c.deref-2.ensures.value c.all_loops_read-loops.ensures).0;
}
