use Rattle.std.proofs.Common.{◌≡◌, ◌∙◌, List, None, ap, refl, subst, sym}
use Rattle.hir_core.specs.Tree.{Tree}
use Rattle.hir_regex.specs.Built.{FailsBuild, IsBuilt, quit_bytes_for}
use Rattle.hir_regex.specs.declared.settings.Settings.{Settings}
use Rattle.stream_regex.specs.StreamRegexes.{first_word_look, settings_of}
use Rattle.stream_regex.proofs.BuiltLemmas.{gives_up_nowhere}
use Rattle.stream_regex.proofs.regex.StreamRegex.new.Goals as goal

pub returns-in-Ok-build-clause-made : goal.returns-in-Ok-build-clause-made
returns-in-Ok-build-clause-made c =
    let built : IsBuilt c.in-Ok.trees.items (settings_of c.args.options.now) c.in-Ok-build.pair =
    subst (λ (s : Settings). IsBuilt c.in-Ok.trees.items s c.in-Ok-build.pair) c.settings-settings.ensures
    (subst (λ (xs : List Tree). IsBuilt xs c.settings-settings.result c.in-Ok-build.pair) c.deref-2.ensures.value
    c.in-Ok-build.ensures.built) in
    record {
      trees = c.in-Ok.trees.items;
      pair = c.in-Ok-build.pair;
      mean = c.in-Ok.ensures.means;
      utf8_trees = c.in-Ok.ensures.utf8;
      built = built;
      forward = refl;
      reads = built.is_forward.reverse;
      quiet = gives_up_nowhere c.args.options.now c.deref-2.result.now c.in-Ok-build.pair.forward.quits
          (c.in-Ok-build.ensures.quits ∙ ap (λ (s : Settings). quit_bytes_for c.deref-2.result.now s.dfa) c.settings-settings.ensures);
    }

pub returns-clause-refused : goal.returns-clause-refused
returns-clause-refused c = (
  c.in-Ok.trees.items,
  c.in-Ok.ensures.means,
  subst (λ (xs : List Tree). first_word_look xs ≡ None) c.deref.ensures.value (sym c.in_default.ensures),
  subst (λ (s : Settings). FailsBuild c.in-Ok.trees.items s c.in-Err-build.e) c.settings-settings.ensures
      (subst (λ (xs : List Tree). FailsBuild xs c.settings-settings.result c.in-Err-build.e) c.deref-2.ensures.value
      c.in-Err-build.ensures.refused),
)
