use Rattle.std.proofs.Common.{All, map, refl, subst, List, ℕ, Bor}
use Rattle.hir_core.specs.Facts.{LoopsRead}
use Rattle.hir_regex.specs.Regexes.{IsSearchOf}
use Rattle.tests_client.specs.TextReports.{IsListed}
use Rattle.tests_client.proofs.TextsToldLemmas.{all_listed}
use Rattle.tests_client.proofs.texts.client.all_matches.Goals as goal

pub returns-in-Ok-list_by_trees : goal.returns-in-Ok-list_by_trees
returns-in-Ok-list_by_trees c =
    let texts : List (List ℕ) = map (λ (t : Bor (List ℕ)). t.now) c.args.texts.now in
    all_listed c.args.config.now texts c.in-Ok.trees.items c.settings_for-settings.result c.args.utf8 c.args.haystack.now c.new-input.result
    c.in-Ok-list_by_trees.all.items c.settings_for-settings.ensures.utf8 c.new-input.ensures
    (subst (All LoopsRead) c.deref.ensures.value (c.if-not-all_loops_read.ensures.0 refl))
    (subst (λ xs. IsSearchOf xs c.args.utf8 c.new-input.result) c.deref-2.ensures.value (c.if-not-is_search_of.ensures.0 refl))
    (subst (λ xs. IsListed xs c.settings_for-settings.result c.new-input.result c.in-Ok-list_by_trees.all.items)
    c.deref-3.ensures.value c.in-Ok-list_by_trees.ensures)
    (λ p built. c.regexes_answer_what_is_written.ensures c.args.config.now texts c.in-Ok.trees.items c.in-Ok.ensures.means
    c.settings_for-settings.result p built
    c.settings_for-settings.ensures.first c.settings_for-settings.ensures.feeds)
