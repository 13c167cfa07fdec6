use Rattle.std.proofs.Common.{◌+◌, ◌*◌, ◌≤◌, map, option_map, string_bytes, ap, ◌∙◌, subst}
use Rattle.regex_syntax.specs.declared.Config.{Config}
use Rattle.regex_syntax.specs.Verdict.{Reads}
use Rattle.regex_syntax.specs.WellFormed.{IsWellFormed, depth}
use Rattle.pattern_text.specs.Translated.{translated}
use Rattle.pattern_text.proofs.ParseLemmas.{means_text, utf8_tree, low_tree}
use Rattle.pattern_text.proofs.parsing.parse.Goals as goal

pub returns-in-Ok-tree_of-clause-means : goal.returns-in-Ok-tree_of-clause-means
returns-in-Ok-tree_of-clause-means c =
    let hir = c.in-Ok.parsed.hir in
    let names = map (option_map string_bytes) c.in-Ok.parsed.names.items in
    let is = c.in-Ok-tree_of.ensures ∙ ap (λ ns. translated (map (option_map string_bytes) ns) hir) c.deref.ensures.value in
    let reads = subst (λ (o : Config). Reads o c.args.pattern.now hir names) c.options.ensures c.in-Ok.ensures.ok in
    means_text c.args.config.now c.args.pattern.now hir names c.in-Ok-tree_of.tree reads is

pub returns-in-Ok-tree_of-clause-utf8 : goal.returns-in-Ok-tree_of-clause-utf8
returns-in-Ok-tree_of-clause-utf8 c = λ on.
    let hir = c.in-Ok.parsed.hir in
    let names = map (option_map string_bytes) c.in-Ok.parsed.names.items in
    let is = c.in-Ok-tree_of.ensures ∙ ap (λ ns. translated (map (option_map string_bytes) ns) hir) c.deref.ensures.value in
    let formed = subst (λ (o : Config). IsWellFormed o.utf8 hir) c.options.ensures c.in-Ok.ensures.formed in
    utf8_tree c.args.config.now.utf8 hir names c.in-Ok-tree_of.tree on formed is

pub returns-in-Ok-tree_of-clause-height : goal.returns-in-Ok-tree_of-clause-height
returns-in-Ok-tree_of-clause-height c =
    let hir = c.in-Ok.parsed.hir in
    let names = map (option_map string_bytes) c.in-Ok.parsed.names.items in
    let is = c.in-Ok-tree_of.ensures ∙ ap (λ ns. translated (map (option_map string_bytes) ns) hir) c.deref.ensures.value in
    low_tree c.args.config.now.nest_limit hir names c.in-Ok-tree_of.tree
    (subst (λ (o : Config). depth hir ≤ 5 * o.nest_limit + 4) c.options.ensures c.in-Ok.ensures.depth) is
