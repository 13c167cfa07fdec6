use Rattle.std.proofs.Common.{List, ℕ, Bor, IsTrue, map, sym, ap, ◌∙◌, subst, string_bytes}
use Rattle.regex_syntax.specs.declared.Config.{Config}
use Rattle.pattern_search.specs.Texts.{AllMean}
use Rattle.hirhead.specs.HasLines.{AllFit}
use Rattle.hirhead.specs.PatternOptions.{config_of}
use Rattle.hirhead.specs.Lines.{query_text}
use Rattle.hirhead.proofs.WrittenLemmas.{is_head}
use Rattle.hirhead.proofs.heads.query_for.Goals as goal

pub returns-in-Ok-write_query-clause-head : goal.returns-in-Ok-write_query-clause-head
returns-in-Ok-write_query-clause-head c =
    let how = c.args.how.now in
    let texts = map (λ (t : Bor (List ℕ)). t.now) c.args.texts.now in
    let trees = c.in-Ok.trees.items in
    let config_is = c.config-config.ensures in
    let trees_are = c.deref.ensures.value in
    is_head c.queries_are_read.ensures c.queries_match_as_their_patterns.ensures (config_of how) texts trees (string_bytes
    c.in-Ok-write_query.text)
    (subst (λ (config : Config). AllMean config texts trees) config_is c.in-Ok.ensures.means)
    (subst (AllFit 250) trees_are c.in-Ok-write_query.ensures.fits)
    (λ on. c.in-Ok.ensures.utf8 (subst (λ (config : Config). IsTrue config.utf8) (sym config_is) on))
    (c.in-Ok-write_query.ensures.head ∙ ap (query_text how.utf8) trees_are)
