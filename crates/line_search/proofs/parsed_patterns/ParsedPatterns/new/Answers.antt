use Rattle.std.proofs.Common.{◌≡◌, ◌∙◌, ap}
use Rattle.hir_regex.specs.Loops.{first_empty_loop}
use Rattle.pattern_search.specs.Texts.{AllMean}
use Rattle.pattern_search.proofs.ForCallers.{read_texts}
use Rattle.line_search.specs.Meant.{line_config}
use Rattle.line_search.proofs.LoopLemmas.{first_loop, tree_known}
use Rattle.line_search.proofs.parsed_patterns.ParsedPatterns.new.Goals as goal

pub invariant_of-result-2 : goal.invariant_of-result-2
invariant_of-result-2 c =
    let mean : AllMean (line_config c.args.how.now) (read_texts c.args.texts.now) c.in-Ok.parsed.items = c.in-Ok.ensures.means in
    let is : c.first_empty_loop-empty_loop.result ≡ first_empty_loop c.in-Ok.parsed.items =
    c.first_empty_loop-empty_loop.ensures ∙ ap first_empty_loop c.deref.ensures.value in (
      tree_known c.args.how.now (read_texts c.args.texts.now) c.in-Ok.parsed.items c.first_empty_loop-empty_loop.result
          c.tree_of.result mean is c.tree_of.ensures,
      tt,
      first_loop c.args.how.now (read_texts c.args.texts.now) c.in-Ok.parsed.items c.first_empty_loop-empty_loop.result mean is,
    )
