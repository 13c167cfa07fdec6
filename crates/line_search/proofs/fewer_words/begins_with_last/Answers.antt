use Rattle.std.proofs.Common.{ap, sym, ◌∙◌}
use Rattle.line_search.proofs.FewerWordLemmas.{last_listed}
use Rattle.line_search.proofs.fewer_words.begins_with_last.Goals as goal

pub returns-in-Some : goal.returns-in-Some
returns-in-Some c begins =
    last_listed c.args.kept.now _ c.in-Some.last.now c.args.word.now (sym c.in-Some.ensures.value) (sym c.starts_with.ensures.value ∙ begins)
