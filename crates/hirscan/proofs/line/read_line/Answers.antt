use Rattle.std.proofs.Common.{sym, ◌∙◌}
use Rattle.hirscan.specs.Words.{words}
use Rattle.hirscan.proofs.TakesLemmas.{line_done}
use Rattle.hirscan.proofs.line.read_line.Goals as goal

pub returns-clause-ok : goal.returns-clause-ok
returns-clause-ok c =
    let split = sym c.of-args.ensures ∙ c.in-Some.ensures.steps in
    line_done c.follow.result (words c.args.line.now) _ c.in-Some.first.now c.in-Some-line_word.word _ _
    split (sym c.in-Some-line_word.ensures) c.follow.ensures.ok
