use Rattle.std.proofs.Common.{◌∙◌, inl, inr, arith}
use Rattle.hirscan.proofs.WordLemmas.{number_parsed}
use Rattle.hirscan.proofs.words.number.Goals as goal

pub returns : goal.returns
returns c =
    c.ok.ensures.value ∙ number_parsed c.args.word.now c.parse.result (omega arith) c.if-word-eq43.false
    (elim c.else-word-eq48.either [ inl h ↦ inr (omega arith) | inr h ↦ inl h ])
    (rw c.in-Ok.ensures.cases.0 at c.parse.ensures.value.0)
