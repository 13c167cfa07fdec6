use Rattle.std.proofs.Common.{◌∙◌, arith}
use Rattle.hirscan.proofs.HexNumberLemmas.{hex_number_parsed}
use Rattle.hirscan.proofs.words.hex_number.Goals as goal

pub returns : goal.returns
returns c =
    c.ok.ensures.value ∙ hex_number_parsed c.args.word.now c.from_str_radix.result (omega arith) (omega arith) c.if-word-eq43.false
    (rw c.in-Ok.ensures.cases.0 at c.from_str_radix.ensures.value)
