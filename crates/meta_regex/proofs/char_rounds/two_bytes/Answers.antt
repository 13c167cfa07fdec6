use Rattle.std.proofs.Common.{arith, sym, ◌∙◌}
use Rattle.meta_regex.proofs.CharLemmas.{two_spell}
use Rattle.meta_regex.proofs.char_rounds.two_bytes.Goals as goal

pub returns : goal.returns
returns c =
    two_spell c.args.haystack.now c.args.at c.from.result c.from-2.result (sym (c.in-Some-Some.ensures.lookup.3.1 0) ∙ sym c.from.ensures)
    (sym (c.in-Some-Some.ensures'.lookup.3.1 0) ∙ sym c.from-2.ensures) (omega (arith, c.from.ensures, c.if-first-lt194.false))
    (omega (arith, c.from.ensures, c.if-first-gt223.false)) (omega (arith, c.from-2.ensures, c.if-second-lt128.false))
    (omega (arith, c.from-2.ensures, c.if-second-gt191.false))
