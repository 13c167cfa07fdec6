use Rattle.std.proofs.Common.{◌∷◌, [], sym}
use Rattle.search_core.specs.Utf8.{Spells}
use Rattle.search_core.proofs.DecodeLemmas.{char_of, four_spell}
use Rattle.search_core.proofs.utf8.four_bytes.Goals as goal

pub returns : goal.returns
returns c = char_of _ _ (λ x. Spells x (c.args.a ∷ c.args.b ∷ c.args.d ∷ c.args.e ∷ [])) c.from_u32.ensures.value c.from_u32.ensures.cases
    (rw (c.from.ensures, c.from-2.ensures, c.from-3.ensures, c.from-4.ensures)
    (four_spell _ _ _ _ (sym c.if-not-is_second_of_four.ensures) (sym c.if-not-is_continuation.ensures)
    (sym c.if-not-is_continuation-2.ensures)))
