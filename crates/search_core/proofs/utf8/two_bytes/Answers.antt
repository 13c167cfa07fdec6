use Rattle.std.proofs.Common.{◌∷◌, [], sym, arith}
use Rattle.search_core.specs.Utf8.{Spells}
use Rattle.search_core.proofs.DecodeLemmas.{char_of, two_spell}
use Rattle.search_core.proofs.utf8.two_bytes.Goals as goal

pub returns : goal.returns
returns c = char_of _ _ (λ x. Spells x (c.args.a ∷ c.args.b ∷ [])) c.from_u32.ensures.value c.from_u32.ensures.cases (rw (
  c.from.ensures,
  c.from-2.ensures,
) (two_spell _ _ (omega arith) (omega arith) (sym (c.if-not-is_continuation.ensures))))
