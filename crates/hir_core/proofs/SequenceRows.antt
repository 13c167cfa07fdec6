-- The sequences of some ranges of scalars, worked out.
use Rattle.std.proofs.Common.{◌≡◌, [], ◌∷◌, refl}
use Rattle.hir_core.specs.Sequences.{utf8_sequences}
use Rattle.hir_core.specs.Tree.{char_class, byte_class, cat, nothing, alt, never}
use Rattle.hir_core.specs.Facts.{count}
use Rattle.hir_core.specs.BySequences.{by_sequences}

-- all scalars give the rows of Table 3-7 of the Unicode Standard
pub all_scalars : utf8_sequences 0 0x10FFFF ≡
    ((0x00, 0x7F) ∷ [])
    ∷ ((0xC2, 0xDF) ∷ (0x80, 0xBF) ∷ [])
    ∷ ((0xE0, 0xE0) ∷ (0xA0, 0xBF) ∷ (0x80, 0xBF) ∷ [])
    ∷ ((0xE1, 0xEC) ∷ (0x80, 0xBF) ∷ (0x80, 0xBF) ∷ [])
    ∷ ((0xED, 0xED) ∷ (0x80, 0x9F) ∷ (0x80, 0xBF) ∷ [])
    ∷ ((0xEE, 0xEF) ∷ (0x80, 0xBF) ∷ (0x80, 0xBF) ∷ [])
    ∷ ((0xF0, 0xF0) ∷ (0x90, 0xBF) ∷ (0x80, 0xBF) ∷ (0x80, 0xBF) ∷ [])
    ∷ ((0xF1, 0xF3) ∷ (0x80, 0xBF) ∷ (0x80, 0xBF) ∷ (0x80, 0xBF) ∷ [])
    ∷ ((0xF4, 0xF4) ∷ (0x80, 0x8F) ∷ (0x80, 0xBF) ∷ (0x80, 0xBF) ∷ []) ∷ []
all_scalars = refl

none_between : utf8_sequences 0x62 0x61 ≡ []
none_between = refl

beside_the_surrogates : utf8_sequences 0xD7FF 0xE000 ≡
    ((0xED, 0xED) ∷ (0x9F, 0x9F) ∷ (0xBF, 0xBF) ∷ []) ∷ ((0xEE, 0xEE) ∷ (0x80, 0x80) ∷ (0x80, 0x80) ∷ []) ∷ []
beside_the_surrogates = refl

-- so the class of all scalars has nine of them, and a count of 2 and 4 for each
all_scalars_count : count (char_class ((0, 0x10FFFF) ∷ [])) ≡ 38
all_scalars_count = refl

-- α and β are CE, and then B1 or B2
alpha_to_beta : by_sequences ((0x3B1, 0x3B2) ∷ []) ≡ alt (cat (byte_class ((0xCE, 0xCE) ∷ []))
    (cat (byte_class ((0xB1, 0xB2) ∷ [])) nothing)) never
alpha_to_beta = refl

-- ranges that share a scalar give a sequence each
ranges_that_meet : by_sequences ((0x61, 0x61) ∷ (0x61, 0x62) ∷ []) ≡
    alt (cat (byte_class ((0x61, 0x61) ∷ [])) nothing) (alt (cat (byte_class ((0x61, 0x62) ∷ [])) nothing) never)
ranges_that_meet = refl
