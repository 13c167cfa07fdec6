-- The test for UTF-8, by what it tests.
use Rattle.std.proofs.Common.{◌≡◌, ℕ, List, Bool, true, false, refl}
use Rattle.std.specs.Str.{is_utf8, IsUtf8}
use Rattle.std.proofs.lemmas.Str.{IsUtf8-from_is_utf8, is_utf8-from_IsUtf8}

pub is_utf8_yes : (bs : List ℕ) → IsUtf8 bs → is_utf8 bs ≡ true
is_utf8_yes bs h = is_utf8-from_IsUtf8 bs h

pub is_utf8_no : (bs : List ℕ) → ¬ (IsUtf8 bs) → is_utf8 bs ≡ false
is_utf8_no bs not_utf8 = by_test (is_utf8 bs) refl
  where
    by_test : (b : Bool) → is_utf8 bs ≡ b → is_utf8 bs ≡ false
    by_test true e = absurd (not_utf8 (IsUtf8-from_is_utf8 bs e))
    by_test false e = e
