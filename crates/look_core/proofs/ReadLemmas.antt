-- Which bytes keep an offset from being the start or the end of a spelling.
use Rattle.std.proofs.Common.{◌≡◌, ℕ, ◌+◌, ◌<◌, ◌≤◌, ◌⊎◌, false, List, get_or, Option, None, arith, ◌&&◌}
use Rattle.std.proofs.lemmas.Bool.{cond-false}
use Rattle.std.proofs.lemmas.Bool.Decides.{nat_tests}
use Rattle.std.specs.Int.{is_in_range}
use Rattle.std.specs.Option.{option_or}
use Rattle.search_core.specs.Utf8.{second_of_three, second_of_four}
use Rattle.search_core.specs.Characters.{one_byte, two_bytes, three_bytes, four_bytes}

-- the byte continues no spelling
abbrev pub NoContinuation : ℕ → Type 0
NoContinuation b = (b < 0x80) ⊎ (0xBF < b)

pub two_lead : (a b : ℕ) → (a < 0xC2) ⊎ (0xDF < a) → is_in_range 0xC2 0xDF a && is_in_range 0x80 0xBF b ≡ false
two_lead a b h = grind (arith, nat_tests)

pub two_next : (a b : ℕ) → NoContinuation b → is_in_range 0xC2 0xDF a && is_in_range 0x80 0xBF b ≡ false
two_next a b h = grind (arith, nat_tests)

pub three_lead : (a b d : ℕ) → (a < 0xE0) ⊎ (0xEF < a) → second_of_three a b && is_in_range 0x80 0xBF d ≡ false
three_lead a b d h = grind (arith, nat_tests)

pub three_next : (a b d : ℕ) → NoContinuation b → second_of_three a b && is_in_range 0x80 0xBF d ≡ false
three_next a b d h = grind (arith, nat_tests)

pub three_last : (a b d : ℕ) → NoContinuation d → second_of_three a b && is_in_range 0x80 0xBF d ≡ false
three_last a b d h = grind (arith, nat_tests)

pub four_lead : (a b d e : ℕ) → (a < 0xF0) ⊎ (0xF4 < a) → second_of_four a b && is_in_range 0x80 0xBF d && is_in_range 0x80 0xBF e ≡ false
four_lead a b d e h = grind (arith, nat_tests)

pub four_next : (a b d e : ℕ) → NoContinuation b → second_of_four a b && is_in_range 0x80 0xBF d && is_in_range 0x80 0xBF e ≡ false
four_next a b d e h = grind (arith, nat_tests)

pub four_third : (a b d e : ℕ) → NoContinuation d → second_of_four a b && is_in_range 0x80 0xBF d && is_in_range 0x80 0xBF e ≡ false
four_third a b d e h = grind (arith, nat_tests)

pub four_last : (a b d e : ℕ) → NoContinuation e → second_of_four a b && is_in_range 0x80 0xBF d && is_in_range 0x80 0xBF e ≡ false
four_last a b d e h = grind (arith, nat_tests)

-- no spelling of this length from offset k on
pub no_one : (h : List ℕ) (k : ℕ) → 0x80 ≤ get_or h k 0 → one_byte h k ≡ None
no_one h k l = grind (arith, nat_tests)

pub no_two_lead : (h : List ℕ) (k : ℕ) → (get_or h k 0 < 0xC2) ⊎ (0xDF < get_or h k 0) → two_bytes h k ≡ None
no_two_lead h k l = cond-false _ _ _ (two_lead (get_or h k 0) (get_or h (k + 1) 0) l)

pub no_two_next : (h : List ℕ) (k : ℕ) → NoContinuation (get_or h (k + 1) 0) → two_bytes h k ≡ None
no_two_next h k l = cond-false _ _ _ (two_next (get_or h k 0) (get_or h (k + 1) 0) l)

pub no_three_lead : (h : List ℕ) (k : ℕ) → (get_or h k 0 < 0xE0) ⊎ (0xEF < get_or h k 0) → three_bytes h k ≡ None
no_three_lead h k l = cond-false _ _ _ (three_lead (get_or h k 0) (get_or h (k + 1) 0) (get_or h (k + 2) 0) l)

pub no_three_next : (h : List ℕ) (k : ℕ) → NoContinuation (get_or h (k + 1) 0) → three_bytes h k ≡ None
no_three_next h k l = cond-false _ _ _ (three_next (get_or h k 0) (get_or h (k + 1) 0) (get_or h (k + 2) 0) l)

pub no_three_last : (h : List ℕ) (k : ℕ) → NoContinuation (get_or h (k + 2) 0) → three_bytes h k ≡ None
no_three_last h k l = cond-false _ _ _ (three_last (get_or h k 0) (get_or h (k + 1) 0) (get_or h (k + 2) 0) l)

pub no_four_lead : (h : List ℕ) (k : ℕ) → (get_or h k 0 < 0xF0) ⊎ (0xF4 < get_or h k 0) → four_bytes h k ≡ None
no_four_lead h k l = cond-false _ _ _ (four_lead (get_or h k 0) (get_or h (k + 1) 0) (get_or h (k + 2) 0) (get_or h (k + 3) 0) l)

pub no_four_next : (h : List ℕ) (k : ℕ) → NoContinuation (get_or h (k + 1) 0) → four_bytes h k ≡ None
no_four_next h k l = cond-false _ _ _ (four_next (get_or h k 0) (get_or h (k + 1) 0) (get_or h (k + 2) 0) (get_or h (k + 3) 0) l)

pub no_four_third : (h : List ℕ) (k : ℕ) → NoContinuation (get_or h (k + 2) 0) → four_bytes h k ≡ None
no_four_third h k l = cond-false _ _ _ (four_third (get_or h k 0) (get_or h (k + 1) 0) (get_or h (k + 2) 0) (get_or h (k + 3) 0) l)

pub no_four_last : (h : List ℕ) (k : ℕ) → NoContinuation (get_or h (k + 3) 0) → four_bytes h k ≡ None
no_four_last h k l = cond-false _ _ _ (four_last (get_or h k 0) (get_or h (k + 1) 0) (get_or h (k + 2) 0) (get_or h (k + 3) 0) l)

-- none of the four lengths
pub none_of_four : (a b c d : Option ℕ) → a ≡ None → b ≡ None → c ≡ None → d ≡ None → option_or a (option_or b (option_or c d)) ≡ None
none_of_four a b c d p q r s = rw (p, q, r, s)
