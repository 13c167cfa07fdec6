-- What reading a haystack as UTF-8 says of its longest valid beginning.
use Rattle.std.proofs.Common.{◌≡◌, ℕ, zero, suc, ◌≤◌, Bool, true, false, if◌then◌else◌, List, length, take, Some, None, nat_lt, refl, subst}
use Rattle.std.proofs.Common.{arith}
use Rattle.std.specs.Str.{IsUtf8, IsValidUpTo, is_utf8}
use Rattle.std.specs.Str.Lossy.{utf8_valid_len, valid_len_up_to}
use Rattle.std.proofs.lemmas.Str.{IsUtf8-nil, IsUtf8-from_is_utf8, utf8_valid_len-IsUtf8, utf8_valid_len-IsValidUpTo, utf8_valid_len_le}
use Rattle.std.proofs.lemmas.List.{take_all}
use Rattle.std.proofs.lemmas.Bool.{le-ltb, lt-ltb, ltb-false}
use Rattle.search_core.specs.Utf8.{IsValidText}
use Rattle.search_core.proofs.ForCallers.{valid_of_utf8}
use Rattle.hir_regex.specs.BrokenText.{first_broken}
use Rattle.hir_regex.proofs.LoopLemmas.{none_if}

pub whole_text : (h : List ℕ) → IsUtf8 h → first_broken h ≡ None
whole_text h u = rw (utf8_valid_len-IsUtf8 h u, le-ltb (length h) (length h) (omega arith)) refl

pub broken_text : (h : List ℕ) (n : ℕ) → IsValidUpTo h n → first_broken h ≡ Some n
broken_text h n v = rw (utf8_valid_len-IsValidUpTo h n v, lt-ltb n (length h) v.short) refl

up_to_le : (h : List ℕ) (n : ℕ) → valid_len_up_to h n ≤ n
up_to_le h zero = omega arith
up_to_le h (suc n) =
    elim (is_utf8 (take (suc n) h)) as (λ (b : Bool). (if b then suc n else valid_len_up_to h n) ≤ suc n)
    [ true ↦ omega arith | false ↦ omega (arith, up_to_le h n) ]

up_to_all : (h : List ℕ) (n : ℕ) → valid_len_up_to h n ≡ n → IsUtf8 (take n h)
up_to_all h zero e = IsUtf8-nil
up_to_all h (suc n) e = by_test (is_utf8 (take (suc n) h)) refl e where
  by_test : (b : Bool) → is_utf8 (take (suc n) h) ≡ b → (if b then suc n else valid_len_up_to h n) ≡ suc n → IsUtf8 (take (suc n) h)
  by_test true is e = IsUtf8-from_is_utf8 (take (suc n) h) is
  by_test false is e = absurd (let less = up_to_le h n in omega (arith, less, e))

all_valid : (h : List ℕ) → utf8_valid_len h ≡ length h → IsUtf8 h
unfolding utf8_valid_len
all_valid h e = subst (λ (t : List ℕ). IsUtf8 t) (take_all (length h) h (omega arith)) (up_to_all h (length h) e)

pub text_of_none : (h : List ℕ) → first_broken h ≡ None → IsValidText h
text_of_none h e =
    let high = ltb-false (utf8_valid_len h) (length h) (none_if (nat_lt (utf8_valid_len h) (length h)) (utf8_valid_len h) e) in
    let low = utf8_valid_len_le h in
    valid_of_utf8 h (all_valid h (omega (arith, high, low)))
