-- The looks by their numbers, and other tables of all eighteen.
use Rattle.std.proofs.Common.{◌≡◌, ℕ, ◌<◌, ◌==◌, cond, List, [], ◌∷◌, get_or, map, refl, sym, ap, ◌∙◌, arith}
use Rattle.std.specs.List.{range_with_len}
use Rattle.std.proofs.lemmas.List.{get_or-map}
use Rattle.std.proofs.lemmas.List.FromFn.{get_or-range_with_len}
use Rattle.look_core.specs.declared.look.Look.{Look}
use Rattle.look_core.specs.declared.look.Look.TheVariants.{Start, End, StartLF, EndLF, StartCRLF, EndCRLF, WordAscii, WordAsciiNegate}
use Rattle.look_core.specs.declared.look.Look.TheVariants.{WordUnicode, WordUnicodeNegate, WordStartAscii, WordEndAscii, WordStartUnicode}
use Rattle.look_core.specs.declared.look.Look.TheVariants.{WordEndUnicode, WordStartHalfAscii, WordEndHalfAscii, WordStartHalfUnicode}
use Rattle.look_core.specs.declared.look.Look.TheVariants.{WordEndHalfUnicode}
use Rattle.look_core.specs.Codes.{bit_of, repr, char_of, reversed, all_looks}

-- the look of a number below 18
abbrev pub look_at : ℕ → Look
look_at n = get_or all_looks n Start

pub look_at-bit_of : (l : Look) → look_at (bit_of l) ≡ l
look_at-bit_of Start = refl
look_at-bit_of End = refl
look_at-bit_of StartLF = refl
look_at-bit_of EndLF = refl
look_at-bit_of StartCRLF = refl
look_at-bit_of EndCRLF = refl
look_at-bit_of WordAscii = refl
look_at-bit_of WordAsciiNegate = refl
look_at-bit_of WordUnicode = refl
look_at-bit_of WordUnicodeNegate = refl
look_at-bit_of WordStartAscii = refl
look_at-bit_of WordEndAscii = refl
look_at-bit_of WordStartUnicode = refl
look_at-bit_of WordEndUnicode = refl
look_at-bit_of WordStartHalfAscii = refl
look_at-bit_of WordEndHalfAscii = refl
look_at-bit_of WordStartHalfUnicode = refl
look_at-bit_of WordEndHalfUnicode = refl

pub bit_of-lt : (l : Look) → bit_of l < 18
bit_of-lt Start = omega arith
bit_of-lt End = omega arith
bit_of-lt StartLF = omega arith
bit_of-lt EndLF = omega arith
bit_of-lt StartCRLF = omega arith
bit_of-lt EndCRLF = omega arith
bit_of-lt WordAscii = omega arith
bit_of-lt WordAsciiNegate = omega arith
bit_of-lt WordUnicode = omega arith
bit_of-lt WordUnicodeNegate = omega arith
bit_of-lt WordStartAscii = omega arith
bit_of-lt WordEndAscii = omega arith
bit_of-lt WordStartUnicode = omega arith
bit_of-lt WordEndUnicode = omega arith
bit_of-lt WordStartHalfAscii = omega arith
bit_of-lt WordEndHalfAscii = omega arith
bit_of-lt WordStartHalfUnicode = omega arith
bit_of-lt WordEndHalfUnicode = omega arith

numbered : map bit_of all_looks ≡ range_with_len 0 18
numbered = refl

pub bit_of-look_at : (i : ℕ) → i < 18 → bit_of (look_at i) ≡ i
bit_of-look_at i h = sym (get_or-map bit_of all_looks i Start 0 h) ∙ ap (λ ns. get_or ns i 0) numbered ∙ get_or-range_with_len 0 18 i 0 h
    ∙ omega arith

-- the first look of the list that f gives this number
abbrev first_with : (Look → ℕ) → ℕ → List Look → Look
first_with f n [] = Start
first_with f n (l ∷ ls) = cond (f l == n) l (first_with f n ls)

char_tells : (l : Look) → first_with char_of (char_of l) all_looks ≡ l
char_tells Start = refl
char_tells End = refl
char_tells StartLF = refl
char_tells EndLF = refl
char_tells StartCRLF = refl
char_tells EndCRLF = refl
char_tells WordAscii = refl
char_tells WordAsciiNegate = refl
char_tells WordUnicode = refl
char_tells WordUnicodeNegate = refl
char_tells WordStartAscii = refl
char_tells WordEndAscii = refl
char_tells WordStartUnicode = refl
char_tells WordEndUnicode = refl
char_tells WordStartHalfAscii = refl
char_tells WordEndHalfAscii = refl
char_tells WordStartHalfUnicode = refl
char_tells WordEndHalfUnicode = refl

repr_tells : (l : Look) → first_with repr (repr l) all_looks ≡ l
repr_tells Start = refl
repr_tells End = refl
repr_tells StartLF = refl
repr_tells EndLF = refl
repr_tells StartCRLF = refl
repr_tells EndCRLF = refl
repr_tells WordAscii = refl
repr_tells WordAsciiNegate = refl
repr_tells WordUnicode = refl
repr_tells WordUnicodeNegate = refl
repr_tells WordStartAscii = refl
repr_tells WordEndAscii = refl
repr_tells WordStartUnicode = refl
repr_tells WordEndUnicode = refl
repr_tells WordStartHalfAscii = refl
repr_tells WordEndHalfAscii = refl
repr_tells WordStartHalfUnicode = refl
repr_tells WordEndHalfUnicode = refl

pub same_from_bit : (k l : Look) → bit_of k ≡ bit_of l → k ≡ l
same_from_bit k l e = sym (look_at-bit_of k) ∙ ap look_at e ∙ look_at-bit_of l

pub same_from_repr : (k l : Look) → repr k ≡ repr l → k ≡ l
same_from_repr k l e = sym (repr_tells k) ∙ ap (λ n. first_with repr n all_looks) e ∙ repr_tells l

pub same_from_char : (k l : Look) → char_of k ≡ char_of l → k ≡ l
same_from_char k l e = sym (char_tells k) ∙ ap (λ n. first_with char_of n all_looks) e ∙ char_tells l

pub reversed_twice : (l : Look) → reversed (reversed l) ≡ l
reversed_twice Start = refl
reversed_twice End = refl
reversed_twice StartLF = refl
reversed_twice EndLF = refl
reversed_twice StartCRLF = refl
reversed_twice EndCRLF = refl
reversed_twice WordAscii = refl
reversed_twice WordAsciiNegate = refl
reversed_twice WordUnicode = refl
reversed_twice WordUnicodeNegate = refl
reversed_twice WordStartAscii = refl
reversed_twice WordEndAscii = refl
reversed_twice WordStartUnicode = refl
reversed_twice WordEndUnicode = refl
reversed_twice WordStartHalfAscii = refl
reversed_twice WordEndHalfAscii = refl
reversed_twice WordStartHalfUnicode = refl
reversed_twice WordEndHalfUnicode = refl
