-- What is next to an offset, read as a byte and as a character.
use Rattle.std.proofs.Common.{◌≡◌, ℕ, zero, suc, ◌<◌, ◌≤◌, Bool, List, length, slice_index_or, Option, Some, None, IfSome, Result, refl, ap}
use Rattle.std.proofs.Common.{◌∙◌, arith, take, drop, ◌-◌}
use Rattle.std.specs.Option.{option_map, ok_or}
use Rattle.std.proofs.lemmas.List.{take_all, length-drop}
use Rattle.std.proofs.lemmas.Bool.{le-leb}
use Rattle.std.proofs.lemmas.Bool.Decides.{nat_tests}
use Rattle.std.proofs.lemmas.Option.{slice_get_within, get_or_from_slice_get}
use Rattle.search_core.specs.Text.{byte_at, byte_before}
use Rattle.search_core.specs.Utf8.{Decodes, DecodesLast}
use Rattle.search_core.proofs.ForCallers.{read_at_once, read_before_once}
use Rattle.search_core.specs.Characters.{one_byte, character_at, character_before}
use Rattle.look_core.specs.Terminators.{Terminator}
use Rattle.look_core.specs.Looks.{word_if, byte_side, character_side, IsWordSet, by_bytes, by_characters, holds_by, holds, holds_ascii}
use Rattle.look_core.specs.Looks.{Reading}
use Rattle.look_core.specs.Sides.{decoded_side}
use Rattle.look_core.specs.declared.look.Look.{Look}
use Rattle.look_core.specs.declared.look.Look.TheVariants.{Start, End, StartLF, EndLF, StartCRLF, EndCRLF, WordAscii, WordAsciiNegate}
use Rattle.look_core.specs.declared.look.Look.TheVariants.{WordUnicode, WordUnicodeNegate, WordStartAscii, WordEndAscii, WordStartUnicode}
use Rattle.look_core.specs.declared.look.Look.TheVariants.{WordEndUnicode, WordStartHalfAscii, WordEndHalfAscii, WordStartHalfUnicode}
use Rattle.look_core.specs.declared.look.Look.TheVariants.{WordEndHalfUnicode}

-- what was decoded is a character of the byte's, or the byte alone
pub decoded_is_character : (words : ℕ → Bool) (b c : Option ℕ) → decoded_side words
    (option_map (λ x. ok_or c x) b) ≡ character_side words b c
decoded_is_character words None c = refl
decoded_is_character words (Some b) None = refl
decoded_is_character words (Some b) (Some c) = refl

-- the rest of a haystack, as a slice writes it
rest_of : (h : List ℕ) (i : ℕ) → take (length h - i) (drop i h) ≡ drop i h
rest_of h i = take_all (length h - i) (drop i h) (omega (arith, length-drop i h))

pub decoded_behind : (words : ℕ → Bool) (h : List ℕ) (i : ℕ) (read : Option (Result ℕ ℕ)) → Decodes (take (length h - i) (drop i h)) read →
    decoded_side words read ≡ character_side words (byte_at h i) (character_at h i)
decoded_behind words h i read d =
    ap (decoded_side words) (read_at_once h i read (rw (rest_of h i) at d)) ∙ decoded_is_character words (byte_at h i) (character_at h i)

pub decoded_in_front : (words : ℕ → Bool) (h : List ℕ) (i : ℕ) (read : Option (Result ℕ ℕ)) → i ≤ length h → DecodesLast (take i h) read →
    decoded_side words read ≡ character_side words (byte_before h i) (character_before h i)
decoded_in_front words h i read within d =
    ap (decoded_side words) (read_before_once h i read within d) ∙ decoded_is_character words (byte_before h i) (character_before h i)

-- an ASCII byte is a character
ascii_is_one : (h : List ℕ) (i b : ℕ) → byte_at h i ≡ Some b → b < 128 → one_byte h i ≡ Some b
ascii_is_one h i b e low =
    let within : i < length h = slice_get_within h i b e in
    let same : slice_index_or h i 0 ≡ b = get_or_from_slice_get h i b 0 e in
    grind (arith, nat_tests)

ascii_at : (h : List ℕ) (i b : ℕ) → byte_at h i ≡ Some b → b < 128 → character_at h i ≡ Some b
ascii_at h i b e low = rw (ascii_is_one h i b e low) refl

ascii_before : (h : List ℕ) (i b : ℕ) → byte_before h i ≡ Some b → b < 128 → character_before h i ≡ Some b
ascii_before h zero b e low = cc
ascii_before h (suc i) b e low =
    let place : suc i - 1 ≡ i = omega arith in
    let one : one_byte h (suc i - 1) ≡ Some b = ap (one_byte h) place ∙ ascii_is_one h i b e low in
    rw (one, le-leb 1 (suc i) (omega arith)) refl

-- so the two readings of a side agree there
side_agrees : (words : ℕ → Bool) (b c : Option ℕ) → IsWordSet words → IfSome b (λ x. x < 128) →
    ((x : ℕ) → b ≡ Some x → x < 128 → c ≡ Some x) → character_side words b c ≡ byte_side b
side_agrees words None c set low is = refl
side_agrees words (Some b) c set low is = rw (is b refl low) (ap word_if (set b low))

-- two readings that read both sides alike
pub same_reading : (r s : Reading) (t : Terminator) (h : List ℕ) (i : ℕ) → r.before h i ≡ s.before h i → r.after h i ≡ s.after h i →
    (l : Look) → holds_by r t h l i ≡ holds_by s t h l i
same_reading r s t h i b a Start = refl
same_reading r s t h i b a End = refl
same_reading r s t h i b a StartLF = refl
same_reading r s t h i b a EndLF = refl
same_reading r s t h i b a StartCRLF = refl
same_reading r s t h i b a EndCRLF = refl
same_reading r s t h i b a WordAscii = refl
same_reading r s t h i b a WordAsciiNegate = refl
same_reading r s t h i b a WordUnicode = cc
same_reading r s t h i b a WordUnicodeNegate = cc
same_reading r s t h i b a WordStartAscii = refl
same_reading r s t h i b a WordEndAscii = refl
same_reading r s t h i b a WordStartUnicode = cc
same_reading r s t h i b a WordEndUnicode = cc
same_reading r s t h i b a WordStartHalfAscii = refl
same_reading r s t h i b a WordEndHalfAscii = refl
same_reading r s t h i b a WordStartHalfUnicode = cc
same_reading r s t h i b a WordEndHalfUnicode = cc

pub agree_on_ascii : (words : ℕ → Bool) (t : Terminator) (h : List ℕ) (l : Look) (i : ℕ) → IsWordSet words →
    IfSome (byte_before h i) (λ b. b < 128) → IfSome (byte_at h i) (λ b. b < 128) → holds words t h l i ≡ holds_ascii t h l i
agree_on_ascii words t h l i set before after =
    same_reading (by_characters words) by_bytes t h i
    (side_agrees words (byte_before h i) (character_before h i) set before (ascii_before h i))
    (side_agrees words (byte_at h i) (character_at h i) set after (ascii_at h i))
    l
