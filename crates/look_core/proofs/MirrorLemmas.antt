-- Looks in a reversed haystack: what is before an offset is after the mirrored offset there.
use Rattle.std.proofs.Common.{◌≡◌, ℕ, zero, suc, ◌-◌, ◌≤◌, true, false, Bool, List, length, get_or, Option, Some, None, refl, sym, ap, ap₂}
use Rattle.std.proofs.Common.{◌∙◌, arith, eqb, map, reverse, ◌||◌}
use Rattle.std.proofs.lemmas.Bool.Decides.{nat_tests}
use Rattle.std.proofs.lemmas.List.{get_or-reverse, length-reverse, reverse-reverse, length-map}
use Rattle.std.proofs.lemmas.Option.{slice_get-get_or, slice_get_past, slice_get-map}
use Rattle.std.specs.Option.{option_map}
use Rattle.search_core.specs.Text.{byte_at, byte_before}
use Rattle.look_core.specs.Looks.{Side, word, no_word, broken, Reading, byte_side, by_bytes, is_no_word, is_edge_of_word}
use Rattle.look_core.specs.Looks.{is_no_edge_of_word, is_start_of_word, is_end_of_word, is_byte, is_line_end, holds_by, holds_ascii}
use Rattle.look_core.specs.Mirror.{exchanged_byte, exchanged}
use Rattle.look_core.specs.Terminators.{Terminator}
use Rattle.look_core.specs.Codes.{reversed, is_anchor_crlf, is_word_unicode}
use Rattle.look_core.specs.declared.look.Look.{Look}
use Rattle.look_core.specs.declared.look.Look.TheVariants.{Start, End, StartLF, EndLF, StartCRLF, EndCRLF, WordAscii, WordAsciiNegate}
use Rattle.look_core.specs.declared.look.Look.TheVariants.{WordUnicode, WordUnicodeNegate, WordStartAscii, WordEndAscii, WordStartUnicode}
use Rattle.look_core.specs.declared.look.Look.TheVariants.{WordEndUnicode, WordStartHalfAscii, WordEndHalfAscii, WordStartHalfUnicode}
use Rattle.look_core.specs.declared.look.Look.TheVariants.{WordEndHalfUnicode}
use Rattle.look_core.proofs.ClassLemmas.{same_line}

-- ---- the bytes next to the mirrored offset
mirror_at : (h : List ℕ) (i : ℕ) → i ≤ length h → byte_at (reverse h) (length h - i) ≡ byte_before h i
mirror_at h zero l = slice_get_past (reverse h) (length h - 0) (omega (arith, length-reverse h))
mirror_at h (suc i) l =
    let e : length h - 1 - (length h - suc i) ≡ i = omega arith in
    slice_get-get_or (reverse h) (length h - suc i) 0 (omega (arith, length-reverse h))
    ∙ ap Some (get_or-reverse h (length h - suc i) 0 (omega arith) ∙ ap (λ (k : ℕ). get_or h k 0) e)
    ∙ sym (slice_get-get_or h i 0 (omega arith))

mirror_before : (h : List ℕ) (i : ℕ) → i ≤ length h → byte_before (reverse h) (length h - i) ≡ byte_at h i
mirror_before h i l =
    let n = length-reverse h in
    let e : length (reverse h) - (length h - i) ≡ i = omega arith in
    sym (mirror_at (reverse h) (length h - i) (omega arith))
    ∙ ap₂ (λ (k : List ℕ) (j : ℕ). byte_at k j) (reverse-reverse h) e

same_test : (a b c d : ℕ) → (a ≡ b → c ≡ d) → (c ≡ d → a ≡ b) → eqb a b ≡ eqb c d
same_test a b c d f g = grind (arith, nat_tests)

-- ---- both sides exchanged
pub edge_turns : (b a : Side) → is_edge_of_word b a ≡ is_edge_of_word a b
edge_turns word word = refl
edge_turns word no_word = refl
edge_turns word broken = refl
edge_turns no_word word = refl
edge_turns no_word no_word = refl
edge_turns no_word broken = refl
edge_turns broken word = refl
edge_turns broken no_word = refl
edge_turns broken broken = refl

pub no_edge_turns : (b a : Side) → is_no_edge_of_word b a ≡ is_no_edge_of_word a b
no_edge_turns word word = refl
no_edge_turns word no_word = refl
no_edge_turns word broken = refl
no_edge_turns no_word word = refl
no_edge_turns no_word no_word = refl
no_edge_turns no_word broken = refl
no_edge_turns broken word = refl
no_edge_turns broken no_word = refl
no_edge_turns broken broken = refl

start_turns : (b a : Side) → is_start_of_word b a ≡ is_end_of_word a b
start_turns word word = refl
start_turns word no_word = refl
start_turns word broken = refl
start_turns no_word word = refl
start_turns no_word no_word = refl
start_turns no_word broken = refl
start_turns broken word = refl
start_turns broken no_word = refl
start_turns broken broken = refl

same_sides : (f : Side → Side → Bool) (b a c d : Side) → b ≡ c → a ≡ d → f b a ≡ f c d
same_sides f b a c d p q = ap₂ f p q

-- an offset i of h and an offset j of g, whose neighbours are exchanged
module _ (r : Reading) (t : Terminator) (h g : List ℕ) (i j : ℕ)
    (before : r.before h i ≡ r.after g j) (after : r.after h i ≡ r.before g j) where
  pub unicode_turns : (l : Look) → is_word_unicode l ≡ true → holds_by r t h l i ≡ holds_by r t g (reversed l) j
  unicode_turns Start u = cc
  unicode_turns End u = cc
  unicode_turns StartLF u = cc
  unicode_turns EndLF u = cc
  unicode_turns StartCRLF u = cc
  unicode_turns EndCRLF u = cc
  unicode_turns WordAscii u = cc
  unicode_turns WordAsciiNegate u = cc
  unicode_turns WordUnicode u = same_sides is_edge_of_word _ _ _ _ before after ∙ edge_turns (r.after g j) (r.before g j)
  unicode_turns WordUnicodeNegate u = same_sides is_no_edge_of_word _ _ _ _ before after ∙ no_edge_turns (r.after g j) (r.before g j)
  unicode_turns WordStartAscii u = cc
  unicode_turns WordEndAscii u = cc
  unicode_turns WordStartUnicode u = same_sides is_start_of_word _ _ _ _ before after ∙ start_turns (r.after g j) (r.before g j)
  unicode_turns WordEndUnicode u = same_sides is_end_of_word _ _ _ _ before after ∙ sym (start_turns (r.before g j) (r.after g j))
  unicode_turns WordStartHalfAscii u = cc
  unicode_turns WordEndHalfAscii u = cc
  unicode_turns WordStartHalfUnicode u = ap is_no_word before
  unicode_turns WordEndHalfUnicode u = ap is_no_word after

module _ (t : Terminator) (h g : List ℕ) (i j : ℕ)
    (before : byte_before h i ≡ byte_at g j) (after : byte_at h i ≡ byte_before g j)
    (start : eqb i 0 ≡ eqb j (length g)) (end : eqb i (length h) ≡ eqb j 0) where
  side_before : byte_side (byte_before h i) ≡ byte_side (byte_at g j)
  side_before = ap byte_side before

  side_after : byte_side (byte_at h i) ≡ byte_side (byte_before g j)
  side_after = ap byte_side after

  pub bytes_turn : (l : Look) → is_anchor_crlf l ≡ false → holds_ascii t h l i ≡ holds_ascii t g (reversed l) j
  bytes_turn Start u = start
  bytes_turn End u = end
  bytes_turn StartLF u = ap₂ ◌||◌ start (ap (is_line_end t) before)
  bytes_turn EndLF u = ap₂ ◌||◌ end (ap (is_line_end t) after)
  bytes_turn StartCRLF u = cc
  bytes_turn EndCRLF u = cc
  bytes_turn WordAscii u = same_sides is_edge_of_word _ _ _ _ side_before side_after
      ∙ edge_turns (byte_side (byte_at g j)) (byte_side (byte_before g j))
  bytes_turn WordAsciiNegate u = same_sides is_no_edge_of_word _ _ _ _ side_before side_after
      ∙ no_edge_turns (byte_side (byte_at g j)) (byte_side (byte_before g j))
  bytes_turn WordUnicode u = unicode_turns by_bytes t h g i j side_before side_after WordUnicode refl
  bytes_turn WordUnicodeNegate u = unicode_turns by_bytes t h g i j side_before side_after WordUnicodeNegate refl
  bytes_turn WordStartAscii u = same_sides is_start_of_word _ _ _ _ side_before side_after
      ∙ start_turns (byte_side (byte_at g j)) (byte_side (byte_before g j))
  bytes_turn WordEndAscii u = same_sides is_end_of_word _ _ _ _ side_before side_after
      ∙ sym (start_turns (byte_side (byte_before g j)) (byte_side (byte_at g j)))
  bytes_turn WordStartUnicode u = unicode_turns by_bytes t h g i j side_before side_after WordStartUnicode refl
  bytes_turn WordEndUnicode u = unicode_turns by_bytes t h g i j side_before side_after WordEndUnicode refl
  bytes_turn WordStartHalfAscii u = ap is_no_word side_before
  bytes_turn WordEndHalfAscii u = ap is_no_word side_after
  bytes_turn WordStartHalfUnicode u = ap is_no_word side_before
  bytes_turn WordEndHalfUnicode u = ap is_no_word side_after

pub mirror : (t : Terminator) (h : List ℕ) (l : Look) (i : ℕ) → i ≤ length h → is_anchor_crlf l ≡ false →
    holds_ascii t h l i ≡ holds_ascii t (reverse h) (reversed l) (length h - i)
mirror t h l i k u =
    let n = length-reverse h in
    bytes_turn t h (reverse h) i (length h - i) (sym (mirror_at h i k)) (sym (mirror_before h i k))
    (same_test i 0 (length h - i) (length (reverse h)) (λ e. omega arith) (λ e. omega arith))
    (same_test i (length h) (length h - i) 0 (λ e. omega arith) (λ e. omega arith)) l u

-- ---- with carriage return and line feed exchanged
feed_for_return : (o : Option ℕ) → is_byte 0x0A (option_map exchanged_byte o) ≡ is_byte 0x0D o
feed_for_return None = refl
feed_for_return (Some b) = grind (arith, nat_tests)

return_for_feed : (o : Option ℕ) → is_byte 0x0D (option_map exchanged_byte o) ≡ is_byte 0x0A o
return_for_feed None = refl
return_for_feed (Some b) = grind (arith, nat_tests)

exchanged_at : (h : List ℕ) (i : ℕ) → i ≤ length h → byte_at (exchanged h) (length h - i) ≡ option_map exchanged_byte (byte_before h i)
exchanged_at h i l = slice_get-map exchanged_byte (reverse h) (length h - i) ∙ ap (option_map exchanged_byte) (mirror_at h i l)

before-map : (f : ℕ → ℕ) (h : List ℕ) (i : ℕ) → byte_before (map f h) i ≡ option_map f (byte_before h i)
before-map f h zero = refl
before-map f h (suc i) = slice_get-map f h i

exchanged_before : (h : List ℕ) (i : ℕ) → i ≤ length h → byte_before (exchanged h) (length h - i) ≡ option_map exchanged_byte (byte_at h i)
exchanged_before h i l = before-map exchanged_byte (reverse h) (length h - i) ∙ ap (option_map exchanged_byte) (mirror_before h i l)

module _ (t : Terminator) (h g : List ℕ) (i j : ℕ)
    (before : byte_at g j ≡ option_map exchanged_byte (byte_before h i)) (after : byte_before g j ≡ option_map exchanged_byte (byte_at h i))
    (start : eqb i 0 ≡ eqb j (length g)) (end : eqb i (length h) ≡ eqb j 0) where
  pub lines_turn : (l : Look) → is_anchor_crlf l ≡ true → holds_ascii t h l i ≡ holds_ascii t g (reversed l) j
  lines_turn Start u = cc
  lines_turn End u = cc
  lines_turn StartLF u = cc
  lines_turn EndLF u = cc
  lines_turn StartCRLF u =
      same_line _ _ _ _ _ _ _ _ start (sym (ap (is_byte 0x0D) before ∙ return_for_feed (byte_before h i)))
      (sym (ap (is_byte 0x0A) before ∙ feed_for_return (byte_before h i))) (sym (ap (is_byte 0x0D) after ∙ return_for_feed (byte_at h i)))
  lines_turn EndCRLF u =
      same_line _ _ _ _ _ _ _ _ end (sym (ap (is_byte 0x0A) after ∙ feed_for_return (byte_at h i)))
      (sym (ap (is_byte 0x0D) after ∙ return_for_feed (byte_at h i))) (sym (ap (is_byte 0x0A) before ∙ feed_for_return (byte_before h i)))
  lines_turn WordAscii u = cc
  lines_turn WordAsciiNegate u = cc
  lines_turn WordUnicode u = cc
  lines_turn WordUnicodeNegate u = cc
  lines_turn WordStartAscii u = cc
  lines_turn WordEndAscii u = cc
  lines_turn WordStartUnicode u = cc
  lines_turn WordEndUnicode u = cc
  lines_turn WordStartHalfAscii u = cc
  lines_turn WordEndHalfAscii u = cc
  lines_turn WordStartHalfUnicode u = cc
  lines_turn WordEndHalfUnicode u = cc

pub mirror_lines : (t : Terminator) (h : List ℕ) (l : Look) (i : ℕ) → i ≤ length h → is_anchor_crlf l ≡ true →
    holds_ascii t h l i ≡ holds_ascii t (exchanged h) (reversed l) (length h - i)
mirror_lines t h l i k u =
    let n : length (exchanged h) ≡ length h = length-map (reverse h) exchanged_byte ∙ length-reverse h in
    lines_turn t h (exchanged h) i (length h - i) (exchanged_at h i k) (exchanged_before h i k)
    (same_test i 0 (length h - i) (length (exchanged h)) (λ e. omega arith) (λ e. omega arith))
    (same_test i (length h) (length h - i) 0 (λ e. omega arith) (λ e. omega arith)) l u

-- only the six Unicode looks depend on how words are read
pub reads_bytes : (r : Reading) (t : Terminator) (h : List ℕ) (l : Look) (i : ℕ) → is_word_unicode l ≡ false →
    holds_by r t h l i ≡ holds_ascii t h l i
reads_bytes r t h Start i u = refl
reads_bytes r t h End i u = refl
reads_bytes r t h StartLF i u = refl
reads_bytes r t h EndLF i u = refl
reads_bytes r t h StartCRLF i u = refl
reads_bytes r t h EndCRLF i u = refl
reads_bytes r t h WordAscii i u = refl
reads_bytes r t h WordAsciiNegate i u = refl
reads_bytes r t h WordUnicode i u = cc
reads_bytes r t h WordUnicodeNegate i u = cc
reads_bytes r t h WordStartAscii i u = refl
reads_bytes r t h WordEndAscii i u = refl
reads_bytes r t h WordStartUnicode i u = cc
reads_bytes r t h WordEndUnicode i u = cc
reads_bytes r t h WordStartHalfAscii i u = refl
reads_bytes r t h WordEndHalfAscii i u = refl
reads_bytes r t h WordStartHalfUnicode i u = cc
reads_bytes r t h WordEndHalfUnicode i u = cc
