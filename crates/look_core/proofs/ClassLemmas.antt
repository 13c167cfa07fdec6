-- What bytes of one class have in common for the looks whose ranges the classes were made from.
use Rattle.std.proofs.Common.{◌≡◌, ℕ, zero, suc, ◌<◌, ◌≤◌, ◌↔◌, inl, inr, true, false, Bool, List, [], ◌∷◌, ◌++◌, length, get_or, Option}
use Rattle.std.proofs.Common.{Some, None, refl, sym, ap, ap₂, ◌∙◌, arith, eqb, ◌&&◌, ◌||◌, not}
use Rattle.std.proofs.lemmas.Bool.{cases_lt}
use Rattle.std.proofs.lemmas.Bool.Decides.{nat_tests}
use Rattle.std.proofs.lemmas.List.Elements.{All-nil, All-cons, All-head, All-tail, All-weaker, All-contains}
use Rattle.std.proofs.lemmas.Option.{slice_get-get_or, slice_get_past}
use Rattle.std.specs.Int.{is_in_range}
use Rattle.std.specs.List.{All, Contains, flat_map}
use Rattle.search_core.specs.Text.{byte_at, byte_before}
use Rattle.search_core.specs.Utf8.{is_word_byte}
use Rattle.search_core.specs.Marks.{marks_below, recorded, IsUnmarked, IsIn, HoldsAllOrNone}
use Rattle.search_core.proofs.ForCallers.{same_class_tells}
use Rattle.look_core.specs.Looks.{Reading, byte_side, word_if, is_byte, is_line_end, is_no_word, is_edge_of_word, is_no_edge_of_word}
use Rattle.look_core.specs.Looks.{is_start_of_word, is_end_of_word, holds_by, holds_ascii}
use Rattle.look_core.specs.Terminators.{Terminator, ends_line}
use Rattle.look_core.specs.ToldApart.{line_ends, crlf_ranges, word_ranges, ranges_apart}
use Rattle.look_core.specs.Codes.{is_word_unicode}
use Rattle.look_core.specs.declared.look.Look.{Look}
use Rattle.look_core.specs.declared.look.Look.TheVariants.{Start, End, StartLF, EndLF, StartCRLF, EndCRLF, WordAscii, WordAsciiNegate}
use Rattle.look_core.specs.declared.look.Look.TheVariants.{WordUnicode, WordUnicodeNegate, WordStartAscii, WordEndAscii, WordStartUnicode}
use Rattle.look_core.specs.declared.look.Look.TheVariants.{WordEndUnicode, WordStartHalfAscii, WordEndHalfAscii, WordStartHalfUnicode}
use Rattle.look_core.specs.declared.look.Look.TheVariants.{WordEndHalfUnicode}

-- a range has both bytes or neither
abbrev pub LieAlike : ℕ → ℕ → ℕ × ℕ → Type 0
LieAlike a b r = IsIn r a ↔ IsIn r b

-- ---- one class, so alike in each range
alike_forward : (a b : ℕ) (r : ℕ × ℕ) → a ≤ b → HoldsAllOrNone a b r → LieAlike a b r
alike_forward a b r l (inl all) = (λ i. all b l (omega arith), λ i. all a (omega arith) l)
alike_forward a b r l (inr none) = (λ i. absurd (none a (omega arith) l i), λ i. absurd (none b l (omega arith) i))

alike_turns : (a b : ℕ) (r : ℕ × ℕ) → LieAlike a b r → LieAlike b a r
alike_turns a b r h = (h.1, h.0)

pub same_class_alike : (m : List Bool) (rs : List (ℕ × ℕ)) (a b : ℕ) → IsUnmarked m → a < length m → b < length m →
    marks_below (recorded m rs) a ≡ marks_below (recorded m rs) b → All (LieAlike a b) rs
same_class_alike m rs a b u k l e = elim (cases_lt b a) [
  | inl p ↦ All-weaker (HoldsAllOrNone b a) (LieAlike a b) (λ r h. alike_turns b a r (alike_forward b a r (omega arith) h)) rs
      (same_class_tells m rs b a u (omega arith) k (sym e))
  | inr p ↦ All-weaker (HoldsAllOrNone a b) (LieAlike a b) (λ r h. alike_forward a b r p h) rs (same_class_tells m rs a b u p l e)
]

-- ---- the ranges of one look among those of many
pub All-left : {X : Type 0} (P : X → Type 0) (xs ys : List X) → All P (xs ++ ys) → All P xs
All-left P [] ys h = All-nil P
All-left P (x ∷ xs) ys h = All-cons P x xs (All-head P x (xs ++ ys) h) (All-left P xs ys (All-tail P x (xs ++ ys) h))

pub All-right : {X : Type 0} (P : X → Type 0) (xs ys : List X) → All P (xs ++ ys) → All P ys
All-right P [] ys h = h
All-right P (x ∷ xs) ys h = All-right P xs ys (All-tail P x (xs ++ ys) h)

All-parts : {X Y : Type 0} (P : X → Type 0) (f : Y → List X) (ys : List Y) → All P (flat_map f ys) → All (λ y. All P (f y)) ys
All-parts P f [] h = All-nil (λ y. All P (f y))
All-parts P f (y ∷ ys) h =
    All-cons (λ y. All P (f y)) y ys (All-left P (f y) (flat_map f ys) h) (All-parts P f ys (All-right P (f y) (flat_map f ys) h))

pub alike_for : (t : Terminator) (looks : List Look) (l : Look) (a b : ℕ) → Contains looks l →
    All (LieAlike a b) (flat_map (ranges_apart t) looks) → All (LieAlike a b) (ranges_apart t l)
alike_for t looks l a b c h = All-contains (λ k. All (LieAlike a b) (ranges_apart t k)) looks l
    (All-parts (LieAlike a b) (ranges_apart t) looks h) c

-- ---- each question on a byte is answered by the ranges
same_in_range : (lo hi a b : ℕ) → LieAlike a b (lo, hi) → is_in_range lo hi a ≡ is_in_range lo hi b
same_in_range lo hi a b h = grind (arith, nat_tests)

pub same_byte : (r a b : ℕ) → LieAlike a b (r, r) → eqb r a ≡ eqb r b
same_byte r a b h = grind (arith, nat_tests)

same_byte_turned : (r a b : ℕ) → LieAlike a b (r, r) → eqb a r ≡ eqb b r
same_byte_turned r a b h = grind (arith, nat_tests)

second : {X : Type 0} (P : X → Type 0) (x y : X) (xs : List X) → All P (x ∷ y ∷ xs) → P y
second P x y xs h = All-head P y xs (All-tail P x (y ∷ xs) h)

or_of_four : (a b c d e f g h : Bool) → a ≡ e → b ≡ f → c ≡ g → d ≡ h → (a || b || c || d) ≡ (e || f || g || h)
or_of_four a b c d e f g h p q r s = rw (p, q, r, s)

pub same_word : (a b : ℕ) → All (LieAlike a b) word_ranges → is_word_byte a ≡ is_word_byte b
same_word a b h =
    let P : ℕ × ℕ → Type 0 = LieAlike a b in
    let small : List (ℕ × ℕ) = (0x61, 0x7A) ∷ [] in
    let score : List (ℕ × ℕ) = (0x5F, 0x5F) ∷ small in
    let capital : List (ℕ × ℕ) = (0x41, 0x5A) ∷ score in
    let h1 = All-tail P (0x30, 0x39) capital h in
    let h2 = All-tail P (0x41, 0x5A) score h1 in
    let h3 = All-tail P (0x5F, 0x5F) small h2 in
    or_of_four _ _ _ _ _ _ _ _ (same_in_range 0x30 0x39 a b (All-head P (0x30, 0x39) capital h))
    (same_in_range 0x41 0x5A a b (All-head P (0x41, 0x5A) score h1))
    (same_byte_turned 0x5F a b (All-head P (0x5F, 0x5F) small h2)) (same_in_range 0x61 0x7A a b (All-head P (0x61, 0x7A) [] h3))

pub same_end : (t : Terminator) (a b : ℕ) → All (LieAlike a b) (line_ends t) → ends_line t a ≡ ends_line t b
same_end (c, None) a b h = same_byte c a b (All-head (LieAlike a b) (c, c) [] h)
same_end (c, Some d) a b h =
    ap₂ ◌||◌ (same_byte c a b (All-head (LieAlike a b) (c, c) ((d, d) ∷ []) h)) (same_byte d a b (second (LieAlike a b) (c, c) (d, d) [] h))

-- ---- the bytes next to an offset of two haystacks of one length
abbrev pub AtEach : (ℕ → ℕ → Type 0) → List ℕ → List ℕ → Type 0
AtEach R h g = (k : ℕ) → k < length h → R (get_or h k 0) (get_or g k 0)

module _ (R : ℕ → ℕ → Type 0) (h g : List ℕ) (len : length h ≡ length g) (at : AtEach R h g)
    (X : Type 0) (F : Option ℕ → X) (same : (a b : ℕ) → R a b → F (Some a) ≡ F (Some b)) where
  pub same_at : (k : ℕ) → F (byte_at h k) ≡ F (byte_at g k)
  same_at k = elim (cases_lt k (length h)) [
    | inl l ↦ ap F (slice_get-get_or h k 0 l) ∙ same _ _ (at k l) ∙ sym (ap F (slice_get-get_or g k 0 (omega arith)))
    | inr l ↦ ap F (slice_get_past h k l) ∙ sym (ap F (slice_get_past g k (omega arith)))
  ]

  pub same_before : (k : ℕ) → F (byte_before h k) ≡ F (byte_before g k)
  same_before zero = refl
  same_before (suc k) = same_at k

abbrev Alike : Terminator → Look → ℕ → ℕ → Type 0
Alike t l a b = All (LieAlike a b) (ranges_apart t l)

pub same_line : (s s2 a a2 b b2 c c2 : Bool) → s ≡ s2 → a ≡ a2 → b ≡ b2 → c ≡ c2 → (s || a || (b && not c)) ≡ (s2 || a2 || (b2 && not c2))
same_line s s2 a a2 b b2 c c2 p q r t = rw (p, q, r, t)

module _ (t : Terminator) (h g : List ℕ) (i : ℕ) (len : length h ≡ length g) where
  same_length : eqb i (length h) ≡ eqb i (length g)
  same_length = ap (eqb i) len

  -- line terminators
  module _ (at : AtEach (λ a b. All (LieAlike a b) (line_ends t)) h g) where
    same_end_at : is_line_end t (byte_at h i) ≡ is_line_end t (byte_at g i)
    same_end_at = same_at (λ a b. All (LieAlike a b) (line_ends t)) h g len at Bool (is_line_end t) (same_end t) i

    same_end_before : is_line_end t (byte_before h i) ≡ is_line_end t (byte_before g i)
    same_end_before = same_before (λ a b. All (LieAlike a b) (line_ends t)) h g len at Bool (is_line_end t) (same_end t) i

  -- carriage returns and line feeds
  module _ (at : AtEach (λ a b. All (LieAlike a b) crlf_ranges) h g) where
    same_feed_at : is_byte 0x0A (byte_at h i) ≡ is_byte 0x0A (byte_at g i)
    same_feed_at =
        same_at (λ a b. All (LieAlike a b) crlf_ranges) h g len at Bool (is_byte 0x0A)
        (λ a b x. same_byte 0x0A a b (All-head (LieAlike a b) (0x0A, 0x0A) ((0x0D, 0x0D) ∷ []) x)) i

    same_feed_before : is_byte 0x0A (byte_before h i) ≡ is_byte 0x0A (byte_before g i)
    same_feed_before =
        same_before (λ a b. All (LieAlike a b) crlf_ranges) h g len at Bool (is_byte 0x0A)
        (λ a b x. same_byte 0x0A a b (All-head (LieAlike a b) (0x0A, 0x0A) ((0x0D, 0x0D) ∷ []) x)) i

    same_return_at : is_byte 0x0D (byte_at h i) ≡ is_byte 0x0D (byte_at g i)
    same_return_at =
        same_at (λ a b. All (LieAlike a b) crlf_ranges) h g len at Bool (is_byte 0x0D)
        (λ a b x. same_byte 0x0D a b (second (LieAlike a b) (0x0A, 0x0A) (0x0D, 0x0D) [] x)) i

    same_return_before : is_byte 0x0D (byte_before h i) ≡ is_byte 0x0D (byte_before g i)
    same_return_before =
        same_before (λ a b. All (LieAlike a b) crlf_ranges) h g len at Bool (is_byte 0x0D)
        (λ a b x. same_byte 0x0D a b (second (LieAlike a b) (0x0A, 0x0A) (0x0D, 0x0D) [] x)) i

  -- word bytes
  module _ (at : AtEach (λ a b. All (LieAlike a b) word_ranges) h g) where
    same_side_at : byte_side (byte_at h i) ≡ byte_side (byte_at g i)
    same_side_at = same_at (λ a b. All (LieAlike a b) word_ranges) h g len at _ byte_side (λ a b x. ap word_if (same_word a b x)) i

    same_side_before : byte_side (byte_before h i) ≡ byte_side (byte_before g i)
    same_side_before = same_before (λ a b. All (LieAlike a b) word_ranges) h g len at _ byte_side (λ a b x. ap word_if (same_word a b x)) i

  pub alike_bytes : (l : Look) → is_word_unicode l ≡ false → AtEach (Alike t l) h g → holds_ascii t h l i ≡ holds_ascii t g l i
  alike_bytes Start u at = refl
  alike_bytes End u at = same_length
  alike_bytes StartLF u at = ap (λ x. eqb i 0 || x) (same_end_before at)
  alike_bytes EndLF u at = ap₂ ◌||◌ same_length (same_end_at at)
  alike_bytes StartCRLF u at = same_line _ _ _ _ _ _ _ _ refl (same_feed_before at) (same_return_before at) (same_feed_at at)
  alike_bytes EndCRLF u at = same_line _ _ _ _ _ _ _ _ same_length (same_return_at at) (same_feed_at at) (same_return_before at)
  alike_bytes WordAscii u at = ap₂ is_edge_of_word (same_side_before at) (same_side_at at)
  alike_bytes WordAsciiNegate u at = ap₂ is_no_edge_of_word (same_side_before at) (same_side_at at)
  alike_bytes WordUnicode u at = cc
  alike_bytes WordUnicodeNegate u at = cc
  alike_bytes WordStartAscii u at = ap₂ is_start_of_word (same_side_before at) (same_side_at at)
  alike_bytes WordEndAscii u at = ap₂ is_end_of_word (same_side_before at) (same_side_at at)
  alike_bytes WordStartUnicode u at = cc
  alike_bytes WordEndUnicode u at = cc
  alike_bytes WordStartHalfAscii u at = ap is_no_word (same_side_before at)
  alike_bytes WordEndHalfAscii u at = ap is_no_word (same_side_at at)
  alike_bytes WordStartHalfUnicode u at = cc
  alike_bytes WordEndHalfUnicode u at = cc

-- ---- Unicode looks, by any reading with the same two sides
pub same_unicode : (r : Reading) (t : Terminator) (h g : List ℕ) (i : ℕ) → r.before h i ≡ r.before g i → r.after h i ≡ r.after g i →
    (l : Look) → is_word_unicode l ≡ true → holds_by r t h l i ≡ holds_by r t g l i
same_unicode r t h g i b a Start u = cc
same_unicode r t h g i b a End u = cc
same_unicode r t h g i b a StartLF u = cc
same_unicode r t h g i b a EndLF u = cc
same_unicode r t h g i b a StartCRLF u = cc
same_unicode r t h g i b a EndCRLF u = cc
same_unicode r t h g i b a WordAscii u = cc
same_unicode r t h g i b a WordAsciiNegate u = cc
same_unicode r t h g i b a WordUnicode u = ap₂ is_edge_of_word b a
same_unicode r t h g i b a WordUnicodeNegate u = ap₂ is_no_edge_of_word b a
same_unicode r t h g i b a WordStartAscii u = cc
same_unicode r t h g i b a WordEndAscii u = cc
same_unicode r t h g i b a WordStartUnicode u = ap₂ is_start_of_word b a
same_unicode r t h g i b a WordEndUnicode u = ap₂ is_end_of_word b a
same_unicode r t h g i b a WordStartHalfAscii u = cc
same_unicode r t h g i b a WordEndHalfAscii u = cc
same_unicode r t h g i b a WordStartHalfUnicode u = ap is_no_word b
same_unicode r t h g i b a WordEndHalfUnicode u = ap is_no_word a

pub word_ranges_told : (t : Terminator) (l : Look) → is_word_unicode l ≡ true → ranges_apart t l ≡ word_ranges
word_ranges_told t Start u = cc
word_ranges_told t End u = cc
word_ranges_told t StartLF u = cc
word_ranges_told t EndLF u = cc
word_ranges_told t StartCRLF u = cc
word_ranges_told t EndCRLF u = cc
word_ranges_told t WordAscii u = refl
word_ranges_told t WordAsciiNegate u = refl
word_ranges_told t WordUnicode u = refl
word_ranges_told t WordUnicodeNegate u = refl
word_ranges_told t WordStartAscii u = refl
word_ranges_told t WordEndAscii u = refl
word_ranges_told t WordStartUnicode u = refl
word_ranges_told t WordEndUnicode u = refl
word_ranges_told t WordStartHalfAscii u = refl
word_ranges_told t WordEndHalfAscii u = refl
word_ranges_told t WordStartHalfUnicode u = refl
word_ranges_told t WordEndHalfUnicode u = refl
