-- At the offsets of a line, a look holds in the line exactly where its line look holds in a block with that line.
use Rattle.std.proofs.Common.{◌≡◌, ◌≢◌, ℕ, zero, suc, ◌+◌, ◌<◌, ◌≤◌, ◌⊎◌, inl, inr, Bool, true, false, ◌||◌, ◌&&◌, not, eqb, List, [], ◌∷◌}
use Rattle.std.proofs.Common.{◌++◌, length, get_or, Some, None}
use Rattle.std.proofs.Common.{Option, refl, sym, ap, ap₂, subst, ◌∙◌, arith, length-append, append_assoc}
use Rattle.std.proofs.lemmas.Bool.{cases_lt, eq-eqb, eqb-true, ne_eqb, or_from, or_left, or_right}
use Rattle.std.proofs.lemmas.Option.{none-some, same_Some, slice_get-get_or, slice_get_past}
use Rattle.search_core.specs.Text.{byte_at, byte_before}
use Rattle.search_core.specs.Characters.{character_at, character_before}
use Rattle.look_core.specs.Codes.{is_anchor_crlf}
use Rattle.look_core.specs.Looks.{no_word, word_if, byte_side, character_side, by_bytes, by_characters, IsWordSet}
use Rattle.look_core.specs.Looks.{is_no_word, is_edge_of_word, is_no_edge_of_word, is_start_of_word, is_end_of_word, is_line_end}
use Rattle.look_core.specs.Looks.{holds_by, is_byte}
use Rattle.look_core.specs.Terminators.{one_of}
use Rattle.look_core.specs.declared.look.Look.{Look}
use Rattle.look_core.specs.declared.look.Look.TheVariants.{Start, End, StartLF, EndLF, StartCRLF, EndCRLF, WordAscii, WordAsciiNegate}
use Rattle.look_core.specs.declared.look.Look.TheVariants.{WordUnicode, WordUnicodeNegate, WordStartAscii, WordEndAscii, WordStartUnicode}
use Rattle.look_core.specs.declared.look.Look.TheVariants.{WordEndUnicode, WordStartHalfAscii, WordEndHalfAscii, WordStartHalfUnicode}
use Rattle.look_core.specs.declared.look.Look.TheVariants.{WordEndHalfUnicode}
use Rattle.line_trees.specs.LineTrees.{line_end, line_look, FollowsLine, IsLineBetween, block_of, line_looks}
use Rattle.line_trees.proofs.BesideLemmas.{IsEnding, StartsLine, EndsLine, starts_line, ends_line_at, byte_after, follows}
use Rattle.line_trees.proofs.BesideLemmas.{feed_behind, feed_in_front}
use Rattle.line_trees.proofs.BesideLemmas.{same_byte_at, same_byte_before, same_character_at, same_character_before}

or_none : (b : Bool) → (b || false) ≡ b
or_none true = refl
or_none false = refl

-- a line feed is no word character, whatever characters above ASCII are
feed_is_no_word : (words : ℕ → Bool) → IsWordSet words → word_if (words 0x0A) ≡ no_word
feed_is_no_word words set = ap word_if (set 0x0A (omega arith))

-- what is in front of a line's first offset, and after its last one, is no word
module _ (words : ℕ → Bool) (set : IsWordSet words) where
  no_word_in_front : (h : List ℕ) (k : ℕ) → StartsLine h k → character_side words (byte_before h k) (character_before h k) ≡ no_word
  no_word_in_front h k (inl none) = ap (λ (o : Option ℕ). character_side words o (character_before h k)) none.1
  no_word_in_front h k (inr feed) = ap₂ (character_side words) feed.0 feed.1 ∙ feed_is_no_word words set

  ending_is_no_word : (b : ℕ) → IsEnding b → word_if (words b) ≡ no_word
  ending_is_no_word b (inl e) = ap (λ (c : ℕ). word_if (words c)) e ∙ feed_is_no_word words set
  ending_is_no_word b (inr e) = ap (λ (c : ℕ). word_if (words c)) e ∙ ap word_if (set 0x0D (omega arith))

  no_word_behind : (h : List ℕ) (k : ℕ) → EndsLine h k → character_side words (byte_at h k) (character_at h k) ≡ no_word
  no_word_behind h k (inl none) = ap (λ (o : Option ℕ). character_side words o (character_at h k)) none.1
  no_word_behind h k (inr end) = ap₂ (character_side words) end.at end.character ∙ ending_is_no_word end.byte end.ending

no_byte_in_front : (h : List ℕ) (k : ℕ) → StartsLine h k → byte_side (byte_before h k) ≡ no_word
no_byte_in_front h k (inl none) = ap byte_side none.1
no_byte_in_front h k (inr feed) = ap byte_side feed.0

ending_is_no_word_byte : (b : ℕ) → IsEnding b → byte_side (Some b) ≡ no_word
ending_is_no_word_byte b (inl e) = ap (λ (c : ℕ). byte_side (Some c)) e
ending_is_no_word_byte b (inr e) = ap (λ (c : ℕ). byte_side (Some c)) e

no_byte_behind : (h : List ℕ) (k : ℕ) → EndsLine h k → byte_side (byte_at h k) ≡ no_word
no_byte_behind h k (inl none) = ap byte_side none.1
no_byte_behind h k (inr end) = ap byte_side end.at ∙ ending_is_no_word_byte end.byte end.ending

-- lines start and end there
start_holds : (h : List ℕ) (k : ℕ) → StartsLine h k → (eqb k 0 || is_line_end (one_of 0x0A) (byte_before h k)) ≡ true
start_holds h k (inl none) = or_left (eqb k 0) (is_line_end (one_of 0x0A) (byte_before h k)) (eq-eqb k 0 none.0)
start_holds h k (inr feed) =
    or_right (eqb k 0) (is_line_end (one_of 0x0A) (byte_before h k)) (ap (is_line_end (one_of 0x0A)) feed.0)

end_holds : (h : List ℕ) (k : ℕ) → (k ≡ length h) ⊎ (byte_at h k ≡ Some 0x0A) →
    (eqb k (length h) || is_line_end (one_of 0x0A) (byte_at h k)) ≡ true
end_holds h k (inl last) = or_left (eqb k (length h)) (is_line_end (one_of 0x0A) (byte_at h k)) (eq-eqb k (length h) last)
end_holds h k (inr feed) =
    or_right (eqb k (length h)) (is_line_end (one_of 0x0A) (byte_at h k)) (ap (is_line_end (one_of 0x0A)) feed)

one_of_three : (a b c : Bool) → (a ≡ true) ⊎ ((b ≡ true) ⊎ (c ≡ true)) → (a || b || c) ≡ true
one_of_three true b c one = refl
one_of_three false true c one = refl
one_of_three false false true one = refl
one_of_three false false false (inl e) = e
one_of_three false false false (inr (inl e)) = e
one_of_three false false false (inr (inr e)) = e

both_hold : (a b : Bool) → a ≡ true → b ≡ false → (a && not b) ≡ true
both_hold a b is none = ap₂ (λ (c d : Bool). c && not d) is none

-- no carriage return is before an offset where the byte before isn't one
no_return : (o : Option ℕ) → o ≢ Some 0x0D → is_byte 0x0D o ≡ false
no_return None other = refl
no_return (Some c) other = ne_eqb 0x0D c (λ e. absurd (other (ap Some (sym e))))

-- a line ends there, before a carriage return or a line feed
crlf_holds : (h : List ℕ) (k : ℕ) →
    (k ≡ length h) ⊎ ((byte_at h k ≡ Some 0x0D) ⊎ ((byte_at h k ≡ Some 0x0A) × (byte_before h k ≢ Some 0x0D))) →
    holds_by by_bytes (one_of 0x0A) h EndCRLF k ≡ true
crlf_holds h k ends =
    one_of_three (eqb k (length h)) (is_byte 0x0D (byte_at h k)) (is_byte 0x0A (byte_at h k) && not (is_byte 0x0D (byte_before h k)))
    (elim ends [
      | inl last ↦ inl (eq-eqb k (length h) last)
      | inr (inl return) ↦ inr (inl (ap (is_byte 0x0D) return))
      | inr (inr feed) ↦
          inr (inr (both_hold (is_byte 0x0A (byte_at h k)) (is_byte 0x0D (byte_before h k)) (ap (is_byte 0x0A) feed.0)
          (no_return (byte_before h k) feed.1)))
    ])

module _ (crlf : Bool) (before line after : List ℕ) (is : IsLineBetween crlf before line after) where
  -- inside the line no byte ends a line
  no_end_inside : (i : ℕ) → i < length line → is_line_end (one_of 0x0A) (byte_at line i) ≡ false
  no_end_inside i l =
      ap (is_line_end (one_of 0x0A)) (slice_get-get_or line i 0 l)
      ∙ ne_eqb 0x0A (get_or line i 0) (λ e. is.without_feed i 0 l (sym e))

  at_start : StartsLine (block_of before line after) (length before + 0)
  at_start = starts_line before (line ++ after) (length before + 0) is.starts (omega arith)

  at_end : EndsLine (block_of before line after) (length before + length line)
  at_end =
      subst (λ (h : List ℕ). EndsLine h (length before + length line)) (append_assoc before line after)
      (ends_line_at (before ++ line) after (length before + length line) (follows crlf line after is.ends)
      (sym (length-append before line)))

  -- what is after the line in the block
  behind : (rest : List ℕ) (b : ℕ) → after ≡ b ∷ rest → byte_at (block_of before line after) (length before + length line) ≡ Some b
  behind rest b joined =
      subst (λ (h : List ℕ). byte_at h (length before + length line) ≡ Some b) (append_assoc before line after)
      (byte_after (before ++ line) after rest (length before + length line) b (sym (length-append before line)) joined)

  none_behind : after ≡ [] → length before + length line ≡ length (block_of before line after)
  none_behind none =
      let sum = length-append before (line ++ after) in
      let sum_too = length-append line after in
      let no_more = ap length none in
      omega arith

  at_last : (i : ℕ) → i ≤ length line → length line ≤ i → EndsLine (block_of before line after) (length before + i)
  at_last i l m =
      let e : length line ≡ i = omega arith in
      subst (λ (j : ℕ). EndsLine (block_of before line after) (length before + j)) e at_end

  -- ---- the anchors
  start_inside : (i : ℕ) → i ≤ length line → (eqb i 0 || is_line_end (one_of 0x0A) (byte_before line i)) ≡ eqb i 0
  start_inside zero l = or_none (eqb 0 0)
  start_inside (suc i) l = ap (λ (b : Bool). eqb (suc i) 0 || b) (no_end_inside i (omega arith)) ∙ or_none (eqb (suc i) 0)

  end_inside : (i : ℕ) → i ≤ length line → (eqb i (length line) || is_line_end (one_of 0x0A) (byte_at line i)) ≡ eqb i (length line)
  end_inside i l = elim (cases_lt i (length line)) [
    | inl inside ↦ ap (λ (b : Bool). eqb i (length line) || b) (no_end_inside i inside) ∙ or_none (eqb i (length line))
    | inr past ↦
        ap (λ (o : Option ℕ). eqb i (length line) || is_line_end (one_of 0x0A) o) (slice_get_past line i past)
        ∙ or_none (eqb i (length line))
  ]

  start_same : (i : ℕ) → i ≤ length line →
      eqb i 0 ≡ (eqb (length before + i) 0 || is_line_end (one_of 0x0A) (byte_before (block_of before line after) (length before + i)))
  start_same zero l = sym (start_holds (block_of before line after) (length before + 0) at_start)
  start_same (suc i) l =
      let within : i < length line = omega arith in
      ne_eqb (suc i) 0 (λ e. absurd (omega arith))
      ∙ sym (or_from (eqb (length before + suc i) 0)
      (is_line_end (one_of 0x0A) (byte_before (block_of before line after) (length before + suc i)))
      (ne_eqb (length before + suc i) 0 (λ e. absurd (omega arith)))
      (ap (is_line_end (one_of 0x0A)) (sym (same_byte_before before line after i within)) ∙ no_end_inside i within))

  feed_at_end : crlf ≡ false →
      (length before + length line ≡ length (block_of before line after))
      ⊎ (byte_at (block_of before line after) (length before + length line) ≡ Some 0x0A)
  feed_at_end plain = elim (subst (λ (c : Bool). FollowsLine c line after) plain is.ends) [
    | inl none ↦ inl (none_behind none)
    | inr r ↦ inr (behind r.0 0x0A r.1)
  ]

  end_same : crlf ≡ false → (i : ℕ) → i ≤ length line →
      eqb i (length line) ≡ (eqb (length before + i) (length (block_of before line after)) ||
      is_line_end (one_of 0x0A) (byte_at (block_of before line after) (length before + i)))
  end_same plain i l =
      let sum = length-append before (line ++ after) in
      let sum_too = length-append line after in
      elim (cases_lt i (length line)) [
        | inl inside ↦
            ne_eqb i (length line) (λ e. absurd (omega arith))
            ∙ sym (or_from (eqb (length before + i) (length (block_of before line after)))
            (is_line_end (one_of 0x0A) (byte_at (block_of before line after) (length before + i)))
            (ne_eqb (length before + i) (length (block_of before line after)) (λ e. absurd (omega arith)))
            (ap (is_line_end (one_of 0x0A)) (sym (same_byte_at before line after i inside)) ∙ no_end_inside i inside))
        | inr past ↦
            eq-eqb i (length line) (omega arith)
            ∙ (let e : length line ≡ i = omega arith in
            subst (λ (j : ℕ). true ≡ (eqb (length before + j) (length (block_of before line after)) ||
            is_line_end (one_of 0x0A) (byte_at (block_of before line after) (length before + j)))) e
            (sym (end_holds (block_of before line after) (length before + length line) (feed_at_end plain))))
      ]

  -- at the end of a line that is cut before its carriage return
  return_before : (n : ℕ) → n ≡ length line → byte_before line n ≢ Some 0x0D →
      byte_before (block_of before line after) (length before + n) ≢ Some 0x0D
  return_before zero e other = elim at_start [
    | inl none ↦ λ same. absurd (none-some 0x0D (sym none.1 ∙ same))
    | inr feed ↦ λ same. absurd (let differ : 0x0A ≡ 0x0D = same_Some 0x0A 0x0D (sym feed.0 ∙ same) in omega (arith, differ))
  ]
  return_before (suc n) e other = λ same. absurd (other (same_byte_before before line after n (omega (arith, e)) ∙ same))

  crlf_at_end : crlf ≡ true →
      (length before + length line ≡ length (block_of before line after))
      ⊎ ((byte_at (block_of before line after) (length before + length line) ≡ Some 0x0D)
      ⊎ ((byte_at (block_of before line after) (length before + length line) ≡ Some 0x0A)
      × (byte_before (block_of before line after) (length before + length line) ≢ Some 0x0D)))
  crlf_at_end returns = elim (subst (λ (c : Bool). FollowsLine c line after) returns is.ends) [
    | inl none ↦ inl (none_behind none)
    | inr (inl r) ↦ inr (inl (behind r.0 0x0D r.1))
    | inr (inr r) ↦ inr (inr (behind r.0.0 0x0A r.0.1, return_before (length line) refl r.1))
  ]

  end_goes_on : (i : ℕ) → i ≤ length line → eqb i (length line) ≡ true → (c : Bool) → crlf ≡ c → (words : ℕ → Bool) →
      line_looks words (block_of before line after) (line_end crlf) (length before + i) ≡ true
  end_goes_on i l last false plain words =
      ap (λ (c : Bool). line_looks words (block_of before line after) (line_end c) (length before + i)) plain
      ∙ sym (end_same plain i l) ∙ last
  end_goes_on i l last true returns words =
      let e : length line ≡ i = sym (eqb-true i (length line) last) in
      ap (λ (c : Bool). line_looks words (block_of before line after) (line_end c) (length before + i)) returns
      ∙ subst (λ (j : ℕ). holds_by by_bytes (one_of 0x0A) (block_of before line after) EndCRLF (length before + j) ≡ true) e
      (crlf_holds (block_of before line after) (length before + length line) (crlf_at_end returns))

  -- ---- words by bytes
  bytes_before : (i : ℕ) → i ≤ length line →
      by_bytes.before line i ≡ by_bytes.before (block_of before line after) (length before + i)
  bytes_before zero l = sym (no_byte_in_front (block_of before line after) (length before + 0) at_start)
  bytes_before (suc i) l = ap byte_side (same_byte_before before line after i (omega arith))

  bytes_after : (i : ℕ) → i ≤ length line →
      by_bytes.after line i ≡ by_bytes.after (block_of before line after) (length before + i)
  bytes_after i l = elim (cases_lt i (length line)) [
    | inl inside ↦ ap byte_side (same_byte_at before line after i inside)
    | inr past ↦
        ap byte_side (slice_get_past line i past)
        ∙ sym (no_byte_behind (block_of before line after) (length before + i) (at_last i l past))
  ]

  -- ---- words by characters
  module _ (words : ℕ → Bool) (set : IsWordSet words) where
    characters_before : (i : ℕ) → i ≤ length line →
        (by_characters words).before line i ≡ (by_characters words).before (block_of before line after) (length before + i)
    characters_before zero l = sym (no_word_in_front words set (block_of before line after) (length before + 0) at_start)
    characters_before (suc i) l =
        ap₂ (character_side words) (same_byte_before before line after i (omega arith))
        (same_character_before before line after (feed_in_front before is.starts) (suc i) (omega arith) l)

    characters_after : (i : ℕ) → i ≤ length line →
        (by_characters words).after line i ≡ (by_characters words).after (block_of before line after) (length before + i)
    characters_after i l = elim (cases_lt i (length line)) [
      | inl inside ↦
          ap₂ (character_side words) (same_byte_at before line after i inside)
          (same_character_at before line after (feed_behind after (follows crlf line after is.ends)) i inside)
      | inr past ↦
          ap (λ (o : Option ℕ). character_side words o (character_at line i)) (slice_get_past line i past)
          ∙ sym (no_word_behind words set (block_of before line after) (length before + i) (at_last i l past))
    ]

    -- if the line ends at its line feed alone
    look_same : crlf ≡ false → (l : Look) → is_anchor_crlf l ≡ false → (i : ℕ) → i ≤ length line →
        line_looks words line l i ≡ line_looks words (block_of before line after) (line_look false l) (length before + i)
    look_same plain Start u i l = start_same i l
    look_same plain End u i l = end_same plain i l
    look_same plain StartLF u i l = start_inside i l ∙ start_same i l
    look_same plain EndLF u i l = end_inside i l ∙ end_same plain i l
    look_same plain StartCRLF u i l = cc
    look_same plain EndCRLF u i l = cc
    look_same plain WordAscii u i l = ap₂ is_edge_of_word (bytes_before i l) (bytes_after i l)
    look_same plain WordAsciiNegate u i l = ap₂ is_no_edge_of_word (bytes_before i l) (bytes_after i l)
    look_same plain WordUnicode u i l = ap₂ is_edge_of_word (characters_before i l) (characters_after i l)
    look_same plain WordUnicodeNegate u i l = ap₂ is_no_edge_of_word (characters_before i l) (characters_after i l)
    look_same plain WordStartAscii u i l = ap₂ is_start_of_word (bytes_before i l) (bytes_after i l)
    look_same plain WordEndAscii u i l = ap₂ is_end_of_word (bytes_before i l) (bytes_after i l)
    look_same plain WordStartUnicode u i l = ap₂ is_start_of_word (characters_before i l) (characters_after i l)
    look_same plain WordEndUnicode u i l = ap₂ is_end_of_word (characters_before i l) (characters_after i l)
    look_same plain WordStartHalfAscii u i l = ap is_no_word (bytes_before i l)
    look_same plain WordEndHalfAscii u i l = ap is_no_word (bytes_after i l)
    look_same plain WordStartHalfUnicode u i l = ap is_no_word (characters_before i l)
    look_same plain WordEndHalfUnicode u i l = ap is_no_word (characters_after i l)

    look_goes_on : (l : Look) → is_anchor_crlf l ≡ false → (i : ℕ) → i ≤ length line → line_looks words line l i ≡ true →
        line_looks words (block_of before line after) (line_look crlf l) (length before + i) ≡ true
    look_goes_on Start u i l m = sym (start_same i l) ∙ m
    look_goes_on End u i l m = end_goes_on i l m crlf refl words
    look_goes_on StartLF u i l m = sym (start_inside i l ∙ start_same i l) ∙ m
    look_goes_on EndLF u i l m = end_goes_on i l (sym (end_inside i l) ∙ m) crlf refl words
    look_goes_on StartCRLF u i l m = cc
    look_goes_on EndCRLF u i l m = cc
    look_goes_on WordAscii u i l m = sym (ap₂ is_edge_of_word (bytes_before i l) (bytes_after i l)) ∙ m
    look_goes_on WordAsciiNegate u i l m = sym (ap₂ is_no_edge_of_word (bytes_before i l) (bytes_after i l)) ∙ m
    look_goes_on WordUnicode u i l m = sym (ap₂ is_edge_of_word (characters_before i l) (characters_after i l)) ∙ m
    look_goes_on WordUnicodeNegate u i l m = sym (ap₂ is_no_edge_of_word (characters_before i l) (characters_after i l)) ∙ m
    look_goes_on WordStartAscii u i l m = sym (ap₂ is_start_of_word (bytes_before i l) (bytes_after i l)) ∙ m
    look_goes_on WordEndAscii u i l m = sym (ap₂ is_end_of_word (bytes_before i l) (bytes_after i l)) ∙ m
    look_goes_on WordStartUnicode u i l m = sym (ap₂ is_start_of_word (characters_before i l) (characters_after i l)) ∙ m
    look_goes_on WordEndUnicode u i l m = sym (ap₂ is_end_of_word (characters_before i l) (characters_after i l)) ∙ m
    look_goes_on WordStartHalfAscii u i l m = sym (ap is_no_word (bytes_before i l)) ∙ m
    look_goes_on WordEndHalfAscii u i l m = sym (ap is_no_word (bytes_after i l)) ∙ m
    look_goes_on WordStartHalfUnicode u i l m = sym (ap is_no_word (characters_before i l)) ∙ m
    look_goes_on WordEndHalfUnicode u i l m = sym (ap is_no_word (characters_after i l)) ∙ m

pub same_looks : (words : ℕ → Bool) (before line after : List ℕ) (l : Look) (i : ℕ) → IsWordSet words →
    IsLineBetween false before line after → is_anchor_crlf l ≡ false → i ≤ length line →
    line_looks words line l i ≡ line_looks words (block_of before line after) (line_look false l) (length before + i)
same_looks words before line after l i set is u within = look_same false before line after is words set refl l u i within

pub looks_go_on : (crlf : Bool) (words : ℕ → Bool) (before line after : List ℕ) (l : Look) (i : ℕ) → IsWordSet words →
    IsLineBetween crlf before line after → is_anchor_crlf l ≡ false → i ≤ length line → line_looks words line l i ≡ true →
    line_looks words (block_of before line after) (line_look crlf l) (length before + i) ≡ true
looks_go_on crlf words before line after l i set is u within m = look_goes_on crlf before line after is words set l u i within m
