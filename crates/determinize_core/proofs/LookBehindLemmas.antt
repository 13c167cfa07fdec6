-- What is known by a start is true of the bytes that are there.
use Rattle.std.proofs.Common.{◌≡◌, ◌≢◌, ℕ, ◌==◌, ◌&&◌, ◌||◌, Bool, true, false, not, Option, Some, None, refl, sym, ap, ◌∙◌, subst, cond}
use Rattle.std.proofs.lemmas.Bool.{eqb-true, eqb-false, not-false}
use Rattle.search_core.specs.Utf8.{is_word_byte}
use Rattle.look_core.specs.LookSets.{has_look, with_look}
use Rattle.look_core.specs.Looks.{byte_side, is_no_word, is_line_end}
use Rattle.look_core.specs.Codes.{bit_of, same_look}
use Rattle.look_core.specs.Terminators.{Terminator, ends_line}
use Rattle.look_core.specs.declared.look.Look.{Look}
use Rattle.look_core.specs.declared.look.Look.TheVariants.{Start as AtStart, StartLF, StartCRLF, WordStartHalfAscii, WordStartHalfUnicode}
use Rattle.look_core.proofs.ForCallers.{has_look-none, has_look-with, same_from_bit}
use Rattle.determinize_core.specs.Starts.{start_by, start_of}
use Rattle.determinize_core.specs.LookBehind.{with_if, starts_of, after_nothing, after_line_end, after_byte, behind_start}
use Rattle.determinize_core.specs.declared.start.Start.TheVariants.{LineLF, LineCR}
use Rattle.determinize_core.specs.declared.lookbehind.Families.{Families}
use Rattle.determinize_core.specs.declared.lookbehind.LookBehind.{LookBehind}
use Rattle.search_types.proofs.ForCallers.{both_left}

-- What holds of the look-behind of each kind of byte holds of the look-behind of the byte b.
module _ (f : Families) (reverse : Bool) (t : Terminator) (b : ℕ) (G : LookBehind → Type 0) where
  by_tests : (p q e w : Bool) → p ≡ (b == 0x0A) → q ≡ (b == 0x0D) →
      (b ≡ 0x0A → G (after_line_end f reverse (ends_line t 0x0A))) → (b ≡ 0x0D → G (after_line_end f (not reverse) (ends_line t 0x0D))) →
      (b ≢ 0x0A → b ≢ 0x0D → G (after_byte f e w)) → G (behind_start f reverse t (cond p LineLF (cond q LineCR (start_by e w))))
  by_tests true q e w p' q' line_feed carriage_return byte = line_feed (eqb-true b 0x0A (sym p'))
  by_tests false true e w p' q' line_feed carriage_return byte = carriage_return (eqb-true b 0x0D (sym q'))
  by_tests false false true true p' q' line_feed carriage_return byte = byte (eqb-false b 0x0A (sym p')) (eqb-false b 0x0D (sym q'))
  by_tests false false true false p' q' line_feed carriage_return byte = byte (eqb-false b 0x0A (sym p')) (eqb-false b 0x0D (sym q'))
  by_tests false false false true p' q' line_feed carriage_return byte = byte (eqb-false b 0x0A (sym p')) (eqb-false b 0x0D (sym q'))
  by_tests false false false false p' q' line_feed carriage_return byte = byte (eqb-false b 0x0A (sym p')) (eqb-false b 0x0D (sym q'))

  pub start_cases : (b ≡ 0x0A → G (after_line_end f reverse (ends_line t 0x0A))) →
      (b ≡ 0x0D → G (after_line_end f (not reverse) (ends_line t 0x0D))) →
      (b ≢ 0x0A → b ≢ 0x0D → G (after_byte f (ends_line t b) (is_word_byte b))) → G (behind_start f reverse t (start_of t (Some b)))
  start_cases = by_tests _ _ _ _ refl refl

-- P holds of each member of the set
abbrev pub Each : (Look → Type 0) → ℕ → Type 0
Each P s = (l : Look) → has_look s l ≡ true → P l

none_hold : (P : Look → Type 0) → Each P 0
none_hold P l m = cc (has_look-none l)

same : (k l : Look) → same_look l k ≡ true → k ≡ l
same k l e = same_from_bit k l (sym (eqb-true (bit_of l) (bit_of k) e))

member_of_either : (P : Look → Type 0) (s : ℕ) (k l : Look) (a b : Bool) → has_look s l ≡ a → same_look l k ≡ b → P k → Each P s →
    (a || b) ≡ true → P l
member_of_either P s k l true b e f p h m = h l e
member_of_either P s k l false true e f p h m = subst P (same k l f) p
member_of_either P s k l false false e f p h m = cc

with_hold : (P : Look → Type 0) (k : Look) (s : ℕ) → P k → Each P s → Each P (with_look s k)
with_hold P k s p h l m = member_of_either P s k l _ _ refl refl p h (sym (has_look-with s k l) ∙ m)

if_hold : (P : Look → Type 0) (b : Bool) (k : Look) (s : ℕ) → (b ≡ true → P k) → Each P s → Each P (with_if b k s)
if_hold P true k s p h = with_hold P k s (p refl) h
if_hold P false k s p h = h

both_not : (a b : Bool) → (not a && b) ≡ true → a ≡ false
both_not true b e = sym e
both_not false b e = refl

never : (A : Type 0) → false ≡ true → A
never A e = let none : ⊥ = cc in absurd none

-- What P holds of, for the byte o that stands before the offset, if there is one: what a start knows of looks.
pub record Allows (reverse : Bool) (t : Terminator) (o : Option ℕ) (P : Look → Type 0) : Type 0 where
  pub edge : o ≡ None → P AtStart
  pub edge_of_line : o ≡ None → P StartLF
  pub edge_of_crlf : o ≡ None → P StartCRLF
  pub line : is_line_end t o ≡ true → P StartLF
  pub line_feed : reverse ≡ false → o ≡ Some 0x0A → P StartCRLF
  pub carriage_return : reverse ≡ true → o ≡ Some 0x0D → P StartCRLF
  pub ascii : is_no_word (byte_side o) ≡ true → P WordStartHalfAscii
  pub unicode : is_no_word (byte_side o) ≡ true → P WordStartHalfUnicode

module _ (P : Look → Type 0) where
  starts_hold : (f : Families) → (f.haystack ≡ true → P AtStart) → (f.lines ≡ true → P StartLF) → (f.crlf ≡ true → P StartCRLF) →
      (f.words ≡ true → P WordStartHalfAscii) → (f.words ≡ true → P WordStartHalfUnicode) → Each P (starts_of f)
  starts_hold f edge line crlf ascii unicode =
      if_hold P f.words WordStartHalfUnicode _ unicode
      (if_hold P f.words WordStartHalfAscii _ ascii
      (if_hold P f.crlf StartCRLF _ crlf (if_hold P f.lines StartLF _ line (if_hold P f.haystack AtStart 0 edge (none_hold P)))))

module _ (f : Families) (reverse : Bool) (t : Terminator) (P : Look → Type 0) where
  nothing_holds : Allows reverse t None P → Each P (after_nothing f).look_have
  nothing_holds a = starts_hold P f (λ _. a.edge refl) (λ _. a.edge_of_line refl) (λ _. a.edge_of_crlf refl) (λ _. a.ascii refl)
      (λ _. a.unicode refl)

  line_holds : (b : ℕ) (first ends : Bool) → Allows reverse t (Some b) P → is_word_byte b ≡ false → (ends ≡ true → ends_line t b ≡ true) →
      (first ≡ false → P StartCRLF) →
      Each P (after_line_end f first ends).look_have
  line_holds b first ends a w e p =
      let none : is_no_word (byte_side (Some b)) ≡ true = rw w refl in
      starts_hold P _ (never (P AtStart)) (λ u. a.line (e (both_left ends f.lines u))) (λ u. p (both_not first f.crlf u))
      (λ _. a.ascii none) (λ _. a.unicode none)

  byte_holds : (b : ℕ) (ends word : Bool) → Allows reverse t (Some b) P → ends ≡ ends_line t b → word ≡ is_word_byte b →
      Each P (after_byte f ends word).look_have
  byte_holds b ends word a e w =
      let none : word ≡ false → is_no_word (byte_side (Some b)) ≡ true = λ n. rw (sym w ∙ n) refl in
      starts_hold P _ (never (P AtStart)) (λ u. a.line (sym e ∙ both_left ends f.lines u)) (never (P StartCRLF))
      (λ u. a.ascii (none (both_not word f.words u))) (λ u. a.unicode (none (both_not word f.words u)))

  pub known_holds : (o : Option ℕ) → Allows reverse t o P → Each P (behind_start f reverse t (start_of t o)).look_have
  known_holds None a = nothing_holds a
  known_holds (Some b) a =
      start_cases f reverse t b (λ x. Each P x.look_have)
      (λ is. line_holds b reverse (ends_line t 0x0A) a (ap is_word_byte is) (λ u. ap (ends_line t) is
      ∙ u) (λ r. a.line_feed r (ap Some is)))
      (λ is. line_holds b (not reverse) (ends_line t 0x0D) a (ap is_word_byte is) (λ u. ap (ends_line t) is
      ∙ u) (λ r. a.carriage_return (not-false reverse r) (ap Some is)))
      (λ _ _. byte_holds b (ends_line t b) (is_word_byte b) a refl refl)
