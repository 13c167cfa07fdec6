-- A start has, of each family that is asked for, all looks that hold by what stands before the offset.
use Rattle.std.proofs.Common.{◌≡◌, ◌≢◌, ℕ, ◌==◌, ◌&&◌, ◌||◌, Bool, true, false, not, Option, Some, None, is_none, refl, sym, ap, ◌∙◌}
use Rattle.std.proofs.lemmas.Bool.{ne_eqb}
use Rattle.search_core.specs.Utf8.{is_word_byte}
use Rattle.look_core.specs.LookSets.{has_look}
use Rattle.look_core.specs.Looks.{byte_side, is_word, is_no_word, is_byte, is_line_end, word_if}
use Rattle.look_core.specs.Codes.{same_look}
use Rattle.look_core.specs.Terminators.{Terminator, ends_line}
use Rattle.look_core.specs.declared.look.Look.{Look}
use Rattle.look_core.specs.declared.look.Look.TheVariants.{Start as AtStart, StartLF, StartCRLF, WordStartHalfAscii, WordStartHalfUnicode}
use Rattle.look_core.proofs.ForCallers.{has_look-none, has_look-with}
use Rattle.determinize_core.specs.Starts.{start_of}
use Rattle.determinize_core.specs.LookBehind.{with_if, starts_of, known_at_line, known_at_byte, behind_start}
use Rattle.determinize_core.specs.Steps.{first_half, second_half}
use Rattle.determinize_core.proofs.LookBehindLemmas.{start_cases}
use Rattle.determinize_core.specs.declared.lookbehind.Families.{Families}

-- ---- the members of a set of starts

other : (b : Bool) (k l : Look) (s : ℕ) → same_look l k ≡ false → has_look (with_if b k s) l ≡ has_look s l
other true k l s e = has_look-with s k l ∙ or_none _ _ e
  where
    or_none : (a b : Bool) → b ≡ false → (a || b) ≡ a
    or_none true b e = refl
    or_none false b e = e
other false k l s e = refl

itself : (b : Bool) (k : Look) (s : ℕ) → same_look k k ≡ true → has_look s k ≡ false → has_look (with_if b k s) k ≡ b
itself true k s e none = has_look-with s k k ∙ either _ _ e
  where
    either : (a b : Bool) → b ≡ true → (a || b) ≡ true
    either true b e = refl
    either false b e = e
itself false k s e none = none

pub haystack_of : (f : Families) → has_look (starts_of f) AtStart ≡ f.haystack
haystack_of f =
    other f.words WordStartHalfUnicode AtStart _ refl
    ∙ other f.words WordStartHalfAscii AtStart _ refl
    ∙ other f.crlf StartCRLF AtStart _ refl
    ∙ other f.lines StartLF AtStart _ refl
    ∙ itself f.haystack AtStart 0 refl (has_look-none AtStart)

pub lines_of : (f : Families) → has_look (starts_of f) StartLF ≡ f.lines
lines_of f =
    other f.words WordStartHalfUnicode StartLF _ refl
    ∙ other f.words WordStartHalfAscii StartLF _ refl
    ∙ other f.crlf StartCRLF StartLF _ refl
    ∙ itself f.lines StartLF _ refl (other f.haystack AtStart StartLF 0 refl ∙ has_look-none StartLF)

pub crlf_of : (f : Families) → has_look (starts_of f) StartCRLF ≡ f.crlf
crlf_of f =
    other f.words WordStartHalfUnicode StartCRLF _ refl
    ∙ other f.words WordStartHalfAscii StartCRLF _ refl
    ∙ itself f.crlf StartCRLF _ refl (other f.lines StartLF StartCRLF _ refl ∙ other f.haystack AtStart StartCRLF 0 refl
    ∙ has_look-none StartCRLF)

-- neither of the looks at words is in the set of the three others
no_word_look : (f : Families) (l : Look) → same_look l StartCRLF ≡ false → same_look l StartLF ≡ false → same_look l AtStart ≡ false →
    has_look (with_if f.crlf StartCRLF (with_if f.lines StartLF (with_if f.haystack AtStart 0))) l ≡ false
no_word_look f l p q r = other f.crlf StartCRLF l _ p ∙ other f.lines StartLF l _ q ∙ other f.haystack AtStart l 0 r ∙ has_look-none l

pub ascii_of : (f : Families) → has_look (starts_of f) WordStartHalfAscii ≡ f.words
ascii_of f =
    other f.words WordStartHalfUnicode WordStartHalfAscii _ refl
    ∙ itself f.words WordStartHalfAscii _ refl (no_word_look f WordStartHalfAscii refl refl refl)

pub unicode_of : (f : Families) → has_look (starts_of f) WordStartHalfUnicode ≡ f.words
unicode_of f =
    itself f.words WordStartHalfUnicode _ refl
    (other f.words WordStartHalfAscii WordStartHalfUnicode _ refl ∙ no_word_look f WordStartHalfUnicode refl refl refl)

-- ---- what a start knows, by the byte that stands before the offset

pub first_is_line_feed : (r : Bool) → r ≡ (first_half r == 0x0A)
first_is_line_feed true = refl
first_is_line_feed false = refl

pub first_is_carriage_return : (r : Bool) → not r ≡ (first_half r == 0x0D)
first_is_carriage_return true = refl
first_is_carriage_return false = refl

pub second_is_line_feed : (r : Bool) → not r ≡ (second_half r == 0x0A)
second_is_line_feed true = refl
second_is_line_feed false = refl

pub second_is_carriage_return : (r : Bool) → not (not r) ≡ (second_half r == 0x0D)
second_is_carriage_return true = refl
second_is_carriage_return false = refl

pub no_first : (r : Bool) (b : ℕ) → b ≢ 0x0A → b ≢ 0x0D → (first_half r == b) ≡ false
no_first true b n m = ne_eqb 0x0A b (λ e. n (sym e))
no_first false b n m = ne_eqb 0x0D b (λ e. m (sym e))

pub no_second : (r : Bool) (b : ℕ) → b ≢ 0x0A → b ≢ 0x0D → (second_half r == b) ≡ false
no_second true b n m = ne_eqb 0x0D b (λ e. m (sym e))
no_second false b n m = ne_eqb 0x0A b (λ e. n (sym e))

is_word-word_if : (w : Bool) → is_word (word_if w) ≡ w
is_word-word_if true = refl
is_word-word_if false = refl

is_no_word-word_if : (w : Bool) → is_no_word (word_if w) ≡ not w
is_no_word-word_if true = refl
is_no_word-word_if false = refl

module _ (f : Families) (reverse : Bool) (t : Terminator) where
  abbrev at_line_feed : Families
  at_line_feed = known_at_line f reverse (ends_line t 0x0A)

  abbrev at_carriage_return : Families
  at_carriage_return = known_at_line f (not reverse) (ends_line t 0x0D)

  abbrev at_byte : ℕ → Families
  at_byte b = known_at_byte f (ends_line t b) (is_word_byte b)

  pub edge_exact : (o : Option ℕ) → has_look (behind_start f reverse t (start_of t o)).look_have AtStart ≡ (is_none o && f.haystack)
  edge_exact None = haystack_of f
  edge_exact (Some b) =
      start_cases f reverse t b (λ x. has_look x.look_have AtStart ≡ false) (λ _. haystack_of at_line_feed)
      (λ _. haystack_of at_carriage_return) (λ _ _. haystack_of (at_byte b))

  pub lines_exact : (o : Option ℕ) → has_look (behind_start f reverse t (start_of t o)).look_have StartLF ≡ ((is_none o || is_line_end t o)
      && f.lines)
  lines_exact None = lines_of f
  lines_exact (Some b) =
      start_cases f reverse t b (λ x. has_look x.look_have StartLF ≡ (ends_line t b && f.lines))
      (λ is. lines_of at_line_feed ∙ ap (λ c. ends_line t c && f.lines) (sym is))
      (λ is. lines_of at_carriage_return ∙ ap (λ c. ends_line t c && f.lines) (sym is))
      (λ _ _. lines_of (at_byte b))

  pub crlf_exact : (o : Option ℕ) →
      has_look (behind_start f reverse t (start_of t o)).look_have StartCRLF ≡ ((is_none o || is_byte (second_half reverse) o) && f.crlf)
  crlf_exact None = crlf_of f
  crlf_exact (Some b) =
      start_cases f reverse t b (λ x. has_look x.look_have StartCRLF ≡ ((second_half reverse == b) && f.crlf))
      (λ is. crlf_of at_line_feed ∙ ap (λ c. c && f.crlf) (second_is_line_feed reverse ∙ ap (λ c. second_half reverse == c) (sym is)))
      (λ is. crlf_of at_carriage_return ∙ ap (λ c. c && f.crlf) (second_is_carriage_return reverse
      ∙ ap (λ c. second_half reverse == c) (sym is)))
      (λ n m. crlf_of (at_byte b) ∙ ap (λ c. c && f.crlf) (sym (no_second reverse b n m)))

  pub half_exact : (o : Option ℕ) → (behind_start f reverse t (start_of t o)).is_half_crlf ≡ (is_byte (first_half reverse) o && f.crlf)
  half_exact None = refl
  half_exact (Some b) =
      start_cases f reverse t b (λ x. x.is_half_crlf ≡ ((first_half reverse == b) && f.crlf))
      (λ is. ap (λ c. c && f.crlf) (first_is_line_feed reverse ∙ ap (λ c. first_half reverse == c) (sym is)))
      (λ is. ap (λ c. c && f.crlf) (first_is_carriage_return reverse ∙ ap (λ c. first_half reverse == c) (sym is)))
      (λ n m. ap (λ c. c && f.crlf) (sym (no_first reverse b n m)))

  pub ascii_exact : (o : Option ℕ) →
      has_look (behind_start f reverse t (start_of t o)).look_have WordStartHalfAscii ≡ (is_no_word (byte_side o) && f.words)
  ascii_exact None = ascii_of f
  ascii_exact (Some b) =
      start_cases f reverse t b (λ x. has_look x.look_have WordStartHalfAscii ≡ (is_no_word (byte_side (Some b)) && f.words))
      (λ is. ascii_of at_line_feed ∙ ap (λ c. is_no_word (byte_side (Some c)) && f.words) (sym is))
      (λ is. ascii_of at_carriage_return ∙ ap (λ c. is_no_word (byte_side (Some c)) && f.words) (sym is))
      (λ _ _. ascii_of (at_byte b) ∙ ap (λ c. c && f.words) (sym (is_no_word-word_if (is_word_byte b))))

  pub unicode_exact : (o : Option ℕ) →
      has_look (behind_start f reverse t (start_of t o)).look_have WordStartHalfUnicode ≡ (is_no_word (byte_side o) && f.words)
  unicode_exact None = unicode_of f
  unicode_exact (Some b) =
      start_cases f reverse t b (λ x. has_look x.look_have WordStartHalfUnicode ≡ (is_no_word (byte_side (Some b)) && f.words))
      (λ is. unicode_of at_line_feed ∙ ap (λ c. is_no_word (byte_side (Some c)) && f.words) (sym is))
      (λ is. unicode_of at_carriage_return ∙ ap (λ c. is_no_word (byte_side (Some c)) && f.words) (sym is))
      (λ _ _. unicode_of (at_byte b) ∙ ap (λ c. c && f.words) (sym (is_no_word-word_if (is_word_byte b))))

  pub word_exact : (o : Option ℕ) → (behind_start f reverse t (start_of t o)).is_from_word ≡ (is_word (byte_side o) && f.words)
  word_exact None = refl
  word_exact (Some b) =
      start_cases f reverse t b (λ x. x.is_from_word ≡ (is_word (byte_side (Some b)) && f.words))
      (λ is. ap (λ c. is_word (byte_side (Some c)) && f.words) (sym is))
      (λ is. ap (λ c. is_word (byte_side (Some c)) && f.words) (sym is))
      (λ _ _. ap (λ c. c && f.words) (sym (is_word-word_if (is_word_byte b))))
