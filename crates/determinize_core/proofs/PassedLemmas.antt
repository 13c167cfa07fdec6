-- Where looks hold, by the byte before an offset and the unit after it, in the order of reading. What a powerset state knows of them before
-- its unit.
use Rattle.std.proofs.Common.{◌≡◌, ℕ, ◌≤◌, ◌&&◌, ◌||◌, Bool, true, false, not, List, [], ◌∷◌, length, Option, Some, None, is_none, refl}
use Rattle.std.proofs.Common.{sym, ap, ◌∙◌}
use Rattle.std.proofs.Math.Bool.{or-false}
use Rattle.search_core.specs.Text.{byte_at, byte_before}
use Rattle.search_core.specs.Utf8.{is_word_byte}
use Rattle.look_core.specs.Codes.{same_look, reversed, is_anchor_haystack, is_anchor_lf, is_anchor_crlf, is_word_look}
use Rattle.look_core.specs.LookSets.{has_look, has_any}
use Rattle.look_core.specs.Looks.{Side, holds_ascii, byte_side, is_byte, is_word, is_no_word, is_line_end, word_if, is_edge_of_word}
use Rattle.look_core.specs.Looks.{is_no_edge_of_word, is_start_of_word, is_end_of_word}
use Rattle.look_core.specs.Terminators.{Terminator, ends_line}
use Rattle.look_core.specs.declared.look.Look.{Look}
use Rattle.look_core.specs.declared.look.Look.TheVariants.{Start as AtStart, End, StartLF, EndLF, StartCRLF, EndCRLF, WordAscii}
use Rattle.look_core.specs.declared.look.Look.TheVariants.{WordAsciiNegate, WordUnicode, WordUnicodeNegate, WordStartAscii, WordEndAscii}
use Rattle.look_core.specs.declared.look.Look.TheVariants.{WordStartUnicode, WordEndUnicode, WordStartHalfAscii, WordEndHalfAscii}
use Rattle.look_core.specs.declared.look.Look.TheVariants.{WordStartHalfUnicode, WordEndHalfUnicode}
use Rattle.look_core.proofs.ForCallers.{has_look-none, has_look-with, edge_turns, no_edge_turns}
use Rattle.nfa_core.specs.Ways.{span, is_satisfied}
use Rattle.determinize_core.specs.States.{StateValue}
use Rattle.determinize_core.specs.Starts.{start_of}
use Rattle.determinize_core.specs.LookBehind.{with_if, starts_of, families_of, known_at_line, known_at_byte, behind_start, look_behind}
use Rattle.determinize_core.specs.KnownBefore.{known_words, known_lines}
use Rattle.determinize_core.specs.Steps.{first_half, second_half, is_end, known_before, known_after, unit_at, unit_before}
use Rattle.determinize_core.specs.declared.lookbehind.Families.{Families}
use Rattle.determinize_core.proofs.EdgeLemmas.{none_before, none_at}
use Rattle.determinize_core.proofs.DecidedLemmas.{has_family, with_family, haystack_is, lines_is, crlf_is, words_is}
use Rattle.determinize_core.proofs.LookBehindLemmas.{start_cases}
use Rattle.determinize_core.proofs.ExactLemmas.{edge_exact, lines_exact, crlf_exact}
use Rattle.determinize_core.proofs.ExactLemmas.{half_exact, ascii_exact, unicode_exact, word_exact}

-- ---- where looks hold, in the order of reading

-- whether the look holds at an offset with o just before it and u just after it
abbrev pub passed_by : Bool → Terminator → Option ℕ → Option ℕ → Look → Bool
passed_by r t o u AtStart = is_none o
passed_by r t o u End = is_none u
passed_by r t o u StartLF = is_none o || is_line_end t o
passed_by r t o u EndLF = is_none u || is_line_end t u
passed_by r t o u StartCRLF = is_none o || is_byte (second_half r) o || (is_byte (first_half r) o && not (is_byte (second_half r) u))
passed_by r t o u EndCRLF = is_none u || is_byte (first_half r) u || (is_byte (second_half r) u && not (is_byte (first_half r) o))
passed_by r t o u WordAscii = is_edge_of_word (byte_side o) (byte_side u)
passed_by r t o u WordAsciiNegate = is_no_edge_of_word (byte_side o) (byte_side u)
passed_by r t o u WordUnicode = is_edge_of_word (byte_side o) (byte_side u)
passed_by r t o u WordUnicodeNegate = is_no_edge_of_word (byte_side o) (byte_side u)
passed_by r t o u WordStartAscii = is_start_of_word (byte_side o) (byte_side u)
passed_by r t o u WordEndAscii = is_end_of_word (byte_side o) (byte_side u)
passed_by r t o u WordStartUnicode = is_start_of_word (byte_side o) (byte_side u)
passed_by r t o u WordEndUnicode = is_end_of_word (byte_side o) (byte_side u)
passed_by r t o u WordStartHalfAscii = is_no_word (byte_side o)
passed_by r t o u WordEndHalfAscii = is_no_word (byte_side u)
passed_by r t o u WordStartHalfUnicode = is_no_word (byte_side o)
passed_by r t o u WordEndHalfUnicode = is_no_word (byte_side u)

and_turned : (a b : Bool) → (a && b) ≡ (b && a)
and_turned true true = refl
and_turned true false = refl
and_turned false true = refl
and_turned false false = refl

or_first : (a b c : Bool) → a ≡ b → (a || c) ≡ (b || c)
or_first a b c p = ap (λ x. x || c) p

forward_passed : (t : Terminator) (h : List ℕ) (i : ℕ) → i ≤ length h → (l : Look) →
    holds_ascii t h l i ≡ passed_by false t (byte_before h i) (byte_at h i) l
forward_passed t h i within AtStart = sym (none_before h i within)
forward_passed t h i within End = sym (none_at h i within)
forward_passed t h i within StartLF = or_first _ _ _ (sym (none_before h i within))
forward_passed t h i within EndLF = or_first _ _ _ (sym (none_at h i within))
forward_passed t h i within StartCRLF = or_first _ _ _ (or_first _ _ _ (sym (none_before h i within)))
forward_passed t h i within EndCRLF = or_first _ _ _ (or_first _ _ _ (sym (none_at h i within)))
forward_passed t h i within WordAscii = refl
forward_passed t h i within WordAsciiNegate = refl
forward_passed t h i within WordUnicode = refl
forward_passed t h i within WordUnicodeNegate = refl
forward_passed t h i within WordStartAscii = refl
forward_passed t h i within WordEndAscii = refl
forward_passed t h i within WordStartUnicode = refl
forward_passed t h i within WordEndUnicode = refl
forward_passed t h i within WordStartHalfAscii = refl
forward_passed t h i within WordEndHalfAscii = refl
forward_passed t h i within WordStartHalfUnicode = refl
forward_passed t h i within WordEndHalfUnicode = refl

reverse_passed : (t : Terminator) (h : List ℕ) (i : ℕ) → i ≤ length h → (l : Look) →
    holds_ascii t h (reversed l) i ≡ passed_by true t (byte_at h i) (byte_before h i) l
reverse_passed t h i within AtStart = sym (none_at h i within)
reverse_passed t h i within End = sym (none_before h i within)
reverse_passed t h i within StartLF = or_first _ _ _ (sym (none_at h i within))
reverse_passed t h i within EndLF = or_first _ _ _ (sym (none_before h i within))
reverse_passed t h i within StartCRLF = or_first _ _ _ (or_first _ _ _ (sym (none_at h i within)))
reverse_passed t h i within EndCRLF = or_first _ _ _ (or_first _ _ _ (sym (none_before h i within)))
reverse_passed t h i within WordAscii = edge_turns (byte_side (byte_before h i)) (byte_side (byte_at h i))
reverse_passed t h i within WordAsciiNegate = no_edge_turns (byte_side (byte_before h i)) (byte_side (byte_at h i))
reverse_passed t h i within WordUnicode = edge_turns (byte_side (byte_before h i)) (byte_side (byte_at h i))
reverse_passed t h i within WordUnicodeNegate = no_edge_turns (byte_side (byte_before h i)) (byte_side (byte_at h i))
reverse_passed t h i within WordStartAscii = and_turned (is_word (byte_side (byte_before h i))) (not (is_word (byte_side (byte_at h i))))
reverse_passed t h i within WordEndAscii = and_turned (not (is_word (byte_side (byte_before h i)))) (is_word (byte_side (byte_at h i)))
reverse_passed t h i within WordStartUnicode = and_turned (is_word (byte_side (byte_before h i))) (not (is_word (byte_side (byte_at h i))))
reverse_passed t h i within WordEndUnicode = and_turned (not (is_word (byte_side (byte_before h i)))) (is_word (byte_side (byte_at h i)))
reverse_passed t h i within WordStartHalfAscii = refl
reverse_passed t h i within WordEndHalfAscii = refl
reverse_passed t h i within WordStartHalfUnicode = refl
reverse_passed t h i within WordEndHalfUnicode = refl

pub looks_passed : (r : Bool) (t : Terminator) (h : List ℕ) (s e i : ℕ) → i ≤ length h → (l : Look) →
    is_satisfied r (span t h s e) l i ≡ passed_by r t (unit_before r h i) (unit_at r h i) l
looks_passed false t h s e i within l = forward_passed t h i within l
looks_passed true t h s e i within l = reverse_passed t h i within l

-- ---- the members of a set to which wanted looks are added

abbrev pub Wanted : Type 0
Wanted = Bool × Look

abbrev pub with_all : List Wanted → ℕ → ℕ
with_all [] s = s
with_all ((b, k) ∷ ws) s = with_if b k (with_all ws s)

abbrev pub any_wanted : List Wanted → Look → Bool → Bool
any_wanted [] l there = there
any_wanted ((b, k) ∷ ws) l there = (same_look l k && b) || any_wanted ws l there

with_one : (b : Bool) (k l : Look) (s : ℕ) → has_look (with_if b k s) l ≡ ((same_look l k && b) || has_look s l)
with_one true k l s = has_look-with s k l ∙ turned (has_look s l) (same_look l k)
  where
    turned : (a b : Bool) → (a || b) ≡ ((b && true) || a)
    turned true true = refl
    turned true false = refl
    turned false true = refl
    turned false false = refl
with_one false k l s = none (has_look s l) (same_look l k)
  where
    none : (a b : Bool) → a ≡ ((b && false) || a)
    none true true = refl
    none true false = refl
    none false true = refl
    none false false = refl

has_all_wanted : (ws : List Wanted) (s : ℕ) (l : Look) → has_look (with_all ws s) l ≡ any_wanted ws l (has_look s l)
has_all_wanted [] s l = refl
has_all_wanted ((b, k) ∷ ws) s l = with_one b k l (with_all ws s) ∙ ap (λ c. (same_look l k && b) || c) (has_all_wanted ws s l)

-- ---- sets of starts

abbrev starts_list : Families → List Wanted
starts_list f = (f.words, WordStartHalfUnicode) ∷ (f.words, WordStartHalfAscii) ∷ (f.crlf, StartCRLF) ∷ (f.lines, StartLF) ∷ (
  f.haystack,
  AtStart,
) ∷ []

starts_wanted : (f : Families) (l : Look) → has_look (starts_of f) l ≡ any_wanted (starts_list f) l false
starts_wanted f l = has_all_wanted (starts_list f) 0 l ∙ ap (any_wanted (starts_list f) l) (has_look-none l)

abbrev starts_has : Families → Look → Bool
starts_has f AtStart = f.haystack
starts_has f StartLF = f.lines
starts_has f StartCRLF = f.crlf
starts_has f WordStartHalfAscii = f.words
starts_has f WordStartHalfUnicode = f.words
starts_has f _ = false

starts_told : (f : Families) (l : Look) → has_look (starts_of f) l ≡ starts_has f l
starts_told f AtStart = starts_wanted f AtStart ∙ or-false f.haystack
starts_told f End = starts_wanted f End
starts_told f StartLF = starts_wanted f StartLF ∙ or-false f.lines
starts_told f EndLF = starts_wanted f EndLF
starts_told f StartCRLF = starts_wanted f StartCRLF ∙ or-false f.crlf
starts_told f EndCRLF = starts_wanted f EndCRLF
starts_told f WordAscii = starts_wanted f WordAscii
starts_told f WordAsciiNegate = starts_wanted f WordAsciiNegate
starts_told f WordUnicode = starts_wanted f WordUnicode
starts_told f WordUnicodeNegate = starts_wanted f WordUnicodeNegate
starts_told f WordStartAscii = starts_wanted f WordStartAscii
starts_told f WordEndAscii = starts_wanted f WordEndAscii
starts_told f WordStartUnicode = starts_wanted f WordStartUnicode
starts_told f WordEndUnicode = starts_wanted f WordEndUnicode
starts_told f WordStartHalfAscii = starts_wanted f WordStartHalfAscii ∙ or-false f.words
starts_told f WordEndHalfAscii = starts_wanted f WordEndHalfAscii
starts_told f WordStartHalfUnicode = starts_wanted f WordStartHalfUnicode ∙ or-false f.words
starts_told f WordEndHalfUnicode = starts_wanted f WordEndHalfUnicode

-- ---- what is known at an offset before the unit after it is read

-- whether a look is known by the byte before alone
abbrev pub progress_by : Bool → Terminator → Option ℕ → Look → Bool
progress_by r t o AtStart = is_none o
progress_by r t o StartLF = is_none o || is_line_end t o
progress_by r t o StartCRLF = is_none o || is_byte (second_half r) o
progress_by r t o WordStartHalfAscii = is_no_word (byte_side o)
progress_by r t o WordStartHalfUnicode = is_no_word (byte_side o)
progress_by r t o _ = false

-- of the looks in a set, exactly those are known at an offset with o just before it that o alone shows to hold
pub record IsTold (looks : ℕ) (r : Bool) (t : Terminator) (o : Option ℕ) (have : ℕ) : Type 0 where
  pub reported : (l : Look) → has_look looks l ≡ true → has_look have l ≡ progress_by r t o l

-- and so are the flags
pub record IsFlagged (looks : ℕ) (r : Bool) (o : Option ℕ) (from_word half_crlf : Bool) : Type 0 where
  pub word : has_any is_word_look looks ≡ true → from_word ≡ is_word (byte_side o)
  pub half : has_any is_anchor_crlf looks ≡ true → half_crlf ≡ is_byte (first_half r) o

-- what the byte before shows to hold does hold
pub told_holds : (r : Bool) (t : Terminator) (o u : Option ℕ) (l : Look) → progress_by r t o l ≡ true → passed_by r t o u l ≡ true
told_holds r t o u AtStart e = e
told_holds r t o u StartLF e = e
told_holds r t o u StartCRLF e = told_or (is_none o) (is_byte (second_half r) o) (is_byte (first_half r) o
    && not (is_byte (second_half r) u)) e
  where
    told_or : (a b c : Bool) → (a || b) ≡ true → (a || b || c) ≡ true
    told_or true b c e = refl
    told_or false true c e = refl
    told_or false false c e = let f : false ≡ true = e in cc
told_holds r t o u WordStartHalfAscii e = e
told_holds r t o u WordStartHalfUnicode e = e
told_holds r t o u _ e = let f : ⊥ = cc in absurd f

word_again : (o : Option ℕ) → word_if (is_word (byte_side o)) ≡ byte_side o
word_again None = refl
word_again (Some b) = twice (is_word_byte b)
  where
    twice : (w : Bool) → word_if (is_word (word_if w)) ≡ word_if w
    twice true = refl
    twice false = refl

end_is : (u : Option ℕ) → is_end u ≡ is_none u
end_is None = refl
end_is (Some b) = refl

-- the looks that the unit decides
abbrev pub known_list : Bool → Terminator → Bool → Bool → Option ℕ → List Wanted
known_list r t w c u =
    (is_end u, End)
    ∷ (is_end u || is_line_end t u, EndLF)
    ∷ (is_end u || (is_byte (first_half r) u || (is_byte (second_half r) u && not c)), EndCRLF)
    ∷ (c && not (is_byte (second_half r) u), StartCRLF)
    ∷ (is_edge_of_word (word_if w) (byte_side u), WordAscii)
    ∷ (is_edge_of_word (word_if w) (byte_side u), WordUnicode)
    ∷ (is_no_edge_of_word (word_if w) (byte_side u), WordAsciiNegate)
    ∷ (is_no_edge_of_word (word_if w) (byte_side u), WordUnicodeNegate)
    ∷ (is_start_of_word (word_if w) (byte_side u), WordStartAscii)
    ∷ (is_start_of_word (word_if w) (byte_side u), WordStartUnicode)
    ∷ (is_end_of_word (word_if w) (byte_side u), WordEndAscii)
    ∷ (is_end_of_word (word_if w) (byte_side u), WordEndUnicode)
    ∷ (is_no_word (byte_side u), WordEndHalfAscii)
    ∷ (is_no_word (byte_side u), WordEndHalfUnicode)
    ∷ []

pub known_wanted : (r : Bool) (t : Terminator) (v : StateValue) (u : Option ℕ) (l : Look) →
    has_look (known_before r t v u) l ≡ any_wanted (known_list r t v.is_from_word v.is_half_crlf u) l (has_look v.look_have l)
unfolding known_words known_lines
known_wanted r t v u l = has_all_wanted (known_list r t v.is_from_word v.is_half_crlf u) v.look_have l

module _ (looks : ℕ) (r : Bool) (t : Terminator) (o u : Option ℕ) (w c : Bool) (flagged : IsFlagged looks r o w c) where
  side_is : (l : Look) → is_word_look l ≡ true → has_look looks l ≡ true → word_if w ≡ byte_side o
  side_is l k m = ap word_if (flagged.word (has_family is_word_look looks l m k)) ∙ word_again o

  half_is : (l : Look) → is_anchor_crlf l ≡ true → has_look looks l ≡ true → c ≡ is_byte (first_half r) o
  half_is l k m = flagged.half (has_family is_anchor_crlf looks l m k)

  by_word : (test : Side → Side → Bool) (l : Look) → is_word_look l ≡ true → has_look looks l ≡ true →
      (test (word_if w) (byte_side u) || false) ≡ test (byte_side o) (byte_side u)
  by_word test l k m = or-false (test (word_if w) (byte_side u)) ∙ ap (λ x. test x (byte_side u)) (side_is l k m)

  -- what the unit decides, with what the byte before shows, is all that holds
  decided_passed : (l : Look) → has_look looks l ≡ true → any_wanted (known_list r t w c u) l (progress_by r t o l) ≡ passed_by r t o u l
  decided_passed AtStart m = refl
  decided_passed End m = or-false (is_end u) ∙ end_is u
  decided_passed StartLF m = refl
  decided_passed EndLF m = or-false (is_end u || is_line_end t u) ∙ ap (λ b. b || is_line_end t u) (end_is u)
  decided_passed StartCRLF m =
      ap (λ b. (b && not (is_byte (second_half r) u)) || (is_none o || is_byte (second_half r) o)) (half_is StartCRLF refl m)
      ∙ turned (is_byte (first_half r) o && not (is_byte (second_half r) u)) (is_none o) (is_byte (second_half r) o)
    where
      turned : (a b c : Bool) → (a || (b || c)) ≡ (b || c || a)
      turned true true c = refl
      turned true false true = refl
      turned true false false = refl
      turned false true c = refl
      turned false false true = refl
      turned false false false = refl
  decided_passed EndCRLF m =
      or-false (is_end u || (is_byte (first_half r) u || (is_byte (second_half r) u && not c)))
      ∙ ap (λ b. b || (is_byte (first_half r) u || (is_byte (second_half r) u && not c))) (end_is u)
      ∙ ap (λ b. is_none u || (is_byte (first_half r) u || (is_byte (second_half r) u && not b))) (half_is EndCRLF refl m)
      ∙ grouped (is_none u) (is_byte (first_half r) u) (is_byte (second_half r) u && not (is_byte (first_half r) o))
    where
      grouped : (a b c : Bool) → (a || (b || c)) ≡ (a || b || c)
      grouped true b c = refl
      grouped false true c = refl
      grouped false false c = refl
  decided_passed WordAscii m = by_word is_edge_of_word WordAscii refl m
  decided_passed WordAsciiNegate m = by_word is_no_edge_of_word WordAsciiNegate refl m
  decided_passed WordUnicode m = by_word is_edge_of_word WordUnicode refl m
  decided_passed WordUnicodeNegate m = by_word is_no_edge_of_word WordUnicodeNegate refl m
  decided_passed WordStartAscii m = by_word is_start_of_word WordStartAscii refl m
  decided_passed WordEndAscii m = by_word is_end_of_word WordEndAscii refl m
  decided_passed WordStartUnicode m = by_word is_start_of_word WordStartUnicode refl m
  decided_passed WordEndUnicode m = by_word is_end_of_word WordEndUnicode refl m
  decided_passed WordStartHalfAscii m = refl
  decided_passed WordEndHalfAscii m = or-false (is_no_word (byte_side u))
  decided_passed WordStartHalfUnicode m = refl
  decided_passed WordEndHalfUnicode m = or-false (is_no_word (byte_side u))

-- all of an automaton's looks that hold at an offset are known before its unit
pub known_passed : (looks : ℕ) (r : Bool) (t : Terminator) (o u : Option ℕ) (v : StateValue) →
    IsFlagged looks r o v.is_from_word v.is_half_crlf →
    IsTold looks r t o v.look_have → (l : Look) → has_look looks l ≡ true → has_look (known_before r t v u) l ≡ passed_by r t o u l
known_passed looks r t o u v flagged is l m =
    known_wanted r t v u l
    ∙ ap (any_wanted (known_list r t v.is_from_word v.is_half_crlf u) l) (is.reported l m)
    ∙ decided_passed looks r t o u v.is_from_word v.is_half_crlf flagged l m

-- ---- what is known at a start, and after a unit

true_with : (a b : Bool) → a ≡ true → (a && b) ≡ b
true_with true b e = refl
true_with false b e = let f : false ≡ true = e in cc

module _ (looks : ℕ) (r : Bool) (t : Terminator) where
  abbrev asked : Families
  asked = families_of looks

  haystack_asked : (l : Look) → is_anchor_haystack l ≡ true → has_look looks l ≡ true → asked.haystack ≡ true
  haystack_asked l k m = haystack_is looks ∙ has_family is_anchor_haystack looks l m k

  lines_asked : (l : Look) → is_anchor_lf l ≡ true → has_look looks l ≡ true → asked.lines ≡ true
  lines_asked l k m = lines_is looks ∙ has_family is_anchor_lf looks l m k

  crlf_asked : (l : Look) → is_anchor_crlf l ≡ true → has_look looks l ≡ true → asked.crlf ≡ true
  crlf_asked l k m = crlf_is looks ∙ has_family is_anchor_crlf looks l m k

  words_asked : (l : Look) → is_word_look l ≡ true → has_look looks l ≡ true → asked.words ≡ true
  words_asked l k m = words_is looks ∙ has_family is_word_look looks l m k

  -- a look that is none of the five of a start is not known
  not_known : (l : Look) → ((f : Families) → has_look (starts_of f) l ≡ false) → (o : Option ℕ) →
      has_look (behind_start asked r t (start_of t o)).look_have l ≡ false
  not_known l none None = none asked
  not_known l none (Some b) = start_cases asked r t b (λ x. has_look x.look_have l ≡ false)
      (λ is. none (known_at_line asked r (ends_line t 0x0A))) (λ is. none (known_at_line asked (not r) (ends_line t 0x0D)))
      (λ n m. none (known_at_byte asked (ends_line t b) (is_word_byte b)))

  start_has : (o : Option ℕ) (l : Look) → has_look looks l ≡ true → has_look
      (behind_start asked r t (start_of t o)).look_have l ≡ progress_by r t o l
  start_has o AtStart m = edge_exact asked r t o ∙ with_family _ _ (haystack_asked AtStart refl m)
  start_has o StartLF m = lines_exact asked r t o ∙ with_family _ _ (lines_asked StartLF refl m)
  start_has o StartCRLF m = crlf_exact asked r t o ∙ with_family _ _ (crlf_asked StartCRLF refl m)
  start_has o WordStartHalfAscii m = ascii_exact asked r t o ∙ with_family _ _ (words_asked WordStartHalfAscii refl m)
  start_has o WordStartHalfUnicode m = unicode_exact asked r t o ∙ with_family _ _ (words_asked WordStartHalfUnicode refl m)
  start_has o End m = not_known End (λ f. starts_told f End) o
  start_has o EndLF m = not_known EndLF (λ f. starts_told f EndLF) o
  start_has o EndCRLF m = not_known EndCRLF (λ f. starts_told f EndCRLF) o
  start_has o WordAscii m = not_known WordAscii (λ f. starts_told f WordAscii) o
  start_has o WordAsciiNegate m = not_known WordAsciiNegate (λ f. starts_told f WordAsciiNegate) o
  start_has o WordUnicode m = not_known WordUnicode (λ f. starts_told f WordUnicode) o
  start_has o WordUnicodeNegate m = not_known WordUnicodeNegate (λ f. starts_told f WordUnicodeNegate) o
  start_has o WordStartAscii m = not_known WordStartAscii (λ f. starts_told f WordStartAscii) o
  start_has o WordEndAscii m = not_known WordEndAscii (λ f. starts_told f WordEndAscii) o
  start_has o WordStartUnicode m = not_known WordStartUnicode (λ f. starts_told f WordStartUnicode) o
  start_has o WordEndUnicode m = not_known WordEndUnicode (λ f. starts_told f WordEndUnicode) o
  start_has o WordEndHalfAscii m = not_known WordEndHalfAscii (λ f. starts_told f WordEndHalfAscii) o
  start_has o WordEndHalfUnicode m = not_known WordEndHalfUnicode (λ f. starts_told f WordEndHalfUnicode) o

  pub start_is_told : (o : Option ℕ) → IsTold looks r t o (look_behind looks r t (start_of t o)).look_have
  start_is_told o = record { reported = start_has o }

  pub start_is_flagged : (o : Option ℕ) →
      IsFlagged looks r o (look_behind looks r t (start_of t o)).is_from_word (look_behind looks r t (start_of t o)).is_half_crlf
  start_is_flagged o = record {
    word = λ m. word_exact asked r t o ∙ with_family _ _ (words_is looks ∙ m);
    half = λ m. half_exact asked r t o ∙ with_family _ _ (crlf_is looks ∙ m);
  }

  abbrev pub seen_behind : Option ℕ → Families
  seen_behind u = record {
    haystack = false;
    lines = asked.lines && is_line_end t u;
    crlf = asked.crlf && is_byte (second_half r) u;
    words = asked.words && is_no_word (byte_side u);
  }

  behind_has : (b : ℕ) (l : Look) → has_look looks l ≡ true → has_look (known_after asked r t (Some b)) l ≡ progress_by r t (Some b) l
  behind_has b AtStart m = starts_told (seen_behind (Some b)) AtStart
  behind_has b StartLF m = starts_told (seen_behind (Some b)) StartLF ∙ true_with _ _ (lines_asked StartLF refl m)
  behind_has b StartCRLF m = starts_told (seen_behind (Some b)) StartCRLF ∙ true_with _ _ (crlf_asked StartCRLF refl m)
  behind_has b WordStartHalfAscii m = starts_told (seen_behind (Some b)) WordStartHalfAscii
      ∙ true_with _ _ (words_asked WordStartHalfAscii refl m)
  behind_has b WordStartHalfUnicode m = starts_told (seen_behind (Some b)) WordStartHalfUnicode
      ∙ true_with _ _ (words_asked WordStartHalfUnicode refl m)
  behind_has b End m = starts_told (seen_behind (Some b)) End
  behind_has b EndLF m = starts_told (seen_behind (Some b)) EndLF
  behind_has b EndCRLF m = starts_told (seen_behind (Some b)) EndCRLF
  behind_has b WordAscii m = starts_told (seen_behind (Some b)) WordAscii
  behind_has b WordAsciiNegate m = starts_told (seen_behind (Some b)) WordAsciiNegate
  behind_has b WordUnicode m = starts_told (seen_behind (Some b)) WordUnicode
  behind_has b WordUnicodeNegate m = starts_told (seen_behind (Some b)) WordUnicodeNegate
  behind_has b WordStartAscii m = starts_told (seen_behind (Some b)) WordStartAscii
  behind_has b WordEndAscii m = starts_told (seen_behind (Some b)) WordEndAscii
  behind_has b WordStartUnicode m = starts_told (seen_behind (Some b)) WordStartUnicode
  behind_has b WordEndUnicode m = starts_told (seen_behind (Some b)) WordEndUnicode
  behind_has b WordEndHalfAscii m = starts_told (seen_behind (Some b)) WordEndHalfAscii
  behind_has b WordEndHalfUnicode m = starts_told (seen_behind (Some b)) WordEndHalfUnicode

  pub behind_is_told : (b : ℕ) → IsTold looks r t (Some b) (known_after asked r t (Some b))
  behind_is_told b = record { reported = behind_has b }

  -- the flags of a step, if its states are not all captures
  pub behind_is_flagged : (u : Option ℕ) (some : Bool) → some ≡ true →
      IsFlagged looks r u (asked.words && (is_word (byte_side u) && some)) (asked.crlf && (is_byte (first_half r) u && some))
  behind_is_flagged u some e = record {
    word = λ m. true_with _ _ (words_is looks ∙ m) ∙ with_family _ _ e;
    half = λ m. true_with _ _ (crlf_is looks ∙ m) ∙ with_family _ _ e;
  }
