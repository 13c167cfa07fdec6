-- What is decided by the byte next to an offset is known there, of the looks that an automaton has.
use Rattle.std.proofs.Common.{◌≡◌, ℕ, ◌≤◌, ◌==◌, ◌&&◌, ◌||◌, Bool, true, false, List, length, Option, is_none, refl, ap, ◌∙◌}
use Rattle.std.proofs.lemmas.List.Folds.{list_any_at}
use Rattle.search_core.specs.Text.{byte_at, byte_before}
use Rattle.look_core.specs.Codes.{all_looks, bit_of, reversed, is_anchor_haystack, is_anchor_lf, is_anchor_crlf, is_word_look}
use Rattle.look_core.specs.LookSets.{has_look, has_any}
use Rattle.look_core.specs.Looks.{holds_ascii, byte_side, is_byte, is_word, is_no_word, is_line_end}
use Rattle.look_core.specs.Terminators.{Terminator}
use Rattle.look_core.specs.declared.look.Look.{Look}
use Rattle.look_core.specs.declared.look.Look.TheVariants.{Start as AtStart, StartLF, StartCRLF, WordStartHalfAscii, WordStartHalfUnicode}
use Rattle.look_core.proofs.ForCallers.{look_at-bit_of, bit_of-lt}
use Rattle.determinize_core.specs.Starts.{start_of}
use Rattle.determinize_core.specs.LookBehind.{families_of, look_behind, is_decided}
use Rattle.determinize_core.specs.Steps.{first_half, second_half}
use Rattle.determinize_core.specs.declared.lookbehind.LookBehind.{LookBehind}
use Rattle.determinize_core.proofs.EdgeLemmas.{none_before, none_at}
use Rattle.determinize_core.proofs.ExactLemmas.{edge_exact, lines_exact, crlf_exact, half_exact, ascii_exact}
use Rattle.determinize_core.proofs.ExactLemmas.{unicode_exact, word_exact}

-- ---- a family of which there is a member

pub has_family : (test : Look → Bool) (s : ℕ) (l : Look) → has_look s l ≡ true → test l ≡ true → has_any test s ≡ true
has_family test s l m e =
    list_any_at (λ k. has_look s k && test k) all_looks (bit_of l) AtStart (bit_of-lt l)
    (ap (λ k. has_look s k && test k) (look_at-bit_of l) ∙ both _ _ m e)
  where
    both : (a b : Bool) → a ≡ true → b ≡ true → (a && b) ≡ true
    both true b p q = q
    both false b p q = p

pub with_family : (a b : Bool) → b ≡ true → (a && b) ≡ a
with_family true b e = e
with_family false b e = refl

-- ---- the families of a set

pub haystack_is : (looks : ℕ) → (families_of looks).haystack ≡ has_any is_anchor_haystack looks
unfolding families_of
haystack_is looks = refl

pub lines_is : (looks : ℕ) → (families_of looks).lines ≡ has_any is_anchor_lf looks
unfolding families_of
lines_is looks = refl

pub crlf_is : (looks : ℕ) → (families_of looks).crlf ≡ has_any is_anchor_crlf looks
unfolding families_of
crlf_is looks = refl

pub words_is : (looks : ℕ) → (families_of looks).words ≡ has_any is_word_look looks
unfolding families_of
words_is looks = refl

-- ---- in both directions

module _ (looks : ℕ) (reverse : Bool) (t : Terminator) (o : Option ℕ) where
  abbrev known : LookBehind
  known = look_behind looks reverse t (start_of t o)

  -- what is known of the looks that are decided; `edge` is whether the offset is the haystack's edge
  abbrev decided : Bool → Look → Bool
  decided edge AtStart = edge
  decided edge StartLF = edge || is_line_end t o
  decided edge WordStartHalfAscii = is_no_word (byte_side o)
  decided edge WordStartHalfUnicode = is_no_word (byte_side o)
  decided edge _ = false

  pub known_looks : (edge : Bool) → is_none o ≡ edge → (l : Look) → is_decided l ≡ true → has_look looks l ≡ true →
      has_look known.look_have l ≡ decided edge l
  known_looks edge n AtStart d m =
      edge_exact (families_of looks) reverse t o ∙ with_family _ _ (haystack_is looks ∙ has_family is_anchor_haystack looks AtStart m refl)
      ∙ n
  known_looks edge n StartLF d m =
      lines_exact (families_of looks) reverse t o ∙ with_family _ _ (lines_is looks ∙ has_family is_anchor_lf looks StartLF m refl)
      ∙ ap (λ b. b || is_line_end t o) n
  known_looks edge n WordStartHalfAscii d m =
      ascii_exact (families_of looks) reverse t o ∙ with_family _ _ (words_is looks
      ∙ has_family is_word_look looks WordStartHalfAscii m refl)
  known_looks edge n WordStartHalfUnicode d m =
      unicode_exact (families_of looks) reverse t o ∙ with_family _ _ (words_is looks
      ∙ has_family is_word_look looks WordStartHalfUnicode m refl)
  known_looks edge n _ d m = let none : ⊥ = cc in absurd none

  pub known_crlf : (edge : Bool) → is_none o ≡ edge → has_any is_anchor_crlf looks ≡ true →
      has_look known.look_have StartCRLF ≡ (edge || is_byte (second_half reverse) o)
  known_crlf edge n m =
      crlf_exact (families_of looks) reverse t o ∙ with_family _ _ (crlf_is looks ∙ m) ∙ ap (λ b. b || is_byte (second_half reverse) o) n

  pub known_half : has_any is_anchor_crlf looks ≡ true → known.is_half_crlf ≡ is_byte (first_half reverse) o
  known_half m = half_exact (families_of looks) reverse t o ∙ with_family _ _ (crlf_is looks ∙ m)

  pub known_word : has_any is_word_look looks ≡ true → known.is_from_word ≡ is_word (byte_side o)
  known_word m = word_exact (families_of looks) reverse t o ∙ with_family _ _ (words_is looks ∙ m)

-- ---- forward and in reverse

decided_forward : (looks : ℕ) (t : Terminator) (h : List ℕ) (l : Look) (i : ℕ) → is_decided l ≡ true →
    decided looks false t (byte_before h i) (i == 0) l ≡ holds_ascii t h l i
decided_forward looks t h AtStart i d = refl
decided_forward looks t h StartLF i d = refl
decided_forward looks t h WordStartHalfAscii i d = refl
decided_forward looks t h WordStartHalfUnicode i d = refl
decided_forward looks t h _ i d = let none : ⊥ = cc in absurd none

decided_in_reverse : (looks : ℕ) (t : Terminator) (h : List ℕ) (l : Look) (i : ℕ) → is_decided l ≡ true →
    decided looks true t (byte_at h i) (i == length h) l ≡ holds_ascii t h (reversed l) i
decided_in_reverse looks t h AtStart i d = refl
decided_in_reverse looks t h StartLF i d = refl
decided_in_reverse looks t h WordStartHalfAscii i d = refl
decided_in_reverse looks t h WordStartHalfUnicode i d = refl
decided_in_reverse looks t h _ i d = let none : ⊥ = cc in absurd none

pub looks_forward : (looks : ℕ) (t : Terminator) (h : List ℕ) (l : Look) (i : ℕ) → i ≤ length h → is_decided l ≡ true →
    has_look looks l ≡ true →
    has_look (look_behind looks false t (start_of t (byte_before h i))).look_have l ≡ holds_ascii t h l i
looks_forward looks t h l i within d m =
    known_looks looks false t (byte_before h i) (i == 0) (none_before h i within) l d m ∙ decided_forward looks t h l i d

pub crlf_forward : (looks : ℕ) (t : Terminator) (h : List ℕ) (i : ℕ) → i ≤ length h → has_any is_anchor_crlf looks ≡ true →
    has_look (look_behind looks false t (start_of t (byte_before h i))).look_have StartCRLF ≡ ((i == 0) || is_byte 0x0A (byte_before h i))
crlf_forward looks t h i within m = known_crlf looks false t (byte_before h i) (i == 0) (none_before h i within) m

pub looks_in_reverse : (looks : ℕ) (t : Terminator) (h : List ℕ) (l : Look) (i : ℕ) → i ≤ length h → is_decided l ≡ true →
    has_look looks l ≡ true →
    has_look (look_behind looks true t (start_of t (byte_at h i))).look_have l ≡ holds_ascii t h (reversed l) i
looks_in_reverse looks t h l i within d m =
    known_looks looks true t (byte_at h i) (i == length h) (none_at h i within) l d m ∙ decided_in_reverse looks t h l i d

pub crlf_in_reverse : (looks : ℕ) (t : Terminator) (h : List ℕ) (i : ℕ) → i ≤ length h → has_any is_anchor_crlf looks ≡ true →
    has_look (look_behind looks true t (start_of t (byte_at h i))).look_have StartCRLF ≡ ((i == length h) || is_byte 0x0D (byte_at h i))
crlf_in_reverse looks t h i within m = known_crlf looks true t (byte_at h i) (i == length h) (none_at h i within) m
