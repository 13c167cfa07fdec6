-- Both read the same character at an offset.
use Rattle.std.proofs.Common.{◌≡◌, ℕ, ◌+◌, ◌<◌, Bool, List, ◌++◌, drop, slice_get, Option, Some, None, option_and_then, refl, sym, subst}
use Rattle.std.proofs.Common.{ap, ap₂, ◌∙◌, if◌then◌else◌}
use Rattle.std.proofs.lemmas.Option.{slice_get_within, get_or_from_slice_get}
use Rattle.std.specs.Char.{IsScalar, len_utf8, encode_utf8}
use Rattle.std.proofs.lemmas.Str.{length-encode}
use Rattle.regex_class.specs.Ranges.{in_ranges}
use Rattle.regex_hir.specs.Text.{is_some_and, char_at}
use Rattle.regex_hir.specs.Re.{Re, Rest, attempt, accept, rounds}
use Rattle.regex_hir.specs.Re as re
use Rattle.regex_hir.proofs.TextLemmas.{char_at_parts, char_at_from}
use Rattle.search_core.specs.Characters.{character_at, spelling_len}
use Rattle.search_core.proofs.ForCallers.{character_begins, begun_character, spelling_has_len, spelling_encodes, encoded_spells}
use Rattle.hir_core.specs.Tree as tree
use Rattle.hir_core.specs.Means.{is_member}
use Rattle.hir_core.specs.PreferredEnds.{class_end, character_end}
use Rattle.pattern_text.specs.SameEnds.{trace_end, first_that_goes_on, SameEnds}
use Rattle.pattern_text.proofs.SameEndsLemmas.{first_of-if}

pub same_option : {A : Type 0} (o p : Option A) → ((c : A) → o ≡ Some c → p ≡ Some c) → ((c : A) → p ≡ Some c → o ≡ Some c) → o ≡ p
same_option None None f g = refl
same_option None (Some y) f g = g y refl
same_option (Some x) p f g = sym (f x refl)

pub char_at_same : (h : List ℕ) (i : ℕ) → char_at h i ≡ character_at h i
char_at_same h i = same_option (char_at h i) (character_at h i)
    (λ c e. let parts = char_at_parts h i c e in
    begun_character h i c (record {
      spelling = encode_utf8 c;
      rest = drop (i + len_utf8 c) h;
      spells = encoded_spells c (encode_utf8 c) parts.0 refl;
      joined = parts.1;
    }))
    (λ c e. let first = character_begins h i c e in
    let spelled = spelling_encodes c first.spelling first.spells in
    char_at_from h i c first.rest spelled.0 (first.joined ∙ ap (λ s. s ++ first.rest) (sym spelled.1)))

len_same : (c : ℕ) → IsScalar c → len_utf8 c ≡ spelling_len c
len_same c scalar = sym (length-encode c) ∙ spelling_has_len c (encode_utf8 c) (encoded_spells c (encode_utf8 c) scalar refl)

char_first : (rs ranges : List (ℕ × ℕ)) (same : (c : ℕ) → IsScalar c → in_ranges rs c ≡ is_member ranges c) (o : Option ℕ)
    (scalar : (c : ℕ) → o ≡ Some c → IsScalar c) (k : Rest) (i : ℕ) →
    trace_end (option_and_then (λ c. if in_ranges rs c then k (i + len_utf8 c) else None) o) ≡
    first_that_goes_on (λ j. trace_end (k j)) (character_end ranges o i)
char_first rs ranges same None scalar k i = refl
char_first rs ranges same (Some c) scalar k i =
    let s = scalar c refl in
    ap₂ (λ (b : Bool) (n : ℕ). trace_end (if b then k (i + n) else None)) (same c s) (len_same c s)
    ∙ first_of-if (is_member ranges c) k (i + spelling_len c)

byte_first : (rs ranges : List (ℕ × ℕ)) (same : (b : ℕ) → b < 256 → in_ranges rs b ≡ is_member ranges b) (o : Option ℕ)
    (small : (b : ℕ) → o ≡ Some b → b < 256) (k : Rest) (i : ℕ) →
    trace_end (if is_some_and o (in_ranges rs) then k (i + 1) else None) ≡ first_that_goes_on (λ j. trace_end (k j)) (class_end ranges o i)
byte_first rs ranges same None small k i = refl
byte_first rs ranges same (Some b) small k i =
    ap (λ v. trace_end (if v then k (i + 1) else None)) (same b (small b refl)) ∙ first_of-if (is_member ranges b) k (i + 1)

pub same_class : (rs ranges : List (ℕ × ℕ)) → ((b : ℕ) → b < 256 → in_ranges rs b ≡ is_member ranges b) →
    SameEnds (re.byte_in rs) (tree.byte_class ranges)
unfolding attempt
same_class rs ranges same = record {
  at = λ h bytes loops k i within.
      byte_first rs ranges same (slice_get h i)
      (λ b e. subst (λ x. x < 256) (get_or_from_slice_get h i b b e) (bytes i b (slice_get_within h i b e))) k i;
}

-- ranges that have the same scalars, as those from which surrogates are cut
pub same_chars : (rs ranges : List (ℕ × ℕ)) → ((c : ℕ) → IsScalar c → in_ranges rs c ≡ is_member ranges c) →
    SameEnds (re.char_in rs) (tree.char_class ranges)
unfolding attempt
same_chars rs ranges same = record {
  at = λ h bytes loops k i within.
      char_first rs ranges same (char_at h i) (λ c e. (char_at_parts h i c e).0) k i
      ∙ ap (λ o. first_that_goes_on (λ j. trace_end (k j)) (character_end ranges o i)) (char_at_same h i);
}
