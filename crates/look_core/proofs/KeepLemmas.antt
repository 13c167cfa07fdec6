-- Looks hold alike in haystacks whose bytes have the same classes.
use Rattle.std.proofs.Common.{◌≡◌, ℕ, ◌<◌, true, false, Bool, List, length, get_or, sym, subst, ◌∙◌, arith}
use Rattle.std.proofs.lemmas.List.Elements.{All-get_or}
use Rattle.std.specs.List.{All, Contains, flat_map}
use Rattle.search_core.specs.Utf8.{is_word_byte}
use Rattle.search_core.specs.Marks.{recorded, IsUnmarked}
use Rattle.look_core.specs.Looks.{by_characters, holds, IsWordSet}
use Rattle.look_core.specs.SameClasses.{HaveSameClasses, DifferInAscii}
use Rattle.look_core.specs.Terminators.{Terminator}
use Rattle.look_core.specs.ToldApart.{ranges_apart}
use Rattle.look_core.specs.Codes.{is_word_unicode}
use Rattle.look_core.specs.declared.look.Look.{Look}
use Rattle.look_core.proofs.ClassLemmas.{LieAlike, AtEach, same_class_alike, alike_for, alike_bytes, same_word, same_unicode}
use Rattle.look_core.proofs.ClassLemmas.{word_ranges_told}
use Rattle.look_core.proofs.CloseLemmas.{close_each, close_after, close_before}
use Rattle.look_core.proofs.MirrorLemmas.{reads_bytes}

module _ (t : Terminator) (looks : List Look) (marks : List Bool) (unmarked : IsUnmarked marks) (h g : List ℕ)
    (bytes_h : All (λ b. b < length marks) h) (bytes_g : All (λ b. b < length marks) g)
    (same : HaveSameClasses (recorded marks (flat_map (ranges_apart t) looks)) h g) (l : Look) (member : Contains looks l) where
  alike_each : AtEach (λ a b. All (LieAlike a b) (ranges_apart t l)) h g
  alike_each k low =
      alike_for t looks l (get_or h k 0) (get_or g k 0) member
      (same_class_alike marks (flat_map (ranges_apart t) looks) (get_or h k 0) (get_or g k 0) unmarked
      (All-get_or (λ b. b < length marks) h k 0 low bytes_h) (All-get_or (λ b. b < length marks) g k 0 (omega (arith, same.0)) bytes_g)
      (same.1 k low))

  pub kept_bytes : (words : ℕ → Bool) (i : ℕ) → is_word_unicode l ≡ false → holds words t h l i ≡ holds words t g l i
  kept_bytes words i u =
      reads_bytes (by_characters words) t h l i u ∙ alike_bytes t h g i same.0 l u alike_each
      ∙ sym (reads_bytes (by_characters words) t g l i u)

  pub kept_characters : (words : ℕ → Bool) (i : ℕ) → IsWordSet words → DifferInAscii h g → is_word_unicode l ≡ true →
      holds words t h l i ≡ holds words t g l i
  kept_characters words i set close u =
      let each = close_each h g same.0 close in
      let alike : (k : ℕ) → k < length h → is_word_byte (get_or h k 0) ≡ is_word_byte (get_or g k 0) =
      λ k low. same_word (get_or h k 0) (get_or g k 0) (subst (All (LieAlike (get_or h k 0) (get_or g k 0))) (word_ranges_told t l u)
      (alike_each k low)) in
      same_unicode (by_characters words) t h g i (close_before h g same.0 each words set alike i)
      (close_after h g same.0 each words set alike i) l u
