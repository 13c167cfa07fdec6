-- If `is_utf8_tree` holds, each span is a concatenation of spellings.
use Rattle.std.proofs.Common.{◌≡◌, ℕ, zero, suc, ◌+◌, ◌-◌, ◌≤◌, ◌<◌, ⊎_elim, true, ltb, List, [], ◌∷◌, ◌++◌, length, take, drop, slice_get}
use Rattle.std.proofs.Common.{slice_range, Some, refl, sym, ap, subst, ◌∙◌, arith, drop-drop}
use Rattle.std.specs.List.{list_all}
use Rattle.std.specs.Str.{is_utf8}
use Rattle.std.proofs.Math.Seq.{take-add, drop-cons}
use Rattle.std.proofs.lemmas.Bool.{and_parts, ltb-true}
use Rattle.std.proofs.lemmas.List.{take_at, append-nil, append_assoc}
use Rattle.std.proofs.lemmas.Option.{slice_get_within, get_or_from_slice_get}
use Rattle.std.proofs.lemmas.Str.{IsUtf8-from_is_utf8}
use Rattle.search_core.specs.Utf8.{IsValidText, no_spelling, spelling_then}
use Rattle.search_core.specs.Utf8.Spells.{from_0000}
use Rattle.search_core.proofs.ForCallers.{valid_of_utf8}
use Rattle.hir_core.specs.Tree.{Tree, empty, literal, byte_class, char_class, look, repetition, capture, nothing, cat, never, alt}
use Rattle.hir_core.specs.Means.{Looks, Means, Rounds, is_member, stands}
use Rattle.hir_core.specs.Facts.{is_utf8_tree}
use Rattle.hir_core.proofs.SpanLemmas.{stands_begin, span_forward}
use Rattle.hir_core.proofs.SpellingLemmas.{member_cases}

-- ---- concatenated bytes
valid_append : (a b : List ℕ) → IsValidText a → IsValidText b → IsValidText (a ++ b)
valid_append a b (no_spelling _ e) v = (let P : List ℕ → Type 0 = λ t. IsValidText (t ++ b) in subst P (sym e) v)
valid_append a b (spelling_then c s rest _ sp r e) v =
    spelling_then c s (rest ++ b) (a ++ b) sp (valid_append rest b r v) (ap (λ t. t ++ b) e ∙ append_assoc s rest b)

valid_none : (h : List ℕ) (i j : ℕ) → i ≡ j → IsValidText (slice_range h i j)
valid_none h i j e =
    let none : j - i ≡ 0 = omega (arith, e) in
    no_spelling (slice_range h i j) (ap (λ n. take n (drop i h)) none)

-- a span is the parts on both sides of an offset within
span_parts : (h : List ℕ) (i k j : ℕ) → i ≤ k → k ≤ j → slice_range h i j ≡ slice_range h i k ++ slice_range h k j
span_parts h i k j p q =
    let sum : j - i ≡ (k - i) + (j - k) = omega arith in
    let at : i + (k - i) ≡ k = omega arith in
    ap (λ n. take n (drop i h)) sum
    ∙ (take-add (k - i) (j - k) (drop i h)
    ∙ ap (λ t. slice_range h i k ++ take (j - k) t) (drop-drop (k - i) i h ∙ ap (λ n. drop n h) at))

valid_parts : (h : List ℕ) (i k j : ℕ) → i ≤ k → k ≤ j → IsValidText (slice_range h i k) → IsValidText (slice_range h k j) →
    IsValidText (slice_range h i j)
valid_parts h i k j p q v w =
    (let P : List ℕ → Type 0 = λ t. IsValidText t in subst P (sym (span_parts h i k j p q))
    (valid_append (slice_range h i k) (slice_range h k j) v w))

rounds_valid : (h : List ℕ) (R : ℕ → ℕ → Type 0) → ((i j : ℕ) → R i j → (i ≤ j) × IsValidText (slice_range h i j)) → (n i j : ℕ) →
    Rounds R n i j → (i ≤ j) × IsValidText (slice_range h i j)
rounds_valid h R each zero i j r = (omega (arith, r), valid_none h i j r)
rounds_valid h R each (suc n) i j r =
    let one = each i r.0 r.1 in
    let others = rounds_valid h R each n r.0 j r.2 in
    (omega (arith, one.0, others.0), valid_parts h i r.0 j one.0 others.0 one.1 others.1)

-- ---- leaves
literal_valid : (h : List ℕ) (i j : ℕ) (bytes : List ℕ) → is_utf8 bytes ≡ true → j ≡ i + length bytes → stands h i bytes ≡ true →
    IsValidText (slice_range h i j)
literal_valid h i j bytes u e s =
    let begin = stands_begin h i bytes s in
    let count : length bytes ≡ j - i = omega (arith, e) in
    let same : slice_range h i j ≡ bytes = ap (λ t. take (j - i) t) begin ∙ take_at bytes (drop (i + length bytes) h) (j - i) count in
    (let P : List ℕ → Type 0 = λ t. IsValidText t in subst P (sym same) (valid_of_utf8 bytes (IsUtf8-from_is_utf8 bytes u)))

member_below : (ranges : List (ℕ × ℕ)) (b : ℕ) → list_all (λ r. ltb r.1 0x80) ranges ≡ true → is_member ranges b ≡ true → b < 0x80
member_below [] b a m = absurd cc
member_below (r ∷ rs) b a m =
    let parts = and_parts (ltb r.1 0x80) (list_all (λ q. ltb q.1 0x80) rs) a in
    ⊎_elim (λ p. let l = ltb-true r.1 0x80 parts.0 in omega (arith, l, p.1)) (member_below rs b parts.1) (member_cases r rs b m)

byte_valid : (h : List ℕ) (i j b : ℕ) → j ≡ i + 1 → slice_get h i ≡ Some b → b < 0x80 → IsValidText (slice_range h i j)
byte_valid h i j b e g l =
    let within = slice_get_within h i b g in
    let count : j - i ≡ 1 = omega (arith, e) in
    let one : slice_range h i j ≡ b ∷ [] =
    ap (λ n. take n (drop i h)) count ∙ (ap (λ t. take 1 t) (drop-cons h i 0 within)
    ∙ ap (λ c. c ∷ []) (get_or_from_slice_get h i b 0 g)) in
    spelling_then b (b ∷ []) [] (slice_range h i j) (from_0000 b (omega (arith, l), omega (arith, l)) refl refl) (no_spelling [] refl) one

module _ (looks : Looks) (h : List ℕ) where
  pub utf8_sound : (x : Tree) (i j : ℕ) → is_utf8_tree x ≡ true → Means looks h x i j → IsValidText (slice_range h i j)
  utf8_sound empty i j u m = valid_none h i j m
  utf8_sound (literal bytes) i j u m = literal_valid h i j bytes u m.0 m.1
  utf8_sound (byte_class ranges) i j u m = byte_valid h i j m.1 m.0 m.2 (member_below ranges m.1 u m.3)
  utf8_sound (char_class ranges) i j u m =
      spelling_then m.scalar (slice_range h i j) [] (slice_range h i j) m.spells (no_spelling [] refl)
      (sym (append-nil (slice_range h i j)))
  utf8_sound (look l) i j u m = valid_none h i j m.0
  utf8_sound (repetition min most greedy x) i j u m =
      (rounds_valid h (Means looks h x) (λ a b s. (span_forward looks h x a b s, utf8_sound x a b u s)) m.0 i j m.3).1
  utf8_sound (capture index name x) i j u m = utf8_sound x i j u m
  utf8_sound nothing i j u m = valid_none h i j m
  utf8_sound (cat x y) i j u m =
      let parts = and_parts (is_utf8_tree x) (is_utf8_tree y) u in
      valid_parts h i m.0 j (span_forward looks h x i m.0 m.1) (span_forward looks h y m.0 j m.2) (utf8_sound x i m.0 parts.0 m.1)
      (utf8_sound y m.0 j parts.1 m.2)
  utf8_sound never i j u m = elim m [ ]
  utf8_sound (alt x y) i j u m =
      let parts = and_parts (is_utf8_tree x) (is_utf8_tree y) u in
      ⊎_elim (utf8_sound x i j parts.0) (utf8_sound y i j parts.1) m
