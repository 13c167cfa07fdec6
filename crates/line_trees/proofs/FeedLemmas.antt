-- What a tree that reads no line feed means has no line feed among its bytes.
use Rattle.std.proofs.Common.{◌≡◌, ◌==◌, ℕ, zero, suc, ◌+◌, ◌-◌, inl, inr, true, false, List, [], ◌∷◌, length, get_or, drop}
use Rattle.std.proofs.Common.{slice_get, slice_range, Some, refl, sym, ap, subst, ◌∙◌, arith, true≢false}
use Rattle.std.specs.List.{list_any}
use Rattle.std.proofs.lemmas.Bool.{cases_lt, or_parts}
use Rattle.std.proofs.lemmas.Bool.Decides.{Decides-eqb}
use Rattle.std.proofs.lemmas.List.Folds.{list_any_at}
use Rattle.std.proofs.lemmas.Option.{same_Some, slice_get_within, get_or_from_slice_get}
use Rattle.std.proofs.lemmas.Slice.Eq.{starts_is}
use Rattle.search_core.specs.Utf8.{Spells, IsContinuation}
use Rattle.search_core.specs.Utf8.Spells.{from_0000}
use Rattle.search_core.proofs.ForCallers.{Leads, spelling_leads, spelling_tails, one_scalar}
use Rattle.hir_core.specs.Tree.{Tree, empty, literal, byte_class, char_class, look, repetition, capture, nothing, cat, never, alt}
use Rattle.hir_core.specs.Means.{Looks, Means, Rounds, SpellsMember, is_member, stands}
use Rattle.line_trees.specs.LineTrees.{reads_feed, HasNoFeedFrom}
use Rattle.line_trees.proofs.BesideLemmas.{get_within}
use Rattle.line_trees.proofs.ListLemmas.{get_dropped, get_taken}

-- ---- a spelling with a line feed is the line feed's
one_long : (n : ℕ) → Leads 0x0A n → n ≡ 1
one_long n leads = grind (arith, leads)

one_byte : (s : List ℕ) → length s ≡ 1 → s ≡ get_or s 0 0 ∷ []
one_byte [] size = absurd (omega (arith, size))
one_byte (a ∷ []) size = refl
one_byte (a ∷ b ∷ s) size = absurd (omega (arith, size))

feed_spelled : (c : ℕ) (s : List ℕ) (k : ℕ) → Spells c s → slice_get s k ≡ Some 0x0A → c ≡ 0x0A
feed_spelled c s zero spells at =
    let first : get_or s 0 0 ≡ 0x0A = get_or_from_slice_get s 0 0x0A 0 at in
    let one : length s ≡ 1 = one_long (length s) (subst (λ a. Leads a (length s)) first (spelling_leads c s spells)) in
    let is : s ≡ 0x0A ∷ [] = one_byte s one ∙ ap (λ a. a ∷ []) first in
    one_scalar c 0x0A s spells (from_0000 0x0A (omega arith, omega arith) is refl)
feed_spelled c s (suc k) spells at =
    let tail = spelling_tails c s spells (suc k) (omega arith) (slice_get_within s (suc k) 0x0A at) in
    let is : IsContinuation 0x0A = subst IsContinuation (get_or_from_slice_get s (suc k) 0x0A 0 at) tail in
    absurd (omega (arith, is.0))

-- ---- leaves, and spans end to end
feed_listed : (bytes : List ℕ) (k : ℕ) → slice_get bytes k ≡ Some 0x0A → list_any (λ b. b == 0x0A) bytes ≡ true
feed_listed bytes k at =
    list_any_at (λ b. b == 0x0A) bytes k 0x0A (slice_get_within bytes k 0x0A at)
    (ap (λ b. b == 0x0A) (get_or_from_slice_get bytes k 0x0A 0x0A at))

module _ (h : List ℕ) where
  joined : (i k j : ℕ) → HasNoFeedFrom h i k → HasNoFeedFrom h k j → HasNoFeedFrom h i j
  joined i k j left right n low high feed = elim (cases_lt n k) [
    | inl before ↦ left n low before feed
    | inr behind ↦ right n behind high feed
  ]

  in_none : (i j : ℕ) → i ≡ j → HasNoFeedFrom h i j
  in_none i j same n low high feed = absurd (omega (arith, same, low, high))

  in_literal : (bytes : List ℕ) (i j : ℕ) → list_any (λ b. b == 0x0A) bytes ≡ false → j ≡ i + length bytes → stands h i bytes ≡ true →
      HasNoFeedFrom h i j
  in_literal bytes i j none size there n low high feed =
      let begins = (starts_is Decides-eqb (drop i h) bytes true (sym there)).0 refl in
      let at : i + (n - i) ≡ n = omega (arith, low) in
      let within = get_within bytes (drop (length bytes) (drop i h)) (n - i) (omega (arith, size, low, high)) in
      let here : slice_get bytes (n - i) ≡ Some 0x0A =
      sym within ∙ sym (ap (λ (t : List ℕ). slice_get t (n - i)) begins) ∙ get_dropped i h (n - i) ∙ ap (slice_get h) at ∙ feed in
      absurd (true≢false (sym (feed_listed bytes (n - i) here) ∙ none))

  in_byte : (ranges : List (ℕ × ℕ)) (i j b : ℕ) → is_member ranges 0x0A ≡ false → j ≡ i + 1 → slice_get h i ≡ Some b →
      is_member ranges b ≡ true → HasNoFeedFrom h i j
  in_byte ranges i j b none size at member n low high feed =
      let here : i ≡ n = omega (arith, size, low, high) in
      let is : b ≡ 0x0A = same_Some b 0x0A (sym at ∙ ap (slice_get h) here ∙ feed) in
      absurd (true≢false (sym member ∙ ap (is_member ranges) is ∙ none))

  in_character : (ranges : List (ℕ × ℕ)) (i j : ℕ) → is_member ranges 0x0A ≡ false → SpellsMember h ranges i j → HasNoFeedFrom h i j
  in_character ranges i j none m n low high feed =
      let at : i + (n - i) ≡ n = omega (arith, low) in
      let here : slice_get (slice_range h i j) (n - i) ≡ Some 0x0A =
      get_taken (j - i) (drop i h) (n - i) (omega (arith, low, high)) ∙ get_dropped i h (n - i) ∙ ap (slice_get h) at ∙ feed in
      let is : m.scalar ≡ 0x0A = feed_spelled m.scalar (slice_range h i j) (n - i) m.spells here in
      absurd (true≢false (sym m.member ∙ ap (is_member ranges) is ∙ none))

-- ---- trees
module _ (looks : Looks) (h : List ℕ) where
  in_rounds : (x : Tree) → ((i j : ℕ) → Means looks h x i j → HasNoFeedFrom h i j) → (n i j : ℕ) → Rounds (Means looks h x) n i j →
      HasNoFeedFrom h i j
  in_rounds x each zero i j r = in_none h i j r
  in_rounds x each (suc n) i j r = joined h i r.0 j (each i r.0 r.1) (in_rounds x each n r.0 j r.2)

  pub feedless : (x : Tree) → reads_feed x ≡ false → (i j : ℕ) → Means looks h x i j → HasNoFeedFrom h i j
  feedless empty u i j m = in_none h i j m
  feedless (literal bytes) u i j m = in_literal h bytes i j u m.0 m.1
  feedless (byte_class ranges) u i j m = in_byte h ranges i j m.1 u m.0 m.2 m.3
  feedless (char_class ranges) u i j m = in_character h ranges i j u m
  feedless (look l) u i j m = in_none h i j m.0
  feedless (repetition min most greedy x) u i j m = in_rounds x (feedless x u) m.0 i j m.3
  feedless (capture index name x) u i j m = feedless x u i j m
  feedless nothing u i j m = in_none h i j m
  feedless (cat x y) u i j m =
      let none = or_parts (reads_feed x) (reads_feed y) u in
      joined h i m.0 j (feedless x none.0 i m.0 m.1) (feedless y none.1 m.0 j m.2)
  feedless never u i j m = elim m [ ]
  feedless (alt x y) u i j (inl m) = feedless x (or_parts (reads_feed x) (reads_feed y) u).0 i j m
  feedless (alt x y) u i j (inr m) = feedless y (or_parts (reads_feed x) (reads_feed y) u).1 i j m

pub reads_none : (looks : Looks) (h : List ℕ) (x : Tree) (i j : ℕ) → reads_feed x ≡ false → Means looks h x i j → HasNoFeedFrom h i j
reads_none looks h x i j u m = feedless looks h x u i j m
