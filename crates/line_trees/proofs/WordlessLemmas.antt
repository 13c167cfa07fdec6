-- What a tree means, it means without its looks at words by characters as well.
use Rattle.std.proofs.Common.{◌≡◌, ℕ, zero, suc, inl, inr, Bool, true, false, ◌||◌, List, cond, refl, ap₂, true≢false}
use Rattle.look_core.specs.Codes.{is_word_unicode}
use Rattle.look_core.specs.declared.look.Look.{Look}
use Rattle.hir_core.specs.Tree.{Tree, empty, literal, byte_class, char_class, look, repetition, capture, nothing, cat, never, alt}
use Rattle.hir_core.specs.Means.{Looks, Means, Rounds}
use Rattle.line_trees.specs.LineTrees.{has_crlf, reads_feed}
use Rattle.line_trees.specs.WordlessTrees.{wordless_tree}

module _ (looks : Looks) (h : List ℕ) where
  look_or_nothing : (l : Look) (v : Bool) (i j : ℕ) → Means looks h (look l) i j → Means looks h (cond v empty (look l)) i j
  look_or_nothing l true i j m = m.0
  look_or_nothing l false i j m = m

  rounds_wordless : (x : Tree) → ((i j : ℕ) → Means looks h x i j → Means looks h (wordless_tree x) i j) → (n i j : ℕ) →
      Rounds (Means looks h x) n i j → Rounds (Means looks h (wordless_tree x)) n i j
  rounds_wordless x each zero i j r = r
  rounds_wordless x each (suc n) i j r = (r.0, each i r.0 r.1, rounds_wordless x each n r.0 j r.2)

  means : (x : Tree) (i j : ℕ) → Means looks h x i j → Means looks h (wordless_tree x) i j
  means empty i j m = m
  means (literal bytes) i j m = m
  means (byte_class ranges) i j m = m
  means (char_class ranges) i j m = m
  means (look l) i j m = look_or_nothing l (is_word_unicode l) i j m
  means (repetition min most greedy x) i j m = (m.0, m.1, m.2, rounds_wordless x (means x) m.0 i j m.3)
  means (capture index name x) i j m = means x i j m
  means nothing i j m = m
  means (cat x y) i j m = (m.0, means x i m.0 m.1, means y m.0 j m.2)
  means never i j m = elim m [ ]
  means (alt x y) i j (inl m) = inl (means x i j m)
  means (alt x y) i j (inr m) = inr (means y i j m)

pub means_wordless : (looks : Looks) (h : List ℕ) (x : Tree) (i j : ℕ) → Means looks h x i j → Means looks h (wordless_tree x) i j
means_wordless looks h x i j m = means looks h x i j m

-- ---- looks at carriage returns, and line feeds
returns_or_nothing : (l : Look) (v : Bool) → has_crlf (look l) ≡ false → has_crlf (cond v empty (look l)) ≡ false
returns_or_nothing l true none = refl
returns_or_nothing l false none = none

neither : (a b c d : Bool) → (a ≡ false → c ≡ false) → (b ≡ false → d ≡ false) → (a || b) ≡ false → (c || d) ≡ false
neither true b c d f g none = absurd (true≢false none)
neither false b c d f g none = ap₂ (λ v w. v || w) (f refl) (g none)

pub returns_wordless : (x : Tree) → has_crlf x ≡ false → has_crlf (wordless_tree x) ≡ false
returns_wordless empty none = none
returns_wordless (literal bytes) none = none
returns_wordless (byte_class ranges) none = none
returns_wordless (char_class ranges) none = none
returns_wordless (look l) none = returns_or_nothing l (is_word_unicode l) none
returns_wordless (repetition min most greedy x) none = returns_wordless x none
returns_wordless (capture index name x) none = returns_wordless x none
returns_wordless nothing none = none
returns_wordless (cat x y) none =
    neither (has_crlf x) (has_crlf y) (has_crlf (wordless_tree x)) (has_crlf (wordless_tree y)) (returns_wordless x) (returns_wordless y) none
returns_wordless never none = none
returns_wordless (alt x y) none =
    neither (has_crlf x) (has_crlf y) (has_crlf (wordless_tree x)) (has_crlf (wordless_tree y)) (returns_wordless x) (returns_wordless y) none

feeds_or_nothing : (l : Look) (v : Bool) → reads_feed (cond v empty (look l)) ≡ false
feeds_or_nothing l true = refl
feeds_or_nothing l false = refl

pub feeds_wordless : (x : Tree) → reads_feed (wordless_tree x) ≡ reads_feed x
feeds_wordless empty = refl
feeds_wordless (literal bytes) = refl
feeds_wordless (byte_class ranges) = refl
feeds_wordless (char_class ranges) = refl
feeds_wordless (look l) = feeds_or_nothing l (is_word_unicode l)
feeds_wordless (repetition min most greedy x) = feeds_wordless x
feeds_wordless (capture index name x) = feeds_wordless x
feeds_wordless nothing = refl
feeds_wordless (cat x y) = ap₂ (λ v w. v || w) (feeds_wordless x) (feeds_wordless y)
feeds_wordless never = refl
feeds_wordless (alt x y) = ap₂ (λ v w. v || w) (feeds_wordless x) (feeds_wordless y)
