-- When a parsed pattern and a tree match alike.
use Rattle.std.specs.Prelude.{◌≡◌, ◌↔◌, ℕ, ◌<◌, ◌≤◌, List, [], ◌∷◌, length, All, Option, None, ⊤}
use Rattle.std.specs.Option.{option_or, option_map}
use Rattle.ucd_perl.specs.Perl.{is_word_char}
use Rattle.regex_hir.specs.Re.{Re, Trace, Rest, attempt}
use Rattle.regex_hir.specs.Matches.{Matches}
use Rattle.regex_syntax.specs.Grammar.{Names}
use Rattle.look_core.specs.Looks.{holds}
use Rattle.look_core.specs.Terminators.{one_of}
use Rattle.hir_core.specs.Tree.{Tree, repetition, capture, cat, alt}
use Rattle.hir_core.specs.Facts.{LoopsRead}
use Rattle.hir_core.specs.Means.{Looks, Means}
use Rattle.hir_core.specs.PreferredEnds.{preferred_ends}
use Rattle.pattern_text.specs.Translated.{name_at}

-- where looks hold: words are what `\w` matches, and a line ends at a line feed
abbrev pub pattern_looks : List ℕ → Looks
pattern_looks h = holds is_word_char (one_of 10) h

-- where a match ended
abbrev pub trace_end : Option Trace → Option ℕ
trace_end = option_map (λ t. t.end)

-- what follows at the first of the offsets from which it goes on
abbrev pub first_that_goes_on : (ℕ → Option ℕ) → List ℕ → Option ℕ
first_that_goes_on k [] = None
first_that_goes_on k (j ∷ js) = option_or (k j) (first_that_goes_on k js)

-- On every haystack of bytes, from every offset and whatever follows, the pattern goes on from the first end of the tree
-- from which that goes on. The toolchain's loops end at an empty round, so the body of every unbounded repetition of the
-- tree has to consume at least one byte.
pub record SameEnds (re : Re) (x : Tree) : Type 0 where
  pub at : (h : List ℕ) → All (λ b. b < 256) h → LoopsRead x → (k : Rest) (i : ℕ) → i ≤ length h →
      trace_end (attempt h re k i) ≡ first_that_goes_on (λ j. trace_end (k j)) (preferred_ends (pattern_looks h) h x i)

-- on every haystack of bytes both have the same spans, also if there are empty loops
pub record SameSpans (re : Re) (x : Tree) : Type 0 where
  pub at : (h : List ℕ) → All (λ b. b < 256) h → (i j : ℕ) → i ≤ length h → Matches h re i j ↔ Means (pattern_looks h) h x i j

-- the same for each pattern of a list and the tree at its index
abbrev pub AreSameEnds : List Re → List Tree → Type 0
AreSameEnds [] [] = ⊤
AreSameEnds (a ∷ bs) (x ∷ xs) = SameEnds a x × AreSameEnds bs xs
AreSameEnds _ _ = ⊥

abbrev pub AreSameSpans : List Re → List Tree → Type 0
AreSameSpans [] [] = ⊤
AreSameSpans (a ∷ bs) (x ∷ xs) = SameSpans a x × AreSameSpans bs xs
AreSameSpans _ _ = ⊥

-- each group of the tree has the name at its index, or none if there is none
abbrev pub HasNames : Names → Tree → Type 0
HasNames names (capture index name x) = (name ≡ name_at names index) × HasNames names x
HasNames names (repetition min most greedy x) = HasNames names x
HasNames names (cat x y) = HasNames names x × HasNames names y
HasNames names (alt x y) = HasNames names x × HasNames names y
HasNames names _ = ⊤
