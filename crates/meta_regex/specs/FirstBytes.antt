-- Which bytes the spans of a tree begin with.
use Rattle.std.specs.Prelude.{◌≡◌, ℕ, ◌==◌, ◌<◌, Bool, true, false, ◌&&◌, ◌||◌, nat_lt, nat_le, List, [], ◌∷◌, length, Some, slice_get, if◌then◌else◌}
use Rattle.std.specs.List.{All, list_any}
use Rattle.search_core.specs.ByteSets.{has}
use Rattle.hir_core.specs.Tree.{Tree, empty, literal, byte_class, char_class, look, repetition, capture, nothing, cat, never, alt}
use Rattle.hir_core.specs.Means.{Looks, Means, is_member}

-- whether the tree may have an empty span
abbrev pub may_be_empty : Tree → Bool
may_be_empty empty = true
may_be_empty (literal bytes) = length bytes == 0
may_be_empty (byte_class ranges) = false
may_be_empty (char_class ranges) = false
may_be_empty (look l) = true
may_be_empty (repetition min most greedy x) = min == 0 || may_be_empty x
may_be_empty (capture index name x) = may_be_empty x
may_be_empty nothing = true
may_be_empty (cat x y) = may_be_empty x && may_be_empty y
may_be_empty never = false
may_be_empty (alt x y) = may_be_empty x || may_be_empty y

-- whether the bytes begin with this one
abbrev pub begins_with : List ℕ → ℕ → Bool
begins_with [] b = false
begins_with (a ∷ bytes) b = a == b

-- whether one of the ranges ends above ASCII
abbrev pub has_high : List (ℕ × ℕ) → Bool
has_high ranges = list_any (λ r. nat_le 0x80 r.1) ranges

-- Whether a span of the tree that isn't empty may begin with this byte. A scalar above ASCII may begin with any byte above it.
abbrev pub may_begin : Tree → ℕ → Bool
may_begin empty b = false
may_begin (literal bytes) b = begins_with bytes b
may_begin (byte_class ranges) b = is_member ranges b
may_begin (char_class ranges) b = if nat_lt b 0x80 then is_member ranges b else has_high ranges
may_begin (look l) b = false
may_begin (repetition min most greedy x) b = may_begin x b
may_begin (capture index name x) b = may_begin x b
may_begin nothing b = false
may_begin (cat x y) b = may_begin x b || may_be_empty x && may_begin y b
may_begin never b = false
may_begin (alt x y) b = may_begin x b || may_begin y b

-- each span of the tree begins with a byte of the set, in any haystack
pub record AreFirstBytes (set : List Bool) (x : Tree) : Type 0 where
  pub begun : (looks : Looks) (h : List ℕ) (i j : ℕ) → All (λ b. b < 256) h → Means looks h x i j →
      (b : ℕ) × (slice_get h i ≡ Some b) × (has set b ≡ true)
