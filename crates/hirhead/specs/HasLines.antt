-- Which trees have lines, and why others have none.
use Rattle.std.specs.Prelude.{◌≡◌, ℕ, suc, ◌^◌, ◌<◌, ◌≤◌, max, Bool, true, false, IsTrue, List, [], ◌∷◌, All, Option, Some, None, slice_get}
use Rattle.std.specs.Prelude.{⊤}
use Rattle.hir_core.specs.Tree.{Tree, empty, literal, byte_class, char_class, look, repetition, capture, nothing, cat, never, alt}
use Rattle.hir_core.specs.Facts.{height}
use Rattle.hir_core.specs.Means.{AtMost}
use Rattle.hirscan.specs.Words.{is_scalar}
use Rattle.hirhead.specs.declared.lines.Unfit.{Unfit}
use Rattle.hirhead.specs.declared.lines.Unfit.TheVariants.{NoMemory, TooDeep, TooManyParts}
use Rattle.hirhead.specs.Written.{printed_tree}

-- a range of bytes, and one of scalars, with the low end first
abbrev pub IsByteRange : ℕ × ℕ → Type 0
IsByteRange r = (r.0 ≤ r.1) × (r.1 < 256)

abbrev pub AreScalars : ℕ × ℕ → Type 0
AreScalars r = (is_scalar r.0 ≡ true) × (is_scalar r.1 ≡ true)

abbrev pub IsScalarRange : ℕ × ℕ → Type 0
IsScalarRange r = (r.0 ≤ r.1) × (is_scalar r.0 ≡ true) × (is_scalar r.1 ≡ true)

-- a bound that fits into 32 bits
abbrev pub IsShort : Option ℕ → Type 0
IsShort None = ⊤
IsShort (Some n) = n < 2 ^ 32

-- what comes after the first part of a concatenation, or of an alternation
abbrev pub is_cat : Tree → Bool
is_cat nothing = true
is_cat (cat x y) = true
is_cat _ = false

abbrev pub is_alt : Tree → Bool
is_alt never = true
is_alt (alt x y) = true
is_alt _ = false

-- Each literal is of bytes, each range is one, each number fits into 32 bits, and no concatenation or alternation has 2^32 parts
-- or more, n of which were printed before. All of it but the last holds of whatever `Hir` is made.
abbrev pub HasLines : ℕ → Tree → Type 0
HasLines n empty = n ≡ 0
HasLines n (literal bytes) = (n ≡ 0) × All (λ b. b < 256) bytes
HasLines n (byte_class ranges) = (n ≡ 0) × All IsByteRange ranges
HasLines n (char_class ranges) = (n ≡ 0) × All IsScalarRange ranges
HasLines n (look l) = n ≡ 0
HasLines n (repetition min most greedy x) = (n ≡ 0) × (min < 2 ^ 32) × IsShort most × AtMost min most × HasLines 0 x
HasLines n (capture index name x) = (n ≡ 0) × HasLines 0 x
HasLines n nothing = n < 2 ^ 32
HasLines n (cat x y) = HasLines 0 x × IsTrue (is_cat y) × HasLines (suc n) y
HasLines n never = n < 2 ^ 32
HasLines n (alt x y) = HasLines 0 x × IsTrue (is_alt y) × HasLines (suc n) y

-- the tree has lines, and those make a tree of at most so many levels
abbrev pub FitsIn : ℕ → Tree → Type 0
FitsIn levels x = HasLines 0 x × (height (printed_tree x) ≤ levels)

-- each tree fits in so many levels
abbrev pub AllFit : ℕ → List Tree → Type 0
AllFit levels [] = ⊤
AllFit levels (x ∷ xs) = FitsIn levels x × AllFit levels xs

-- the most parts that one concatenation or alternation has, n of which were counted before
abbrev pub most_parts : ℕ → Tree → ℕ
most_parts n (repetition min most greedy x) = most_parts 0 x
most_parts n (capture index name x) = most_parts 0 x
most_parts n nothing = n
most_parts n (cat x y) = max (most_parts 0 x) (most_parts (suc n) y)
most_parts n never = n
most_parts n (alt x y) = max (most_parts 0 x) (most_parts (suc n) y)
most_parts n _ = 0

-- why the tree is rejected
abbrev pub IsUnfit : ℕ → Tree → Unfit → Type 0
IsUnfit levels x NoMemory = ⊤
IsUnfit levels x TooDeep = levels < height (printed_tree x)
IsUnfit levels x TooManyParts = 2 ^ 32 ≤ most_parts 0 x

-- the tree of this number is rejected for this cause
pub record HasUnfit (levels : ℕ) (xs : List Tree) (number : ℕ) (unfit : Unfit) : Type 0 where
  pub tree : Tree
  pub listed : slice_get xs number ≡ Some tree
  pub is : IsUnfit levels tree unfit

-- running out of memory says nothing of the trees
abbrev pub AreUnfit : ℕ → List Tree → ℕ → Unfit → Type 0
AreUnfit levels xs number NoMemory = ⊤
AreUnfit levels xs number TooDeep = HasUnfit levels xs number TooDeep
AreUnfit levels xs number TooManyParts = HasUnfit levels xs number TooManyParts
