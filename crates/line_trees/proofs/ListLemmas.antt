-- Lists: bytes at an offset of a part of a haystack, and the line trees of parts one after the other, or of a choice.
use Rattle.std.proofs.Common.{◌≡◌, ℕ, zero, suc, ◌+◌, ◌<◌, Bool, List, [], ◌∷◌, take, drop, slice_get, map, refl, ap, ◌∙◌, arith}
use Rattle.hir_core.specs.Tree.{Tree, cat, alt, concat, alternation}
use Rattle.line_trees.specs.LineTrees.{line_tree}
use Rattle.line_trees.specs.WordlessTrees.{wordless_tree}

-- ---- a part of a haystack
pub get_taken : (n : ℕ) (xs : List ℕ) (k : ℕ) → k < n → slice_get (take n xs) k ≡ slice_get xs k
get_taken zero xs k less = absurd (omega (arith, less))
get_taken (suc n) [] k less = refl
get_taken (suc n) (x ∷ xs) zero less = refl
get_taken (suc n) (x ∷ xs) (suc k) less = get_taken n xs k (omega (arith, less))

pub get_dropped : (n : ℕ) (xs : List ℕ) (k : ℕ) → slice_get (drop n xs) k ≡ slice_get xs (n + k)
get_dropped zero xs k = let same : k ≡ 0 + k = omega arith in ap (slice_get xs) same
get_dropped (suc n) [] k = refl
get_dropped (suc n) (x ∷ xs) k =
    let one : suc (n + k) ≡ suc n + k = omega arith in
    get_dropped n xs k ∙ ap (slice_get (x ∷ xs)) one

-- ---- the line tree is that of the parts' line trees
pub line_of_concat : (crlf : Bool) (xs : List Tree) → line_tree crlf (concat xs) ≡ concat (map (line_tree crlf) xs)
line_of_concat crlf [] = refl
line_of_concat crlf (x ∷ xs) = ap (cat (line_tree crlf x)) (line_of_concat crlf xs)

pub line_of_alternation : (crlf : Bool) (xs : List Tree) → line_tree crlf (alternation xs) ≡ alternation (map (line_tree crlf) xs)
line_of_alternation crlf [] = refl
line_of_alternation crlf (x ∷ xs) = ap (alt (line_tree crlf x)) (line_of_alternation crlf xs)

-- ---- the same of trees without looks at words by characters
pub wordless_of_concat : (xs : List Tree) → wordless_tree (concat xs) ≡ concat (map wordless_tree xs)
wordless_of_concat [] = refl
wordless_of_concat (x ∷ xs) = ap (cat (wordless_tree x)) (wordless_of_concat xs)

pub wordless_of_alternation : (xs : List Tree) → wordless_tree (alternation xs) ≡ alternation (map wordless_tree xs)
wordless_of_alternation [] = refl
wordless_of_alternation (x ∷ xs) = ap (alt (wordless_tree x)) (wordless_of_alternation xs)
