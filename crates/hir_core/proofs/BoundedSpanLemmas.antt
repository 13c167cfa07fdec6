-- In valid UTF-8, a span that isn't empty, of a tree that is seen to be UTF-8, starts and ends at boundaries.
use Rattle.std.proofs.Common.{◌≡◌, ℕ, ◌+◌, ◌-◌, ◌<◌, ◌≤◌, true, List, ◌++◌, length, take, drop, sym, ap, subst, ◌∙◌, arith, drop-drop}
use Rattle.std.proofs.lemmas.List.{take-append-drop}
use Rattle.search_core.specs.Utf8.{IsValidText, IsSplit, is_boundary}
use Rattle.search_core.proofs.ForCallers.{rest_valid, behind_whole, start_whole, unsplit_boundary, valid_behind}
use Rattle.hir_core.specs.Tree.{Tree}
use Rattle.hir_core.specs.Means.{Looks, Means}
use Rattle.hir_core.specs.Facts.{is_utf8_tree}
use Rattle.hir_core.proofs.ValidSpanLemmas.{utf8_sound}

spans_start_whole : (looks : Looks) (h : List ℕ) (x : Tree) (i j : ℕ) → IsValidText h → is_utf8_tree x ≡ true →
    Means looks h x i j → i < j → j ≤ length h → IsSplit h i → ⊥
spans_start_whole looks h x i j v u m l within = start_whole h i j l within (utf8_sound looks h x i j u m)

spans_end_whole : (looks : Looks) (h : List ℕ) (x : Tree) (i j : ℕ) → IsValidText h → is_utf8_tree x ≡ true →
    Means looks h x i j → i < j → j ≤ length h → IsSplit h j → ⊥
spans_end_whole looks h x i j v u m l within =
    let behind : IsValidText (drop i h) = valid_behind h i v (omega arith) (spans_start_whole looks h x i j v u m l within) in
    let sum : i + (j - i) ≡ j = omega arith in
    let parts : IsValidText (take (j - i) (drop i h) ++ drop (j - i) (drop i h)) =
    subst IsValidText (sym (take-append-drop (j - i) (drop i h))) behind in
    let rest : IsValidText (drop j h) = subst IsValidText (drop-drop (j - i) i h ∙ ap (λ k. drop k h) sum)
    (rest_valid (take (j - i) (drop i h)) (drop (j - i) (drop i h)) (utf8_sound looks h x i j u m) parts) in
    behind_whole h j within rest

pub span_start_bounded : (looks : Looks) (h : List ℕ) (x : Tree) (i j : ℕ) → IsValidText h → is_utf8_tree x ≡ true →
    Means looks h x i j → i < j → j ≤ length h → is_boundary h i ≡ true
span_start_bounded looks h x i j v u m l within = unsplit_boundary h i v (omega arith) (spans_start_whole looks h x i j v u m l within)

pub span_end_bounded : (looks : Looks) (h : List ℕ) (x : Tree) (i j : ℕ) → IsValidText h → is_utf8_tree x ≡ true →
    Means looks h x i j → i < j → j ≤ length h → is_boundary h j ≡ true
span_end_bounded looks h x i j v u m l within = unsplit_boundary h j v within (spans_end_whole looks h x i j v u m l within)
