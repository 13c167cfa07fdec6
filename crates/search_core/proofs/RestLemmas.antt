-- What follows valid UTF-8 within valid UTF-8 is valid, and no character is split where valid UTF-8 starts or ends.
use Rattle.std.proofs.Common.{◌≡◌, ℕ, ◌-◌, ◌<◌, ◌≤◌, inl, inr, true, List, ◌++◌, length, take, drop, get_or, sym, ap, subst, ◌∙◌, arith}
use Rattle.std.proofs.Common.{length-append, length-drop, append_assoc}
use Rattle.std.proofs.lemmas.List.{get_or_append_left, get_or-append_right, length-take, take-append-drop}
use Rattle.search_core.specs.Utf8.{Spells, IsValidText, IsSplit, is_boundary}
use Rattle.search_core.specs.Utf8.IsValidText.{no_spelling, spelling_then}
use Rattle.search_core.proofs.SplitLemmas.{split_continues, spelling_lead, spelling_some, boundary_or_split}
use Rattle.search_core.proofs.Utf8Lemmas.{heads_same}

-- what follows valid UTF-8 in valid UTF-8 is valid
pub rest_valid : (s r : List ℕ) → IsValidText s → IsValidText (s ++ r) → IsValidText r
rest_valid s r (no_spelling _ e) v = subst IsValidText (ap (λ l. l ++ r) e) v
rest_valid s r (spelling_then c u w _ k g e) (no_spelling _ z) =
    absurd (omega (arith, ap length z, ap length e, length-append s r, length-append u w, spelling_some c u k))
rest_valid s r (spelling_then c u w _ k g e) (spelling_then d t y _ n v z) =
    let same : u ++ (w ++ r) ≡ t ++ y = sym (append_assoc u w r) ∙ sym (ap (λ l. l ++ r) e) ∙ z in
    let m = heads_same c d u t (w ++ r) y k n same in
    rest_valid w r g (subst IsValidText (sym m.2) v)

get_dropped : (h : List ℕ) (i : ℕ) → i ≤ length h → get_or h i 0 ≡ get_or (drop i h) 0 0
get_dropped h i l =
    let n : length (take i h) ≡ i = omega (arith, length-take i h) in
    let z : i - i ≡ 0 = omega arith in
    ap (λ g. get_or g i 0) (sym (take-append-drop i h))
    ∙ get_or-append_right (take i h) (drop i h) i i 0 n (omega arith)
    ∙ ap (λ k. get_or (drop i h) k 0) z

-- an offset where a spelling begins isn't split
spelled_whole : (h : List ℕ) (i c : ℕ) (s y : List ℕ) → i ≤ length h → Spells c s → drop i h ≡ s ++ y → IsSplit h i → ⊥
spelled_whole h i c s y l k e p =
    let q = split_continues h i p in
    let same : get_or h i 0 ≡ get_or s 0 0 = get_dropped h i l ∙ ap (λ g. get_or g 0 0) e
    ∙ get_or_append_left s y 0 0 (spelling_some c s k) in
    let low = q.1.0 in let high = q.1.1 in
    elim (spelling_lead c s k) [ inl a ↦ absurd (omega arith) | inr b ↦ absurd (omega arith) ]

-- no character is split at an offset if the bytes after it are valid UTF-8
pub behind_whole : (h : List ℕ) (i : ℕ) → i ≤ length h → IsValidText (drop i h) → IsSplit h i → ⊥
behind_whole h i l (no_spelling _ e) p = let q = split_continues h i p in absurd (omega (arith, ap length e, length-drop i h, q.0))
behind_whole h i l (spelling_then c s y _ k v e) p = spelled_whole h i c s y l k e p

-- an offset of valid UTF-8 that splits no character is a boundary
pub unsplit_boundary : (h : List ℕ) (i : ℕ) → IsValidText h → i ≤ length h → (IsSplit h i → ⊥) → is_boundary h i ≡ true
unsplit_boundary h i v l not = elim (boundary_or_split h i v l) [ inl b ↦ b | inr p ↦ absurd (not p) ]

-- nor where valid UTF-8 with a byte or more starts
pub start_whole : (h : List ℕ) (i j : ℕ) → i < j → j ≤ length h → IsValidText (take (j - i) (drop i h)) → IsSplit h i → ⊥
start_whole h i j l within (no_spelling _ e) p =
    absurd (omega (arith, ap length e, length-take (j - i) (drop i h), length-drop i h))
start_whole h i j l within (spelling_then c s y _ k v e) p =
    spelled_whole h i c s (y ++ drop (j - i) (drop i h)) (omega arith) k
    (sym (take-append-drop (j - i) (drop i h)) ∙ ap (λ g. g ++ drop (j - i) (drop i h)) e ∙ append_assoc s y (drop (j - i) (drop i h))) p
