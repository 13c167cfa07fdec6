-- What is printed of a tree's parts is what is printed of the tree, and if a part is rejected the tree is.
pub use Rattle.std.proofs.lemmas.Fmt.{hex_byte}
use Rattle.std.proofs.Common.{◌≡◌, ◌≢◌, ℕ, zero, suc, ◌+◌, ◌-◌, ◌^◌, ◌<◌, ◌≤◌, min, true, ◌&&◌, nat_le, List, [], ◌∷◌, ◌++◌}
use Rattle.std.proofs.Common.{map, length, drop, get_or, All, Some, slice_get, decimal, codes, refl, sym, ◌∙◌, ap, subst}
use Rattle.std.proofs.Common.{arith}
use Rattle.std.proofs.Common.{Result, Ok, Err, IsErrAnd, IfErr, append_assoc, append-nil, drop-cons, take, take_all}
use Rattle.std.specs.List.{flat_map}
use Rattle.std.proofs.lemmas.Bool.{and_parts, leb-true}
use Rattle.std.proofs.lemmas.List.Concat.{flat_map-append}
use Rattle.std.proofs.lemmas.List.Elements.{All-nil, All-cons, All-head, All-tail, All-more}
use Rattle.hex.specs.Hex.{encode_lower}
use Rattle.hir_core.specs.Tree.{Tree, empty, literal, byte_class, char_class, look, repetition, capture, nothing, cat, never, alt, concat}
use Rattle.hir_core.specs.Tree.{alternation}
use Rattle.hir_core.specs.Facts.{height, is_ascending, rises_from}
use Rattle.hirhead.specs.declared.lines.Unfit.{Unfit}
use Rattle.hirhead.specs.declared.lines.Unfit.TheVariants.{NoMemory, TooDeep, TooManyParts}
use Rattle.hirhead.specs.Written.{printed_tree}
use Rattle.hirhead.specs.Lines.{Line, byte_item, scalar_item, lines_after, lines_of, after_word, line_text}
use Rattle.hirhead.specs.Lines.{lines_text}
use Rattle.hirhead.specs.HasLines.{AreScalars, IsByteRange, IsScalarRange, is_cat, is_alt, HasLines, FitsIn, AllFit, most_parts}
use Rattle.hirhead.specs.HasLines.{IsUnfit, AreUnfit}

-- ---- bytes

lines_append : (a b : List Line) → lines_text (a ++ b) ≡ lines_text a ++ lines_text b
lines_append a b = flat_map-append line_text a b

pub one_line : (old new : List ℕ) (ws : Line) → new ≡ old ++ line_text ws → new ≡ old ++ lines_text (ws ∷ [])
one_line old new ws e = e ∙ ap (λ (t : List ℕ). old ++ t) (sym (append-nil (line_text ws)))

-- a line after others
pub more_lines : (old mid new : List ℕ) (lines : List Line) (ws : Line) → mid ≡ old ++ lines_text lines → new ≡ mid ++ line_text ws
    → new ≡ old ++ lines_text (lines ++ ws ∷ [])
more_lines old mid new lines ws e f =
    f ∙ ap (λ (t : List ℕ). t ++ line_text ws) e ∙ append_assoc old (lines_text lines) (line_text ws)
    ∙ ap (λ (t : List ℕ). old ++ (lines_text lines ++ t)) (sym (append-nil (line_text ws)))
    ∙ ap (λ (t : List ℕ). old ++ t) (sym (lines_append lines (ws ∷ [])))

pub literal_text : (bytes hex old new : List ℕ) → length bytes ≢ 0 → hex ≡ encode_lower bytes →
    new ≡ old ++ line_text (codes "lit" ∷ hex ∷ [])
    → new ≡ old ++ lines_text (lines_of (literal bytes))
literal_text [] hex old new some e f = absurd (some refl)
literal_text (b ∷ bytes) hex old new some e f =
    one_line old new (codes "lit" ∷ encode_lower (b ∷ bytes) ∷ []) (f ∙ ap (λ (t : List ℕ). old ++ line_text (codes "lit" ∷ t ∷ [])) e)

pub no_literal_text : (bytes old new : List ℕ) → length bytes ≡ 0 → new ≡ old ++ line_text (codes "empty" ∷ [])
    → new ≡ old ++ lines_text (lines_of (literal bytes))
no_literal_text [] old new none e = one_line old new (codes "empty" ∷ []) e
no_literal_text (b ∷ bytes) old new none e = absurd (omega (arith, none))

-- items, one after the other
pub next_item : (item : ℕ × ℕ → List ℕ) (ranges : List (ℕ × ℕ)) (i : ℕ) (d : ℕ × ℕ) (now new whole : List ℕ) → i < length ranges
    → new ≡ now ++ 32 ∷ item (get_or ranges i d) → now ++ after_word (map item (drop i ranges)) ≡ whole
    → new ++ after_word (map item (drop (i + 1) ranges)) ≡ whole
next_item item ranges i d now new whole below e so_far =
    let next : suc i ≡ i + 1 = omega arith in
    let cut : drop i ranges ≡ get_or ranges i d ∷ drop (i + 1) ranges =
    drop-cons ranges i d below ∙ ap (λ (k : ℕ). get_or ranges i d ∷ drop k ranges) next in
    ap (λ (t : List ℕ). t ++ after_word (map item (drop (i + 1) ranges))) e
    ∙ append_assoc now (32 ∷ item (get_or ranges i d)) (after_word (map item (drop (i + 1) ranges)))
    ∙ ap (λ (rs : List (ℕ × ℕ)). now ++ after_word (map item rs)) (sym cut) ∙ so_far

pub bytes_text : (ranges : List (ℕ × ℕ)) (old mid new : List ℕ) → length ranges ≢ 0 → mid ≡ old ++ codes "bytes"
    → new ≡ mid ++ after_word (map byte_item ranges) → new ≡ old ++ lines_text (lines_of (byte_class ranges))
bytes_text [] old mid new some e f = absurd (some refl)
bytes_text (r ∷ ranges) old mid new some e f =
    one_line old new (codes "bytes" ∷ map byte_item (r ∷ ranges))
    (f ∙ ap (λ (t : List ℕ). t ++ after_word (map byte_item (r ∷ ranges))) e
    ∙ append_assoc old (codes "bytes") (after_word (map byte_item (r ∷ ranges))))

pub no_bytes_text : (ranges : List (ℕ × ℕ)) (old new : List ℕ) → length ranges ≡ 0 → new ≡ old ++ line_text (codes "alt" ∷ decimal 0 ∷ [])
    → new ≡ old ++ lines_text (lines_of (byte_class ranges))
no_bytes_text [] old new none e = one_line old new (codes "alt" ∷ decimal 0 ∷ []) e
no_bytes_text (r ∷ ranges) old new none e = absurd (omega (arith, none))

pub chars_text : (ranges : List (ℕ × ℕ)) (old mid new : List ℕ) → length ranges ≢ 0 → mid ≡ old ++ codes "chars"
    → new ≡ mid ++ after_word (map scalar_item ranges) → new ≡ old ++ lines_text (lines_of (char_class ranges))
chars_text [] old mid new some e f = absurd (some refl)
chars_text (r ∷ ranges) old mid new some e f =
    one_line old new (codes "chars" ∷ map scalar_item (r ∷ ranges))
    (f ∙ ap (λ (t : List ℕ). t ++ after_word (map scalar_item (r ∷ ranges))) e
    ∙ append_assoc old (codes "chars") (after_word (map scalar_item (r ∷ ranges))))

pub no_chars_text : (ranges : List (ℕ × ℕ)) (old new : List ℕ) → length ranges ≡ 0 → new ≡ old ++ line_text (codes "alt" ∷ decimal 0 ∷ [])
    → new ≡ old ++ lines_text (lines_of (char_class ranges))
no_chars_text [] old new none e = one_line old new (codes "alt" ∷ decimal 0 ∷ []) e
no_chars_text (r ∷ ranges) old new none e = absurd (omega (arith, none))

lines_concat : (xs : List Tree) (k : ℕ) → lines_after k (concat xs) ≡
    flat_map lines_of xs ++ (codes "cat" ∷ decimal (k + length xs) ∷ []) ∷ []
lines_concat [] k = ap (λ (n : ℕ). (codes "cat" ∷ decimal n ∷ []) ∷ []) (omega arith)
lines_concat (x ∷ xs) k =
    let same : suc k + length xs ≡ k + suc (length xs) = omega arith in
    ap (λ (lines : List Line). lines_of x ++ lines) (lines_concat xs (suc k))
    ∙ sym (append_assoc (lines_of x) (flat_map lines_of xs) ((codes "cat" ∷ decimal (suc k + length xs) ∷ []) ∷ []))
    ∙ ap (λ (n : ℕ). flat_map lines_of (x ∷ xs) ++ (codes "cat" ∷ decimal n ∷ []) ∷ []) same

lines_alternation : (xs : List Tree) (k : ℕ) →
    lines_after k (alternation xs) ≡ flat_map lines_of xs ++ (codes "alt" ∷ decimal (k + length xs) ∷ []) ∷ []
lines_alternation [] k = ap (λ (n : ℕ). (codes "alt" ∷ decimal n ∷ []) ∷ []) (omega arith)
lines_alternation (x ∷ xs) k =
    let same : suc k + length xs ≡ k + suc (length xs) = omega arith in
    ap (λ (lines : List Line). lines_of x ++ lines) (lines_alternation xs (suc k))
    ∙ sym (append_assoc (lines_of x) (flat_map lines_of xs) ((codes "alt" ∷ decimal (suc k + length xs) ∷ []) ∷ []))
    ∙ ap (λ (n : ℕ). flat_map lines_of (x ∷ xs) ++ (codes "alt" ∷ decimal n ∷ []) ∷ []) same

counted : (xs : List Tree) (count : ℕ) → count ≡ length xs → 0 + length xs ≡ count
counted xs count e = omega (arith, e)

pub concat_text : (xs : List Tree) (x : Tree) (count : ℕ) (old mid new : List ℕ) → concat xs ≡ x → count ≡ length xs
    → mid ≡ old ++ lines_text (flat_map lines_of xs) → new ≡ mid ++ line_text (codes "cat" ∷ decimal count ∷ [])
    → new ≡ old ++ lines_text (lines_of x)
concat_text xs x count old mid new is e f g =
    more_lines old mid new (flat_map lines_of xs) (codes "cat" ∷ decimal count ∷ []) f g
    ∙ ap (λ (n : ℕ). old ++ lines_text (flat_map lines_of xs ++ (codes "cat" ∷ decimal n ∷ []) ∷ [])) (sym (counted xs count e))
    ∙ ap (λ (lines : List Line). old ++ lines_text lines) (sym (lines_concat xs 0))
    ∙ ap (λ (y : Tree). old ++ lines_text (lines_of y)) is

pub alternation_text : (xs : List Tree) (x : Tree) (count : ℕ) (old mid new : List ℕ) → alternation xs ≡ x → count ≡ length xs
    → mid ≡ old ++ lines_text (flat_map lines_of xs) → new ≡ mid ++ line_text (codes "alt" ∷ decimal count ∷ [])
    → new ≡ old ++ lines_text (lines_of x)
alternation_text xs x count old mid new is e f g =
    more_lines old mid new (flat_map lines_of xs) (codes "alt" ∷ decimal count ∷ []) f g
    ∙ ap (λ (n : ℕ). old ++ lines_text (flat_map lines_of xs ++ (codes "alt" ∷ decimal n ∷ []) ∷ [])) (sym (counted xs count e))
    ∙ ap (λ (lines : List Line). old ++ lines_text lines) (sym (lines_alternation xs 0))
    ∙ ap (λ (y : Tree). old ++ lines_text (lines_of y)) is

-- what holds of an error holds of it when it is passed on
pub handed : {A E : Type 0} (r : Result A E) (P : E → Type 0) (e : E) → IsErrAnd r (λ x. x ≡ e) → P e → IfErr r P
handed (Ok a) P e is h = tt
handed (Err x) P e is h = subst P (sym is) h

-- ---- what is seen of ranges, one after the other

abbrev IsSmall : ℕ × ℕ → Type 0
IsSmall r = r.1 < 256

pub more_small : (ranges : List (ℕ × ℕ)) (i : ℕ) (d : ℕ × ℕ) → i < length ranges → All IsSmall (take i ranges) → IsSmall (get_or ranges i d)
    → All IsSmall (take (i + 1) ranges)
more_small ranges i d below seen here = All-more IsSmall ranges i d below seen here

pub all_small : (ranges : List (ℕ × ℕ)) (i : ℕ) → length ranges ≤ i → All IsSmall (take i ranges) → All IsSmall ranges
all_small ranges i above seen = subst (All IsSmall) (take_all i ranges above) seen

pub more_scalars : (ranges : List (ℕ × ℕ)) (i : ℕ) (d : ℕ × ℕ) → i < length ranges → All AreScalars (take i ranges) →
    AreScalars (get_or ranges i d)
    → All AreScalars (take (i + 1) ranges)
more_scalars ranges i d below seen here = All-more AreScalars ranges i d below seen here

pub all_scalars : (ranges : List (ℕ × ℕ)) (i : ℕ) → length ranges ≤ i → All AreScalars (take i ranges) → All AreScalars ranges
all_scalars ranges i above seen = subst (All AreScalars) (take_all i ranges above) seen

-- ---- ranges that ascend

pub byte_ranges : (low : ℕ) (ranges : List (ℕ × ℕ)) → rises_from low ranges ≡ true → All (λ r. r.1 < 256) ranges → All IsByteRange ranges
byte_ranges low [] h small = All-nil IsByteRange
byte_ranges low (r ∷ ranges) h small =
    let p = and_parts (nat_le low r.0 && nat_le r.0 r.1) (rises_from (r.1 + 1) ranges) h in
    let q = and_parts (nat_le low r.0) (nat_le r.0 r.1) p.0 in
    All-cons IsByteRange r ranges (leb-true r.0 r.1 q.1, All-head (λ (s : ℕ × ℕ). s.1 < 256) r ranges small)
    (byte_ranges (r.1 + 1) ranges p.1 (All-tail (λ (s : ℕ × ℕ). s.1 < 256) r ranges small))

pub scalar_ranges_fit : (low : ℕ) (ranges : List (ℕ × ℕ)) → rises_from low ranges ≡ true → All AreScalars ranges → All IsScalarRange ranges
scalar_ranges_fit low [] h scalars = All-nil IsScalarRange
scalar_ranges_fit low (r ∷ ranges) h scalars =
    let p = and_parts (nat_le low r.0 && nat_le r.0 r.1) (rises_from (r.1 + 1) ranges) h in
    let q = and_parts (nat_le low r.0) (nat_le r.0 r.1) p.0 in
    let s = All-head AreScalars r ranges scalars in
    All-cons IsScalarRange r ranges (leb-true r.0 r.1 q.1, s.0, s.1)
    (scalar_ranges_fit (r.1 + 1) ranges p.1 (All-tail AreScalars r ranges scalars))

-- ---- trees that fit

pub literal_fits : (bytes : List ℕ) → All (λ b. b < 256) bytes → FitsIn 1 (literal bytes)
literal_fits [] h = ((refl, h), omega arith)
literal_fits (b ∷ bytes) h = ((refl, h), omega arith)

pub bytes_fit : (ranges : List (ℕ × ℕ)) → is_ascending ranges ≡ true → All (λ r. r.1 < 256) ranges → FitsIn 1 (byte_class ranges)
bytes_fit [] h small = ((refl, byte_ranges 0 [] h small), omega arith)
bytes_fit (r ∷ ranges) h small = ((refl, byte_ranges 0 (r ∷ ranges) h small), omega arith)

pub chars_fit : (ranges : List (ℕ × ℕ)) → is_ascending ranges ≡ true → All AreScalars ranges → FitsIn 1 (char_class ranges)
chars_fit [] h scalars = ((refl, scalar_ranges_fit 0 [] h scalars), omega arith)
chars_fit (r ∷ ranges) h scalars = ((refl, scalar_ranges_fit 0 (r ∷ ranges) h scalars), omega arith)

cat_follows : (xs : List Tree) → is_cat (concat xs) ≡ true
cat_follows [] = refl
cat_follows (x ∷ xs) = refl

alt_follows : (xs : List Tree) → is_alt (alternation xs) ≡ true
alt_follows [] = refl
alt_follows (x ∷ xs) = refl

concat_has : (levels k : ℕ) (xs : List Tree) → AllFit levels xs → k + length xs < 2 ^ 32 → HasLines k (concat xs)
concat_has levels k [] h few = omega (arith, few)
concat_has levels k (x ∷ xs) h few = (h.0.0, cat_follows xs, concat_has levels (suc k) xs h.1 (omega (arith, few)))

alternation_has : (levels k : ℕ) (xs : List Tree) → AllFit levels xs → k + length xs < 2 ^ 32 → HasLines k (alternation xs)
alternation_has levels k [] h few = omega (arith, few)
alternation_has levels k (x ∷ xs) h few = (h.0.0, alt_follows xs, alternation_has levels (suc k) xs h.1 (omega (arith, few)))

concat_low : (levels : ℕ) (xs : List Tree) → AllFit levels xs → height (printed_tree (concat xs)) ≤ suc levels
concat_low levels [] h = omega arith
concat_low levels (x ∷ xs) h =
    let here = h.0.1 in
    let rest = concat_low levels xs h.1 in omega arith

alternation_low : (levels : ℕ) (xs : List Tree) → AllFit levels xs → height (printed_tree (alternation xs)) ≤ suc levels
alternation_low levels [] h = omega arith
alternation_low levels (x ∷ xs) h =
    let here = h.0.1 in
    let rest = alternation_low levels xs h.1 in omega arith

pub concat_fits : (xs : List Tree) (x : Tree) (levels count : ℕ) → concat xs ≡ x → levels ≢ 0 → count ≡ length xs → count < 2 ^ 32
    → AllFit (levels - 1) xs → FitsIn levels x
concat_fits xs x levels count is some e few h =
    let above : 1 ≤ levels = omega arith in
    let low = concat_low (levels - 1) xs h in
    subst (FitsIn levels) is (concat_has (levels - 1) 0 xs h (omega (arith, e, few)), omega (arith, low, above))

pub alternation_fits : (xs : List Tree) (x : Tree) (levels count : ℕ) → alternation xs ≡ x → levels ≢ 0 → count ≡ length xs → count < 2 ^ 32
    → AllFit (levels - 1) xs → FitsIn levels x
alternation_fits xs x levels count is some e few h =
    let above : 1 ≤ levels = omega arith in
    let low = alternation_low (levels - 1) xs h in
    subst (FitsIn levels) is (alternation_has (levels - 1) 0 xs h (omega (arith, e, few)), omega (arith, low, above))

-- ---- trees that are rejected

height_some : (x : Tree) → 0 < height x
height_some empty = omega arith
height_some (literal bytes) = omega arith
height_some (byte_class ranges) = omega arith
height_some (char_class ranges) = omega arith
height_some (look l) = omega arith
height_some (repetition min most greedy x) = omega arith
height_some (capture index name x) = omega arith
height_some nothing = omega arith
height_some (cat x y) = let h = height_some y in omega arith
height_some never = omega arith
height_some (alt x y) = let h = height_some y in omega arith

pub no_level : (levels : ℕ) (x : Tree) → levels ≡ 0 → IsUnfit levels x TooDeep
no_level levels x e = let h = height_some (printed_tree x) in omega (arith, e, h)

concat_high : (xs : List Tree) (n : ℕ) (x : Tree) → slice_get xs n ≡ Some x →
    min (height (printed_tree x) + 1) (2 ^ 64 - 1) ≤ height (printed_tree (concat xs))
concat_high [] n x e = absurd cc
concat_high (y ∷ xs) zero x e = let same : y ≡ x = cc in let h = ap (λ (t : Tree). height (printed_tree t)) same in omega arith
concat_high (y ∷ xs) (suc n) x e = let h = concat_high xs n x e in omega arith

alternation_high : (xs : List Tree) (n : ℕ) (x : Tree) → slice_get xs n ≡ Some x →
    min (height (printed_tree x) + 1) (2 ^ 64 - 1) ≤ height (printed_tree (alternation xs))
alternation_high [] n x e = absurd cc
alternation_high (y ∷ xs) zero x e = let same : y ≡ x = cc in let h = ap (λ (t : Tree). height (printed_tree t)) same in omega arith
alternation_high (y ∷ xs) (suc n) x e = let h = alternation_high xs n x e in omega arith

concat_wide : (xs : List Tree) (k n : ℕ) (x : Tree) → slice_get xs n ≡ Some x → most_parts 0 x ≤ most_parts k (concat xs)
concat_wide [] k n x e = absurd cc
concat_wide (y ∷ xs) k zero x e = let same : y ≡ x = cc in let h = ap (most_parts 0) same in omega arith
concat_wide (y ∷ xs) k (suc n) x e = let h = concat_wide xs (suc k) n x e in omega arith

alternation_wide : (xs : List Tree) (k n : ℕ) (x : Tree) → slice_get xs n ≡ Some x → most_parts 0 x ≤ most_parts k (alternation xs)
alternation_wide [] k n x e = absurd cc
alternation_wide (y ∷ xs) k zero x e = let same : y ≡ x = cc in let h = ap (most_parts 0) same in omega arith
alternation_wide (y ∷ xs) k (suc n) x e = let h = alternation_wide xs (suc k) n x e in omega arith

concat_count : (xs : List Tree) (k : ℕ) → k + length xs ≤ most_parts k (concat xs)
concat_count [] k = omega arith
concat_count (x ∷ xs) k = let h = concat_count xs (suc k) in omega arith

alternation_count : (xs : List Tree) (k : ℕ) → k + length xs ≤ most_parts k (alternation xs)
alternation_count [] k = omega arith
alternation_count (x ∷ xs) k = let h = alternation_count xs (suc k) in omega arith

pub many_in_concat : (xs : List Tree) (x : Tree) (levels : ℕ) (e : Unfit) → concat xs ≡ x → e ≡ TooManyParts →
    2 ^ 32 ≤ length xs → IsUnfit levels x e
many_in_concat xs x levels e is many wide =
    let h = concat_count xs 0 in
    subst (IsUnfit levels x) (sym many) (subst (λ (y : Tree). 2 ^ 32 ≤ most_parts 0 y) is (omega (arith, h, wide)))

pub many_in_alternation : (xs : List Tree) (x : Tree) (levels : ℕ) (e : Unfit) → alternation xs ≡ x → e ≡ TooManyParts → 2 ^ 32 ≤ length xs
    → IsUnfit levels x e
many_in_alternation xs x levels e is many wide =
    let h = alternation_count xs 0 in
    subst (IsUnfit levels x) (sym many) (subst (λ (y : Tree). 2 ^ 32 ≤ most_parts 0 y) is (omega (arith, h, wide)))

pub part_in_concat : (xs : List Tree) (x : Tree) (levels n : ℕ) (e : Unfit) → concat xs ≡ x → levels ≢ 0 → levels < 256 →
    AreUnfit (levels - 1) xs n e
    → IsUnfit levels x e
part_in_concat xs x levels n NoMemory is some few h = tt
part_in_concat xs x levels n TooDeep is some few h =
    let above : 1 ≤ levels = omega arith in
    let part = h.is in
    let high = concat_high xs n h.tree h.listed in
    subst (λ (y : Tree). levels < height (printed_tree y)) is (omega (arith, above, few, part, high))
part_in_concat xs x levels n TooManyParts is some few h =
    let part = h.is in
    let wide = concat_wide xs 0 n h.tree h.listed in
    subst (λ (y : Tree). 2 ^ 32 ≤ most_parts 0 y) is (omega (arith, part, wide))

pub part_in_alternation : (xs : List Tree) (x : Tree) (levels n : ℕ) (e : Unfit) → alternation xs ≡ x → levels ≢ 0 → levels < 256
    → AreUnfit (levels - 1) xs n e → IsUnfit levels x e
part_in_alternation xs x levels n NoMemory is some few h = tt
part_in_alternation xs x levels n TooDeep is some few h =
    let above : 1 ≤ levels = omega arith in
    let part = h.is in
    let high = alternation_high xs n h.tree h.listed in
    subst (λ (y : Tree). levels < height (printed_tree y)) is (omega (arith, above, few, part, high))
part_in_alternation xs x levels n TooManyParts is some few h =
    let part = h.is in
    let wide = alternation_wide xs 0 n h.tree h.listed in
    subst (λ (y : Tree). 2 ^ 32 ≤ most_parts 0 y) is (omega (arith, part, wide))

listed : (xs : List Tree) (i : ℕ) (x : Tree) → i < length xs → x ≡ get_or xs i x → slice_get xs i ≡ Some x
listed [] i x below is = absurd (omega arith)
listed (y ∷ xs) zero x below is = ap Some (sym is)
listed (y ∷ xs) (suc i) x below is = listed xs i x (omega arith) is

-- the tree at this index is rejected
pub one_unfit : (levels : ℕ) (xs : List Tree) (i : ℕ) (x : Tree) (e : Unfit) → i < length xs → x ≡ get_or xs i x → IsUnfit levels x e →
    AreUnfit levels xs i e
one_unfit levels xs i x NoMemory below is h = tt
one_unfit levels xs i x TooDeep below is h = record { tree = x; listed = listed xs i x below is; is = h }
one_unfit levels xs i x TooManyParts below is h = record { tree = x; listed = listed xs i x below is; is = h }
