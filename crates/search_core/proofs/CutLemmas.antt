-- What is read at an offset of valid UTF-8 that isn't split.
use Rattle.std.proofs.Common.{◌≡◌, ℕ, suc, ◌-◌, ◌<◌, ◌≤◌, inl, inr, true, List, [], ◌∷◌, ◌++◌, length, get_or, take, drop, Option, Some}
use Rattle.std.proofs.Common.{None, Result, Ok, Err, IsCharBoundary, refl, sym, ap, subst, ◌∙◌, arith, length-append, length-drop}
use Rattle.std.proofs.Common.{length-take-le, append_assoc, append-nil, drop_at}
use Rattle.std.proofs.lemmas.Bool.{cases_order}
use Rattle.std.proofs.lemmas.Bool.Decides.{nat_tests}
use Rattle.std.proofs.lemmas.Str.{IsUtf8-take, IsUtf8-drop}
use Rattle.search_core.specs.Utf8.{Spells, SpellsFirst, SpellsLast, Decodes, DecodesLast, IsValidText, IsSplit, is_boundary}
use Rattle.search_core.specs.Utf8.IsValidText.{no_spelling, spelling_then}
use Rattle.search_core.proofs.DecodeLemmas.{same_last}
use Rattle.search_core.proofs.Utf8Lemmas.{heads_same, one_scalar, utf8_of_valid, valid_of_utf8}
use Rattle.search_core.proofs.SplitLemmas.{spelling_tails, spelling_lead, spelling_some, boundary_or_split}

pub first_decodes : (c : ℕ) (s after : List ℕ) (r : Option (Result ℕ ℕ)) → Spells c s → Decodes (s ++ after) r → r ≡ Some (Ok c)
first_decodes c s after None h d = absurd (omega (arith, ap length d, length-append s after, spelling_some c s h))
first_decodes c s after (Some (Ok x)) h d =
    let m = heads_same c x s d.spelling after d.rest h d.spells d.joined in
    ap (λ y. Some (Ok y)) (sym m.0)
first_decodes c s after (Some (Err b)) h d = absurd (d.1 c (record { spelling = s; rest = after; spells = h; joined = refl }))

-- of two spellings at the end of the same bytes, neither is longer: the first byte of the shorter one would lie inside the longer one
not_longer : (bytes f g s t : List ℕ) (c d : ℕ) → Spells c s → Spells d t → bytes ≡ f ++ s → bytes ≡ g ++ t → length s < length t → ⊥
not_longer bytes f g s t c d h k ef eg l =
    let some = spelling_some c s h in
    let j : suc (length s - 1) ≡ length s = omega arith in
    let z : length s - length s ≡ 0 = omega arith in
    let es : get_or s 0 0 ≡ get_or bytes (length bytes - length s) 0 =
    rw z at (rw j at (same_last bytes f s (length s - 1) ef (omega arith))) in
    let et : get_or t (length t - length s) 0 ≡ get_or bytes (length bytes - length s) 0 =
    rw j at (same_last bytes g t (length s - 1) eg (omega arith)) in
    let inner = spelling_tails d t k (length t - length s) (omega arith) (omega arith) in
    elim (spelling_lead c s h) [ inl low ↦ omega arith | inr high ↦ omega arith ]

pub same_length : (bytes f g s t : List ℕ) (c d : ℕ) → Spells c s → Spells d t → bytes ≡ f ++ s → bytes ≡ g ++ t → length s ≡ length t
same_length bytes f g s t c d h k ef eg = elim (cases_order (length s) (length t)) [
  | inl e ↦ e
  | inr w ↦ elim w [
    | inl l ↦ absurd (not_longer bytes f g s t c d h k ef eg l)
    | inr l ↦ absurd (not_longer bytes g f t s d c k h eg ef l)
  ]
]

pub lasts_same : (bytes f g s t : List ℕ) (c d : ℕ) → Spells c s → Spells d t → bytes ≡ f ++ s → bytes ≡ g ++ t → s ≡ t
lasts_same bytes f g s t c d h k ef eg =
    let n = same_length bytes f g s t c d h k ef eg in
    let nf : length f ≡ length g = omega (arith, ap length ef, ap length eg, length-append f s, length-append g t) in
    sym (drop_at f s (length g) nf) ∙ ap (drop (length g)) (sym ef ∙ eg) ∙ drop_at g t (length g) refl

pub last_decodes : (c : ℕ) (before s : List ℕ) (r : Option (Result ℕ ℕ)) → Spells c s → DecodesLast (before ++ s) r → r ≡ Some (Ok c)
last_decodes c before s None h d = absurd (omega (arith, ap length d, length-append before s, spelling_some c s h))
last_decodes c before s (Some (Ok x)) h d =
    let e = lasts_same (before ++ s) before d.front s d.spelling c x h d.spells refl d.joined in
    ap (λ y. Some (Ok y)) (sym (one_scalar c x s h (subst (Spells x) (sym e) d.spells)))
last_decodes c before s (Some (Err b)) h d = absurd (d.1 c (record { front = before; spelling = s; spells = h; joined = refl }))

-- parts of valid UTF-8
char_boundary : (h : List ℕ) (i : ℕ) → i ≤ length h → is_boundary h i ≡ true → IsCharBoundary h i
char_boundary h i l e = (l, λ below high. grind (arith, nat_tests))

cut_is_boundary : (h : List ℕ) (i : ℕ) → IsValidText h → i ≤ length h → ¬ (IsSplit h i) → IsCharBoundary h i
cut_is_boundary h i v l no_split = elim (boundary_or_split h i v l) [ inl e ↦ char_boundary h i l e | inr p ↦ absurd (no_split p) ]

pub valid_before : (h : List ℕ) (i : ℕ) → IsValidText h → i ≤ length h → ¬ (IsSplit h i) → IsValidText (take i h)
valid_before h i v l n = valid_of_utf8 (take i h) (IsUtf8-take h i (utf8_of_valid h v) (cut_is_boundary h i v l n))

pub valid_behind : (h : List ℕ) (i : ℕ) → IsValidText h → i ≤ length h → ¬ (IsSplit h i) → IsValidText (drop i h)
valid_behind h i v l n = valid_of_utf8 (drop i h) (IsUtf8-drop h i (utf8_of_valid h v) (cut_is_boundary h i v l n))

-- valid UTF-8 that isn't empty has a first spelling and a last
first_of : (h : List ℕ) → IsValidText h → 0 < length h → (c : ℕ) × SpellsFirst c h
first_of h (no_spelling _ e) l = absurd (omega (arith, ap length e))
first_of h (spelling_then c s rest _ k v e) l = (c, record { spelling = s; rest = rest; spells = k; joined = e })

last_of : (h : List ℕ) → IsValidText h → 0 < length h → (c : ℕ) × SpellsLast c h
last_of h (no_spelling _ e) l = absurd (omega (arith, ap length e))
last_of h (spelling_then c s [] _ k v e) l = (c, record { front = []; spelling = s; spells = k; joined = e ∙ append-nil s })
last_of h (spelling_then c s (b ∷ rest) _ k v e) l =
    let o = last_of (b ∷ rest) v (omega arith) in (
      o.0,
      record {
        front = s ++ o.1.front;
        spelling = o.1.spelling;
        spells = o.1.spells;
        joined = e ∙ ap (λ x. s ++ x) o.1.joined ∙ sym (append_assoc s o.1.front o.1.spelling);
      },
    )

pub cut_behind : (h : List ℕ) (i : ℕ) (r : Option (Result ℕ ℕ)) → IsValidText h → i < length h → ¬ (IsSplit h i) →
    Decodes (drop i h) r → (c : ℕ) × (r ≡ Some (Ok c))
cut_behind h i r v l n d =
    let f = first_of (drop i h) (valid_behind h i v (omega arith) n) (omega (arith, length-drop i h)) in
    let g = f.1 in
    (f.0, first_decodes f.0 g.spelling g.rest r g.spells (subst (λ x. Decodes x r) g.joined d))

pub cut_before : (h : List ℕ) (i : ℕ) (r : Option (Result ℕ ℕ)) → IsValidText h → 0 < i → i ≤ length h → ¬ (IsSplit h i) →
    DecodesLast (take i h) r → (c : ℕ) × (r ≡ Some (Ok c))
cut_before h i r v low l n d =
    let some : 0 < length (take i h) = omega (arith, length-take-le i h l) in
    let f = last_of (take i h) (valid_before h i v l n) some in
    let g = f.1 in
    (f.0, last_decodes f.0 g.front g.spelling r g.spells (subst (λ x. DecodesLast x r) g.joined d))
