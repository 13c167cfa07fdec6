-- Patterns that are cut off one by one.
use Rattle.std.proofs.Common.{◌≡◌, ◌≢◌, ℕ, suc, ◌+◌, ◌-◌, ◌<◌, ◌≤◌, List, [], ◌∷◌, ◌++◌, length, take, drop, slice_index_or, slice_get}
use Rattle.std.proofs.Common.{Option, Some, refl, subst, sym, ap, ap₂, ◌∙◌, append_assoc, append-nil, arith, drop-cons, drop_of_length-le}
use Rattle.std.proofs.Common.{length-append, length-drop, zero, ◌==◌, false, true, true≢false, ◌⊎◌, inl, inr, ◌&&◌, not, Bool}
use Rattle.std.specs.Bool.{nat_eq}
use Rattle.std.proofs.Math.Bool.{and-false}
use Rattle.std.proofs.Math.Dec.{eqb-suc-zero}
use Rattle.std.proofs.lemmas.Bool.{eqb-false}
use Rattle.std.proofs.lemmas.Bool.Decides.{eqb_tells}
use Rattle.std.specs.List.{sum_by}
use Rattle.std.proofs.lemmas.List.Sums.{sum_by-drop_more, sum_by-take-drop}
use Rattle.ffi_core.specs.declared.failure.NewError.{NewError}
use Rattle.ffi_core.specs.declared.failure.NewError.TheVariants.{BadArgument, NotUtf8}
use Rattle.ffi_core.specs.Compiled.{IsCallError, IsSplitError, are_arguments, do_lengths_fit}
use Rattle.ffi_core.specs.Options.{has_known_flags}
use Rattle.ffi_core.specs.declared.options.Options.{Options}
use Rattle.meta_regex.specs.Regexes.{IsNoText}
use Rattle.ffi_core.specs.Texts.{cut}

-- So many patterns are cut off so far. With those that the rest is cut into they are those of the whole, and the lengths that are left sum
-- up to the rest as all do to the whole.
abbrev pub IsCutSoFar : List ℕ → List ℕ → ℕ → List (List ℕ) → List ℕ → Type 0
IsCutSoFar lengths bytes n texts rest =
    (texts ++ cut (drop n lengths) rest ≡ cut lengths bytes) × (length texts ≡ n) ×
    (sum_by (λ k. k) (drop n lengths) + length bytes ≡ sum_by (λ k. k) lengths + length rest)

abbrev pub total : List ℕ → ℕ
total ns = sum_by (λ n. n) ns

total_none : total [] ≡ 0
total_none = let twice : total [] + total [] ≡ total [] = sum_by-take-drop (λ n. n) [] 0 in omega (arith, twice)

-- the lengths that are left sum up to the next one and those after it
left_sum : (lengths : List ℕ) (n d : ℕ) → n < length lengths →
    total (drop n lengths) ≡ slice_index_or lengths n d + total (drop (n + 1) lengths)
left_sum lengths n d below = sum_by-drop_more (λ n. n) lengths n d below

pub one_more_cut : (lengths bytes : List ℕ) (n d : ℕ) (texts more : List (List ℕ)) (rest text behind : List ℕ) → n < length lengths →
    slice_index_or lengths n d ≤ length rest →
    text ≡ take (slice_index_or lengths n d) rest → behind ≡ drop (slice_index_or lengths n d) rest → more ≡ texts ++ text ∷ [] →
    IsCutSoFar lengths bytes n texts rest → IsCutSoFar lengths bytes (n + 1) more behind
unfolding cut
one_more_cut lengths bytes n d texts more rest text behind below fits here there is so_far =
    let k = slice_index_or lengths n d in
    let step : suc n ≡ n + 1 = omega arith in
    let shorter : length behind ≡ length rest - k = ap length there ∙ length-drop k rest in (
      ap (λ (m : ℕ). more ++ cut (drop m lengths) behind) (sym step)
          ∙ ap (λ (ts : List (List ℕ)). ts ++ cut (drop (suc n) lengths) behind) is
          ∙ append_assoc texts (text ∷ []) (cut (drop (suc n) lengths) behind)
          ∙ ap₂ (λ (t b : List ℕ). texts ++ t ∷ cut (drop (suc n) lengths) b) here there
          ∙ ap (λ (ns : List ℕ). texts ++ cut ns rest) (sym (drop-cons lengths n d below))
          ∙ so_far.0,
      ap length is ∙ length-append texts (text ∷ []) ∙ ap (λ (m : ℕ). m + 1) so_far.1,
      omega (arith, so_far.2, left_sum lengths n d below, shorter, fits),
    )

pub all_cut : (lengths bytes : List ℕ) (n : ℕ) (texts : List (List ℕ)) (rest : List ℕ) → length lengths ≤ n →
    IsCutSoFar lengths bytes n texts rest → texts ≡ cut lengths bytes
unfolding cut
all_cut lengths bytes n texts rest above so_far =
    sym (append-nil texts) ∙ ap (λ (ns : List ℕ). texts ++ cut ns rest) (sym (drop_of_length-le lengths above)) ∙ so_far.0

-- if the next length is above what is left, or something is left after all of them, they don't sum up to the whole
pub too_few : (lengths bytes : List ℕ) (n d : ℕ) (texts : List (List ℕ)) (rest : List ℕ) → n < length lengths →
    length rest < slice_index_or lengths n d → IsCutSoFar lengths bytes n texts rest → total lengths ≢ length bytes
too_few lengths bytes n d texts rest below more so_far same =
    absurd (omega (arith, so_far.2, left_sum lengths n d below, more, same))

positive : (n : ℕ) → false ≡ (n == 0) → 0 < n
positive zero e = absurd (true≢false (sym e))
positive (suc n) e = omega arith

pub too_many : (lengths bytes : List ℕ) (n : ℕ) (texts : List (List ℕ)) (rest : List ℕ) → length lengths ≤ n →
    false ≡ (length rest == 0) → IsCutSoFar lengths bytes n texts rest → total lengths ≢ length bytes
too_many lengths bytes n texts rest above some so_far same =
    let left : 0 < length rest = positive (length rest) some in
    let none : total (drop n lengths) ≡ 0 = ap total (drop_of_length-le lengths above) ∙ total_none in
    absurd (omega (arith, so_far.2, none, left, same))

got_behind : (ts us : List (List ℕ)) (t : List ℕ) → slice_get (ts ++ t ∷ us) (length ts) ≡ Some t
got_behind [] us t = refl
got_behind (x ∷ ts) us t = got_behind ts us t

-- the pattern of a number is the one that is cut off next
pub next_text : (lengths bytes : List ℕ) (n d : ℕ) (texts : List (List ℕ)) (rest text : List ℕ) → n < length lengths →
    text ≡ take (slice_index_or lengths n d) rest → IsCutSoFar lengths bytes n texts rest → Some text ≡ slice_get (cut lengths bytes) n
unfolding cut
next_text lengths bytes n d texts rest text below here so_far =
    let k = slice_index_or lengths n d in
    ap Some here
    ∙ sym (got_behind texts (cut (drop (suc n) lengths) (drop k rest)) (take k rest))
    ∙ ap (λ (ns : List ℕ). slice_get (texts ++ cut ns rest) (length texts)) (sym (drop-cons lengths n d below))
    ∙ ap (λ (ts : List (List ℕ)). slice_get ts (length texts)) so_far.0
    ∙ ap (slice_get (cut lengths bytes)) so_far.1

-- and if that one is rejected, its number is reported
pub refused_text : (lengths bytes : List ℕ) (n d : ℕ) (texts : List (List ℕ)) (rest text : List ℕ) → n < length lengths →
    text ≡ take (slice_index_or lengths n d) rest → IsCutSoFar lengths bytes n texts rest → (e : NewError) →
    (at : ℕ) × (e ≡ NotUtf8 n at) × IsNoText (Some text) at → IsSplitError lengths bytes e
refused_text lengths bytes n d texts rest text below here so_far e it =
    subst (IsSplitError lengths bytes) (sym it.1)
    (subst (λ (o : Option (List ℕ)). IsNoText o it.0) (next_text lengths bytes n d texts rest text below here so_far) it.2)

-- ---- lengths alone
same_tests : (a b m n : ℕ) → (a ≡ b → m ≡ n) → (m ≡ n → a ≡ b) → nat_eq a b ≡ nat_eq m n
same_tests a b m n to from = by_cases (eqb_tells a b) (eqb_tells m n)
  where
    by_cases : ((nat_eq a b ≡ true) × (a ≡ b)) ⊎ ((nat_eq a b ≡ false) × (a ≢ b)) →
        ((nat_eq m n ≡ true) × (m ≡ n)) ⊎ ((nat_eq m n ≡ false) × (m ≢ n)) → nat_eq a b ≡ nat_eq m n
    by_cases (inl p) (inl q) = p.0 ∙ sym q.0
    by_cases (inl p) (inr q) = absurd (q.1 (to p.1))
    by_cases (inr p) (inl q) = absurd (p.1 (from q.1))
    by_cases (inr p) (inr q) = p.0 ∙ sym q.0

pub one_more_length : (lengths bytes : List ℕ) (n d left : ℕ) → n < length lengths → slice_index_or lengths n d ≤ left →
    total (drop n lengths) + length bytes ≡ total lengths + left →
    total (drop (n + 1) lengths) + length bytes ≡ total lengths + (left - slice_index_or lengths n d)
one_more_length lengths bytes n d left below fits so_far = omega (arith, so_far, left_sum lengths n d below, fits)

-- whether nothing is left says whether they fit
pub fits_at_end : (lengths bytes : List ℕ) (n left : ℕ) → false ≡ (length lengths == 0) → length lengths ≤ n →
    total (drop n lengths) + length bytes ≡ total lengths + left → nat_eq left 0 ≡ do_lengths_fit lengths bytes
fits_at_end lengths bytes n left some above so_far =
    let none : total (drop n lengths) ≡ 0 = ap total (drop_of_length-le lengths above) ∙ total_none in
    same_tests left 0 (total lengths) (length bytes) (λ e. omega (arith, none, so_far, e)) (λ e. omega (arith, none, so_far, e))
    ∙ ap (λ b. not b && nat_eq (total lengths) (length bytes)) some

-- a length above what is left
pub longer_than_left : (lengths bytes : List ℕ) (n d left : ℕ) → n < length lengths → left < slice_index_or lengths n d →
    total (drop n lengths) + length bytes ≡ total lengths + left → false ≡ do_lengths_fit lengths bytes
longer_than_left lengths bytes n d left below more so_far =
    by_cases (eqb_tells (total lengths) (length bytes))
  where
    by_cases : ((nat_eq (total lengths) (length bytes) ≡ true) × (total lengths ≡ length bytes)) ⊎
        ((nat_eq (total lengths) (length bytes) ≡ false) × (total lengths ≢ length bytes)) → false ≡ do_lengths_fit lengths bytes
    by_cases (inl p) = absurd (omega (arith, so_far, left_sum lengths n d below, more, p.1))
    by_cases (inr p) = sym (ap (λ b. not (nat_eq (length lengths) 0) && b) p.0 ∙ and-false (not (nat_eq (length lengths) 0)))

-- ---- arguments
no_fit : (lengths bytes : List ℕ) → do_lengths_fit lengths bytes ≡ false → (lengths ≡ []) ⊎ (total lengths ≢ length bytes)
no_fit [] bytes off = inl refl
no_fit (n ∷ ns) bytes off =
    inr (eqb-false (total (n ∷ ns)) (length bytes)
    (sym (ap (λ b. not b && nat_eq (total (n ∷ ns)) (length bytes)) (eqb-suc-zero (length ns))) ∙ off))

pub refused_arguments : (o : Options) (lengths bytes : List ℕ) → are_arguments o lengths bytes ≡ false →
    IsCallError o lengths bytes BadArgument
refused_arguments o lengths bytes off = by_flags (has_known_flags o) refl off
  where
    by_flags : (known : Bool) → has_known_flags o ≡ known → (known && do_lengths_fit lengths bytes) ≡ false →
        IsCallError o lengths bytes BadArgument
    by_flags false unknown rest = inr unknown
    by_flags true known rest = inl (no_fit lengths bytes rest)
