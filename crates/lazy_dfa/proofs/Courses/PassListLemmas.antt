-- The scans of a half search, one after the other, and the result of the search by them.
use Rattle.std.proofs.Common.{◌≡◌, ℕ, zero, suc, ◌+◌, ◌-◌, ◌<◌, ◌≤◌, Bool, true, false, List, [], ◌∷◌, None, refl, sym, ap, ◌∙◌, ◌⊎◌, inl}
use Rattle.std.proofs.Common.{inr, ⊎_elim, subst, arith, if◌then◌else◌}
use Rattle.std.proofs.lemmas.Bool.{cases_Bool, cases_lt, le-leb}
use Rattle.search_types.specs.Inputs.{Search}
use Rattle.search_types.specs.Modes.{is_anchored}
use Rattle.search_types.specs.Places.{counts}
use Rattle.lazy_dfa.specs.Linked.{scans_on, scans_of}
use Rattle.lazy_dfa.specs.Scans.{next_offset, scan}
use Rattle.lazy_dfa.specs.ScanLaws.{splits}
use Rattle.lazy_dfa.specs.Readers.{Reader, HalfAnswer, found}
use Rattle.lazy_dfa.specs.HalfSearchLaws.{begins_at, shorter}
use Rattle.lazy_dfa.specs.HalfSearches.{rescans, first_offset, half_search}
use Rattle.lazy_dfa.proofs.HalfSearches.AnewLemmas.{next_forward, next_reverse, again, last_pass}
use Rattle.lazy_dfa.proofs.HalfSearches.RestartLemmas.{whole_stays, split_goes}
use Rattle.lazy_dfa.proofs.HalfSearches.ScanLemmas.{past_le, scan_done, scan_anchored, scan_unanchored}

-- the scan with which a half search begins, by its number of bytes and its offset
abbrev pub first_pass : Reader → Search → ℕ × ℕ
first_pass r t = (t.end - t.start, begins_at r t)

-- the result of that scan
abbrev pub first_answer : Reader → Search → HalfAnswer
first_answer r t = scan r t.anchored t.earliest t.haystack (t.end - t.start) (begins_at r t)

-- whether that result is an end that doesn't count
abbrev pub first_splits : Reader → Search → Bool
first_splits r t = splits (counts r.between_characters t.haystack) (first_answer r t)

pub done_passes : (r : Reader) (t : Search) → t.end < t.start → scans_of r t ≡ []
done_passes r t past =
    ap (λ (b : Bool). if b then (if is_anchored t.anchored then first_pass r t ∷ []
    else scans_on r t.anchored t.earliest t.haystack (t.end - t.start) (begins_at r t)) else []) (past_le t.start t.end past)

module _ (r : Reader) (t : Search) (fits : t.start ≤ t.end) where
  abbrev len : ℕ
  len = t.end - t.start

  abbrev one : ℕ → ℕ → HalfAnswer
  one n i = scan r t.anchored t.earliest t.haystack n i

  abbrev split : HalfAnswer → Bool
  split a = splits (counts r.between_characters t.haystack) a

  abbrev on : ℕ → ℕ → List (ℕ × ℕ)
  on n i = scans_on r t.anchored t.earliest t.haystack n i

  abbrev by_mode : Bool → List (ℕ × ℕ)
  by_mode b = if b then first_pass r t ∷ [] else on len (begins_at r t)

  begun : scans_of r t ≡ by_mode (is_anchored t.anchored)
  begun = ap (λ (b : Bool). if b then by_mode (is_anchored t.anchored) else []) (le-leb t.start t.end fits)

  pub anchored_once : is_anchored t.anchored ≡ true → scans_of r t ≡ first_pass r t ∷ []
  anchored_once a = begun ∙ ap by_mode a

  pub free_passes : is_anchored t.anchored ≡ false → scans_of r t ≡ on len (begins_at r t)
  free_passes a = begun ∙ ap by_mode a

  on_whole : (n i : ℕ) → split (one n i) ≡ false → on n i ≡ (n, i) ∷ []
  on_whole zero i e = refl
  on_whole (suc n) i e = ap (λ (b : Bool). (suc n, i) ∷ (if b then on n (next_offset r i) else [])) e

  pub on_split : (n m i : ℕ) → n ≡ suc m → split (one n i) ≡ true → on n i ≡ (n, i) ∷ on m (next_offset r i)
  on_split n m i is = subst (λ (k : ℕ). split (one k i) ≡ true → on k i ≡ (k, i) ∷ on m (next_offset r i)) (sym is)
      (λ e. ap (λ (b : Bool). (suc m, i) ∷ (if b then on m (next_offset r i) else [])) e)

  on_none : (n i : ℕ) → n ≡ 0 → on n i ≡ (n, i) ∷ []
  on_none n i is = subst (λ (k : ℕ). on k i ≡ (k, i) ∷ []) (sym is) refl

  -- ---- a search that ends with its first scan

  pub whole_once : first_splits r t ≡ false → scans_of r t ≡ first_pass r t ∷ []
  whole_once e = ⊎_elim
      (λ (a : is_anchored t.anchored ≡ true). anchored_once a)
      (λ (a : is_anchored t.anchored ≡ false). free_passes a ∙ on_whole len (begins_at r t) e)
      (cases_Bool (is_anchored t.anchored))

  whole_first : (n i : ℕ) → split (one n i) ≡ false → rescans r t.anchored t.earliest t.haystack n i ≡ one n i
  whole_first zero i e = whole_stays (counts r.between_characters t.haystack) (one 0 i) (found None) e
  whole_first (suc n) i e = whole_stays (counts r.between_characters t.haystack) (one (suc n) i)
      (rescans r t.anchored t.earliest t.haystack n (next_offset r i)) e

  pub whole_scan : first_splits r t ≡ false → half_search r t ≡ first_answer r t
  whole_scan e = ⊎_elim
      (λ (a : is_anchored t.anchored ≡ true).
      scan_anchored r t fits a ∙ whole_stays (counts r.between_characters t.haystack) (first_answer r t) (found None) e)
      (λ (a : is_anchored t.anchored ≡ false). scan_unanchored r t fits a ∙ whole_first len (begins_at r t) e)
      (cases_Bool (is_anchored t.anchored))

  pub anchored_scan : is_anchored t.anchored ≡ true → first_splits r t ≡ true → half_search r t ≡ found None
  anchored_scan a e =
      scan_anchored r t fits a ∙ split_goes (counts r.between_characters t.haystack) (first_answer r t) (found None) e

  pub lowest_once : is_anchored t.anchored ≡ false → t.start ≡ t.end → scans_of r t ≡ first_pass r t ∷ []
  lowest_once a same = free_passes a ∙ on_none len (begins_at r t) (omega (arith, same))

  pub lowest_scan : is_anchored t.anchored ≡ false → t.start ≡ t.end → first_splits r t ≡ true → half_search r t ≡ found None
  lowest_scan a same e =
      last_pass r t a same ∙ split_goes (counts r.between_characters t.haystack) (first_answer r t) (found None) e

  -- the first scan is made in any case
  pub passes_begin : (tail : List (ℕ × ℕ)) × (scans_of r t ≡ first_pass r t ∷ tail)
  passes_begin = ⊎_elim
      (λ (a : is_anchored t.anchored ≡ true). ([], anchored_once a))
      (λ (a : is_anchored t.anchored ≡ false). let later = some len (begins_at r t) in (later.0, free_passes a ∙ later.1))
      (cases_Bool (is_anchored t.anchored))
    where
      some : (n i : ℕ) → (tail : List (ℕ × ℕ)) × (on n i ≡ (n, i) ∷ tail)
      some zero i = ([], refl)
      some (suc n) i = (if split (one (suc n) i) then on n (next_offset r i) else [], refl)

-- ---- a search that restarts

module _ (r : Reader) (t : Search) (free : is_anchored t.anchored ≡ false) where
  abbrev all : ℕ → ℕ → List (ℕ × ℕ)
  all n i = scans_on r t.anchored t.earliest t.haystack n i

  abbrev bytes : ℕ
  bytes = t.end - t.start

  shorter_passes : (is_reverse : Bool) → r.automaton.reverse ≡ is_reverse → t.start < t.end →
      scans_of r (shorter is_reverse t) ≡ all (bytes - 1) (next_offset r (begins_at r t))
  shorter_passes false is l =
      free_passes r (shorter false t) (omega (arith, l)) free
      ∙ ap (λ (n : ℕ). all n (first_offset r.automaton.reverse (t.start + 1) t.end)) (less t.start t.end)
      ∙ ap (λ (i : ℕ). all (bytes - 1) i) (next_forward r.automaton.reverse t.start t.end is)
    where
      less : (s e : ℕ) → e - (s + 1) ≡ e - s - 1
      less s e = omega arith
  shorter_passes true is l =
      free_passes r (shorter true t) (omega (arith, l)) free
      ∙ ap (λ (n : ℕ). all n (first_offset r.automaton.reverse t.start (t.end - 1))) (less t.start t.end)
      ∙ ap (λ (i : ℕ). all (bytes - 1) i) (next_reverse r.automaton.reverse t.start t.end is)
    where
      less : (s e : ℕ) → e - 1 - s ≡ e - s - 1
      less s e = omega arith

  over : (is_reverse : Bool) → t.start ≡ t.end → (is_reverse ≡ true → 0 < t.end) → (shorter is_reverse t).end < (shorter is_reverse t).start
  over false same some = omega (arith, same)
  over true same some = let l = some refl in omega (arith, same, l)

  module _ (fits : t.start ≤ t.end) (e : first_splits r t ≡ true) where
    -- if the search is in reverse, the end of the span isn't the start of the haystack
    passes_anew_by : (is_reverse : Bool) → r.automaton.reverse ≡ is_reverse → (is_reverse ≡ true → 0 < t.end) → (t.start < t.end) ⊎
        (t.end ≤ t.start) →
        scans_of r t ≡ first_pass r t ∷ scans_of r (shorter is_reverse t)
    passes_anew_by is_reverse is some (inl l) =
        free_passes r t fits free ∙ on_split r t fits bytes (bytes - 1) (begins_at r t) (omega (arith, l)) e
        ∙ sym (ap (λ (ps : List (ℕ × ℕ)). first_pass r t ∷ ps) (shorter_passes is_reverse is l))
    passes_anew_by is_reverse is some (inr l) =
        lowest_once r t fits free (omega (arith, fits, l))
        ∙ sym (ap (λ (ps : List (ℕ × ℕ)). first_pass r t ∷ ps) (done_passes r (shorter is_reverse t)
        (over is_reverse (omega (arith, fits, l)) some)))

    scan_anew_by : (is_reverse : Bool) → r.automaton.reverse ≡ is_reverse → (is_reverse ≡ true → 0 < t.end) → (t.start < t.end) ⊎
        (t.end ≤ t.start) →
        half_search r t ≡ half_search r (shorter is_reverse t)
    scan_anew_by is_reverse is some (inl l) =
        again r t free l
        ∙ split_goes (counts r.between_characters t.haystack) (first_answer r t) (half_search r (shorter r.automaton.reverse t)) e
        ∙ ap (λ (d : Bool). half_search r (shorter d t)) is
    scan_anew_by is_reverse is some (inr l) =
        lowest_scan r t fits free (omega (arith, fits, l)) e
        ∙ sym (scan_done r (shorter is_reverse t) (over is_reverse (omega (arith, fits, l)) some))

    pub passes_anew : (is_reverse : Bool) → r.automaton.reverse ≡ is_reverse → (is_reverse ≡ true → 0 < t.end) →
        scans_of r t ≡ first_pass r t ∷ scans_of r (shorter is_reverse t)
    passes_anew is_reverse is some = passes_anew_by is_reverse is some (cases_lt t.start t.end)

    pub scan_anew : (is_reverse : Bool) → r.automaton.reverse ≡ is_reverse → (is_reverse ≡ true → 0 < t.end) →
        half_search r t ≡ half_search r (shorter is_reverse t)
    scan_anew is_reverse is some = scan_anew_by is_reverse is some (cases_lt t.start t.end)
