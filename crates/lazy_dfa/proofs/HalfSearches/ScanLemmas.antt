-- Half searches as scans.
use Rattle.std.proofs.Common.{◌≡◌, ℕ, zero, suc, ◌-◌, ◌<◌, ◌≤◌, Bool, true, false, not, List, length, Option, Some, None, if◌then◌else◌}
use Rattle.std.proofs.Common.{refl, sym, ap, ◌∙◌, ◌⊎◌, inl, inr, ⊎_elim, arith}
use Rattle.std.proofs.lemmas.Bool.{cases_Bool, cases_lt, le-leb, leb-true}
use Rattle.std.specs.Bool.{nat_le}
use Rattle.search_types.specs.declared.match_kind.MatchKind.{MatchKind}
use Rattle.search_types.specs.declared.match_kind.MatchKind.TheVariants.{All as AllMatches, LeftmostFirst}
use Rattle.search_types.specs.declared.anchored.Anchored.{Anchored}
use Rattle.search_types.specs.Modes.{is_anchored, is_supported}
use Rattle.search_types.specs.Inputs.{Search}
use Rattle.search_types.specs.Places.{counts}
use Rattle.nfa_core.specs.Nfa.{IsWellFormed}
use Rattle.nfa_core.specs.Ways.{span, offset_of, bytes_left, ends_from}
use Rattle.lazy_dfa.specs.Readers.{Reader, HalfAnswer, found, quit, unsupported}
use Rattle.lazy_dfa.specs.Scans.{next_offset, start_name, scan}
use Rattle.lazy_dfa.specs.HalfSearches.{unless_split, rescans, first_offset, begun_at, half_search}
use Rattle.lazy_dfa.specs.ScanLaws.{splits, scan_of}
use Rattle.lazy_dfa.specs.HalfSearchLaws.{IsWanted, Splits, IsOfScans, HasNoQuitNear, IsQuitNear}
use Rattle.lazy_dfa.proofs.HalfSearches.TurnLemmas.{found_no_quit, found_no_mode}
use Rattle.lazy_dfa.proofs.HalfSearches.PassQuitLemmas.{told_is_mode}
use Rattle.lazy_dfa.proofs.HalfSearches.PassLemmas.{pass_finds_first, pass_finds_last}
use Rattle.lazy_dfa.proofs.HalfSearches.NearestLemmas.{pass_finds_nearest}
use Rattle.lazy_dfa.proofs.HalfSearches.RestartLemmas.{whole_stays, split_goes, later_first, later_next}
use Rattle.lazy_dfa.proofs.HalfSearches.NearbyLemmas.{Fits, once_quits_near, passes_quit_near, once_finds_near, passes_find_near}

-- ---- what one scan finds

pub pass_finds : (r : Reader) (mode : Anchored) (earliest : Bool) (h : List ℕ) (s e i q : ℕ) (o : Option (ℕ × ℕ)) →
    IsWellFormed r.automaton → i ≤ e → e ≤ length h →
    start_name r.automaton mode ≡ Some q → q < length r.automaton.states → (kind : MatchKind) → r.kind ≡ kind →
    scan r mode earliest h (bytes_left r.automaton.reverse (span r.terminator h s e) i) i ≡ found o →
    IsWanted kind earliest r.automaton.reverse (ends_from r.automaton (span r.terminator h s e) (i, q)) o
pass_finds r mode true h s e i q o formed below within named low kind k is =
    pass_finds_nearest r mode h s e i q formed below within named low o is
pass_finds r mode false h s e i q o formed below within named low LeftmostFirst k is =
    pass_finds_first r mode h s e i q formed below within named low o k is
pass_finds r mode false h s e i q o formed below within named low AllMatches k is =
    pass_finds_last r mode h s e i q formed below within named low o k is

-- ---- scans that follow each other

module _ (r : Reader) (mode : Anchored) (earliest : Bool) (h : List ℕ) where
  abbrev split : HalfAnswer → Bool
  split a = splits (counts r.between_characters h) a

  abbrev at : ℕ → ℕ → ℕ → HalfAnswer
  at n i m = scan_of r mode earliest h n i m

  stays_first : (n i : ℕ) (other : HalfAnswer) → split (scan r mode earliest h n i) ≡ false →
      IsOfScans r mode earliest h n i (unless_split (counts r.between_characters h) (scan r mode earliest h n i) other)
  stays_first n i other e = inl (
    0,
    omega arith,
    (λ m l. absurd (omega (arith, l))),
    ap split (later_first r mode earliest h n i) ∙ e,
    whole_stays (counts r.between_characters h) (scan r mode earliest h n i) other e ∙ sym (later_first r mode earliest h n i),
  )

  pub passes_are : (n i : ℕ) → IsOfScans r mode earliest h n i (rescans r mode earliest h n i)
  passes_are zero i = ⊎_elim
      (λ (e : split (scan r mode earliest h 0 i) ≡ true).
      inr (
        (λ m l. only m (omega (arith, l)) e),
        split_goes (counts r.between_characters h) (scan r mode earliest h 0 i) (found None) e,
      ))
      (λ (e : split (scan r mode earliest h 0 i) ≡ false). stays_first 0 i (found None) e)
      (cases_Bool (split (scan r mode earliest h 0 i)))
    where
      only : (m : ℕ) → m ≡ 0 → split (scan r mode earliest h 0 i) ≡ true → split (at 0 i m) ≡ true
      only m is e = ap (λ (k : ℕ). split (at 0 i k)) is ∙ ap split (later_first r mode earliest h 0 i) ∙ e
  passes_are (suc n) i = ⊎_elim
      (λ (e : split (scan r mode earliest h (suc n) i) ≡ true).
      let goes : rescans r mode earliest h (suc n) i ≡ rescans r mode earliest h n (next_offset r i) =
      split_goes (counts r.between_characters h) (scan r mode earliest h (suc n) i)
      (rescans r mode earliest h n (next_offset r i)) e in
      ⊎_elim
      (λ (some : (k : ℕ) × (k ≤ n) × ((m : ℕ) → m < k → split (at n (next_offset r i) m) ≡ true) ×
      (split (at n (next_offset r i) k) ≡ false) × (rescans r mode earliest h n (next_offset r i) ≡ at n (next_offset r i) k)).
      let up = some.1 in
      inl (
        suc some.0,
        omega (arith, up),
        (λ m l. before e m (λ k is. some.2 k (omega (arith, is, l)))),
        ap split (sym (later_next r mode earliest h n i some.0)) ∙ some.3,
        goes ∙ some.4 ∙ later_next r mode earliest h n i some.0,
      ))
      (λ (none : ((m : ℕ) → m ≤ n → split (at n (next_offset r i) m) ≡ true) ×
      (rescans r mode earliest h n (next_offset r i) ≡ found None)).
      inr ((λ m l. before e m (λ k is. none.0 k (omega (arith, is, l)))), goes ∙ none.1))
      (passes_are n (next_offset r i)))
      (λ (e : split (scan r mode earliest h (suc n) i) ≡ false).
      stays_first (suc n) i (rescans r mode earliest h n (next_offset r i)) e)
      (cases_Bool (split (scan r mode earliest h (suc n) i)))
    where
      before : split (scan r mode earliest h (suc n) i) ≡ true → (m : ℕ) →
          ((k : ℕ) → m ≡ suc k → split (at n (next_offset r i) k) ≡ true) → split (at (suc n) i m) ≡ true
      before e zero rest = ap split (later_first r mode earliest h (suc n) i) ∙ e
      before e (suc k) rest = ap split (sym (later_next r mode earliest h n i k)) ∙ rest k refl

-- ---- half searches

pub past_le : (s e : ℕ) → e < s → nat_le s e ≡ false
past_le s e l = ⊎_elim (λ (t : nat_le s e ≡ true). let u = leb-true s e t in absurd (omega (arith, l, u))) (λ f. f)
    (cases_Bool (nat_le s e))

pub not_split : (h : List ℕ) (a : HalfAnswer) → splits (counts false h) a ≡ false
not_split h (quit b x) = refl
not_split h (unsupported mode) = refl
not_split h (found None) = refl
not_split h (found (Some e)) = refl

module _ (r : Reader) (q : Search) where
  abbrev n : ℕ
  n = q.end - q.start

  abbrev i : ℕ
  i = first_offset r.automaton.reverse q.start q.end

  abbrev one_pass : HalfAnswer
  one_pass = scan r q.anchored q.earliest q.haystack n i

  pub scan_done : q.end < q.start → half_search r q ≡ found None
  scan_done past = ap (λ (b : Bool). if b then begun_at r q.anchored q.earliest q.haystack n i else found None)
      (past_le q.start q.end past)

  pub scan_begun : q.start ≤ q.end → half_search r q ≡ begun_at r q.anchored q.earliest q.haystack n i
  scan_begun l = ap (λ (b : Bool). if b then begun_at r q.anchored q.earliest q.haystack n i else found None)
      (le-leb q.start q.end l)

  pub scan_anchored : q.start ≤ q.end → is_anchored q.anchored ≡ true →
      half_search r q ≡ unless_split (counts r.between_characters q.haystack) one_pass (found None)
  scan_anchored l e = scan_begun l
      ∙ ap (λ (b : Bool). if b then unless_split (counts r.between_characters q.haystack) one_pass
      (found None) else rescans r q.anchored q.earliest q.haystack n i) e

  pub scan_unanchored : q.start ≤ q.end → is_anchored q.anchored ≡ false → half_search r q ≡ rescans r q.anchored q.earliest q.haystack n i
  scan_unanchored l e = scan_begun l
      ∙ ap (λ (b : Bool). if b then unless_split (counts r.between_characters q.haystack) one_pass
      (found None) else rescans r q.anchored q.earliest q.haystack n i) e

  pub scan_is_pass : q.start ≤ q.end → r.between_characters ≡ false → half_search r q ≡ one_pass
  scan_is_pass l e = ⊎_elim
      (λ (a : is_anchored q.anchored ≡ true). scan_anchored l a
      ∙ whole_stays (counts r.between_characters q.haystack) one_pass (found None) here)
      (λ (a : is_anchored q.anchored ≡ false). scan_unanchored l a ∙ first_stays n here)
      (cases_Bool (is_anchored q.anchored))
    where
      here : splits (counts r.between_characters q.haystack) one_pass ≡ false
      here = ap (λ (w : Bool). splits (counts w q.haystack) one_pass) e ∙ not_split q.haystack one_pass

      first_stays : (m : ℕ) →
          splits (counts r.between_characters q.haystack) (scan r q.anchored q.earliest q.haystack m i) ≡ false →
          rescans r q.anchored q.earliest q.haystack m i ≡ scan r q.anchored q.earliest q.haystack m i
      first_stays zero h = whole_stays (counts r.between_characters q.haystack) (scan r q.anchored q.earliest q.haystack 0 i)
          (found None) h
      first_stays (suc m) h =
          whole_stays (counts r.between_characters q.haystack) (scan r q.anchored q.earliest q.haystack (suc m) i)
          (rescans r q.anchored q.earliest q.haystack m (next_offset r i)) h

  pub begins_inside : (is_reverse : Bool) (s e : ℕ) → s ≤ e → Fits is_reverse s e (e - s) (first_offset is_reverse s e)
  begins_inside false s e l = (omega (arith, l), omega arith)
  begins_inside true s e l = (omega (arith, l), omega arith)

  pub le_or_done : (s e : ℕ) → (s ≤ e) ⊎ (e < s)
  le_or_done s e = ⊎_elim (λ (past : e < s). inr past) (λ (l : s ≤ e). inl l) (cases_lt e s)

  pub scan_quits_near : (b x : ℕ) → half_search r q ≡ quit b x → IsQuitNear r q.haystack q.start q.end b x
  scan_quits_near b x is = ⊎_elim
      (λ (l : q.start ≤ q.end). ⊎_elim
      (λ (a : is_anchored q.anchored ≡ true). once_quits_near r q.anchored q.earliest q.haystack q.start q.end n i b x
      (begins_inside r.automaton.reverse q.start q.end l) (sym (scan_anchored l a) ∙ is))
      (λ (a : is_anchored q.anchored ≡ false). passes_quit_near r q.anchored q.earliest q.haystack q.start q.end n i b x
      (begins_inside r.automaton.reverse q.start q.end l) (sym (scan_unanchored l a) ∙ is))
      (cases_Bool (is_anchored q.anchored)))
      (λ (past : q.end < q.start). absurd (found_no_quit None b x (sym (scan_done past) ∙ is)))
      (le_or_done q.start q.end)

  found_by : (a : HalfAnswer) → half_search r q ≡ a → (o : Option (ℕ × ℕ)) × (a ≡ found o) →
      (o : Option (ℕ × ℕ)) × (half_search r q ≡ found o)
  found_by a is f = (f.0, is ∙ f.1)

  pub scan_finds_near : is_supported r.starts_for_each_pattern q.anchored ≡ true → HasNoQuitNear r q.haystack q.start q.end →
      (o : Option (ℕ × ℕ)) × (half_search r q ≡ found o)
  scan_finds_near supported none = ⊎_elim
      (λ (l : q.start ≤ q.end). ⊎_elim
      (λ (a : is_anchored q.anchored ≡ true). found_by (unless_split (counts r.between_characters q.haystack) one_pass (found None))
      (scan_anchored l a) (once_finds_near r q.anchored q.earliest q.haystack q.start q.end n i supported none
      (begins_inside r.automaton.reverse q.start q.end l)))
      (λ (a : is_anchored q.anchored ≡ false). found_by (rescans r q.anchored q.earliest q.haystack n i) (scan_unanchored l a)
      (passes_find_near r q.anchored q.earliest q.haystack q.start q.end n i supported none
      (begins_inside r.automaton.reverse q.start q.end l)))
      (cases_Bool (is_anchored q.anchored)))
      (λ (past : q.end < q.start). (None, scan_done past))
      (le_or_done q.start q.end)

  -- ---- modes

  abbrev is_fit : Bool
  is_fit = is_supported r.starts_for_each_pattern q.anchored

  abbrev IsTold : Anchored → Type 0
  IsTold m = (m ≡ q.anchored) × (is_fit ≡ false)

  told_once : (m : Anchored) → unless_split (counts r.between_characters q.haystack) one_pass (found None) ≡ unsupported m →
      IsTold m
  told_once m e = ⊎_elim
      (λ (split : splits (counts r.between_characters q.haystack) one_pass ≡ true).
      absurd (found_no_mode None m (sym (split_goes (counts r.between_characters q.haystack) one_pass (found None) split) ∙ e)))
      (λ (whole : splits (counts r.between_characters q.haystack) one_pass ≡ false).
      let reported = told_is_mode r q.anchored q.earliest q.haystack n i m
      (sym (whole_stays (counts r.between_characters q.haystack) one_pass (found None) whole) ∙ e) in
      (reported.0, reported.1))
      (cases_Bool (splits (counts r.between_characters q.haystack) one_pass))

  told_by_passes : (m : Anchored) (a : HalfAnswer) → IsOfScans r q.anchored q.earliest q.haystack n i a → a ≡ unsupported m →
      IsTold m
  told_by_passes m a of e = ⊎_elim
      (λ (some : (k : ℕ) × (k ≤ n) × ((j : ℕ) → j < k → Splits r q.anchored q.earliest q.haystack n i j) ×
      (splits (counts r.between_characters q.haystack) (scan_of r q.anchored q.earliest q.haystack n i k) ≡ false) ×
      (a ≡ scan_of r q.anchored q.earliest q.haystack n i k)).
      let reported = told_is_mode r q.anchored q.earliest q.haystack (n - some.0) (offset_of r.automaton.reverse i some.0) m
      (sym some.4 ∙ e) in
      (reported.0, reported.1))
      (λ (none : ((j : ℕ) → j ≤ n → Splits r q.anchored q.earliest q.haystack n i j) × (a ≡ found None)).
      absurd (found_no_mode None m (sym none.1 ∙ e)))
      of

  pub scan_mode_told : (m : Anchored) → half_search r q ≡ unsupported m → (q.start ≤ q.end) × (m ≡ q.anchored) × (is_fit ≡ false)
  scan_mode_told m e = ⊎_elim
      (λ (l : q.start ≤ q.end). ⊎_elim
      (λ (a : is_anchored q.anchored ≡ true). let reported = told_once m (sym (scan_anchored l a) ∙ e) in (l, reported.0, reported.1))
      (λ (a : is_anchored q.anchored ≡ false).
      let reported = told_by_passes m (rescans r q.anchored q.earliest q.haystack n i)
      (passes_are r q.anchored q.earliest q.haystack n i) (sym (scan_unanchored l a) ∙ e) in
      (l, reported.0, reported.1))
      (cases_Bool (is_anchored q.anchored)))
      (λ (past : q.end < q.start). absurd (found_no_mode None m (sym (scan_done past) ∙ e)))
      (le_or_done q.start q.end)

-- ---- what a half search finds

pub split_found : (counted : ℕ → Bool) (a : HalfAnswer) → splits counted a ≡ true →
    (x : ℕ × ℕ) × (a ≡ found (Some x)) × (counted x.0 ≡ false)
split_found counted (quit b x) e = let never : false ≡ true = e in absurd (grind (arith, never))
split_found counted (unsupported mode) e = let never : false ≡ true = e in absurd (grind (arith, never))
split_found counted (found None) e = let never : false ≡ true = e in absurd (grind (arith, never))
split_found counted (found (Some x)) e = (x, refl, not_not (counted x.0) e)
  where
    not_not : (b : Bool) → not b ≡ true → b ≡ false
    not_not false e = refl
    not_not true e = let never : false ≡ true = e in cc
