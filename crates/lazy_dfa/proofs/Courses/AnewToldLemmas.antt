-- The progress of a scan during which the cache was cleared, and where its search restarted its count, turn by turn.
use Rattle.std.proofs.Common.{◌≡◌, ◌≢◌, ◌⊎◌, inl, inr, ℕ, suc, ◌+◌, ◌-◌, ◌<◌, ◌≤◌, ◌==◌, Bool, true, false, Option, Some, None}
use Rattle.std.proofs.Common.{if◌then◌else◌, refl, sym, ap, ◌∙◌, subst, ⊎_elim, arith, true≢false}
use Rattle.std.specs.Prelude.{min, nat_lt}
use Rattle.std.proofs.lemmas.Bool.{cases_lt, cases_Bool, cases_eq, le-ltb, lt-ltb, ne_eqb, eq-eqb}
use Rattle.std.proofs.Math.Nat.{min-le_left, min-eq_left, min-eq_right}
use Rattle.nfa_core.specs.Ways.{offset_of}
use Rattle.search_types.specs.Inputs.{Search}
use Rattle.lazy_dfa.specs.AnewProgress.{progress_anew, anew_if, IsFresh, cut_progress, cut_left, CutAt}
use Rattle.lazy_dfa.specs.Caches.{CacheValue, greatest, distance, progress_len, begun_anew}
use Rattle.lazy_dfa.specs.declared.cache.progress.Progress.{Progress}
use Rattle.lazy_dfa.specs.LeftProgress.{progress_reached, progress_finished, has_finished, left_progress, LeftAt}
use Rattle.lazy_dfa.specs.MadeScans.{span_len}
use Rattle.lazy_dfa.specs.Scans.{index_at}
use Rattle.lazy_dfa.specs.HalfSearches.{first_offset}
use Rattle.lazy_dfa.specs.SearchAnswers.{ProgressValue, progress_of, progress_past, scan_distance}
use Rattle.lazy_dfa.specs.ScanOffsets.{IsWithinSpan, last_offset, came, reports, BeginsFirst, progress_byte, progress_last, turned_progress}
use Rattle.lazy_dfa.specs.ScanOffsets.{RestAnew}
use Rattle.lazy_dfa.specs.ScanOffsets.{rest_inside, rest_untold, RestFails, fails_at, fails_untold}
use Rattle.lazy_dfa.proofs.Courses.SpanTurnLemmas.{told_end, told_behind_some, told_behind_none, not_le, is_le}
use Rattle.nfa_core.proofs.ForCallers.{place_zero}

-- ---- a running search

-- a search that began at the byte a of a scan from offset i, and is at its byte b
abbrev pub going : Bool → ℕ → ℕ → ℕ → ℕ → ProgressValue
going is_reverse i s a b = record {
  searched = s;
  progress = Some (record { start = index_at is_reverse (offset_of is_reverse i a); at = index_at is_reverse (offset_of is_reverse i b) });
}

-- the search may be at this byte, in a scan over n bytes
abbrev pub IsByteOf : Bool → ℕ → ℕ → Type 0
IsByteOf false n b = b ≤ n
IsByteOf true n b = b < n

-- before unit k: a search that has run since the scan began, or since the cache was cleared
pub data IsGoing (is_reverse : Bool) (n i s k : ℕ) (same clr : Type 0) (t : ProgressValue) : Type 0 where
  since_first : same → (b : ℕ) → b ≤ k → IsByteOf is_reverse n b → t ≡ going is_reverse i s 0 b → IsGoing is_reverse n i s k same clr t
  since_clear : clr → (a b : ℕ) → a ≤ b → b ≤ k → IsByteOf is_reverse n b → t ≡ going is_reverse i 0 a b →
      IsGoing is_reverse n i s k same clr t

abbrev so_many : ℕ → ProgressValue
so_many m = record { searched = m; progress = None }

-- ---- lengths

zero_least : (g : ℕ) → min 0 g ≡ 0
zero_least g = min-eq_left (omega arith)

byte_distance : (is_reverse : Bool) (n i a k : ℕ) → a ≤ k → k < n → (is_reverse ≡ true → n ≤ i) →
    (distance (index_at is_reverse (offset_of is_reverse i a)) (index_at is_reverse (offset_of is_reverse i k)) ≡ scan_distance is_reverse n
    (suc k) - a) × (a ≤ scan_distance is_reverse n (suc k))
byte_distance false n i a k l m fits = (omega (arith, l, m), omega (arith, l, m))
byte_distance true n i a k l m fits =
    let f : min (suc k - 1) (n - 1) ≡ suc k - 1 = min-eq_left (omega (arith, m)) in
    let g = fits refl in
    (omega (arith, l, m, f, g), omega (arith, l, f))

last_distance : (is_reverse : Bool) (n i a : ℕ) → IsByteOf is_reverse n a → (is_reverse ≡ true → n ≤ i) →
    (distance (index_at is_reverse (offset_of is_reverse i a)) (offset_of is_reverse i n) ≡ scan_distance is_reverse n (suc n) - a) ×
    (a ≤ scan_distance is_reverse n (suc n))
last_distance false n i a l fits = (omega (arith, l), omega (arith, l))
last_distance true n i a l fits =
    let f : min (suc n - 1) (n - 1) ≡ n - 1 = min-eq_right (omega arith) in
    let g = fits refl in
    (omega (arith, l, f, g), omega (arith, l, f))

distance_low : (is_reverse : Bool) (n k : ℕ) → scan_distance is_reverse n (suc k) ≤ k
distance_low false n k = omega arith
distance_low true n k = let l = min-le_left (suc k - 1) (n - 1) in omega (arith, l)

less_byte : (is_reverse : Bool) (n a b : ℕ) → a ≤ b → IsByteOf is_reverse n b → IsByteOf is_reverse n a
less_byte false n a b l m = omega (arith, l, m)
less_byte true n a b l m = omega (arith, l, m)

byte_below : (is_reverse : Bool) (n k : ℕ) → k < n → IsByteOf is_reverse n k
byte_below false n k l = omega (arith, l)
byte_below true n k l = l

none_more : (x : ℕ) → x - 0 ≡ x
none_more x = omega arith

cut_end : (x y : ℕ) → x ≡ y → told_end 0 x ≡ so_many (min y greatest)
cut_end x y e = ap (λ (m : ℕ). so_many (min m greatest)) (so x y e)
  where
    so : (x y : ℕ) → x ≡ y → 0 + x ≡ y
    so x y e = omega (arith, e)

-- ---- one turn

-- what is reported after the turn, depending on whether it clears the cache
abbrev pub TurnBy : Type 0 → Type 0 → ProgressValue → (Bool → ProgressValue) → Type 0
TurnBy same clr new turned = ((new ≡ turned false) × same) ⊎ (clr × (new ≡ turned true))

module _ (is_reverse : Bool) (n i k s : ℕ) (was now whole clr : Type 0) (join : was → now →
    whole) (t new : ProgressValue) (under : IsGoing is_reverse n i s k was clr t) where
  abbrev here : ℕ
  here = offset_of is_reverse i k

  abbrev GoesByte : Type 0
  GoesByte = ((new ≡ going is_reverse i s 0 k) × whole) ⊎ (clr × ((a : ℕ) × (a ≤ k) × (new ≡ going is_reverse i 0 a k)))

  abbrev EndsBy : ℕ → Type 0
  EndsBy units = ((new ≡ told_end s (scan_distance is_reverse n units)) × whole) ⊎
      (clr × ((a : ℕ) × (a ≤ scan_distance is_reverse n units) × (new ≡ cut_progress is_reverse n a units)))

  byte_on : TurnBy now clr new (λ c. progress_byte is_reverse false c here t) → GoesByte
  byte_on turn = by under turn
    where
      by : IsGoing is_reverse n i s k was clr t → TurnBy now clr new (λ c. progress_byte is_reverse false c here t) → GoesByte
      by (since_first w b l m e) (inl f) = inl (f.0 ∙ ap (progress_byte is_reverse false false here) e, join w f.1)
      by (since_first w b l m e) (inr g) = inr (g.0, (k, omega arith, g.1 ∙ ap (progress_byte is_reverse false true here) e))
      by (since_clear c a b x l m e) (inl f) = inr (c, (a, omega (arith, x, l), f.0 ∙ ap (progress_byte is_reverse false false here) e))
      by (since_clear c a b x l m e) (inr g) = inr (g.0, (k, omega arith, g.1 ∙ ap (progress_byte is_reverse false true here) e))

  byte_end : k < n → (is_reverse ≡ true → n ≤ i) → TurnBy now clr new (λ c. progress_byte is_reverse true c here t) → EndsBy (suc k)
  byte_end less fits turn = by under turn
    where
      by : IsGoing is_reverse n i s k was clr t → TurnBy now clr new (λ c. progress_byte is_reverse true c here t) → EndsBy (suc k)
      by (since_first w b l m e) (inl f) =
          inl (
            f.0 ∙ (ap (progress_byte is_reverse true false here) e ∙ ap (told_end s)
                ((byte_distance is_reverse n i 0 k (omega arith) less fits).0 ∙ none_more (scan_distance is_reverse n (suc k)))),
            join w f.1,
          )
      by (since_first w b l m e) (inr g) =
          let d = byte_distance is_reverse n i k k (omega arith) less fits in
          inr (
            g.0,
            (
              k,
              d.1,
              g.1 ∙ (ap (progress_byte is_reverse true true here) e
                  ∙ cut_end (distance (index_at is_reverse here) (index_at is_reverse here)) (scan_distance is_reverse n (suc k) - k) d.0),
            ),
          )
      by (since_clear c a b x l m e) (inl f) =
          let d = byte_distance is_reverse n i a k (omega (arith, x, l)) less fits in
          inr (
            c,
            (
              a,
              d.1,
              f.0 ∙ (ap (progress_byte is_reverse true false here) e
                  ∙ cut_end (distance (index_at is_reverse (offset_of is_reverse i a)) (index_at is_reverse here))
                  (scan_distance is_reverse n (suc k) - a) d.0),
            ),
          )
      by (since_clear c a b x l m e) (inr g) =
          let d = byte_distance is_reverse n i k k (omega arith) less fits in
          inr (
            g.0,
            (
              k,
              d.1,
              g.1 ∙ (ap (progress_byte is_reverse true true here) e
                  ∙ cut_end (distance (index_at is_reverse here) (index_at is_reverse here)) (scan_distance is_reverse n (suc k) - k) d.0),
            ),
          )

  -- forward, after the last byte: the search goes on if the turn doesn't end the scan
  module _ (q : Search) (up : is_reverse ≡ false) (at : ℕ) (there : at ≡ offset_of is_reverse i n) where
    last_on : TurnBy now clr new (λ c. progress_last false false c q at t) → IsGoing is_reverse n i s k whole clr new
    last_on turn = by under turn
      where
        by : IsGoing is_reverse n i s k was clr t → TurnBy now clr new (λ c. progress_last false false c q at t) →
            IsGoing is_reverse n i s k whole clr new
        by (since_first w b l m e) (inl f) = since_first (join w f.1) b l m (f.0 ∙ e)
        by (since_first w b l m e) (inr g) = since_clear g.0 b b (omega arith) l m (g.1 ∙ ap (progress_last false false true q at) e)
        by (since_clear c a b x l m e) (inl f) = since_clear c a b x l m (f.0 ∙ e)
        by (since_clear c a b x l m e) (inr g) = since_clear g.0 b b (omega arith) l m (g.1 ∙ ap (progress_last false false true q at) e)

    last_ended : TurnBy now clr new (λ c. progress_last false true c q at t) → EndsBy (suc n)
    last_ended turn = by under turn
      where
        fits : is_reverse ≡ true → n ≤ i
        fits e = absurd (true≢false (sym e ∙ up))

        length_from : (a : ℕ) → IsByteOf is_reverse n a → (distance (index_at is_reverse (offset_of is_reverse i a)) at ≡ scan_distance
            is_reverse n (suc n) - a) × (a ≤ scan_distance is_reverse n (suc n))
        length_from a m = subst (λ (x : ℕ). (distance (index_at is_reverse (offset_of is_reverse i a)) x ≡ scan_distance is_reverse n
            (suc n) - a) × (a ≤ scan_distance is_reverse n (suc n))) (sym there) (last_distance is_reverse n i a m fits)

        by : IsGoing is_reverse n i s k was clr t → TurnBy now clr new (λ c. progress_last false true c q at t) → EndsBy (suc n)
        by (since_first w b l m e) (inl f) =
            inl (
              f.0 ∙ (ap (progress_last false true false q at) e ∙ ap (told_end s)
                  ((length_from 0 (less_byte is_reverse n 0 b (omega arith) m)).0 ∙ none_more (scan_distance is_reverse n (suc n)))),
              join w f.1,
            )
        by (since_first w b l m e) (inr g) =
            let d = length_from b m in
            inr (
              g.0,
              (
                b,
                d.1,
                g.1 ∙ (ap (progress_last false true true q at) e
                    ∙ cut_end (distance (index_at is_reverse (offset_of is_reverse i b)) at) (scan_distance is_reverse n (suc n) - b) d.0),
              ),
            )
        by (since_clear c a b x l m e) (inl f) =
            let d = length_from a (less_byte is_reverse n a b x m) in
            inr (
              c,
              (
                a,
                d.1,
                f.0 ∙ (ap (progress_last false true false q at) e
                    ∙ cut_end (distance (index_at is_reverse (offset_of is_reverse i a)) at) (scan_distance is_reverse n (suc n) - a) d.0),
              ),
            )
        by (since_clear c a b x l m e) (inr g) =
            let d = length_from b m in
            inr (
              g.0,
              (
                b,
                d.1,
                g.1 ∙ (ap (progress_last false true true q at) e
                    ∙ cut_end (distance (index_at is_reverse (offset_of is_reverse i b)) at) (scan_distance is_reverse n (suc n) - b) d.0),
              ),
            )

  -- in reverse, the search has ended at the start of the span
  module _ (q : Search) (fits : is_reverse ≡ true → n ≤ i) (ends : Bool) (at : ℕ) (there : at ≡ offset_of is_reverse i n)
      (tell : reports true q ≡ true) where
    last_before : TurnBy now clr new (λ c. progress_last true ends c q at t) → EndsBy (suc n)
    last_before turn = by under turn
      where
        length_from : (a : ℕ) → IsByteOf is_reverse n a → (distance (index_at is_reverse (offset_of is_reverse i a)) at ≡ scan_distance
            is_reverse n (suc n) - a) × (a ≤ scan_distance is_reverse n (suc n))
        length_from a m = subst (λ (x : ℕ). (distance (index_at is_reverse (offset_of is_reverse i a)) x ≡ scan_distance is_reverse n
            (suc n) - a) × (a ≤ scan_distance is_reverse n (suc n))) (sym there) (last_distance is_reverse n i a m fits)

        finished_is : (cleared : Bool) (u : ProgressValue) → progress_last true ends cleared q at u ≡
            anew_if cleared (progress_finished at u)
        finished_is cleared u = ap (λ (b : Bool). anew_if cleared (if b then progress_finished at u else u)) tell

        anew : clr → new ≡ progress_last true ends true q at t → EndsBy (suc n)
        anew c g = inr (
          c,
          (
            scan_distance is_reverse n (suc n),
            omega arith,
            g ∙ (finished_is true t ∙ nothing (scan_distance is_reverse n (suc n))),
          ),
        )
          where
            nothing : (x : ℕ) → so_many 0 ≡ so_many (min (x - x) greatest)
            nothing x = ap so_many (sym (ap (λ (m : ℕ). min m greatest) (so x) ∙ zero_least greatest))
              where
                so : (x : ℕ) → x - x ≡ 0
                so x = omega arith

        by : IsGoing is_reverse n i s k was clr t → TurnBy now clr new (λ c. progress_last true ends c q at t) → EndsBy (suc n)
        by (since_first w b l m e) (inl f) =
            inl (
              f.0 ∙ (finished_is false t ∙ (ap (progress_finished at) e
                  ∙ ap (told_end s) ((length_from 0 (less_byte is_reverse n 0 b (omega arith) m)).0
                  ∙ none_more (scan_distance is_reverse n (suc n))))),
              join w f.1,
            )
        by (since_first w b l m e) (inr g) = anew g.0 g.1
        by (since_clear c a b x l m e) (inl f) =
            let d = length_from a (less_byte is_reverse n a b x m) in
            inr (
              c,
              (
                a,
                d.1,
                f.0 ∙ (finished_is false t ∙ (ap (progress_finished at) e
                    ∙ cut_end (distance (index_at is_reverse (offset_of is_reverse i a)) at) (scan_distance is_reverse n (suc n) - a) d.0)),
              ),
            )
        by (since_clear c a b x l m e) (inr g) = anew g.0 g.1

-- ---- a turn in a span

behind_is : (is_reverse : Bool) (n units : ℕ) (t : ProgressValue) → (is_reverse ≡ true → 0 < n) →
    told_end t.searched (scan_distance is_reverse n units) ≡ progress_past is_reverse n t units
behind_is false n units t l = refl
behind_is true n units t l = told_behind_some true n units (scan_distance true n units) t (l refl) refl

some_told : (q : Search) → reports true q ≡ true → 0 < span_len q
some_told q e = ⊎_elim
    (λ (l : q.start < q.end). omega (arith, l))
    (λ (l : q.end ≤ q.start). absurd (true≢false (sym e ∙ is_le q.end q.start l)))
    (cases_lt q.start q.end)

none_told : (is_reverse : Bool) (q : Search) → reports is_reverse q ≡ false → (is_reverse ≡ true) × (q.end ≤ q.start)
none_told false q e = absurd (true≢false e)
none_told true q e = (
  refl,
  ⊎_elim
      (λ (l : q.start < q.end). absurd (true≢false (sym (not_le q.end q.start l) ∙ e)))
      (λ (l : q.end ≤ q.start). l)
      (cases_lt q.start q.end),
)

-- how many bytes a scan has read at an offset of its span
pub came_last : (is_reverse : Bool) (q : Search) (at : ℕ) → at ≡ last_offset is_reverse q → came is_reverse q at ≡ span_len q
came_last false q at e = omega (arith, e)
came_last true q at e = omega (arith, e)

pub came_less : (is_reverse : Bool) (q : Search) (at : ℕ) → IsWithinSpan q at → at ≢ last_offset is_reverse q →
    came is_reverse q at < span_len q
came_less false q at w n = omega (arith, w.0, w.1, n)
came_less true q at w n = omega (arith, w.0, w.1, n)

whole_above : (is_reverse : Bool) (q : Search) (i : ℕ) → i ≡ first_offset is_reverse q.start q.end → is_reverse ≡ true → span_len q ≤ i
whole_above true q i e f = omega (arith, e)
whole_above false q i e f = absurd (true≢false (sym f))

length_zero : (o : Option Progress) → progress_len (begun_anew o) ≡ 0
length_zero None = refl
length_zero (Some p) = so p.at
  where
    so : (x : ℕ) → distance x x ≡ 0
    so x = omega arith

pub fresh_anew : (t new : ProgressValue) → new ≡ progress_anew t → IsFresh new
fresh_anew t new e = record {
  searched = ap (λ (x : ProgressValue). x.searched) e;
  progress = ap (λ (x : ProgressValue). progress_len x.progress) e ∙ length_zero t.progress;
}

module _ (q : Search) (is_reverse : Bool) (at k i : ℕ) (was now whole clr : Type 0) (join : was → now →
    whole) (t0 t new : ProgressValue) (within : IsWithinSpan q at) (place : at ≡ offset_of is_reverse i k)
    (first : i ≡ first_offset is_reverse q.start q.end)
    (come : k ≡ came is_reverse q at) where
  abbrev n : ℕ
  n = span_len q

  abbrev Under : ℕ → Type 0 → ProgressValue → Type 0
  Under j w u = IsGoing is_reverse n i t0.searched j w clr u

  abbrev TurnsBy : Bool → Bool → Type 0
  TurnsBy finishes ends = ((new ≡ turned_progress is_reverse finishes ends false q at t) × now) ⊎
      (clr × (new ≡ turned_progress is_reverse finishes ends true q at t))

  at_last : (finishes ends c is : Bool) → at == last_offset is_reverse q ≡ is →
      turned_progress is_reverse finishes ends c q at t ≡ (if is then progress_last is_reverse ends c q at t
      else progress_byte is_reverse finishes c at t)
  at_last finishes ends c is e = ap (λ (b : Bool). if b then progress_last is_reverse ends c q at t else progress_byte is_reverse finishes
      c at t) e

  by_last : (finishes ends : Bool) → at ≡ last_offset is_reverse q → TurnsBy finishes ends →
      TurnBy now clr new (λ c. progress_last is_reverse ends c q at t)
  by_last finishes ends last (inl f) = inl (f.0 ∙ at_last finishes ends false true (eq-eqb at (last_offset is_reverse q) last), f.1)
  by_last finishes ends last (inr g) = inr (g.0, g.1 ∙ at_last finishes ends true true (eq-eqb at (last_offset is_reverse q) last))

  by_byte : (finishes ends : Bool) → at ≢ last_offset is_reverse q → TurnsBy finishes ends →
      TurnBy now clr new (λ c. progress_byte is_reverse finishes c (offset_of is_reverse i k) t)
  by_byte finishes ends left (inl f) =
      inl (
        f.0 ∙ (at_last finishes ends false false (ne_eqb at (last_offset is_reverse q) left)
            ∙ ap (λ (x : ℕ). progress_byte is_reverse finishes false x t) place),
        f.1,
      )
  by_byte finishes ends left (inr g) =
      inr (
        g.0,
        g.1 ∙ (at_last finishes ends true false (ne_eqb at (last_offset is_reverse q) left)
            ∙ ap (λ (x : ℕ). progress_byte is_reverse finishes true x t) place),
      )

  -- ---- results

  module _ (under : reports is_reverse q ≡ true → Under k was t) where
    fits : is_reverse ≡ true → n ≤ i
    fits = whole_above is_reverse q i first

    end_place : at ≡ last_offset is_reverse q → at ≡ offset_of is_reverse i n
    end_place last = place ∙ ap (offset_of is_reverse i) (come ∙ came_last is_reverse q at last)

    last_unit : at ≡ last_offset is_reverse q → k ≡ n
    last_unit last = come ∙ came_last is_reverse q at last

    less : at ≢ last_offset is_reverse q → k < n
    less left = subst (λ (x : ℕ). x < n) (sym come) (came_less is_reverse q at within left)

    some : reports is_reverse q ≡ true → (is_reverse ≡ true → 0 < n)
    some tell is = some_told q (subst (λ (b : Bool). reports b q ≡ true) is tell)

    abbrev Ends : ℕ → Type 0
    Ends units = ((new ≡ told_end t0.searched (scan_distance is_reverse n units)) × whole) ⊎
        (clr × ((a : ℕ) × (a ≤ scan_distance is_reverse n units) × (new ≡ cut_progress is_reverse n a units)))

    -- if the search has ended after the last turn
    last_ends : reports is_reverse q ≡ true → (ends : Bool) → at ≡ last_offset is_reverse q → (is_reverse ≡ true) ⊎ (ends ≡ true) →
        (b : Bool) → is_reverse ≡ b → TurnBy now clr new (λ c. progress_last b ends c q at t) → Ends (suc n)
    last_ends tell ends last done true is turn =
        last_before is_reverse n i k t0.searched was now whole clr join t new (under tell) q fits ends at (end_place last)
        (subst (λ (b : Bool). reports b q ≡ true) is tell) turn
    last_ends tell ends last done false is turn =
        last_ended is_reverse n i k t0.searched was now whole clr join t new (under tell) q is at (end_place last) (⊎_elim
        (λ (d : is_reverse ≡ true). absurd (true≢false (sym d ∙ is)))
        (λ (e : ends ≡ true). subst (λ (b : Bool). TurnBy now clr new (λ c. progress_last false b c q at t)) e turn)
        done)

    by_reverse : (ends : Bool) → TurnBy now clr new (λ c. progress_last is_reverse ends c q at t) → (b : Bool) → is_reverse ≡ b →
        TurnBy now clr new (λ c. progress_last b ends c q at t)
    by_reverse ends turn b is = subst (λ (x : Bool). TurnBy now clr new (λ c. progress_last x ends c q at t)) is turn

    -- if a scan has ended
    abbrev Told_so : ℕ → Type 0
    Told_so units = ((new ≡ progress_past is_reverse n t0 units) × whole) ⊎ (clr × RestAnew is_reverse q units new)

    ended_so : (units : ℕ) → reports is_reverse q ≡ true → Ends units → Told_so units
    ended_so units tell (inl e) = inl (e.0 ∙ behind_is is_reverse n units t0 (some tell), e.1)
    ended_so units tell (inr c) = inr (c.0, rest_inside c.1.0 c.1.1 c.1.2)

    untold : reports is_reverse q ≡ false → (finishes ends : Bool) → (t ≡ t0) × was → TurnsBy finishes ends → ((new ≡ t0) × whole) ⊎
        (clr × IsFresh new)
    untold tell finishes ends same turn =
        let none = none_told is_reverse q tell in
        let last : at ≡ last_offset is_reverse q = subst (λ (b : Bool). at ≡ last_offset b q) (sym none.0) (only within none.1) in
        by (by_reverse ends (by_last finishes ends last turn) true none.0)
      where
        only : IsWithinSpan q at → q.end ≤ q.start → at ≡ q.start
        only w l = omega (arith, w.0, w.1, l)

        nothing : (c : Bool) → progress_last true ends c q at t ≡ anew_if c t
        nothing c = ap (λ (b : Bool). anew_if c (if b then progress_finished at t else t))
            (subst (λ (b : Bool). reports b q ≡ false) (none_told is_reverse q tell).0 tell)

        by : TurnBy now clr new (λ c. progress_last true ends c q at t) → ((new ≡ t0) × whole) ⊎ (clr × IsFresh new)
        by (inl f) = inl (f.0 ∙ (nothing false ∙ same.0), join same.1 f.1)
        by (inr g) = inr (g.0, fresh_anew t new (g.1 ∙ nothing true))

    none_behind : reports is_reverse q ≡ false → (units : ℕ) (u : ProgressValue) → u ≡ progress_past is_reverse n u units
    none_behind tell units u =
        let none = none_told is_reverse q tell in
        subst (λ (b : Bool). u ≡ progress_past b n u units) (sym none.0) (told_behind_none n units u (zero_span none.1))
      where
        zero_span : q.end ≤ q.start → span_len q ≡ 0
        zero_span l = omega (arith, l)

    pub ends_told : (reports is_reverse q ≡ false → (t ≡ t0) × was) → TurnsBy true true → Told_so (suc k)
    ends_told same turn = ⊎_elim
        (λ (tell : reports is_reverse q ≡ true). ended_so (suc k) tell (⊎_elim
        (λ (last : at ≡ last_offset is_reverse q). subst (λ (x : ℕ). Ends (suc x)) (sym (last_unit last))
        (last_ends tell true last (inr refl) is_reverse refl (by_last true true last turn)))
        (λ (left : at ≢ last_offset is_reverse q). byte_end is_reverse n i k t0.searched was now whole clr join t new (under tell)
        (less left) fits (by_byte true true left turn))
        (cases_eq at (last_offset is_reverse q))))
        (λ (tell : reports is_reverse q ≡ false). ⊎_elim
        (λ (e : (new ≡ t0) × whole). inl (e.0 ∙ none_behind tell (suc k) t0, e.1))
        (λ (c : clr × IsFresh new). inr (c.0, rest_untold tell c.1))
        (untold tell true true (same tell) turn))
        (cases_Bool (reports is_reverse q))

    -- ---- a turn that fails

    abbrev index : ℕ → ℕ
    index b = index_at is_reverse (offset_of is_reverse i b)

    abbrev LeftSo : Bool → Type 0
    LeftSo quits = (LeftAt is_reverse quits n i k t0 new × whole) ⊎ (clr × RestFails is_reverse quits q i k new)

    finishes_by : (quits is b : Bool) → nat_lt k n ≡ is → (if is then quits else is_reverse) ≡ b → has_finished is_reverse quits n k ≡ b
    finishes_by quits is b e f = ap (λ (x : Bool). if x then quits else is_reverse) e ∙ f

    left_as : (quits b : Bool) (x : ℕ) (u : ProgressValue) → has_finished is_reverse quits n k ≡ b →
        (if b then progress_past is_reverse n u (suc k) else progress_reached x u) ≡ left_progress is_reverse quits n k x u
    left_as quits b x u e = sym (ap (λ (y : Bool). if y then progress_past is_reverse n u (suc k) else progress_reached x u) e)

    abbrev cut_by : ℕ → ℕ → Bool → ProgressValue
    cut_by a x b = if b then cut_progress is_reverse n a (suc k) else record {
      searched = 0;
      progress = Some (record { start = index a; at = x });
    }

    cut_as : (quits b : Bool) (a x : ℕ) → has_finished is_reverse quits n k ≡ b → cut_by a x b ≡ cut_left is_reverse quits n i a k x
    cut_as quits b a x e = sym (ap (cut_by a x) e)

    left_ended : (quits : Bool) → has_finished is_reverse quits n k ≡ true → reports is_reverse q ≡ true → Ends (suc k) → LeftSo quits
    left_ended quits is tell (inl e) =
        inl (
          record {
            byte = k;
            read = omega arith;
            there = λ l. refl;
            reported = e.0 ∙ (behind_is is_reverse n (suc k) t0 (some tell) ∙ left_as quits true (index k) t0 is);
          },
          e.1,
        )
    left_ended quits is tell (inr c) = inr (
      c.0,
      fails_at (record {
        from = c.1.0;
        byte = k;
        inside = c.1.1;
        past = let l = c.1.1 in let m = distance_low is_reverse n k in omega (arith, l, m);
        read = omega arith;
        there = λ l. refl;
        reported = c.1.2 ∙ cut_as quits true c.1.0 (index k) is;
      }),
    )

    module _ (begun : reports is_reverse q ≡ true → t0 ≡ going is_reverse i t0.searched 0 0) (tell : reports is_reverse q ≡
        true) (quits : Bool)
        (is : has_finished is_reverse quits n k ≡ false) where
      left_going : (b : ℕ) → b ≤ k → (k < n → b ≡ k) → new ≡ going is_reverse i t0.searched 0 b → LeftAt is_reverse quits n i k t0 new
      left_going b read there e = record {
        byte = b;
        read = read;
        there = there;
        reported = e ∙ (sym (ap (progress_reached (index b)) (begun tell)) ∙ left_as quits false (index b) t0 is);
      }

      cut_going : (a b : ℕ) → a ≤ scan_distance is_reverse n (suc k) → a ≤ b → b ≤ k → (k < n → b ≡ k) → new ≡ going is_reverse i 0 a b →
          CutAt is_reverse quits n i k new
      cut_going a b l past read there e = record {
        from = a;
        byte = b;
        inside = l;
        past = past;
        read = read;
        there = there;
        reported = e ∙ cut_as quits false a (index b) is;
      }

      left_byte : k < n → ((new ≡ going is_reverse i t0.searched 0 k) × whole) ⊎
          (clr × ((a : ℕ) × (a ≤ k) × (new ≡ going is_reverse i 0 a k))) → LeftSo quits
      left_byte l (inl e) = inl (left_going k (omega arith) (λ x. refl) e.0, e.1)
      left_byte l (inr c) = inr (
        c.0,
        fails_at (cut_going c.1.0 k (byte_distance is_reverse n i c.1.0 k c.1.1 l fits).1 c.1.1 (omega arith)
            (λ x. refl) c.1.2),
      )

      left_up : is_reverse ≡ false → k ≡ n → Under k whole new → LeftSo quits
      left_up up all (since_first w b l m e) = inl (left_going b l (λ x. absurd (omega (arith, x, all))) e, w)
      left_up up all (since_clear c a b x l m e) = inr (
        c,
        fails_at (cut_going a b (far is_reverse up (omega (arith, x, l))) x l
            (λ y. absurd (omega (arith, y, all))) e),
      )
        where
          far : (b : Bool) → b ≡ false → a ≤ k → a ≤ scan_distance b n (suc k)
          far false is l = omega (arith, l)
          far true is l = absurd (true≢false is)

    pub refused_so : (reports is_reverse q ≡ true → t0 ≡ going is_reverse i t0.searched 0 0) → (quits : Bool) →
        (reports is_reverse q ≡ false → (t ≡ t0) × was) → TurnsBy quits false → LeftSo quits
    refused_so begun quits same turn = ⊎_elim
        (λ (tell : reports is_reverse q ≡ true). ⊎_elim
        (λ (last : at ≡ last_offset is_reverse q). by_side tell last is_reverse refl)
        (λ (left : at ≢ last_offset is_reverse q). by_quits tell left quits turn)
        (cases_eq at (last_offset is_reverse q)))
        (λ (tell : reports is_reverse q ≡ false). by_none tell (untold tell quits false (same tell) turn))
        (cases_Bool (reports is_reverse q))
      where
        none_left : k ≡ n → nat_lt k n ≡ false
        none_left e = le-ltb k n (omega (arith, e))

        by_side : reports is_reverse q ≡ true → at ≡ last_offset is_reverse q → (b : Bool) → is_reverse ≡ b → LeftSo quits
        by_side tell last true is =
            left_ended quits (finishes_by quits false true (none_left (last_unit last)) is) tell
            (subst (λ (x : ℕ). Ends (suc x)) (sym (last_unit last)) (last_ends tell false last (inl is) true is
            (by_reverse false (by_last quits false last turn) true is)))
        by_side tell last false is =
            left_up begun tell quits (finishes_by quits false false (none_left (last_unit last)) is) is (last_unit last)
            (last_on is_reverse n i k t0.searched was now whole clr join t new (under tell) q is at (end_place last)
            (by_reverse false (by_last quits false last turn) false is))

        by_quits : reports is_reverse q ≡ true → at ≢ last_offset is_reverse q → (b : Bool) → TurnsBy b false → LeftSo b
        by_quits tell left true turn =
            left_ended true (finishes_by true true true (lt-ltb k n (less left)) refl) tell
            (byte_end is_reverse n i k t0.searched was now whole clr join t new (under tell) (less left) fits
            (by_byte true false left turn))
        by_quits tell left false turn =
            left_byte begun tell false (finishes_by false true false (lt-ltb k n (less left)) refl) (less left)
            (byte_on is_reverse n i k t0.searched was now whole clr join t new (under tell) (by_byte false false left turn))

        nothing_left : reports is_reverse q ≡ false → (u : ProgressValue) → u ≡ left_progress is_reverse quits n k (index k) u
        nothing_left tell u =
            let none = none_told is_reverse q tell in
            none_behind tell (suc k) u ∙ left_as quits true (index k) u (finishes_by quits false true (le-ltb k n (nowhere none.1)) none.0)
          where
            nowhere : q.end ≤ q.start → span_len q ≤ k
            nowhere l = omega (arith, l)

        by_none : reports is_reverse q ≡ false → ((new ≡ t0) × whole) ⊎ (clr × IsFresh new) → LeftSo quits
        by_none tell (inl e) = inl (record { byte = k; read = omega arith; there = λ l. refl; reported = e.0 ∙ nothing_left tell t0 }, e.1)
        by_none tell (inr c) = inr (
          c.0,
          fails_untold tell c.1 (record {
            byte = k;
            read = omega arith;
            there = λ l. refl;
            reported = nothing_left tell new;
          }),
        )

    -- ---- a turn after which the scan goes on

    pub going_on : reports is_reverse q ≡ true → at ≢ last_offset is_reverse q → TurnsBy false false → Under (suc k) whole new
    going_on tell left turn = by (byte_on is_reverse n i k t0.searched was now whole clr join t new (under tell)
        (by_byte false false left turn))
      where
        by : ((new ≡ going is_reverse i t0.searched 0 k) × whole) ⊎ (clr × ((a : ℕ) × (a ≤ k) × (new ≡ going is_reverse i 0 a k))) →
            Under (suc k) whole new
        by (inl e) = since_first e.1 k (omega arith) (byte_below is_reverse n k (less left)) e.0
        by (inr c) = since_clear c.0 c.1.0 k c.1.1 (omega arith) (byte_below is_reverse n k (less left)) c.1.2

-- the search still runs if another fact shows that the cache was cleared
pub going_by : (is_reverse : Bool) (n i s k : ℕ) (w c e : Type 0) (t : ProgressValue) → (c → e) → IsGoing is_reverse n i s k w c t →
    IsGoing is_reverse n i s k w e t
going_by is_reverse n i s k w c e t f (since_first x b l m is) = since_first x b l m is
going_by is_reverse n i s k w c e t f (since_clear x a b y l m is) = since_clear (f x) a b y l m is

-- the search still runs at a later offset
pub going_later : (is_reverse : Bool) (n i s k m : ℕ) (w c : Type 0) (t : ProgressValue) → k ≤ m → IsGoing is_reverse n i s k w c t →
    IsGoing is_reverse n i s m w c t
going_later is_reverse n i s k m w c t f (since_first y b l x is) = since_first y b (omega (arith, l, f)) x is
going_later is_reverse n i s k m w c t f (since_clear y a b z l x is) = since_clear y a b z (omega (arith, l, f)) x is

-- a scan that has just begun
pub begun_so : (q : Search) (is_reverse : Bool) (i : ℕ) (v : CacheValue) → i ≡ first_offset is_reverse q.start q.end →
    BeginsFirst is_reverse q v → reports is_reverse q ≡ true →
    progress_of v ≡ going is_reverse i v.searched 0 0
begun_so q is_reverse i v e begins tell =
    ap (λ (o : Option Progress). record { searched = v.searched; progress = o }) (begins tell
    ∙ ap (λ (x : ℕ). Some (record { start = index_at is_reverse x; at = index_at is_reverse x })) (sym e
    ∙ sym (place_zero is_reverse i)))

pub going_first : (q : Search) (is_reverse : Bool) (i : ℕ) (same clr : Type 0) (t : ProgressValue) → same → reports is_reverse q ≡ true →
    t ≡ going is_reverse i t.searched 0 0 →
    IsGoing is_reverse (span_len q) i t.searched 0 same clr t
going_first q is_reverse i same clr t x tell e = since_first x 0 (omega arith) (there is_reverse tell) e
  where
    there : (b : Bool) → reports b q ≡ true → IsByteOf b (span_len q) 0
    there false tell = omega arith
    there true tell = some_told q tell
