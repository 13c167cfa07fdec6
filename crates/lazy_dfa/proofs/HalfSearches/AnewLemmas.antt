-- A half search that restarts is a half search over one byte less.
use Rattle.std.proofs.Common.{◌≡◌, ℕ, suc, ◌+◌, ◌-◌, ◌<◌, Bool, true, false, None, refl, sym, ap, ◌∙◌, arith}
use Rattle.search_types.specs.Inputs.{Search}
use Rattle.search_types.specs.Modes.{is_anchored}
use Rattle.search_types.specs.Places.{counts}
use Rattle.nfa_core.specs.Ways.{offset_of}
use Rattle.lazy_dfa.specs.Readers.{Reader, HalfAnswer, found}
use Rattle.lazy_dfa.specs.Scans.{next_offset, scan}
use Rattle.lazy_dfa.specs.HalfSearches.{unless_split, rescans, first_offset, half_search}
use Rattle.lazy_dfa.specs.HalfSearchLaws.{begins_at, shorter}
use Rattle.lazy_dfa.proofs.HalfSearches.ScanLemmas.{scan_unanchored}

pub next_forward : (is_reverse : Bool) (s e : ℕ) → is_reverse ≡ false →
    first_offset is_reverse (s + 1) e ≡ offset_of is_reverse (first_offset is_reverse s e) 1
next_forward false s e is = refl
next_forward true s e is = let never : true ≡ false = is in absurd (grind (arith, never))

pub next_reverse : (is_reverse : Bool) (s e : ℕ) → is_reverse ≡ true →
    first_offset is_reverse s (e - 1) ≡ offset_of is_reverse (first_offset is_reverse s e) 1
next_reverse true s e is = refl
next_reverse false s e is = let never : false ≡ true = is in absurd (grind (arith, never))

module _ (r : Reader) (q : Search) (free : is_anchored q.anchored ≡ false) where
  abbrev from : ℕ → ℕ → HalfAnswer
  from n i = rescans r q.anchored q.earliest q.haystack n i

  abbrev one : ℕ → ℕ → HalfAnswer
  one n i = scan r q.anchored q.earliest q.haystack n i

  abbrev len : ℕ
  len = q.end - q.start

  shorter_scan : (is_reverse : Bool) → r.automaton.reverse ≡ is_reverse → q.start < q.end →
      half_search r (shorter is_reverse q) ≡ from (len - 1) (next_offset r (begins_at r q))
  shorter_scan false is l =
      scan_unanchored r (shorter false q) (omega (arith, l)) free
      ∙ ap (λ (n : ℕ). from n (first_offset r.automaton.reverse (q.start + 1) q.end)) (less q.start q.end)
      ∙ ap (λ (i : ℕ). from (len - 1) i) (next_forward r.automaton.reverse q.start q.end is)
    where
      less : (s e : ℕ) → e - (s + 1) ≡ e - s - 1
      less s e = omega arith
  shorter_scan true is l =
      scan_unanchored r (shorter true q) (omega (arith, l)) free
      ∙ ap (λ (n : ℕ). from n (first_offset r.automaton.reverse q.start (q.end - 1))) (less q.start q.end)
      ∙ ap (λ (i : ℕ). from (len - 1) i) (next_reverse r.automaton.reverse q.start q.end is)
    where
      less : (s e : ℕ) → e - 1 - s ≡ e - s - 1
      less s e = omega arith

  abbrev unless : HalfAnswer → HalfAnswer → HalfAnswer
  unless a other = unless_split (counts r.between_characters q.haystack) a other

  one_more : (n m i : ℕ) → n ≡ suc m → from n i ≡ unless (one n i) (from m (next_offset r i))
  one_more n m i is = ap (λ (k : ℕ). from k i) is ∙ sym (ap (λ (k : ℕ). unless (one k i) (from m (next_offset r i))) is)

  pub again : q.start < q.end → half_search r q ≡ unless (one len (begins_at r q)) (half_search r (shorter r.automaton.reverse q))
  again l =
      scan_unanchored r q (omega (arith, l)) free
      ∙ one_more len (len - 1) (begins_at r q) (omega (arith, l))
      ∙ sym (ap (unless (one len (begins_at r q))) (shorter_scan r.automaton.reverse refl l))

  pub last_pass : q.start ≡ q.end → half_search r q ≡ unless (one len (begins_at r q)) (found None)
  last_pass e =
      let none : len ≡ 0 = omega (arith, e) in
      scan_unanchored r q (omega (arith, e)) free
      ∙ ap (λ (n : ℕ). from n (begins_at r q)) none
      ∙ sym (ap (λ (n : ℕ). unless (one n (begins_at r q)) (found None)) none)
