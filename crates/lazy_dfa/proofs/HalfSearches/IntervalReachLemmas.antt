-- What half searches depend on, by the indices of the bytes that they look at.
use Rattle.std.proofs.Common.{◌≡◌, ℕ, suc, ◌+◌, ◌-◌, ◌<◌, ◌≤◌, Bool, true, false, List, length, Option, Some, None, sym, ◌∙◌, ⊎_elim, arith}
use Rattle.search_core.specs.Text.{byte_at}
use Rattle.search_types.specs.declared.anchored.Anchored.{Anchored}
use Rattle.search_types.specs.Inputs.{Search}
use Rattle.nfa_core.specs.Ways.{offset_of}
use Rattle.lazy_dfa.specs.Readers.{Reader, found, is_quit}
use Rattle.lazy_dfa.specs.Scans.{scan}
use Rattle.lazy_dfa.specs.HalfSearches.{first_offset, half_search}
use Rattle.lazy_dfa.specs.ScanLaws.{scan_len_of}
use Rattle.lazy_dfa.specs.HalfSearchLaws.{IsReached, IsInScan, IsInReach, Agree, begins_at, scan_len}
use Rattle.lazy_dfa.proofs.HalfSearches.PassQuitLemmas.{found_without_quit}
use Rattle.lazy_dfa.proofs.HalfSearches.AlikeLemmas.{pass_alike}
use Rattle.lazy_dfa.proofs.HalfSearches.ScanLemmas.{scan_done, le_or_done}
use Rattle.lazy_dfa.proofs.HalfSearches.ReachLemmas.{scan_alike, scan_quiet, scan_found_read, scan_few}
use Rattle.lazy_dfa.proofs.HalfSearches.IntervalLemmas.{behind_agrees, units_agree, told_of_each, place_is_reached}

-- ---- scans

pub pass_by_reach : (r : Reader) (mode : Anchored) (earliest : Bool) (h g : List ℕ) (n i : ℕ) →
    Agree h g (IsInScan r mode earliest h n i) →
    scan r mode earliest h n i ≡ scan r mode earliest g n i
pass_by_reach r mode earliest h g n i agree =
    pass_alike r earliest h g mode n i (behind_agrees r.automaton.reverse h g i (scan_len_of r mode earliest h n i) agree)
    (λ k l. units_agree r.automaton.reverse h g i (scan_len_of r mode earliest h n i) k agree l)

pub pass_is_quiet : (r : Reader) (mode : Anchored) (earliest : Bool) (h : List ℕ) (n i : ℕ) (o : Option (ℕ × ℕ)) →
    scan r mode earliest h n i ≡ found o →
    (x : ℕ) → IsInScan r mode earliest h n i x → is_quit r.quits (byte_at h x) ≡ false
pass_is_quiet r mode earliest h n i o is x there =
    let none = found_without_quit r mode earliest h n i o is in
    told_of_each r.quits r.automaton.reverse h i (scan_len_of r mode earliest h n i) x none.0 none.1 there

-- ---- half searches

reached_near : (is_reverse : Bool) (s e n x : ℕ) → s ≤ e → n ≤ suc (e - s) → IsReached is_reverse (first_offset is_reverse s e) n x →
    (s ≤ x + 1) × (x ≤ e)
reached_near false s e n x fits few there = let to = there.1 in (there.0, omega (arith, fits, few, to))
reached_near true s e n x fits few there = let from = there.0 in (omega (arith, fits, few, from), there.1)

place_in_span : (is_reverse : Bool) (s e n k x : ℕ) → s ≤ e → n ≤ suc (e - s) → k < n →
    x ≡ offset_of is_reverse (first_offset is_reverse s e) k →
    (s ≤ x) × (x ≤ e)
place_in_span false s e n k x fits few less is = (omega (arith, is), omega (arith, fits, few, less, is))
place_in_span true s e n k x fits few less is = (omega (arith, fits, few, less, is), omega (arith, is))

none_found : (e : ℕ × ℕ) (P : Type 0) → found None ≡ found (Some e) → P
none_found e P never = let no_way : true ≡ false = cc in absurd (grind (arith, no_way))

module _ (r : Reader) (q : Search) where
  abbrev is_reverse : Bool
  is_reverse = r.automaton.reverse

  pub scan_by_reach : (g : List ℕ) → q.end ≤ length q.haystack → q.end ≤ length g → Agree q.haystack g (IsInReach r q) →
      half_search r q ≡ half_search r (record q { haystack = g })
  scan_by_reach g in_h in_g agree = ⊎_elim
      (λ (l : q.start ≤ q.end).
      scan_alike r q g l in_h in_g
      (behind_agrees is_reverse q.haystack g (begins_at r q) (scan_len r q) (λ x there. agree x (l, there)))
      (λ k less. units_agree is_reverse q.haystack g (begins_at r q) (scan_len r q) k (λ x there. agree x (l, there)) less))
      (λ (past : q.end < q.start). scan_done r q past ∙ sym (scan_done r (record q { haystack = g }) past))
      (le_or_done r q q.start q.end)

  pub scan_is_quiet : (o : Option (ℕ × ℕ)) → q.end ≤ length q.haystack → half_search r q ≡ found o →
      (x : ℕ) → IsInReach r q x → is_quit r.quits (byte_at q.haystack x) ≡ false
  scan_is_quiet o in_h is x there =
      let none = scan_quiet r q q.haystack there.0 in_h in_h o is in
      told_of_each r.quits is_reverse q.haystack (begins_at r q) (scan_len r q) x none.0 none.1 there.1

  pub scan_place_is_reached : (e : ℕ × ℕ) → half_search r q ≡ found (Some e) → IsInReach r q e.0
  scan_place_is_reached e is = ⊎_elim
      (λ (l : q.start ≤ q.end).
      let read = scan_found_read r q l e is in (l, place_is_reached is_reverse (begins_at r q) (scan_len r q) read.0 e.0 read.1 read.2))
      (λ (past : q.end < q.start). none_found e (IsInReach r q e.0) (sym (scan_done r q past) ∙ is))
      (le_or_done r q q.start q.end)

  pub reach_is_near : (x : ℕ) → IsInReach r q x → (q.start ≤ x + 1) × (x ≤ q.end)
  reach_is_near x there = reached_near is_reverse q.start q.end (scan_len r q) x there.0 (scan_few r q) there.1

  pub scan_in_span : (e : ℕ × ℕ) → half_search r q ≡ found (Some e) → (q.start ≤ e.0) × (e.0 ≤ q.end)
  scan_in_span e is = ⊎_elim
      (λ (l : q.start ≤ q.end).
      let read = scan_found_read r q l e is in place_in_span is_reverse q.start q.end (scan_len r q) read.0 e.0 l
      (scan_few r q) read.1 read.2)
      (λ (past : q.end < q.start). none_found e ((q.start ≤ e.0) × (e.0 ≤ q.end)) (sym (scan_done r q past) ∙ is))
      (le_or_done r q q.start q.end)
