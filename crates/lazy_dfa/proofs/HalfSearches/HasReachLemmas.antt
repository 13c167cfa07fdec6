-- How far a half search reached if it found a match, and if it found none.
use Rattle.std.proofs.Common.{◌≡◌, ℕ, zero, suc, ◌+◌, ◌-◌, ◌<◌, ◌≤◌, Bool, true, false, List, [], ◌∷◌, length, Option, Some, None, sym, ap}
use Rattle.std.proofs.Common.{◌∙◌, ⊎_elim, subst, arith}
use Rattle.std.specs.Prelude.{All, slice_get}
use Rattle.std.proofs.lemmas.List.Elements.{All-head, All-tail}
use Rattle.search_types.specs.declared.anchored.Anchored.{Anchored}
use Rattle.search_types.specs.declared.anchored.Anchored.TheVariants.{No, Yes, Pattern}
use Rattle.search_types.specs.Inputs.{Search}
use Rattle.search_core.specs.Text.{byte_at}
use Rattle.nfa_core.specs.Nfa.{Automaton}
use Rattle.nfa_core.specs.NfaValue.{IsSound}
use Rattle.lazy_dfa.specs.Scans.{start_name}
use Rattle.lazy_dfa.specs.Readers.{Reader, found}
use Rattle.lazy_dfa.specs.HalfSearchLaws.{IsReached, IsInReach, begins_at, scan_len, ReadsAlike}
use Rattle.lazy_dfa.specs.HalfSearches.{first_offset, half_search}
use Rattle.lazy_dfa.specs.SearchAnswers.{FindsWanted, IsFoundUpTo, IsFoundDownTo, IsReachOf, HasReach, IsReachBack, HasReachBack}
use Rattle.lazy_dfa.proofs.HalfSearches.FoundLemmas.{scan_finds, scan_finds_first}
use Rattle.lazy_dfa.proofs.HalfSearches.IntervalReachLemmas.{scan_by_reach, scan_is_quiet, scan_place_is_reached, reach_is_near}
use Rattle.lazy_dfa.proofs.HalfSearches.ReachLemmas.{no_pattern, scan_few}
use Rattle.lazy_dfa.proofs.HalfSearches.ScanLemmas.{scan_done, le_or_done}
use Rattle.lazy_dfa.proofs.HalfSearches.TurnLemmas.{one_found}
use Rattle.nfa_core.proofs.ForCallers.{some_same}

-- ---- where a search starts

one_of : (P : ℕ → Type 0) (xs : List ℕ) (k x : ℕ) → All P xs → slice_get xs k ≡ Some x → P x
one_of P [] k x all e = let never : true ≡ false = cc in absurd (grind (arith, never))
one_of P (y ∷ ys) zero x all e = let same : y ≡ x = cc in subst P same (All-head P y ys all)
one_of P (y ∷ ys) (suc k) x all e = one_of P ys k x (All-tail P y ys all) e

-- the state in which a search starts is a state of the automaton
pub start_is_state : (a : Automaton) (mode : Anchored) (name : ℕ) → IsSound a → start_name a mode ≡ Some name → name < length a.states
start_is_state a No name sound e = subst (λ (x : ℕ). x < length a.states) (some_same a.start_unanchored name e) sound.unanchored
start_is_state a Yes name sound e = subst (λ (x : ℕ). x < length a.states) (some_same a.start_anchored name e) sound.anchored
start_is_state a (Pattern p) name sound e = one_of (λ (x : ℕ). x < length a.states) a.start_pattern p name sound.starts e

-- ---- offsets

-- for a forward search
pub reached_forward : (is_reverse : Bool) (s e n x : ℕ) → is_reverse ≡ false → s ≤ x + 1 → x < s + n →
    IsReached is_reverse (first_offset is_reverse s e) n x
reached_forward false s e n x up from to = (from, to)
reached_forward true s e n x up from to = let never : true ≡ false = up in absurd (grind (arith, never))

pub below_reach : (is_reverse : Bool) (s e n x : ℕ) → is_reverse ≡ false → IsReached is_reverse (first_offset is_reverse s e) n x →
    x < s + n
below_reach false s e n x up there = there.1
below_reach true s e n x up there = let never : true ≡ false = up in absurd (grind (arith, never))

same_length : (is_reverse : Bool) (s e n : ℕ) → is_reverse ≡ false → s + n - first_offset is_reverse s e ≡ n
same_length false s e n up = omega arith
same_length true s e n up = let never : true ≡ false = up in absurd (grind (arith, never))

-- for a reverse search
reached_reverse : (is_reverse : Bool) (s e n x : ℕ) → is_reverse ≡ true → e - n ≤ x → x ≤ e →
    IsReached is_reverse (first_offset is_reverse s e) n x
reached_reverse true s e n x back from to = (omega (arith, from), to)
reached_reverse false s e n x back from to = let never : false ≡ true = back in absurd (grind (arith, never))

above_reach : (is_reverse : Bool) (s e n x : ℕ) → is_reverse ≡ true → IsReached is_reverse (first_offset is_reverse s e) n x → e - n ≤ x
above_reach true s e n x back there = let from = there.0 in omega (arith, from)
above_reach false s e n x back there = let never : false ≡ true = back in absurd (grind (arith, never))

-- ---- searches that are done

nothing : (e : ℕ × ℕ) (P : Type 0) → None ≡ Some e → P
nothing e P never = let no_way : true ≡ false = cc in absurd (grind (arith, no_way))

module _ (r : Reader) (q : Search) (o : Option (ℕ × ℕ)) (is : half_search r q ≡ found o) (past : q.end < q.start) where
  none_is : None ≡ o
  none_is = one_found None o (sym (scan_done r q past) ∙ is)

  done_anywhere : (g : List ℕ) → half_search r (record q { haystack = g }) ≡ found o
  done_anywhere g = scan_done r (record q { haystack = g }) past ∙ ap found none_is

-- ---- the end that is found

pub finds_wanted : (r : Reader) (q : Search) (o : Option (ℕ × ℕ)) → IsSound r.automaton → q.end ≤ length q.haystack →
    half_search r q ≡ found o → FindsWanted r q o
finds_wanted r q o sound within is = record {
  wanted = λ name fits named. scan_finds r q name sound.named fits within named (start_is_state r.automaton q.anchored name sound named) o is;
  no_pattern = λ none. no_pattern r q o none is;
  done = λ past. sym (none_is r q o is past);
}

-- ---- reaches

module _ (r : Reader) (q : Search) (o : Option (ℕ × ℕ)) (within : q.end ≤ length q.haystack) (is : half_search r q ≡ found o) where
  -- if another haystack has the same bytes where the search reads, the result is the same
  same_elsewhere : (g : List ℕ) → q.end ≤ length g → ((x : ℕ) → IsInReach r q x → byte_at g x ≡ byte_at q.haystack x) →
      half_search r (record q { haystack = g }) ≡ found o
  same_elsewhere g in_g same = sym (scan_by_reach r q g within in_g (λ x there. sym (same x there))) ∙ is

module _ (r : Reader) (q : Search) (o : Option (ℕ × ℕ)) (up : r.automaton.reverse ≡ false) (sound : IsSound r.automaton)
    (within : q.end ≤ length q.haystack) (is : half_search r q ≡ found o) where
  abbrev len : ℕ
  len = scan_len r q

  found_begun : q.start ≤ q.end → IsFoundUpTo r q o (q.start + len)
  found_begun fits = record {
    within = let few = scan_few r q in omega (arith, fits, few);
    done = λ over x from to. absurd (omega (arith, fits, over));
    past = λ e same. below_reach r.automaton.reverse q.start q.end len e.0 up (scan_place_is_reached r q e (is ∙ ap found same)).1;
    quiet = λ x from to. scan_is_quiet r q o within is x (fits, reached_forward r.automaton.reverse q.start q.end len x up from to);
    first = λ name holds begun leftmost late plain named alike.
        scan_finds_first r q name sound.named fits within named (start_is_state r.automaton q.anchored name sound named) leftmost late plain
        holds
        (subst (λ (n : ℕ). ReadsAlike r holds q.haystack q.start q.end (begins_at r q) n)
        (same_length r.automaton.reverse q.start q.end len up) alike) o is;
  }

  found_done : q.end < q.start → IsFoundUpTo r q o 0
  found_done over = record {
    within = omega arith;
    done = λ past x from to. absurd (omega (arith, to));
    past = λ e same. nothing e (e.0 < 0) (none_is r q o is over ∙ same);
    quiet = λ x from to. absurd (omega (arith, to));
    first = λ name holds begun leftmost late plain named alike. absurd (omega (arith, over, begun));
  }

  reach_begun : q.start ≤ q.end → IsReachOf r q o (q.start + len)
  reach_begun fits = record {
    finds = found_begun fits;
    local = λ g in_g same. same_elsewhere r q o within is g in_g
        (λ x there. same x (reach_is_near r q x there).0 (below_reach r.automaton.reverse q.start q.end len x up there.1));
  }

  reach_done : q.end < q.start → IsReachOf r q o 0
  reach_done over = record { finds = found_done over; local = λ g in_g same. done_anywhere r q o is over g }

  pub scan_has_reach : HasReach r q o
  scan_has_reach = ⊎_elim
      (λ (fits : q.start ≤ q.end). (q.start + len, reach_begun fits))
      (λ (past : q.end < q.start). (0, reach_done past))
      (le_or_done r q q.start q.end)

module _ (r : Reader) (q : Search) (o : Option (ℕ × ℕ)) (back : r.automaton.reverse ≡ true)
    (within : q.end ≤ length q.haystack) (is : half_search r q ≡ found o) where
  back_found : q.start ≤ q.end → IsFoundDownTo r q o (q.end - scan_len r q)
  back_found fits = record {
    within = let few = scan_few r q in omega (arith, fits, few);
    done = λ over x from to. absurd (omega (arith, fits, over));
    past = λ e same. above_reach r.automaton.reverse q.start q.end (scan_len r q) e.0 back
        (scan_place_is_reached r q e (is ∙ ap found same)).1;
    quiet = λ x from to. scan_is_quiet r q o within is x (
      fits,
      reached_reverse r.automaton.reverse q.start q.end
          (scan_len r q) x back from to,
    );
  }

  back_found_done : q.end < q.start → IsFoundDownTo r q o q.start
  back_found_done over = record {
    within = omega arith;
    done = λ past x from to. absurd (omega (arith, over, from, to));
    past = λ e same. nothing e (q.start ≤ e.0) (none_is r q o is over ∙ same);
    quiet = λ x from to. absurd (omega (arith, over, from, to));
  }

  back_begun : q.start ≤ q.end → IsReachBack r q o (q.end - scan_len r q)
  back_begun fits = record {
    finds = back_found fits;
    local = λ g in_g same. same_elsewhere r q o within is g in_g
        (λ x there. same x (above_reach r.automaton.reverse q.start q.end (scan_len r q) x back there.1) (reach_is_near r q x there).1);
  }

  back_done : q.end < q.start → IsReachBack r q o q.start
  back_done over = record { finds = back_found_done over; local = λ g in_g same. done_anywhere r q o is over g }

  pub scan_has_reach_back : HasReachBack r q o
  scan_has_reach_back = ⊎_elim
      (λ (fits : q.start ≤ q.end). (q.end - scan_len r q, back_begun fits))
      (λ (past : q.end < q.start). (q.start, back_done past))
      (le_or_done r q q.start q.end)
