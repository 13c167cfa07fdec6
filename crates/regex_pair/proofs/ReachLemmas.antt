-- How far a search over two automata came: what the search back reads lies in what the one for an end read.
use Rattle.std.proofs.Common.{◌≡◌, ℕ, ◌+◌, ◌<◌, ◌≤◌, Bool, true, false, List, length, Option, Some, None, Result, Ok, Err, refl, sym, ap}
use Rattle.std.proofs.Common.{◌∙◌, ⊎_elim, subst, arith, if◌then◌else◌}
use Rattle.std.proofs.lemmas.Bool.{cases_lt}
use Rattle.std.specs.Prelude.{IfOk}
use Rattle.search_core.specs.Text.{byte_at}
use Rattle.search_types.specs.declared.match_error.MatchErrorKind.{MatchErrorKind}
use Rattle.search_types.specs.Found.{Found}
use Rattle.search_types.specs.Inputs.{Search}
use Rattle.lazy_dfa.specs.Dfas.{reader}
use Rattle.lazy_dfa.specs.Readers.{Reader, HalfAnswer, found, quit, unsupported}
use Rattle.lazy_dfa.specs.HalfSearches.{half_search}
use Rattle.lazy_dfa.specs.HalfSearchLaws.{IsInReach, scan_len}
use Rattle.lazy_dfa.proofs.ForCallers.{scan_done, scan_few, scan_is_quiet, scan_place_is_reached, reach_is_near, reached_forward}
use Rattle.lazy_dfa.proofs.ForCallers.{below_reach}
use Rattle.regex_pair.specs.Joined.{is_start_known, back_from, from_start, with_start, answer_by_end, joined}
use Rattle.regex_pair.specs.PairAnswers.{AnswersPair, GoesBack}
use Rattle.regex_pair.specs.PairLaws.{found_of, IsInPairReach}
use Rattle.regex_pair.specs.Pairs.{Pair, PairCache}
use Rattle.regex_pair.specs.Reach.{IsPairReach, HasPairReach}
use Rattle.regex_pair.proofs.JoinedLemmas.{joined_by_reach}
use Rattle.regex_pair.proofs.NextLemmas.{answer_is_joined}

-- ---- what the search for an end found

refused : (P : Type 0) (e : MatchErrorKind) (o : Option Found) → Err e ≡ Ok o → P
refused P e o never = let no_way : true ≡ false = cc in absurd (grind (arith, no_way))

none_is_some : (P : Type 0) (f : Found) → None ≡ Some f → P
none_is_some P f never = let no_way : true ≡ false = cc in absurd (grind (arith, no_way))

abbrev end_or : ℕ → Option Found → ℕ
end_or n None = n
end_or n (Some f) = f.end

-- an answer comes from an end or none
end_found : (f r : Reader) (q : Search) (a : HalfAnswer) (o : Option Found) → answer_by_end f r q a ≡ Ok o → (e : Option (ℕ × ℕ)) ×
    (a ≡ found e)
end_found f r q (found e) o is = (e, refl)
end_found f r q (quit b x) o is = refused _ _ o is
end_found f r q (unsupported mode) o is = refused _ _ o is

-- and a match from the end where it ends
started_end : (e : ℕ × ℕ) (a : HalfAnswer) (m : Found) → with_start e a ≡ Ok (Some m) → e.0 ≡ m.end
started_end e (found (Some s)) m is = ap (λ x. end_or 0 (found_of x)) is
started_end e (found None) m is = refused _ _ (Some m) is
started_end e (quit b x) m is = refused _ _ (Some m) is
started_end e (unsupported mode) m is = refused _ _ (Some m) is

known_end : (q : Search) (e : ℕ × ℕ) (known : Bool) (a : HalfAnswer) (m : Found) →
    (if known then Ok (Some (from_start q e)) else with_start e a) ≡ Ok (Some m) → e.0 ≡ m.end
known_end q e true a m is = ap (λ x. end_or 0 (found_of x)) is
known_end q e false a m is = started_end e a m is

match_end : (f r : Reader) (q : Search) (a : HalfAnswer) (m : Found) → answer_by_end f r q a ≡ Ok (Some m) →
    (e : ℕ × ℕ) × (a ≡ found (Some e)) × (e.0 ≡ m.end)
match_end f r q (found (Some e)) m is = (e, refl, known_end q e (is_start_known f q e.0) (half_search r (back_from q e.0)) m is)
match_end f r q (found None) m is = none_is_some _ m (ap found_of is)
match_end f r q (quit b x) m is = refused _ _ (Some m) is
match_end f r q (unsupported mode) m is = refused _ _ (Some m) is

-- ---- the reach of both

module _ (p : Pair) (q : Search) (o : Option Found) (up : (reader p.forward).automaton.reverse ≡ false)
    (within : q.end ≤ length q.haystack) (is : joined p q ≡ Ok o) where
  abbrev f : Reader
  f = reader p.forward

  ended : (e : Option (ℕ × ℕ)) × (half_search f q ≡ found e)
  ended = end_found f (reader p.reverse) q (half_search f q) o is

  -- the offset after what the search for an end read
  abbrev stop : ℕ
  stop = q.start + scan_len f q

  below_stop : (x : ℕ) → IsInReach f q x → x < stop
  below_stop x there = below_reach f.automaton.reverse q.start q.end (scan_len f q) x up there.1

  in_interval : (x : ℕ) → IsInPairReach p q x → (q.start ≤ x + 1) × (x < stop)
  in_interval x there = ⊎_elim
      (λ (ahead : IsInReach f q x). ((reach_is_near f q x ahead).0, below_stop x ahead))
      (λ (back : (e : ℕ × ℕ) × GoesBack p q e × IsInReach (reader p.reverse) (back_from q e.0) x).
      let near = reach_is_near (reader p.reverse) (back_from q back.0.0) x back.2 in
      let last = below_stop back.0.0 (scan_place_is_reached f q back.0 back.1.found) in
      (near.0, omega (arith, near.1, last)))
      there

  same_elsewhere : (g : List ℕ) → q.end ≤ length g →
      ((x : ℕ) → q.start ≤ x + 1 → x < stop → byte_at g x ≡ byte_at q.haystack x) → joined p (record q { haystack = g }) ≡ Ok o
  same_elsewhere g in_g same =
      sym (joined_by_reach p q g within in_g (λ x there. let at = in_interval x there in sym (same x at.0 at.1))) ∙ is

  reach_begun : q.start ≤ q.end → IsPairReach p q o stop
  reach_begun fits = record {
    within = let few = scan_few f q in omega (arith, fits, few);
    done = λ over x from to. absurd (omega (arith, fits, over));
    past = λ m same.
        let e = match_end f (reader p.reverse) q (half_search f q) m (is ∙ ap Ok same) in
        subst (λ (n : ℕ). n < stop) e.2 (below_stop e.0.0 (scan_place_is_reached f q e.0 e.1));
    quiet = λ x from to.
        scan_is_quiet f q ended.0 within ended.1 x (fits, reached_forward f.automaton.reverse q.start q.end (scan_len f q) x up from to);
    local = same_elsewhere;
  }

  reach_done : q.end < q.start → IsPairReach p q o 0
  reach_done over = record {
    within = omega arith;
    done = λ past x from to. absurd (omega (arith, to));
    past = λ m same. let e = match_end f (reader p.reverse) q (half_search f q) m (is ∙ ap Ok same) in
        let place = scan_place_is_reached f q e.0 e.1 in let fits = place.0 in absurd (omega (arith, fits, over));
    quiet = λ x from to. absurd (omega (arith, to));
    local = λ g in_g same.
        ap (answer_by_end f (reader p.reverse) (record q { haystack = g })) (scan_done f (record q { haystack = g }) over)
        ∙ sym (ap (answer_by_end f (reader p.reverse) q) (scan_done f q over)) ∙ is;
  }

  pub joined_has_reach : HasPairReach p q o
  joined_has_reach = ⊎_elim
      (λ (over : q.end < q.start). (0, reach_done over))
      (λ (fits : q.start ≤ q.end). (stop, reach_begun fits))
      (cases_lt q.end q.start)

-- ---- code

pub reaches : (p : Pair) (q : Search) (c : PairCache) (result : Result (Option Found) MatchErrorKind) →
    (reader p.forward).automaton.reverse ≡ false → q.end ≤ length q.haystack → AnswersPair p c q result →
    IfOk result (λ o. HasPairReach p q o)
reaches p q c (Err e) up within answers = tt
reaches p q c (Ok o) up within answers = joined_has_reach p q o up within (answer_is_joined p c q o answers)
