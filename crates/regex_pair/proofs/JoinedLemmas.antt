-- What two half searches that are joined answer: where a match lies, on which bytes an answer depends, and that answers one after
-- the other are the list of all answers.
use Rattle.std.proofs.Common.{◌≡◌, ℕ, ◌+◌, ◌≤◌, Bool, true, false, List, ◌++◌, length, Option, Some, None, Ok, refl, sym, ap, ◌∙◌, inl, inr}
use Rattle.std.proofs.Common.{subst, arith, if◌then◌else◌}
use Rattle.search_types.specs.AllAnswers.{AnswersWithin, EndsRise, all_answers}
use Rattle.search_types.specs.Chains.{IsTakenList, IsWholeTakenList}
use Rattle.search_types.specs.Found.{Found}
use Rattle.search_types.specs.Inputs.{Search}
use Rattle.search_types.proofs.ForCallers.{chains_begin_the_list, whole_chains_are_the_list, ends_rise}
use Rattle.lazy_dfa.specs.Dfas.{reader}
use Rattle.lazy_dfa.specs.Readers.{Reader, HalfAnswer, found, quit, unsupported}
use Rattle.lazy_dfa.specs.HalfSearches.{half_search}
use Rattle.lazy_dfa.specs.HalfSearchLaws.{Agree}
use Rattle.lazy_dfa.proofs.ForCallers.{scan_by_reach, scan_in_span}
use Rattle.regex_pair.specs.Finding.{AnswersAt, search_at}
use Rattle.regex_pair.specs.Joined.{is_start_known, back_from, from_start, with_start, answer_by_end, joined}
use Rattle.regex_pair.specs.PairLaws.{found_of, answer_at, IsInPairReach}
use Rattle.regex_pair.specs.Pairs.{Pair}

-- ---- where a match lies

abbrev pub LiesWithin : ℕ → ℕ → Found → Type 0
LiesWithin start end f = (start ≤ f.start) × (f.start ≤ f.end) × (f.end ≤ end)

abbrev pub LiesIfSome : ℕ → ℕ → Option Found → Type 0
LiesIfSome start end None = Unit {0}
LiesIfSome start end (Some f) = LiesWithin start end f

started_lies : (start end : ℕ) (e : ℕ × ℕ) (a : HalfAnswer) → e.0 ≤ end →
    ((s : ℕ × ℕ) → a ≡ found (Some s) → (start ≤ s.0) × (s.0 ≤ e.0)) → LiesIfSome start end (found_of (with_start e a))
started_lies start end e (found (Some s)) high lies = let there = lies s refl in (there.0, there.1, high)
started_lies start end e (found None) high lies = tt
started_lies start end e (quit b x) high lies = tt
started_lies start end e (unsupported mode) high lies = tt

known_or_not_lies : (f r : Reader) (q : Search) (e : ℕ × ℕ) (known : Bool) → q.start ≤ e.0 → e.0 ≤ q.end →
    LiesIfSome q.start q.end (found_of (if known then Ok (Some (from_start q e)) else with_start e (half_search r (back_from q e.0))))
known_or_not_lies f r q e true low high = (omega arith, low, high)
known_or_not_lies f r q e false low high =
    started_lies q.start q.end e (half_search r (back_from q e.0)) high (λ s is. scan_in_span r (back_from q e.0) s is)

join_lies : (f r : Reader) (q : Search) (a : HalfAnswer) → ((e : ℕ × ℕ) → a ≡ found (Some e) → (q.start ≤ e.0) × (e.0 ≤ q.end)) →
    LiesIfSome q.start q.end (found_of (answer_by_end f r q a))
join_lies f r q (found (Some e)) lies = let there = lies e refl in known_or_not_lies f r q e (is_start_known f q e.0) there.0 there.1
join_lies f r q (found None) lies = tt
join_lies f r q (quit b x) lies = tt
join_lies f r q (unsupported mode) lies = tt

joined_lies : (p : Pair) (q : Search) → LiesIfSome q.start q.end (found_of (joined p q))
joined_lies p q =
    join_lies (reader p.forward) (reader p.reverse) q (half_search (reader p.forward) q) (λ e is. scan_in_span (reader p.forward) q e is)

pub match_lies : (p : Pair) (q : Search) (f : Found) → joined p q ≡ Ok (Some f) → (q.start ≤ f.start) × (f.start ≤ f.end) × (f.end ≤ q.end)
match_lies p q f is = subst (λ (o : Option Found). LiesIfSome q.start q.end o) (ap found_of is) (joined_lies p q)

-- ---- answers one after the other

answer_lies : (p : Pair) (q : Search) (k : ℕ) (f : Found) → answer_at p q k ≡ Some f → LiesWithin k q.end f
answer_lies p q k f is = subst (λ (o : Option Found). LiesIfSome k q.end o) is (joined_lies p (search_at q k))

pub answers_within : (p : Pair) (q : Search) → AnswersWithin (answer_at p q) q.end
answers_within p q = record {
  starts = λ k f is. (answer_lies p q k f is).0;
  ends = λ k f is. (answer_lies p q k f is).1;
  within = λ k f is. (answer_lies p q k f is).2;
}

told_answer : (p : Pair) (q : Search) (k : ℕ) (o : Option Found) → AnswersAt p q k o → o ≡ answer_at p q k
told_answer p q k o is = sym (ap found_of is)

pub chain_begins : (p : Pair) (q : Search) (fs : List Found) → q.start ≤ q.end + 1 → IsTakenList (AnswersAt p q) None q.start fs →
    (rest : List Found) × (all_answers (answer_at p q) q.start q.end ≡ fs ++ rest)
chain_begins p q fs fits chain =
    chains_begin_the_list (answer_at p q) 0 q.end (AnswersAt p q) (λ k o low high is. told_answer p q k o is) (answers_within p q)
    q.start fs (omega arith) fits chain

pub chain_is_whole : (p : Pair) (q : Search) (fs : List Found) → q.start ≤ q.end + 1 → IsWholeTakenList (AnswersAt p q) None q.start fs →
    all_answers (answer_at p q) q.start q.end ≡ fs
chain_is_whole p q fs fits chain =
    whole_chains_are_the_list (answer_at p q) 0 q.end (AnswersAt p q) (λ k o low high is. told_answer p q k o is) (answers_within p q)
    q.start fs (omega arith) fits chain

pub ends_of_all_rise : (p : Pair) (q : Search) → EndsRise None (all_answers (answer_at p q) q.start q.end)
ends_of_all_rise p q = ends_rise (answer_at p q) q.end (answers_within p q) q.start

-- ---- on which bytes an answer depends

known_or_back : (r : Reader) (q : Search) (g : List ℕ) (e : ℕ × ℕ) (known : Bool) →
    (known ≡ false → half_search r (back_from q e.0) ≡ half_search r (back_from (record q { haystack = g }) e.0)) →
    (if known then Ok (Some (from_start q e)) else with_start e (half_search r (back_from q e.0))) ≡
    (if known then Ok (Some (from_start q e)) else with_start e (half_search r (back_from (record q { haystack = g }) e.0)))
known_or_back r q g e true same = refl
known_or_back r q g e false same = ap (with_start e) (same refl)

join_alike : (f r : Reader) (q : Search) (g : List ℕ) (a : HalfAnswer) →
    ((e : ℕ × ℕ) → a ≡ found (Some e) → is_start_known f q e.0 ≡ false →
    half_search r (back_from q e.0) ≡ half_search r (back_from (record q { haystack = g }) e.0)) →
    answer_by_end f r q a ≡ answer_by_end f r (record q { haystack = g }) a
join_alike f r q g (found (Some e)) same = known_or_back r q g e (is_start_known f q e.0) (same e refl)
join_alike f r q g (found None) same = refl
join_alike f r q g (quit b x) same = refl
join_alike f r q g (unsupported mode) same = refl

pub joined_by_reach : (p : Pair) (q : Search) (g : List ℕ) → q.end ≤ length q.haystack → q.end ≤ length g →
    Agree q.haystack g (IsInPairReach p q) →
    joined p q ≡ joined p (record q { haystack = g })
joined_by_reach p q g in_h in_g agree =
    join_alike (reader p.forward) (reader p.reverse) q g (half_search (reader p.forward) q)
    (λ e is unknown.
    let high = (scan_in_span (reader p.forward) q e is).1 in
    scan_by_reach (reader p.reverse) (back_from q e.0) g (omega (arith, high, in_h)) (omega (arith, high, in_g))
    (λ x there. agree x (inr (e, record { found = is; unknown = unknown }, there))))
    ∙ ap (answer_by_end (reader p.forward) (reader p.reverse) (record q { haystack = g }))
    (scan_by_reach (reader p.forward) q g in_h in_g (λ x there. agree x (inl there)))
