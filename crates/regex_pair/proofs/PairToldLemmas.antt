-- If a search over two automata answers what is joined, each half search that it made answered what its scan does, and so is reported.
use Rattle.std.proofs.Common.{◌≡◌, ℕ, Bool, true, false, Some, None, Result, Ok, Err, refl, sym, ap, ◌∙◌, inl, inr, subst, arith}
use Rattle.std.proofs.Common.{if◌then◌else◌}
use Rattle.search_types.specs.declared.match_error.MatchErrorKind.{MatchErrorKind}
use Rattle.search_types.specs.declared.match_error.MatchErrorKind.TheVariants.{Quit, GaveUp, HaystackTooLong, UnsupportedAnchored, NotAPair}
use Rattle.search_types.specs.declared.match_error.MatchErrorKind.TheVariants.{NoMemory}
use Rattle.search_types.specs.Found.{HalfFound}
use Rattle.search_types.specs.Inputs.{Search}
use Rattle.lazy_dfa.specs.Caches.{CacheValue}
use Rattle.lazy_dfa.specs.Dfas.{Dfa, reader}
use Rattle.lazy_dfa.specs.Readers.{Reader, HalfAnswer, found, quit, unsupported}
use Rattle.lazy_dfa.specs.HalfSearches.{half_search}
use Rattle.lazy_dfa.specs.SearchAnswers.{Answers, reported}
use Rattle.lazy_dfa.specs.SearchPromises.{ReportsHalf}
use Rattle.regex_pair.specs.Joined.{is_start_known, back_from, from_start, with_start, answer_by_end, joined}
use Rattle.regex_pair.specs.Matching.{has_match, match_search, match_result}
use Rattle.regex_pair.specs.PairAnswers.{GoesBack}
use Rattle.regex_pair.specs.PairProgress.{ReportsMatch, ReportsPair, tells_refusal, reports_end, tells_start, is_some_half, with_half}
use Rattle.regex_pair.specs.Pairs.{Pair, PairCache}
use Rattle.regex_pair.proofs.AnswerLemmas.{Half, Whole, ok_is_no_error, ok_is_told}
use Rattle.regex_pair.proofs.PairLemmas.{one_pair}

-- ---- whether a half search was out of memory or gave up

abbrev is_lack : MatchErrorKind → Bool
is_lack (Quit b x) = false
is_lack (GaveUp x) = true
is_lack (HaystackTooLong len) = false
is_lack (UnsupportedAnchored mode) = false
is_lack NotAPair = false
is_lack NoMemory = true

abbrev lacks : {A : Type 0} → Result A MatchErrorKind → Bool
lacks (Ok a) = false
lacks (Err e) = is_lack e

started_lacks : (e : ℕ × ℕ) (a : HalfAnswer) → lacks (with_start e a) ≡ false
started_lacks e (found (Some s)) = refl
started_lacks e (found None) = refl
started_lacks e (quit b x) = refl
started_lacks e (unsupported mode) = refl

known_lacks : (q : Search) (e : ℕ × ℕ) (known : Bool) (a : HalfAnswer) →
    lacks (if known then Ok (Some (from_start q e)) else with_start e a) ≡ false
known_lacks q e true a = refl
known_lacks q e false a = started_lacks e a

join_lacks : (f r : Reader) (q : Search) (a : HalfAnswer) → lacks (answer_by_end f r q a) ≡ false
join_lacks f r q (found (Some e)) = known_lacks q e (is_start_known f q e.0) (half_search r (back_from q e.0))
join_lacks f r q (found None) = refl
join_lacks f r q (quit b x) = refl
join_lacks f r q (unsupported mode) = refl

match_lacks : (a : HalfAnswer) → lacks (match_result a) ≡ false
match_lacks (found o) = refl
match_lacks (quit b x) = refl
match_lacks (unsupported mode) = refl

half_lacks : (e : HalfFound) (h : Half) → lacks h ≡ lacks (with_half e h)
half_lacks e (Ok (Some s)) = refl
half_lacks e (Ok None) = refl
half_lacks e (Err x) = refl

some_lacks : (h : Half) → lacks h ≡ lacks (is_some_half h)
some_lacks (Ok (Some e)) = refl
some_lacks (Ok None) = refl
some_lacks (Err x) = refl

not_lacking : (h : Half) (e : MatchErrorKind) (P : Type 0) → lacks h ≡ false → h ≡ Err e → is_lack e ≡ true → P
not_lacking h e P answered is lack = let never : true ≡ false = sym lack ∙ sym (ap lacks is) ∙ answered in absurd (grind (arith, never))

-- else a half search answers what the scan does
scanned : (d : Dfa) (v : CacheValue) (q : Search) (h : Half) → Answers d v q h → lacks h ≡ false → h ≡ reported (half_search (reader d) q)
scanned d v q h (inl is) answered = is
scanned d v q h (inr (inl is)) answered = not_lacking h NoMemory (h ≡ reported (half_search (reader d) q)) answered is refl
scanned d v q h (inr (inr gave)) answered = not_lacking h (GaveUp gave.0) (h ≡ reported (half_search (reader d) q)) answered gave.1 refl

-- ---- what is reported if the answer is the joined one

module _ (p : Pair) (q : Search) (old new : PairCache) where
  abbrev Ahead : Half → Type 0
  Ahead h = ReportsHalf p.forward q old.forward new.forward h

  abbrev Back : ℕ → Half → Type 0
  Back e h = ReportsHalf p.reverse (back_from q e) old.reverse new.reverse h

  module _ (result : Whole) (is : result ≡ joined p q) where
    whole_lacks : lacks result ≡ false
    whole_lacks = ap lacks is ∙ join_lacks (reader p.forward) (reader p.reverse) q (half_search (reader p.forward) q)

    pub end_is_told : ReportsPair p q old new result → Ahead (reported (half_search (reader p.forward) q))
    end_is_told (tells_refusal e failed answers ahead same) =
        subst Ahead (scanned p.forward new.forward q (Err e) answers (sym (ap lacks failed) ∙ whole_lacks)) ahead
    end_is_told (reports_end end answered answers never ahead same) = subst Ahead (ok_is_told p.forward new.forward q end answers) ahead
    end_is_told (tells_start end start answered there answers ahead behind) = subst Ahead (sym (ap reported there.found)) ahead

    pub start_is_told : ReportsPair p q old new result → (e : ℕ × ℕ) → GoesBack p q e →
        Back e.0 (reported (half_search (reader p.reverse) (back_from q e.0)))
    start_is_told (tells_refusal x failed answers ahead same) e there =
        ok_is_no_error (Some (record { pattern = e.1; offset = e.0 })) x (Back e.0 (reported (half_search (reader p.reverse) (back_from q
        e.0))))
        (sym (scanned p.forward new.forward q (Err x) answers (sym (ap lacks failed) ∙ whole_lacks) ∙ ap reported there.found))
    start_is_told (reports_end end answered answers never ahead same) e there = absurd (never e there)
    start_is_told (tells_start end start answered here answers ahead behind) e there =
        subst (λ (x : ℕ × ℕ). Back x.0 (reported (half_search (reader p.reverse) (back_from q x.0))))
        (one_pair (end.offset, end.pattern) e (sym here.found ∙ there.found))
        (subst (Back end.offset) (scanned p.reverse new.reverse (back_from q end.offset) start answers
        (half_lacks end start ∙ sym (ap lacks answered) ∙ whole_lacks)) behind)

  -- whatever the answer is
  pub starts_are_untouched : (result : Whole) → ReportsPair p q old new result → ((e : ℕ × ℕ) → GoesBack p q e → ⊥) →
      new.reverse ≡ old.reverse
  starts_are_untouched result (tells_refusal e failed answers ahead same) none = same
  starts_are_untouched result (reports_end end answered answers never ahead same) none = same
  starts_are_untouched result (tells_start end start answered there answers ahead behind) none =
      absurd (none (end.offset, end.pattern) there)

  pub match_is_asked : (result : Result Bool MatchErrorKind) → result ≡ has_match p q → ReportsMatch p q old new result →
      ReportsHalf p.forward (match_search (reader p.forward) q) old.forward new.forward
      (reported (half_search (reader p.forward) (match_search (reader p.forward) q)))
  match_is_asked result is reports =
      subst (λ (h : Half). ReportsHalf p.forward (match_search (reader p.forward) q) old.forward new.forward h)
      (scanned p.forward new.forward (match_search (reader p.forward) q) reports.half reports.asked
      (some_lacks reports.half ∙ sym (ap lacks reports.answer) ∙ ap lacks is
      ∙ match_lacks (half_search (reader p.forward) (match_search (reader p.forward) q)))) reports.forward
