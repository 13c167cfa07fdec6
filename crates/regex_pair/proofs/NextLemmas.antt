-- What comes next of matches one after the other: what two searches answer and do, where it lies, and that fewer items are left after it.
use Rattle.std.proofs.Common.{◌≡◌, ◌⊎◌, ℕ, ◌+◌, ◌<◌, ◌≤◌, Bool, true, false, ◌&&◌, nat_eq, Option, Some, None, Result, Ok, Err, refl, sym}
use Rattle.std.proofs.Common.{ap, ◌∙◌, inl, inr, ⊎_elim, subst, arith}
use Rattle.std.proofs.lemmas.Bool.{cases_lt, eq-eqb}
use Rattle.search_types.specs.declared.match_error.MatchErrorKind.{MatchErrorKind}
use Rattle.search_types.specs.declared.match_error.MatchErrorKind.TheVariants.{GaveUp, NoMemory}
use Rattle.search_types.specs.AllAnswers.{is_repeat}
use Rattle.search_types.specs.Chains.{IsTaken}
use Rattle.search_types.specs.Found.{Found}
use Rattle.search_types.specs.Inputs.{Search, IsSpanOf}
use Rattle.regex_pair.specs.Finding.{Finding, AnswersAt, IsNextFound, IsNextAnswer, IsAfterLast, IsPositioned, KeepsTwice}
use Rattle.regex_pair.specs.Finding.{behind, most_left, search_at}
use Rattle.regex_pair.specs.Joined.{joined}
use Rattle.regex_pair.specs.PairAnswers.{AnswersPair, PairGivesUp}
use Rattle.regex_pair.specs.Pairs.{Pair, PairCache, PairGrowsOrClears}
use Rattle.regex_pair.specs.PairProgress.{ReportsPair}
use Rattle.regex_pair.specs.StepSearches.{SearchesNext, searches_once, searches_twice}
use Rattle.regex_pair.proofs.JoinedLemmas.{LiesWithin, match_lies}
use Rattle.regex_pair.proofs.PairLemmas.{untouched_grows}

-- ---- what two searches answer

pub answer_is_joined : (p : Pair) (c : PairCache) (q : Search) (o : Option Found) → AnswersPair p c q (Ok o) → joined p q ≡ Ok o
answer_is_joined p c q o is = ⊎_elim
    (λ (reported : Ok o ≡ joined p q). sym reported)
    (λ (other : (Ok o ≡ Err NoMemory) ⊎ ((x : ℕ) × (Ok o ≡ Err (GaveUp x)) × PairGivesUp p c q x)). absurd (⊎_elim
    (λ (lacks : Ok o ≡ Err NoMemory). never NoMemory lacks)
    (λ (gave : (x : ℕ) × (Ok o ≡ Err (GaveUp x)) × PairGivesUp p c q x). never (GaveUp gave.0) gave.1)
    other))
    is
  where
    never : (e : MatchErrorKind) → Ok o ≡ Err e → ⊥
    never e same = let no_way : true ≡ false = cc in grind (arith, no_way)

-- the first of both fails; or it isn't a repeat; or the second fails, or answers
pub first_refused : (p : Pair) (after : PairCache) (q : Search) (last : Option ℕ) (e : MatchErrorKind) → AnswersPair p after q (Err e) →
    IsNextAnswer p (record { search = q; last = last; is_over = false }) after (Err e)
first_refused p after q last e is = (q.start, inl refl, is)

pub second_refused : (p : Pair) (middle after : PairCache) (q further : Search) (last : Option ℕ) (o : Option Found) (e : MatchErrorKind) →
    AnswersPair p middle q (Ok o) → true ≡ is_repeat last o → further ≡ search_at q (q.start + 1) → AnswersPair p after further (Err e) →
    IsNextAnswer p (record { search = q; last = last; is_over = false }) after (Err e)
second_refused p middle after q further last o e first again there is = (
  q.start + 1,
  inr (refl, (o, answer_is_joined p middle q o first, sym again)),
  subst (λ (s : Search). AnswersPair p after s (Err e)) there is,
)

pub second_taken : (p : Pair) (middle after : PairCache) (q further : Search) (last : Option ℕ) (o u : Option Found) →
    AnswersPair p middle q (Ok o) → true ≡ is_repeat last o → further ≡ search_at q (q.start + 1) → AnswersPair p after further (Ok u) →
    IsNextAnswer p (record { search = q; last = last; is_over = false }) after (Ok u)
second_taken p middle after q further last o u first again there is = (
  o,
  answer_is_joined p middle q o first,
  subst (λ (b : Bool). IsTaken (AnswersAt p q) q.start o b u) again
      (ap (λ (s : Search). joined p s) (sym there) ∙ answer_is_joined p after further u is),
)

-- ---- what the searches do

pub first_fails : (p : Pair) (before after : PairCache) (q : Search) (last : Option ℕ) (e : MatchErrorKind) →
    AnswersPair p after q (Err e) →
    PairGrowsOrClears p before after → ReportsPair p q before after (Err e) →
    SearchesNext p (record { search = q; last = last; is_over = false }) before after (Err e)
first_fails p before after q last e is kept reported = searches_once (record { answer = is; kept = kept; reported = reported }) tt

pub first_is_enough : (p : Pair) (before after : PairCache) (q : Search) (last : Option ℕ) (o : Option Found) →
    AnswersPair p after q (Ok o) →
    PairGrowsOrClears p before after → ReportsPair p q before after (Ok o) → false ≡ is_repeat last o →
    SearchesNext p (record { search = q; last = last; is_over = false }) before after (Ok o)
first_is_enough p before after q last o is kept reported new = searches_once (record { answer = is; kept = kept; reported = reported })
    (sym new)

module _ (p : Pair) (before middle after : PairCache) (q further : Search) (last : Option ℕ) (o : Option Found)
    (is : AnswersPair p middle q (Ok o)) (kept : PairGrowsOrClears p before middle) (reported : ReportsPair p q before middle (Ok o))
    (again : true ≡ is_repeat last o) (there : further ≡ search_at q (q.start + 1)) where
  pub second_is_made : (result : Result (Option Found) MatchErrorKind) → AnswersPair p after further result →
      PairGrowsOrClears p middle after → ReportsPair p further middle after result →
      SearchesNext p (record { search = q; last = last; is_over = false }) before after result
  second_is_made result answers keeps reports =
      searches_twice middle o (record { answer = is; kept = kept; reported = reported }) (sym again) (record {
        answer = subst (λ (s : Search). AnswersPair p after s result) there answers;
        kept = keeps;
        reported = subst (λ (s : Search). ReportsPair p s middle after result) there reports;
      })

-- ---- over a done span

-- with its type
abbrev answer_of : Option Found → Result (Option Found) MatchErrorKind
answer_of o = Ok o

pub refusal_is_no_end : (e : MatchErrorKind) (P : Type 0) → Err e ≡ answer_of None → P
refusal_is_no_end e P is = let never : true ≡ false = cc in absurd (grind (arith, never))

pub match_is_no_end : (f : Found) (P : Type 0) → answer_of (Some f) ≡ answer_of None → P
match_is_no_end f P is = let never : true ≡ false = cc in absurd (grind (arith, never))

-- if none is found, that is no repeat
pub repeat_is_no_end : (last : Option ℕ) (o : Option Found) (P : Type 0) → answer_of o ≡ answer_of None → true ≡ is_repeat last o → P
repeat_is_no_end None o P is again = let never : true ≡ false = again in absurd (grind (arith, never))
repeat_is_no_end (Some last) None P is again = let never : true ≡ false = again in absurd (grind (arith, never))
repeat_is_no_end (Some last) (Some f) P is again = match_is_no_end f P is

-- ---- what the searches leave of the caches

pub kept_once : (p : Pair) (before after : PairCache) → PairGrowsOrClears p before after → KeepsTwice p before after
kept_once p before after kept =
    (before, record { forward = untouched_grows p.forward before.forward; reverse = untouched_grows p.reverse before.reverse }, kept)

pub kept_untouched : (p : Pair) (v : PairCache) → KeepsTwice p v v
kept_untouched p v =
    kept_once p v v (record { forward = untouched_grows p.forward v.forward; reverse = untouched_grows p.reverse v.reverse })

-- ---- where what comes next lies

-- a match from here on ends in the span, and past the end of the last match
pub record EndsPast (at : Finding) (f : Found) : Type 0 where
  pub high : f.end ≤ at.search.end
  pub later : most_left (behind at f) < most_left at

no_repeat : (last : ℕ) (f : Found) → (nat_eq f.start f.end && nat_eq f.end last) ≡ false → last ≤ f.start → f.start ≤ f.end → last < f.end
no_repeat last f new low forward = ⊎_elim (λ (past : last < f.end). past) (λ (not_past : f.end ≤ last). absurd (repeated not_past))
    (cases_lt last f.end)
  where
    repeated : f.end ≤ last → ⊥
    repeated high =
        let one : nat_eq f.start f.end ≡ true = eq-eqb f.start f.end (omega (arith, low, forward, high)) in
        let two : nat_eq f.end last ≡ true = eq-eqb f.end last (omega (arith, low, forward, high)) in
        let both : (nat_eq f.start f.end && nat_eq f.end last) ≡ true = ap (λ (b : Bool). b && nat_eq f.end last) one ∙ two in
        let never : true ≡ false = sym both ∙ new in grind (arith, never)

left_falls : (p : Pair) (q : Search) (last : Option ℕ) (f : Found) → IsAfterLast last q → IsSpanOf q.haystack q.start q.end →
    (o : Option Found) → AnswersAt p q q.start o → (b : Bool) → is_repeat last o ≡ b → IsTaken (AnswersAt p q) q.start o b (Some f) →
    EndsPast (record { search = q; last = last; is_over = false }) f
left_falls p q None f place within o is false new taken =
    let there : LiesWithin q.start q.end f = match_lies p q f (is ∙ ap Ok (sym taken)) in
    record { high = there.2; later = omega (arith, there.0, there.1, there.2) }
left_falls p q None f place within o is true new taken = let never : true ≡ false = cc in absurd (grind (arith, never))
left_falls p q (Some last) f place within o is false new taken =
    let there : LiesWithin q.start q.end f = match_lies p q f (is ∙ ap Ok (sym taken)) in
    let past : last < f.end = no_repeat last f (ap (is_repeat (Some last)) taken ∙ new) (omega (arith, there.0, place.0)) there.1 in
    record { high = there.2; later = omega (arith, there.2, past, place.0) }
left_falls p q (Some last) f place within o is true new taken =
    let there : LiesWithin (q.start + 1) q.end f = match_lies p (search_at q (q.start + 1)) f taken in
    record { high = there.2; later = omega (arith, there.0, there.1, there.2, place.0) }

pub next_falls : (p : Pair) (at : Finding) (f : Found) → at.is_over ≡ false → IsPositioned at → IsNextFound p at (Some f) → EndsPast at f
next_falls p at f begun placed next =
    subst (λ (over : Bool). EndsPast (record { search = at.search; last = at.last; is_over = over }) f) (sym begun)
    (left_falls p at.search at.last f placed.behind placed.within next.0 next.1 (is_repeat at.last next.0) refl next.2)

pub behind_placed : (p : Pair) (at : Finding) (f : Found) → at.is_over ≡ false → IsPositioned at → IsNextFound p at (Some f) →
    IsPositioned (behind at f)
behind_placed p at f begun placed next =
    let past = next_falls p at f begun placed next in
    let fits = placed.within in
    record { within = (fits.0, omega (arith, past.high)); behind = (refl, past.high) }

-- the search that is made is the one that is left
pub next_is : (p : Pair) (at : Finding) (q : Search) (after : PairCache) (o : Option Found) (f : Found) → q ≡ at.search → o ≡ Some f →
    IsNextAnswer p (record { search = q; last = at.last; is_over = false }) after (Ok o) → IsNextFound p at (Some f)
next_is p at q after o f made same next =
    subst (λ (u : Option Found). IsNextFound p at u) same
    (subst (λ (s : Search). IsNextAnswer p (record { search = s; last = at.last; is_over = false }) after (Ok o)) made next)

pub refused_is : (p : Pair) (at : Finding) (q : Search) (after : PairCache) (e : MatchErrorKind) → q ≡ at.search →
    IsNextAnswer p (record { search = q; last = at.last; is_over = false }) after (Err e) → IsNextAnswer p at after (Err e)
refused_is p at q after e made next =
    subst (λ (s : Search). IsNextAnswer p (record { search = s; last = at.last; is_over = false }) after (Err e)) made next

-- the parts of an iterator, one by one, are what is left after a match
pub stands_behind : (at : Finding) (f : Found) (i : ℕ) → at.is_over ≡ false → i ≡ f.end →
    record { search = search_at at.search i; last = Some i; is_over = at.is_over } ≡ behind at f
stands_behind at f i begun here = λ k. record { search = search_at at.search (here k); last = Some (here k); is_over = begun k }
