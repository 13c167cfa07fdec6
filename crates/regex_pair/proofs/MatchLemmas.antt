-- What a search that returns whether there is a match does, by what its half search did.
use Rattle.std.proofs.Common.{◌≡◌, ℕ, ◌<◌, Bool, Some, None, refl, sym, ap, ◌∙◌, inl, inr, subst}
use Rattle.std.specs.Prelude.{Result, Ok, Err, IfErr, OnOk}
use Rattle.search_types.specs.declared.match_error.MatchErrorKind.{MatchErrorKind}
use Rattle.search_types.specs.declared.match_error.MatchErrorKind.TheVariants.{NoMemory}
use Rattle.search_types.specs.Inputs.{Search}
use Rattle.lazy_dfa.specs.Caches.{CacheValue, greatest}
use Rattle.lazy_dfa.specs.Dfas.{reader}
use Rattle.lazy_dfa.specs.Linked.{IsLinked, scans_of}
use Rattle.lazy_dfa.specs.Readers.{HalfAnswer, found, quit, unsupported}
use Rattle.lazy_dfa.specs.HalfSearches.{half_search}
use Rattle.lazy_dfa.specs.SearchAnswers.{Answers, reported, progress_of, progress_by}
use Rattle.lazy_dfa.specs.SearchPromises.{MakesHalf}
use Rattle.regex_pair.specs.MadeSearches.{FindsEnd, MakesMatch}
use Rattle.regex_pair.specs.Matching.{AnswersMatch, has_match, match_search, match_result}
use Rattle.regex_pair.specs.Pairs.{Pair, PairCache}
use Rattle.regex_pair.specs.PairProgress.{is_some_half}
use Rattle.regex_pair.proofs.AnswerLemmas.{Half}

told_match : (a : HalfAnswer) → is_some_half (reported a) ≡ match_result a
told_match (found (Some e)) = refl
told_match (found None) = refl
told_match (quit b x) = refl
told_match (unsupported mode) = refl

if_err_some : (h : Half) → IfErr h (λ e. e ≡ NoMemory) → IfErr (is_some_half h) (λ e. e ≡ NoMemory)
if_err_some (Ok (Some e)) i = tt
if_err_some (Ok None) i = tt
if_err_some (Err x) i = i

on_some : (h : Half) (A : Type 0) → OnOk h A → OnOk (is_some_half h) A
on_some (Ok (Some e)) A a = a
on_some (Ok None) A a = a
on_some (Err x) A a = tt

module _ (p : Pair) (q : Search) (f g r : CacheValue) (m1 m2 n1 n2 : ℕ) (h : Half)
    (made : MakesHalf p.forward (match_search (reader p.forward) q) f g m1 m2 n1 n2 h) where
  abbrev asked : Search
  asked = match_search (reader p.forward) q

  told_there : h ≡ reported (half_search (reader p.forward) asked) → is_some_half h ≡ has_match p q
  told_there is = ap is_some_half is ∙ told_match (half_search (reader p.forward) asked)

  answers_there : Answers p.forward g asked h → AnswersMatch p (record { forward = g; reverse = r }) q (is_some_half h)
  answers_there (inl is) = inl (told_there is)
  answers_there (inr (inl is)) = inr (inl (ap is_some_half is))
  answers_there (inr (inr gave)) = inr (inr (gave.0, ap is_some_half gave.1, gave.2))

  pub tells_there : MakesMatch p q (record { forward = f; reverse = r }) (record { forward = g; reverse = r }) m1 m2 n1 n2 (is_some_half h)
  tells_there = record {
    answer = answers_there made.answers.answer;
    sure = λ none supported quiet. if_err_some h (made.answers.sure none supported quiet);
    kept = made.cache.kept;
    untouched = refl;
    linked = on_some h (g.clears ≡ f.clears → f.clears < greatest → IsLinked p.forward g asked) made.cache.linked;
    is_reported = on_some h (g.clears ≡ f.clears → f.clears < greatest →
        progress_of g ≡ progress_by (reader p.forward) asked (progress_of f) (scans_of (reader p.forward) asked)) made.reports.reported;
    reports = record { half = h; answer = refl; asked = made.answers.answer; forward = made.reports; reverse = refl };
    moved = made.cache.moved;
    free = made.work.free;
    sure_if_linked = λ linked. told_there (made.answers.sure_if_linked linked);
    determinized = made.work.determinized;
    inserted = made.work.inserted;
  }

pub reports : (p : Pair) (q s : Search) (f g r : CacheValue) (old : PairCache) (m1 m2 n1 n2 : ℕ) (result : Result Bool MatchErrorKind) →
    record { forward = f; reverse = r } ≡ old → s ≡ match_search (reader p.forward) q → FindsEnd p.forward s f g m1 m2 n1 n2 result →
    MakesMatch p q old (record { forward = g; reverse = r }) m1 m2 n1 n2 result
reports p q s f g r old m1 m2 n1 n2 result was is finds =
    subst (λ (c : PairCache). MakesMatch p q c (record { forward = g; reverse = r }) m1 m2 n1 n2 result) was
    (subst (λ (x : Result Bool MatchErrorKind). MakesMatch p q (record { forward = f; reverse = r }) (record {
      forward = g;
      reverse = r;
    }) m1 m2 n1 n2 x) (sym finds.answer)
    (tells_there p q f g r m1 m2 n1 n2 finds.half (subst (λ (x : Search). MakesHalf p.forward x f g m1 m2 n1 n2 finds.half) is finds.made)))
