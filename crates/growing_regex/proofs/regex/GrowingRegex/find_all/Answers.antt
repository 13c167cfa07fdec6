use Rattle.std.proofs.Common.{◌≡◌, ◌⊎◌, ℕ, Err, inl, inr, subst}
use Rattle.search_types.specs.declared.match_error.MatchErrorKind.{MatchErrorKind}
use Rattle.search_types.specs.declared.match_error.MatchErrorKind.TheVariants.{NoMemory}
use Rattle.search_types.specs.Inputs.{Search}
use Rattle.regex_pair.specs.Finding.{search_at}
use Rattle.regex_pair.specs.PairAnswers.{AnswersPair}
use Rattle.regex_pair.specs.Pairs.{Pair, PairCache}
use Rattle.regex_pair.specs.Taken.{IsWholeList}
use Rattle.growing_regex.specs.Growing.{AreGrown, AnswersBy, Growing}
use Rattle.growing_regex.proofs.regex.GrowingRegex.find_all.Goals as goal

pub returns-in-Ok-clause-all : goal.returns-in-Ok-clause-all
returns-in-Ok-clause-all c = record {
  pair = c.self.inside.regex.value;
  grown = subst (λ (g : Growing). AreGrown g c.self.inside.regex.value) c.self.view_is c.self.invariant.0;
  whole = subst (λ (p : Pair). IsWholeList p c.args.input c.in-Ok.all.items) c.deref.ensures c.in-Ok.ensures.whole;
}

-- an error of one of the searches, or out of memory
error_of : (g : Growing) (p : Pair) (q : Search) (e : MatchErrorKind) → AreGrown g p →
    (e ≡ NoMemory) ⊎ ((k : ℕ) × (c : PairCache) × AnswersPair p c (search_at q k) (Err e)) →
    (e ≡ NoMemory) ⊎ ((k : ℕ) × AnswersBy g (search_at q k) (Err e))
error_of g p q e grown (inl none) = inl none
error_of g p q e grown (inr it) = inr (it.0, record { pair = p; cache = it.1; grown = grown; answer = it.2 })

pub returns-in-Err-clause-refused : goal.returns-in-Err-clause-refused
returns-in-Err-clause-refused c =
    error_of c.args.self.now c.self.inside.regex.value c.args.input c.in-Err.e
    (subst (λ (g : Growing). AreGrown g c.self.inside.regex.value) c.self.view_is c.self.invariant.0)
    (subst (λ (p : Pair). (c.in-Err.e ≡ NoMemory) ⊎ ((k : ℕ) × (x : PairCache) × AnswersPair p x (search_at c.args.input k) (Err c.in-Err.e)))
    c.deref.ensures c.in-Err.ensures.refused)
