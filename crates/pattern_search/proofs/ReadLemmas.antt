-- What several patterns are parsed as, and what their trees find.
use Rattle.std.proofs.Common.{◌≡◌, ℕ, ◌≤◌, List, [], ◌∷◌, chars, Option, Some, None, IsSomeAnd, refl, sym, ap₂, ◌∙◌}
use Rattle.regex_hir.specs.Re.{Re}
use Rattle.regex_syntax.specs.declared.Config.{Config}
use Rattle.regex_syntax.specs.Brackets.{Nested}
use Rattle.regex_syntax.specs.Grammar.{Names, read}
use Rattle.hir_core.specs.Tree.{Tree}
use Rattle.regex_pair.specs.Pairs.{Pair}
use Rattle.hir_regex.specs.declared.settings.Settings.{Settings}
use Rattle.pattern_text.specs.SameEnds.{SameEnds, SameSpans, HasNames, AreSameEnds, AreSameSpans}
use Rattle.pattern_text.specs.Patterns.{MeansText}
use Rattle.pattern_search.specs.RegexAnswers.{AnswersAsRead}
use Rattle.pattern_search.specs.Texts.{AreReadAs, AllMean}
use Rattle.pattern_search.specs.Written.{FindsWhatIsWritten, AnswersWhatIsWritten}
use Rattle.pattern_search.proofs.AllMatchLemmas.{lists_as_read}
use Rattle.pattern_search.proofs.FindLemmas.{finds_as_read}
use Rattle.pattern_search.proofs.StartLemmas.{spans_as_read, starts_as_read}

-- what one pattern is parsed as, with its tree
one_read : (config : Config) (x : Tree) (r : Option (Nested Re × Names)) →
    IsSomeAnd r (λ (re, names). (re.depth ≤ config.nest_limit) × SameEnds re.value x × SameSpans re.value x × HasNames names x) →
    (a : Re) × IsSomeAnd r (λ (re, names). (re.depth ≤ config.nest_limit) × (re.value ≡ a)) × SameEnds a x × SameSpans a x
one_read config x None m = absurd m
one_read config x (Some (re, names)) m = (re.value, (m.0, refl), m.1, m.2)

of_text : (config : Config) (t : List ℕ) (x : Tree) → MeansText config t x →
    (a : Re) × IsSomeAnd (read config (chars t)) (λ (re, names). (re.depth ≤ config.nest_limit) × (re.value ≡ a)) ×
    SameEnds a x × SameSpans a x
unfolding MeansText
of_text config t x m = one_read config x (read config (chars t)) m

pub all_read : (config : Config) (ts : List (List ℕ)) (xs : List Tree) → AllMean config ts xs →
    (res : List Re) × AreReadAs config ts res × AreSameEnds res xs × AreSameSpans res xs
all_read config [] [] m = ([], tt, tt, tt)
all_read config [] (x ∷ xs) m = absurd m
all_read config (t ∷ ts) [] m = absurd m
all_read config (t ∷ ts) (x ∷ xs) m =
    let first = of_text config t x m.0 in
    let rest = all_read config ts xs m.1 in
    (first.0 ∷ rest.0, (first.1, rest.1), (first.2, rest.2), (first.3, rest.3))

pub finds_what_is_written : (config : Config) (ts : List (List ℕ)) (xs : List Tree) → AllMean config ts xs → FindsWhatIsWritten config ts xs
finds_what_is_written config ts xs m =
    let r = all_read config ts xs m in
    record {
      patterns = r.0;
      are_read = r.1;
      same_ends = r.2;
      same_spans = r.3;
      spans = spans_as_read r.0 xs r.3;
      starts = starts_as_read r.0 xs r.3;
      finds = λ loops. finds_as_read r.0 xs r.2 loops;
      lists = λ loops. lists_as_read r.0 xs r.2 loops;
    }

pub answers_what_is_written : (config : Config) (ts : List (List ℕ)) (xs : List Tree) (s : Settings) (p : Pair) → AllMean config ts xs →
    ((res : List Re) → AreSameEnds res xs → AreSameSpans res xs → AnswersAsRead res xs s p) → AnswersWhatIsWritten config ts xs s p
answers_what_is_written config ts xs s p m each =
    let r = all_read config ts xs m in
    record { patterns = r.0; are_read = r.1; answers = each r.0 r.2 r.3 }

-- ---- a pattern is parsed in one way
one_value : {A : Type 0} (o : Option A) (of : A → Re) (D : A → Type 0) (a b : Re) →
    IsSomeAnd o (λ it. D it × (of it ≡ a)) → IsSomeAnd o (λ it. D it × (of it ≡ b)) → a ≡ b
one_value None of D a b p q = elim p [ ]
one_value (Some it) of D a b p q = sym p.1 ∙ q.1

pub same_patterns : (config : Config) (texts : List (List ℕ)) (res others : List Re) → AreReadAs config texts res →
    AreReadAs config texts others → res ≡ others
same_patterns config [] [] [] p q = refl
same_patterns config [] [] (b ∷ others) p q = elim q [ ]
same_patterns config [] (a ∷ res) others p q = elim p [ ]
same_patterns config (t ∷ ts) [] others p q = elim p [ ]
same_patterns config (t ∷ ts) (a ∷ res) [] p q = elim q [ ]
same_patterns config (t ∷ ts) (a ∷ res) (b ∷ others) p q =
    ap₂ (λ (x : Re) (xs : List Re). x ∷ xs)
    (one_value (read config (chars t)) (λ it. it.0.value) (λ it. it.0.depth ≤ config.nest_limit) a b p.0 q.0)
    (same_patterns config ts res others p.1 q.1)
