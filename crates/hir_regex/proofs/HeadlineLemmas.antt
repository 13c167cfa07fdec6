-- The laws of what searches over a regex that is built of trees answer, by what the calls of the regex promise.
use Rattle.std.proofs.Common.{◌≡◌, ℕ, ◌+◌, ◌≤◌, Bool, false, List, ◌++◌, Option, None, All, sym, ◌∙◌, subst}
use Rattle.std.specs.Prelude.{Ok, is_some}
use Rattle.search_core.specs.Utf8.{is_word_byte}
use Rattle.look_core.specs.Looks.{holds, IsWordSet}
use Rattle.look_core.specs.Terminators.{Terminator}
use Rattle.hir_core.specs.Facts.{LoopsRead}
use Rattle.hir_core.specs.Tree.{Tree}
use Rattle.search_types.specs.Found.{Found}
use Rattle.search_types.specs.Inputs.{Search, with_earliest}
use Rattle.lazy_dfa.specs.Accounting.{Measures, effective_capacity}
use Rattle.lazy_dfa.specs.Building.{measures_with}
use Rattle.lazy_dfa.specs.Caches.{usage}
use Rattle.lazy_dfa.specs.ConfigValue.{capacity_of, skips_check}
use Rattle.lazy_dfa.specs.Dfas.{Dfa}
use Rattle.regex_pair.specs.declared.find_matches.FindMatches.{FindMatches}
use Rattle.regex_pair.specs.Finding.{Finding}
use Rattle.regex_pair.specs.FindSteps.{FindsNext, finds_from, searches_by}
use Rattle.regex_pair.specs.Matching.{AnswersMatch}
use Rattle.regex_pair.specs.PairAnswers.{AnswersPair}
use Rattle.regex_pair.specs.Pairs.{Pair, PairCache, AreCachesOf}
use Rattle.regex_pair.specs.Taken.{AreTaken}
use Rattle.regex_pair.proofs.ForCallers.{answer_is_joined, some_taken, all_by_step}
use Rattle.hir_regex.specs.declared.settings.Settings.{Settings}
use Rattle.hir_regex.specs.Built.{IsBuilt, FindsFirst}
use Rattle.hir_regex.specs.Choices.{answer_from}
use Rattle.hir_regex.specs.Headline.{answer_to, answers_to, query_by}
use Rattle.hir_regex.specs.LooseAnswers.{IsLooseAnswer}
use Rattle.hir_regex.specs.Regexes.{IsSearchOf, query_of}
use Rattle.hir_regex.proofs.BuiltLemmas.{forward_is, reverse_is, built_regex, same_measures}
use Rattle.hir_regex.proofs.MatchLemmas.{match_is_told}
use Rattle.hir_regex.proofs.SearchLemmas.{answer_is_of_trees, answers_loosely, chain_is_list, chain_begins_list, byte_words}
use Rattle.hir_regex.proofs.SureLemmas.{told_is_has_match}

module _ (xs : List Tree) (s : Settings) (p : Pair) (made : IsBuilt xs s p) where
  -- ---- answers
  module _ (first : FindsFirst s) (q : Search) (asked : IsSearchOf xs s.utf8 q) where
    pub answers_trees : All LoopsRead xs → (c : PairCache) (o : Option Found) → AnswersPair p c q (Ok o) →
        (words : ℕ → Bool) → IsWordSet words → o ≡ answer_to words xs s q
    answers_trees loops c o answered words set =
        answer_is_of_trees xs s.utf8 s.line_terminator p (built_regex xs s p made first) q asked words set loops o
        (answer_is_joined p c q o answered)

    pub answers_trees_loosely : (c : PairCache) (o : Option Found) → AnswersPair p c q (Ok o) →
        (words : ℕ → Bool) → IsWordSet words → IsLooseAnswer (query_by words xs s q) q.start o
    answers_trees_loosely c o answered words set =
        answers_loosely xs s.utf8 s.line_terminator p (built_regex xs s p made first) q asked words set o
        (answer_is_joined p c q o answered)

    pub taken_begin : All LoopsRead xs → q.start ≤ q.end + 1 → (fs : List Found) (at : Finding) → AreTaken p q fs at →
        (words : ℕ → Bool) → IsWordSet words → (rest : List Found) × (answers_to words xs s q ≡ fs ++ rest)
    taken_begin loops span fs at taken words set =
        chain_begins_list xs s.utf8 s.line_terminator p (built_regex xs s p made first) q asked words set loops span fs
        (some_taken p q fs at taken)

    pub taken_are_all : All LoopsRead xs → q.start ≤ q.end + 1 → (fs : List Found) (old new : FindMatches) → searches_by old ≡ p →
        AreTaken p q fs (finds_from old) → FindsNext old None new →
        (words : ℕ → Bool) → IsWordSet words → answers_to words xs s q ≡ fs
    taken_are_all loops span fs old new same taken step words set =
        sym (chain_is_list xs s.utf8 s.line_terminator p (built_regex xs s p made first) q asked words set loops span fs
        (all_by_step p q fs old new same taken step))

  pub match_of_trees : FindsFirst s → (q : Search) → IsSearchOf xs s.utf8 (with_earliest false q) →
      All LoopsRead xs → (c : PairCache) (b : Bool) → AnswersMatch p c q (Ok b) →
      (words : ℕ → Bool) → IsWordSet words → b ≡ is_some (answer_to words xs s (with_earliest false q))
  match_of_trees first q asked loops c b answered words set =
      match_is_told xs s.utf8 s.line_terminator p (built_regex xs s p made first) q asked words set loops b
      (told_is_has_match p c q b answered)

  -- ---- caches
  pub caches_fit : (c : PairCache) → AreCachesOf p c →
      (usage c.forward ≤ effective_capacity (measures_with p.forward.nfa s.dfa) (skips_check s.dfa) (capacity_of s.dfa))
      × (usage c.reverse ≤ effective_capacity (measures_with p.reverse.nfa s.dfa) (skips_check s.dfa) (capacity_of s.dfa))
  caches_fit c own =
      let Below : Measures → Type 0 = λ m. usage c.reverse ≤ effective_capacity m (skips_check s.dfa) (capacity_of s.dfa) in (
        subst (λ (d : Dfa). usage c.forward ≤ d.capacity) (forward_is xs s p made) own.forward.within,
        subst Below (same_measures p.reverse.nfa s.dfa)
            (subst (λ (d : Dfa). usage c.reverse ≤ d.capacity) (reverse_is xs s p made) own.reverse.within),
      )

-- ---- settings that don't show
abbrev answer_by : List Tree → Search → Bool → Terminator → Option Found
answer_by xs q utf8 lines = answer_from (query_of xs utf8 (holds is_word_byte lines q.haystack) q) q.start

pub settings_alike : (xs : List Tree) (s t : Settings) (p r : Pair) → IsBuilt xs s p → IsBuilt xs t r → FindsFirst s → FindsFirst t →
    s.utf8 ≡ t.utf8 → s.line_terminator ≡ t.line_terminator → (q : Search) → IsSearchOf xs s.utf8 q → All LoopsRead xs →
    (c d : PairCache) (o u : Option Found) → AnswersPair p c q (Ok o) → AnswersPair r d q (Ok u) → o ≡ u
settings_alike xs s t p r made other first leftmost same_utf8 same_lines q asked loops c d o u is are =
    answers_trees xs s p made first q asked loops c o is is_word_byte byte_words
    ∙ (λ i. answer_by xs q (same_utf8 i) (same_lines i))
    ∙ sym (answers_trees xs t r other leftmost q (subst (λ (b : Bool). IsSearchOf xs b q) same_utf8 asked) loops d u are is_word_byte
    byte_words)
