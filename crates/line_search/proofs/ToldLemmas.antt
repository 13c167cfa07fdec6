-- What is reported of a line, by what searches promise.
use Rattle.std.proofs.Common.{map, ◌≡◌, ◌<◌, ℕ, true, false, List, [], ◌∷◌, All, ap, sym, ◌∙◌, refl}
use Rattle.std.proofs.Common.{arith}
use Rattle.std.proofs.lemmas.List.Elements.{All-nil, All-cons}
use Rattle.regex_hir.specs.Meaning.{alt_all}
use Rattle.regex_hir.specs.Re.{Re}
use Rattle.look_core.specs.Terminators.{one_of}
use Rattle.hir_core.specs.Tree.{Tree}
use Rattle.search_types.specs.Found.{Found}
use Rattle.regex_pair.specs.Pairs.{Pair}
use Rattle.hir_regex.specs.declared.settings.Settings.{Settings}
use Rattle.hir_regex.specs.Built.{IsBuilt, FindsFirst}
use Rattle.hir_regex.specs.Regexes.{IsSearchOf}
use Rattle.growing_regex.specs.Growing.{AreGrown, Growing, ListsBy, sized_settings}
use Rattle.pattern_search.specs.Searches.{whole_search}
use Rattle.pattern_search.specs.Texts.{AreReadAs}
use Rattle.pattern_text.specs.SameEnds.{AreSameEnds, AreSameSpans}
use Rattle.pattern_search.specs.RegexAnswers.{AnswersAsRead}
use Rattle.line_search.specs.Bounded.{line_pattern}
use Rattle.line_search.specs.BoundedTrees.{IsTreeOf}
use Rattle.line_search.specs.Meant.{line_config}
use Rattle.line_search.specs.declared.patterns.PatternOptions.{PatternOptions}
use Rattle.line_search.proofs.BoundedTreeLemmas.{ends_of, spans_of}
use Rattle.line_search.proofs.WholePatternLemmas.{find_all_same, whole_is_each, whole_pattern}
use Rattle.hir_core.specs.Facts.{LoopsRead}
use Rattle.pattern_search.specs.Searches.{span_of_found, span_of_match}
use Rattle.line_search.specs.Searchers.{IsSearcherOf, AreReported, line_settings}

-- any line of bytes is searched, whatever the trees
pub is_search : (xs : List Tree) (line : List ℕ) → All (λ b. b < 256) line → IsSearchOf xs false (whole_search line 0)
is_search xs line bytes = record {
  within = grind arith;
  whole = refl;
  bytes = bytes;
  valid = λ e. let never : false ≡ true = e in absurd (grind (arith, never));
  utf8_trees = λ e. let never : false ≡ true = e in absurd (grind (arith, never));
}

-- what the laws of searches say of regexes of patterns
abbrev pub Law : Type 0
Law = (res : List Re) (xs : List Tree) → AreSameEnds res xs → AreSameSpans res xs → (s : Settings) (p : Pair) → IsBuilt xs s p →
    FindsFirst s → s.line_terminator ≡ one_of 10 → AnswersAsRead res xs s p

-- and of automata with caches of any capacity
pub answers_of : (how : PatternOptions) (texts : List (List ℕ)) (g : Growing) (p : Pair) → Law → (it : IsSearcherOf how texts g.pair) →
    IsTreeOf how texts it.tree → (grown : AreGrown g p) → (res : List Re) → AreReadAs (line_config how) texts res →
    AnswersAsRead (whole_pattern how res ∷ []) (it.tree ∷ []) (sized_settings grown.capacity line_settings) p
answers_of how texts g p law it mean grown res read =
    law (whole_pattern how res ∷ []) (it.tree ∷ []) (ends_of how texts it.tree mean res read) (spans_of how texts it.tree mean res read)
    (sized_settings grown.capacity line_settings) p (grown.built (it.tree ∷ []) line_settings it.built) refl refl

pub all_told : (how : PatternOptions) (texts : List (List ℕ)) (g : Growing) (line : List ℕ) (fs : List Found) (reported : List (ℕ × ℕ)) →
    Law → (it : IsSearcherOf how texts g.pair) → IsTreeOf how texts it.tree → LoopsRead it.tree → All (λ b. b < 256) line →
    ListsBy g (whole_search line 0) fs → reported ≡ map span_of_found fs → AreReported how texts line reported
all_told how texts g line fs reported law it mean loops bytes by spans res read =
    let answers = answers_of how texts g by.pair law it mean by.grown res read in
    let l = by.whole in
    let all = All-cons LoopsRead it.tree [] loops (All-nil LoopsRead) in
    spans
    ∙ sym (answers.all all line (is_search (it.tree ∷ []) line bytes) fs l.old l.new l.regex l.taken l.over)
    ∙ ap (map span_of_match)
    (find_all_same (alt_all (whole_pattern how res ∷ [])) (line_pattern how res) (whole_is_each how res) line bytes)
