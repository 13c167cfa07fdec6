-- The span that a search from an offset of a line finds, and the next one.
use Rattle.std.proofs.Common.{◌≡◌, ℕ, ◌+◌, ◌<◌, ◌==◌, true, false, List, [], ◌∷◌, All, Option}
use Rattle.std.proofs.Common.{Ok, option_map, if◌then◌else◌, sym, ap, ◌∙◌}
use Rattle.std.proofs.lemmas.List.Elements.{All-nil, All-cons}
use Rattle.regex_hir.specs.Meaning.{alt_all}
use Rattle.regex_hir.specs.Text.{is_some_and}
use Rattle.hir_core.specs.Facts.{LoopsRead}
use Rattle.hir_core.specs.Tree.{Tree}
use Rattle.search_types.specs.Found.{Found}
use Rattle.hir_regex.specs.Regexes.{IsSearchOf}
use Rattle.growing_regex.specs.Growing.{AnswersBy, Growing}
use Rattle.pattern_search.specs.Searches.{span_of_found, span_of_match, whole_search}
use Rattle.line_search.specs.Bounded.{line_pattern}
use Rattle.line_search.specs.BoundedTrees.{IsTreeOf}
use Rattle.line_search.specs.Fallbacks.{next_after}
use Rattle.line_search.specs.FoundSpans.{IsFoundSpan}
use Rattle.line_search.specs.Searchers.{IsSearcherOf}
use Rattle.line_search.specs.declared.patterns.PatternOptions.{PatternOptions}
use Rattle.line_search.proofs.ToldLemmas.{Law, answers_of, is_search}
use Rattle.line_search.proofs.WholePatternLemmas.{find_same, whole_is_each, whole_pattern}

-- ---- what was found by automata, from an offset on
is_search_from : (xs : List Tree) (line : List ℕ) (at : ℕ) → All (λ b. b < 256) line → IsSearchOf xs false (whole_search line at)
is_search_from xs line at bytes =
    let it = is_search xs line bytes in
    record { within = it.within; whole = it.whole; bytes = it.bytes; valid = it.valid; utf8_trees = it.utf8_trees }

pub found_told : (how : PatternOptions) (texts : List (List ℕ)) (g : Growing) (line : List ℕ) (at : ℕ) (o : Option Found)
    (reported : Option (ℕ × ℕ)) →
    Law → (it : IsSearcherOf how texts g.pair) → IsTreeOf how texts it.tree → LoopsRead it.tree → All (λ b. b < 256) line →
    AnswersBy g (whole_search line at) (Ok o) → reported ≡ option_map span_of_found o → IsFoundSpan how texts line at reported
found_told how texts g line at o reported law it mean loops bytes by is res read =
    let answers = answers_of how texts g by.pair law it mean by.grown res read in
    let all = All-cons LoopsRead it.tree [] loops (All-nil LoopsRead) in
    is
    ∙ sym (answers.found all line at (is_search_from (it.tree ∷ []) line at bytes) by.cache o by.answer)
    ∙ ap (option_map span_of_match) (find_same (alt_all (whole_pattern how res ∷ [])) (line_pattern how res) (whole_is_each how res) line bytes
    at)

-- ---- the next span after one that ended at an offset
pub next_kept : (at : ℕ → Option (ℕ × ℕ)) (end : ℕ) (o : Option (ℕ × ℕ)) → o ≡ at end → is_some_and o (λ s. s.1 == end) ≡ false →
    o ≡ next_after at end
next_kept at end o is other =
    is ∙ sym (ap (λ b. if b then at (end + 1) else at end) (ap (λ x. is_some_and x (λ s. s.1 == end)) (sym is) ∙ other))

pub next_later : (at : ℕ → Option (ℕ × ℕ)) (end : ℕ) (o p : Option (ℕ × ℕ)) → o ≡ at end → is_some_and o (λ s. s.1 == end) ≡ true →
    p ≡ at (end + 1) → p ≡ next_after at end
next_later at end o p is same later =
    later ∙ sym (ap (λ b. if b then at (end + 1) else at end) (ap (λ x. is_some_and x (λ s. s.1 == end)) (sym is) ∙ same))
