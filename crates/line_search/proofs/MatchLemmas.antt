-- Whether a line has a match, by the spans of a tree that suffices for lines.
use Rattle.std.proofs.Common.{◌≡◌, ◌≤◌, ◌<◌, ◌⊎◌, inl, inr, ℕ, zero, suc, Bool, true, false, List, [], ◌∷◌, All, length, slice_get, Option}
use Rattle.std.proofs.Common.{Some, None, Ok, refl, sym, ap, ◌∙◌, subst, arith, lt-ltb}
use Rattle.std.specs.Prelude.{is_some, option_map}
use Rattle.std.proofs.lemmas.Option.{none-some, same_Some, slice_get_within}
use Rattle.ucd_perl.specs.Perl.{is_word_char}
use Rattle.regex_hir.specs.Meaning.{alt_all}
use Rattle.regex_hir.specs.Re.{Re}
use Rattle.regex_hir.specs.Find.{find}
use Rattle.look_core.specs.Looks.{IsWordSet}
use Rattle.search_types.specs.declared.anchored.Anchored.TheVariants.{No}
use Rattle.search_types.specs.Found.{Found}
use Rattle.search_types.specs.Inputs.{Search}
use Rattle.search_types.proofs.ForCallers.{starts_at, may_start_at}
use Rattle.hir_core.specs.Tree.{Tree}
use Rattle.hir_core.specs.Means.{Means}
use Rattle.hir_core.proofs.ForCallers.{span_within}
use Rattle.line_trees.specs.LineTrees.{line_looks}
use Rattle.regex_pair.specs.Pairs.{Pair, PairCache}
use Rattle.regex_pair.specs.PairAnswers.{AnswersPair}
use Rattle.hir_regex.specs.declared.settings.Settings.{Settings}
use Rattle.hir_regex.specs.Built.{IsBuilt, FindsFirst}
use Rattle.hir_regex.specs.Choices.{answer_from}
use Rattle.hir_regex.specs.Headline.{query_by}
use Rattle.hir_regex.specs.LooseAnswers.{IsLooseAnswer}
use Rattle.hir_regex.specs.Regexes.{IsSearchOf}
use Rattle.growing_regex.specs.Growing.{AnswersBy, Growing, sized_settings}
use Rattle.pattern_text.specs.Words.{word_set}
use Rattle.pattern_search.specs.Texts.{AreReadAs}
use Rattle.pattern_search.specs.Searches.{whole_query, whole_search}
use Rattle.pattern_search.proofs.ForCallers.{alike_some, answer_is_loose}
use Rattle.line_search.specs.Bounded.{line_pattern}
use Rattle.line_search.specs.BoundedTrees.{IsTreeAskedFor, IsTreeForLines, IsTreeOf}
use Rattle.line_search.specs.FewerWords.{HasFewerWords}
use Rattle.line_search.specs.Meant.{line_config}
use Rattle.line_search.specs.declared.patterns.PatternOptions.{PatternOptions}
use Rattle.line_search.specs.Patterns.{has_match_in}
use Rattle.line_search.specs.Searchers.{IsMatchReported, IsSearcherOf, line_settings}
use Rattle.line_search.proofs.BoundedTreeLemmas.{read_as, starts_of}
use Rattle.line_search.proofs.FewerWordLemmas.{span_of_all, span_of_fewer}
use Rattle.line_search.proofs.ToldLemmas.{is_search}
use Rattle.line_search.proofs.WholePatternLemmas.{find_same, whole_is_each, whole_pattern}

-- ---- the tree that is searched for
-- the one tree of the patterns suffices for lines
pub for_lines : (how : PatternOptions) (texts : List (List ℕ)) (x : Tree) → IsTreeOf how texts x → IsTreeForLines how texts x
for_lines how texts x mean = record { whole = x; mean = mean; same_or_fewer = inl refl }

pub asked_for_lines : (how : PatternOptions) (texts : List (List ℕ)) (spans : Bool) (x : Tree) → IsTreeAskedFor how texts spans x →
    IsTreeForLines how texts x
asked_for_lines how texts true x mean = for_lines how texts x mean
asked_for_lines how texts false x mean = mean

pub asked_for_spans : (how : PatternOptions) (texts : List (List ℕ)) (spans : Bool) (x : Tree) → IsTreeAskedFor how texts spans x →
    spans ≡ true → IsTreeOf how texts x
asked_for_spans how texts spans x mean asked = subst (λ (b : Bool). IsTreeAskedFor how texts b x) asked mean

-- the patterns can be parsed
pub read_for_lines : (how : PatternOptions) (texts : List (List ℕ)) (x : Tree) → IsTreeForLines how texts x →
    (res : List Re) × AreReadAs (line_config how) texts res
read_for_lines how texts x it = read_as how texts it.whole it.mean

-- ---- lines that no tree has a span in
-- no tree means a span of the line
abbrev pub HasNone : List Tree → List ℕ → Type 0
HasNone xs line = (p : ℕ) (x : Tree) (i j : ℕ) → slice_get xs p ≡ Some x → i ≤ length line → j ≤ length line →
    Means (line_looks is_word_char line) line x i j → ⊥

-- then neither does the one tree
none_of_fewer : (x whole : Tree) (line : List ℕ) → HasFewerWords whole x → HasNone (x ∷ []) line → HasNone (whole ∷ []) line
none_of_fewer x whole line fewer none zero y i j listed low high means =
    let it = span_of_fewer (line_looks is_word_char line) line i whole x j fewer
    (subst (λ (t : Tree). Means (line_looks is_word_char line) line t i j) (sym (same_Some whole y listed)) means) in
    none zero x i it.0 refl low (span_within (line_looks is_word_char line) line x i it.0 low it.1) it.1
none_of_fewer x whole line fewer none (suc p) y i j listed low high means = absurd (none-some y listed)

none_of_whole : (x whole : Tree) (line : List ℕ) → (x ≡ whole) ⊎ HasFewerWords whole x → HasNone (x ∷ []) line → HasNone (whole ∷ []) line
none_of_whole x whole line (inl same) none = subst (λ (t : Tree). HasNone (t ∷ []) line) same none
none_of_whole x whole line (inr fewer) none = none_of_fewer x whole line fewer none

-- the pattern with one bound around all has a match where the patterns have one
has_whole : (how : PatternOptions) (res : List Re) (line : List ℕ) → All (λ b. b < 256) line →
    is_some (find (alt_all (whole_pattern how res ∷ [])) line 0) ≡ has_match_in how res line
has_whole how res line bytes =
    ap is_some (find_same (alt_all (whole_pattern how res ∷ [])) (line_pattern how res) (whole_is_each how res) line bytes 0)

-- then the line has no match
no_match_of : (how : PatternOptions) (texts : List (List ℕ)) (t : Tree) (res : List Re) (line : List ℕ) → IsTreeOf how texts t →
    AreReadAs (line_config how) texts res → All (λ b. b < 256) line → HasNone (t ∷ []) line → has_match_in how res line ≡ false
no_match_of how texts t res line mean read bytes none =
    let nothing : option_map (λ m. m.start) (find (alt_all (whole_pattern how res ∷ [])) line 0)
    ≡ option_map (λ (f : Found). f.start) None =
    (starts_of how texts t mean res read).loose line 0 (is_search (t ∷ []) line bytes) None (λ i p j starts it.
    none p it.findable.span.tree i j it.findable.span.listed
    (starts_at No 0 (length line) i starts).to_last it.findable.within it.findable.span.means) in
    sym (has_whole how res line bytes)
    ∙ alike_some (λ m. m.start) (λ (f : Found). f.start) (find (alt_all (whole_pattern how res ∷ [])) line 0) None nothing

pub no_match : (how : PatternOptions) (texts : List (List ℕ)) (t : Tree) (res : List Re) (line : List ℕ) → IsTreeForLines how texts t →
    AreReadAs (line_config how) texts res → All (λ b. b < 256) line → HasNone (t ∷ []) line → has_match_in how res line ≡ false
no_match how texts t res line it read bytes none =
    no_match_of how texts it.whole res line it.mean read bytes (none_of_whole t it.whole line it.same_or_fewer none)

-- ---- lines that a tree has a span in
-- an answer that is none says that there is no span
no_answer : (xs : List Tree) (line : List ℕ) (o : Option Found) → IsLooseAnswer (whole_query false xs line) 0 o → is_some o ≡ false →
    IsLooseAnswer (whole_query false xs line) 0 None
no_answer xs line None loose none = loose
no_answer xs line (Some f) loose none = cc

-- if the one tree means a span of the line, the line has a match
has_of_whole : (how : PatternOptions) (texts : List (List ℕ)) (t : Tree) (res : List Re) (line : List ℕ) → IsTreeOf how texts t →
    AreReadAs (line_config how) texts res → All (λ b. b < 256) line → (i j : ℕ) → i ≤ length line → j ≤ length line →
    Means (line_looks is_word_char line) line t i j → (has : Bool) → has_match_in how res line ≡ has → true ≡ has_match_in how res line
has_of_whole how texts t res line mean read bytes i j low high means true is = sym is
has_of_whole how texts t res line mean read bytes i j low high means false is =
    let none : is_some (answer_from (whole_query false (t ∷ []) line) 0) ≡ false =
    sym (alike_some (λ m. m.start) (λ (f : Found). f.start) (find (alt_all (whole_pattern how res ∷ [])) line 0)
    (answer_from (whole_query false (t ∷ []) line) 0)
    ((starts_of how texts t mean res read).preferred line 0 (is_search (t ∷ []) line bytes)))
    ∙ has_whole how res line bytes ∙ is in
    absurd (no_answer (t ∷ []) line (answer_from (whole_query false (t ∷ []) line) 0)
    (answer_is_loose (whole_query false (t ∷ []) line) 0) none i zero j
    (may_start_at No 0 (length line) i (omega arith) (omega arith) low)
    (record {
      findable = record { may = refl; span = record { tree = t; listed = refl; means = means }; within = high };
      start_counts = refl;
      end_counts = refl;
    }))

span_of_whole : (x whole : Tree) (line : List ℕ) (i j : ℕ) → (x ≡ whole) ⊎ HasFewerWords whole x →
    Means (line_looks is_word_char line) line x i j → Means (line_looks is_word_char line) line whole i j
span_of_whole x whole line i j (inl same) means = subst (λ (t : Tree). Means (line_looks is_word_char line) line t i j) same means
span_of_whole x whole line i j (inr fewer) means = span_of_all (line_looks is_word_char line) line i whole x j fewer means

pub has_of : (how : PatternOptions) (texts : List (List ℕ)) (t : Tree) (res : List Re) (line : List ℕ) → IsTreeForLines how texts t →
    AreReadAs (line_config how) texts res → All (λ b. b < 256) line → (i j : ℕ) → i ≤ length line → j ≤ length line →
    Means (line_looks is_word_char line) line t i j → true ≡ has_match_in how res line
has_of how texts t res line it read bytes i j low high means =
    has_of_whole how texts it.whole res line it.mean read bytes i j low high (span_of_whole t it.whole line i j it.same_or_fewer means)
    (has_match_in how res line) refl

-- ---- what a search reports
-- the only tree of a list of one
pub only_tree : (t : Tree) (p : ℕ) (x : Tree) → slice_get (t ∷ []) p ≡ Some x → x ≡ t
only_tree t zero x listed = sym (same_Some t x listed)
only_tree t (suc p) x listed = absurd (none-some x listed)

-- an answer shows whether the line has a match, if the tree suffices for lines
told_by : (how : PatternOptions) (texts : List (List ℕ)) (t : Tree) (res : List Re) (line : List ℕ) → IsTreeForLines how texts t →
    AreReadAs (line_config how) texts res → All (λ b. b < 256) line → (o : Option Found) →
    IsLooseAnswer (whole_query false (t ∷ []) line) 0 o → is_some o ≡ has_match_in how res line
told_by how texts t res line it read bytes None loose =
    sym (no_match how texts t res line it read bytes
    (λ p x i j listed low high means. loose i p j (may_start_at No 0 (length line) i (omega arith) (omega arith) low) (record {
      findable = record {
        may = lt-ltb p (length (t ∷ [])) (slice_get_within (t ∷ []) p x listed);
        span = record { tree = x; listed = listed; means = means };
        within = high;
      };
      start_counts = refl;
      end_counts = refl;
    })))
told_by how texts t res line it read bytes (Some f) loose =
    let found = loose.counted.findable in
    has_of how texts t res line it read bytes f.start f.end (starts_at No 0 (length line) f.start loose.starts).to_last found.within
    (subst (λ (x : Tree). Means (line_looks is_word_char line) line x f.start f.end)
    (only_tree t f.pattern found.span.tree found.span.listed) found.span.means)

pub progress_of : (how : PatternOptions) (texts : List (List ℕ)) (g : Growing) (line : List ℕ) (o : Option Found) →
    ((xs : List Tree) (s : Settings) (p : Pair) → IsBuilt xs s p → FindsFirst s → (q : Search) → IsSearchOf xs s.utf8 q →
    (c : PairCache) (r : Option Found) → AnswersPair p c q (Ok r) → (words : ℕ → Bool) → IsWordSet words →
    IsLooseAnswer (query_by words xs s q) q.start r) →
    IsSearcherOf how texts g.pair → All (λ b. b < 256) line → AnswersBy g (whole_search line 0) (Ok o) →
    IsMatchReported how texts line (is_some o)
progress_of how texts g line o law it bytes by res read =
    told_by how texts it.tree res line it.mean read bytes o
    (law (it.tree ∷ []) (sized_settings by.grown.capacity line_settings) by.pair (by.grown.built (it.tree ∷ []) line_settings it.built) refl
    (whole_search line 0) (is_search (it.tree ∷ []) line bytes) by.cache o by.answer is_word_char word_set)
