-- The one tree of patterns, which may count only as a whole line or as whole words, matches as these patterns do.
use Rattle.std.proofs.Common.{◌≡◌, ℕ, Bool, true, false, List, [], ◌∷◌, All, sym, subst}
use Rattle.regex_hir.specs.Meaning.{meaning, alt_all}
use Rattle.regex_hir.specs.Re.{Re}
use Rattle.regex_hir.specs.Re as re
use Rattle.regex_hir.specs.declared.hir.Hir.TheVariants as pattern
use Rattle.regex_hir.specs.declared.look.Look.{Look as Assertion}
use Rattle.regex_hir.specs.declared.look.Look.TheVariants as assertion
use Rattle.regex_hir.proofs.MeaningLemmas.{meaning-Look}
use Rattle.hir_core.specs.Facts.{LoopsRead}
use Rattle.hir_core.specs.Tree.{Tree}
use Rattle.hir_core.specs.Tree as tree
use Rattle.pattern_text.specs.SameEnds.{AreSameEnds, AreSameSpans, SameEnds, SameSpans}
use Rattle.pattern_text.specs.Translated.{translated_look}
use Rattle.pattern_text.proofs.ForCallers.{same_alternation, same_concat, same_ends, same_spans, spans_alternation, spans_concat}
use Rattle.pattern_text.proofs.ForCallers.{translated-Look}
use Rattle.pattern_search.specs.Searches.{StartsAsRead}
use Rattle.pattern_search.specs.Texts.{AreReadAs}
use Rattle.pattern_search.specs.Written.{FindsWhatIsWritten}
use Rattle.pattern_search.proofs.ForCallers.{finds_what_is_written, same_patterns, starts_as_read}
use Rattle.line_search.specs.Bounded.{bounded, end_look, start_look, word_end, word_start}
use Rattle.line_search.specs.BoundedTrees.{IsTreeOf, bounded_tree, word_end_tree, word_start_tree}
use Rattle.line_search.specs.Joined.{joined}
use Rattle.line_search.specs.Meant.{line_config}
use Rattle.line_search.specs.declared.patterns.PatternOptions.{PatternOptions}
use Rattle.line_search.proofs.JoinedLemmas.{loops_joined, same_joined, spans_joined}
use Rattle.line_search.proofs.WholePatternLemmas.{whole_pattern}

-- ---- one look
look_ends : (l : Assertion) → SameEnds (re.look l) (tree.look (translated_look l))
look_ends l =
    subst (λ (a : Re). SameEnds a (tree.look (translated_look l))) (meaning-Look l)
    (subst (λ (x : Tree). SameEnds (meaning (pattern.Look l)) x) (translated-Look [] l) (same_ends [] (pattern.Look l)))

look_spans : (l : Assertion) → SameSpans (re.look l) (tree.look (translated_look l))
look_spans l =
    subst (λ (a : Re). SameSpans a (tree.look (translated_look l))) (meaning-Look l)
    (subst (λ (x : Tree). SameSpans (meaning (pattern.Look l)) x) (translated-Look [] l) (same_spans [] (pattern.Look l)))

-- ---- the tests of words
start_ends : SameEnds word_start word_start_tree
start_ends = same_alternation (re.look assertion.WordStartUnicode ∷ re.look assertion.WordStartHalfUnicode ∷ [])
    (tree.look (translated_look assertion.WordStartUnicode) ∷ tree.look (translated_look assertion.WordStartHalfUnicode) ∷ [])
    (look_ends assertion.WordStartUnicode, (look_ends assertion.WordStartHalfUnicode, tt))

end_ends : SameEnds word_end word_end_tree
end_ends = same_alternation (re.look assertion.WordEndUnicode ∷ re.look assertion.WordEndHalfUnicode ∷ [])
    (tree.look (translated_look assertion.WordEndUnicode) ∷ tree.look (translated_look assertion.WordEndHalfUnicode) ∷ [])
    (look_ends assertion.WordEndUnicode, (look_ends assertion.WordEndHalfUnicode, tt))

start_spans : SameSpans word_start word_start_tree
start_spans = spans_alternation (re.look assertion.WordStartUnicode ∷ re.look assertion.WordStartHalfUnicode ∷ [])
    (tree.look (translated_look assertion.WordStartUnicode) ∷ tree.look (translated_look assertion.WordStartHalfUnicode) ∷ [])
    (look_spans assertion.WordStartUnicode, (look_spans assertion.WordStartHalfUnicode, tt))

end_spans : SameSpans word_end word_end_tree
end_spans = spans_alternation (re.look assertion.WordEndUnicode ∷ re.look assertion.WordEndHalfUnicode ∷ [])
    (tree.look (translated_look assertion.WordEndUnicode) ∷ tree.look (translated_look assertion.WordEndHalfUnicode) ∷ [])
    (look_spans assertion.WordEndUnicode, (look_spans assertion.WordEndHalfUnicode, tt))

-- ---- a pattern and its tree between both
bounded_ends : (how : PatternOptions) (a : Re) (x : Tree) → SameEnds a x → SameEnds (bounded how a) (bounded_tree how x)
bounded_ends how a x same = by how.lines how.words
  where
    by : (lines words : Bool) → SameEnds (bounded (record how { lines = lines; words = words }) a)
        (bounded_tree (record how { lines = lines; words = words }) x)
    by true words = same_concat (re.look (start_look how) ∷ a ∷ re.look (end_look how) ∷ [])
        (tree.look (translated_look (start_look how)) ∷ x ∷ tree.look (translated_look (end_look how)) ∷ [])
        (look_ends (start_look how), (same, (look_ends (end_look how), tt)))
    by false true = same_concat (word_start ∷ a ∷ word_end ∷ []) (word_start_tree ∷ x ∷ word_end_tree ∷ [])
        (start_ends, (same, (end_ends, tt)))
    by false false = same

bounded_spans : (how : PatternOptions) (a : Re) (x : Tree) → SameSpans a x → SameSpans (bounded how a) (bounded_tree how x)
bounded_spans how a x same = by how.lines how.words
  where
    by : (lines words : Bool) → SameSpans (bounded (record how { lines = lines; words = words }) a)
        (bounded_tree (record how { lines = lines; words = words }) x)
    by true words = spans_concat (re.look (start_look how) ∷ a ∷ re.look (end_look how) ∷ [])
        (tree.look (translated_look (start_look how)) ∷ x ∷ tree.look (translated_look (end_look how)) ∷ [])
        (look_spans (start_look how), (same, (look_spans (end_look how), tt)))
    by false true = spans_concat (word_start ∷ a ∷ word_end ∷ []) (word_start_tree ∷ x ∷ word_end_tree ∷ [])
        (start_spans, (same, (end_spans, tt)))
    by false false = same

-- ---- the tree of patterns
module _ (how : PatternOptions) (texts : List (List ℕ)) (x : Tree) (it : IsTreeOf how texts x) where
  written : FindsWhatIsWritten (line_config how) texts it.parsed
  written = finds_what_is_written (line_config how) texts it.parsed it.mean

  -- the patterns can be parsed
  pub read_as : (res : List Re) × AreReadAs (line_config how) texts res
  read_as = (written.patterns, written.are_read)

  module _ (res : List Re) (read : AreReadAs (line_config how) texts res) where
    same : written.patterns ≡ res
    same = same_patterns (line_config how) texts written.patterns res written.are_read read

    whole_ends : SameEnds (whole_pattern how res) x
    whole_ends =
        subst (SameEnds (whole_pattern how res)) (sym it.is_bounded)
        (bounded_ends how (alt_all res) (joined it.parsed)
        (same_joined (alt_all res) it.parsed
        (same_alternation res it.parsed (subst (λ (rs : List Re). AreSameEnds rs it.parsed) same written.same_ends))))

    whole_spans : SameSpans (whole_pattern how res) x
    whole_spans =
        subst (SameSpans (whole_pattern how res)) (sym it.is_bounded)
        (bounded_spans how (alt_all res) (joined it.parsed)
        (spans_joined (alt_all res) it.parsed
        (spans_alternation res it.parsed (subst (λ (rs : List Re). AreSameSpans rs it.parsed) same written.same_spans))))

    pub ends_of : AreSameEnds (whole_pattern how res ∷ []) (x ∷ [])
    ends_of = (whole_ends, tt)

    pub spans_of : AreSameSpans (whole_pattern how res ∷ []) (x ∷ [])
    spans_of = (whole_spans, tt)

    -- and each search for the tree finds where these match
    pub starts_of : StartsAsRead false (whole_pattern how res ∷ []) (x ∷ [])
    starts_of = starts_as_read (whole_pattern how res ∷ []) (x ∷ []) spans_of false

-- ---- the bodies of repetitions
-- if those in the trees of the patterns consume a byte, so do those in the one tree
pub loops_bounded : (how : PatternOptions) (x : Tree) → LoopsRead x → LoopsRead (bounded_tree how x)
loops_bounded how x loops = by how.lines how.words
  where
    by : (lines words : Bool) → LoopsRead (bounded_tree (record how { lines = lines; words = words }) x)
    by true words = (tt, (loops, (tt, tt)))
    by false true = ((tt, (tt, tt)), (loops, ((tt, (tt, tt)), tt)))
    by false false = loops

pub loops_of : (how : PatternOptions) (parsed : List Tree) (x : Tree) → x ≡ bounded_tree how (joined parsed) → All LoopsRead parsed →
    LoopsRead x
loops_of how parsed x is all = subst LoopsRead (sym is) (loops_bounded how (joined parsed) (loops_joined parsed all))
