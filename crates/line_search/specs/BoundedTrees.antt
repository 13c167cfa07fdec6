-- The one tree of several patterns, which may count only as a whole line or as whole words.
use Rattle.std.specs.Prelude.{◌≡◌, ◌⊎◌, ℕ, Bool, true, false, List, [], ◌∷◌, if◌then◌else◌}
use Rattle.look_core.specs.declared.look.Look.TheVariants.{WordStartUnicode, WordStartHalfUnicode}
use Rattle.look_core.specs.declared.look.Look.TheVariants.{WordEndUnicode, WordEndHalfUnicode}
use Rattle.hir_core.specs.Tree.{Tree, look, concat, alternation}
use Rattle.pattern_search.specs.Texts.{AllMean}
use Rattle.pattern_text.specs.Translated.{translated_look}
use Rattle.line_search.specs.Bounded.{end_look, start_look}
use Rattle.line_search.specs.FewerWords.{HasFewerWords}
use Rattle.line_search.specs.Joined.{joined}
use Rattle.line_search.specs.Meant.{line_config}
use Rattle.line_search.specs.declared.patterns.PatternOptions.{PatternOptions}

-- The trees of `word_start` and `word_end`.
abbrev pub word_start_tree : Tree
word_start_tree = alternation (look WordStartUnicode ∷ look WordStartHalfUnicode ∷ [])

abbrev pub word_end_tree : Tree
word_end_tree = alternation (look WordEndUnicode ∷ look WordEndHalfUnicode ∷ [])

-- The tree of parsed patterns, with what `bounded` puts around each of them.
abbrev pub bounded_tree : PatternOptions → Tree → Tree
bounded_tree how x =
    if how.lines then concat (look (translated_look (start_look how)) ∷ x ∷ look (translated_look (end_look how)) ∷ [])
    else if how.words then concat (word_start_tree ∷ x ∷ word_end_tree ∷ [])
    else x

-- The one tree of patterns: each pattern is parsed into a tree by itself, these are joined, and the result is bounded.
pub record IsTreeOf (how : PatternOptions) (texts : List (List ℕ)) (x : Tree) : Type 0 where
  pub parsed : List Tree
  pub mean : AllMean (line_config how) texts parsed
  pub is_bounded : x ≡ bounded_tree how (joined parsed)

-- A tree that is searched for where only lines are asked for: the one tree of the patterns, or that tree with fewer words. Both have a span
-- in the same lines. Only an alternation of words alone can have fewer. With `-x` and `-w` the one tree is none.
pub record IsTreeForLines (how : PatternOptions) (texts : List (List ℕ)) (x : Tree) : Type 0 where
  pub whole : Tree
  pub mean : IsTreeOf how texts whole
  pub same_or_fewer : (x ≡ whole) ⊎ HasFewerWords whole x

-- The tree that is searched for: the one tree of the patterns if matches are asked for, and otherwise one that suffices for lines.
abbrev pub IsTreeAskedFor : PatternOptions → List (List ℕ) → Bool → Tree → Type 0
IsTreeAskedFor how texts true x = IsTreeOf how texts x
IsTreeAskedFor how texts false x = IsTreeForLines how texts x
