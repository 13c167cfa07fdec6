-- Lists of patterns and of trees that agree one by one.
use Rattle.std.proofs.Common.{List, [], ◌∷◌}
use Rattle.regex_hir.specs.Re.{Re}
use Rattle.regex_hir.specs.Re as re
use Rattle.regex_hir.specs.Meaning.{cat_all, alt_all}
use Rattle.hir_core.specs.Tree.{Tree, concat, alternation}
use Rattle.hir_core.specs.Tree as tree
use Rattle.pattern_text.specs.SameEnds.{SameEnds, SameSpans, AreSameEnds, AreSameSpans}
use Rattle.pattern_text.proofs.SameEndsLemmas.{same_nothing, same_never, same_cat, same_alt}
use Rattle.pattern_text.proofs.SpanLemmas.{spans_of_ends, spans_cat, spans_alt}

pub same_concat : (rs : List Re) (xs : List Tree) → AreSameEnds rs xs → SameEnds (cat_all rs) (concat xs)
same_concat [] [] s = same_nothing
same_concat [] (x ∷ xs) s = absurd s
same_concat (a ∷ rs) [] s = absurd s
same_concat (a ∷ rs) (x ∷ xs) s = same_cat a (cat_all rs) x (concat xs) s.0 (same_concat rs xs s.1)

pub same_alternation : (rs : List Re) (xs : List Tree) → AreSameEnds rs xs → SameEnds (alt_all rs) (alternation xs)
same_alternation [] [] s = same_never
same_alternation [] (x ∷ xs) s = absurd s
same_alternation (a ∷ rs) [] s = absurd s
same_alternation (a ∷ rs) (x ∷ xs) s = same_alt a (alt_all rs) x (alternation xs) s.0 (same_alternation rs xs s.1)

pub spans_concat : (rs : List Re) (xs : List Tree) → AreSameSpans rs xs → SameSpans (cat_all rs) (concat xs)
spans_concat [] [] s = spans_of_ends re.empty tree.nothing tt same_nothing
spans_concat [] (x ∷ xs) s = absurd s
spans_concat (a ∷ rs) [] s = absurd s
spans_concat (a ∷ rs) (x ∷ xs) s = spans_cat a (cat_all rs) x (concat xs) s.0 (spans_concat rs xs s.1)

pub spans_alternation : (rs : List Re) (xs : List Tree) → AreSameSpans rs xs → SameSpans (alt_all rs) (alternation xs)
spans_alternation [] [] s = spans_of_ends (re.byte_in []) tree.never tt same_never
spans_alternation [] (x ∷ xs) s = absurd s
spans_alternation (a ∷ rs) [] s = absurd s
spans_alternation (a ∷ rs) (x ∷ xs) s = spans_alt a (alt_all rs) x (alternation xs) s.0 (spans_alternation rs xs s.1)
