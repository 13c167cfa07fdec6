-- Which pattern has an empty loop, and what holds of the trees if none has.
use Rattle.std.proofs.Common.{◌≡◌, ℕ, Bool, true, List, Option, Some, None, IfNone, refl, sym, ◌∙◌}
use Rattle.std.specs.Prelude.{IfSome}
use Rattle.hir_core.specs.Facts.{LoopsRead}
use Rattle.hir_core.specs.Tree.{Tree}
use Rattle.hir_regex.specs.Loops.{first_empty_loop}
use Rattle.hir_regex.proofs.ForCallers.{all_of_none}
use Rattle.pattern_search.specs.Texts.{AllMean}
use Rattle.line_search.specs.BoundedTrees.{IsTreeOf, bounded_tree}
use Rattle.line_search.specs.Joined.{joined}
use Rattle.line_search.specs.Meant.{line_config}
use Rattle.line_search.specs.declared.patterns.PatternOptions.{PatternOptions}
use Rattle.line_search.proofs.BoundedTreeLemmas.{loops_of}

-- ---- the loop of which an error is made
pub none_asked : (on : Bool) (o : Option ℕ) → IfNone o (on ≡ true → o ≡ None)
none_asked on None = λ _. refl
none_asked on (Some n) = tt

pub some_asked : (on : Bool) (o : Option ℕ) → on ≡ true → IfSome o (λ n. (on ≡ true) × (o ≡ Some n))
some_asked on None is = tt
some_asked on (Some n) is = (is, refl)

-- ---- what is known of the first one
-- the trees in which it is found
abbrev pub IsFirstLoop : PatternOptions → List (List ℕ) → ℕ → Type 0
IsFirstLoop how texts n = (xs : List Tree) × AllMean (line_config how) texts xs × (first_empty_loop xs ≡ Some n)

pub first_loop : (how : PatternOptions) (texts : List (List ℕ)) (xs : List Tree) (o : Option ℕ) → AllMean (line_config how) texts xs →
    o ≡ first_empty_loop xs → IfSome o (IsFirstLoop how texts)
first_loop how texts xs None mean is = tt
first_loop how texts xs (Some n) mean is = (xs, mean, sym is)

-- if there is none, the body of every unbounded repetition of the one tree consumes at least one byte
loops_by : (how : PatternOptions) (xs : List Tree) (x : Tree) (o : Option ℕ) → o ≡ first_empty_loop xs →
    x ≡ bounded_tree how (joined xs) → o ≡ None → LoopsRead x
loops_by how xs x o is whole none = loops_of how xs x whole (all_of_none xs (sym is ∙ none))

-- what is known of the one tree
pub tree_known : (how : PatternOptions) (texts : List (List ℕ)) (xs : List Tree) (loop : Option ℕ) (o : Option Tree) →
    AllMean (line_config how) texts xs → loop ≡ first_empty_loop xs → IfSome o (λ x. x ≡ bounded_tree how (joined xs)) →
    IfSome o (λ x. IsTreeOf how texts x × (loop ≡ None → LoopsRead x))
tree_known how texts xs loop None mean is whole = tt
tree_known how texts xs loop (Some x) mean is whole =
    (record { parsed = xs; mean = mean; is_bounded = whole }, loops_by how xs x loop is whole)
