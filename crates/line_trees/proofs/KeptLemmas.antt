-- What a line tree keeps of the tree.
use Rattle.std.proofs.Common.{◌≡◌, ◌↔◌, Bool, ◌||◌, Some, None, refl, sym, ap, ap₂, subst}
use Rattle.hir_core.specs.Tree.{Tree, empty, literal, byte_class, char_class, look, repetition, capture, nothing, cat, never, alt}
use Rattle.hir_core.specs.Facts.{sum_of_both, least_of_either, times, minimum_len, IsAboveZero, LoopsRead}
use Rattle.line_trees.specs.LineTrees.{line_tree, reads_feed}

pub minimum_kept : (crlf : Bool) (x : Tree) → minimum_len (line_tree crlf x) ≡ minimum_len x
minimum_kept crlf empty = refl
minimum_kept crlf (literal bytes) = refl
minimum_kept crlf (byte_class ranges) = refl
minimum_kept crlf (char_class ranges) = refl
minimum_kept crlf (look l) = refl
minimum_kept crlf (repetition min most greedy x) = ap (times min) (minimum_kept crlf x)
minimum_kept crlf (capture index name x) = minimum_kept crlf x
minimum_kept crlf nothing = refl
minimum_kept crlf (cat x y) = ap₂ sum_of_both (minimum_kept crlf x) (minimum_kept crlf y)
minimum_kept crlf never = refl
minimum_kept crlf (alt x y) = ap₂ least_of_either (minimum_kept crlf x) (minimum_kept crlf y)

loops_there : (crlf : Bool) (x : Tree) → LoopsRead (line_tree crlf x) → LoopsRead x
loops_there crlf empty r = r
loops_there crlf (literal bytes) r = r
loops_there crlf (byte_class ranges) r = r
loops_there crlf (char_class ranges) r = r
loops_there crlf (look l) r = r
loops_there crlf (repetition min None greedy x) r = (subst IsAboveZero (minimum_kept crlf x) r.0, loops_there crlf x r.1)
loops_there crlf (repetition min (Some most) greedy x) r = loops_there crlf x r
loops_there crlf (capture index name x) r = loops_there crlf x r
loops_there crlf nothing r = r
loops_there crlf (cat x y) r = (loops_there crlf x r.0, loops_there crlf y r.1)
loops_there crlf never r = r
loops_there crlf (alt x y) r = (loops_there crlf x r.0, loops_there crlf y r.1)

loops_here : (crlf : Bool) (x : Tree) → LoopsRead x → LoopsRead (line_tree crlf x)
loops_here crlf empty r = r
loops_here crlf (literal bytes) r = r
loops_here crlf (byte_class ranges) r = r
loops_here crlf (char_class ranges) r = r
loops_here crlf (look l) r = r
loops_here crlf (repetition min None greedy x) r = (subst IsAboveZero (sym (minimum_kept crlf x)) r.0, loops_here crlf x r.1)
loops_here crlf (repetition min (Some most) greedy x) r = loops_here crlf x r
loops_here crlf (capture index name x) r = loops_here crlf x r
loops_here crlf nothing r = r
loops_here crlf (cat x y) r = (loops_here crlf x r.0, loops_here crlf y r.1)
loops_here crlf never r = r
loops_here crlf (alt x y) r = (loops_here crlf x r.0, loops_here crlf y r.1)

pub loops_kept : (crlf : Bool) (x : Tree) → LoopsRead (line_tree crlf x) ↔ LoopsRead x
loops_kept crlf x = (loops_there crlf x, loops_here crlf x)

pub feeds_kept : (crlf : Bool) (x : Tree) → reads_feed (line_tree crlf x) ≡ reads_feed x
feeds_kept crlf empty = refl
feeds_kept crlf (literal bytes) = refl
feeds_kept crlf (byte_class ranges) = refl
feeds_kept crlf (char_class ranges) = refl
feeds_kept crlf (look l) = refl
feeds_kept crlf (repetition min most greedy x) = feeds_kept crlf x
feeds_kept crlf (capture index name x) = feeds_kept crlf x
feeds_kept crlf nothing = refl
feeds_kept crlf (cat x y) = ap₂ (λ v w. v || w) (feeds_kept crlf x) (feeds_kept crlf y)
feeds_kept crlf never = refl
feeds_kept crlf (alt x y) = ap₂ (λ v w. v || w) (feeds_kept crlf x) (feeds_kept crlf y)
