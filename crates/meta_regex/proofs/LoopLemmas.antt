-- If no pattern has an empty loop, the body of every unbounded repetition consumes at least one byte.
use Rattle.std.proofs.Common.{◌≡◌, ℕ, Bool, false, List, All, Option, Some, None, IfNone, sym}
use Rattle.hir_core.specs.Facts.{LoopsRead}
use Rattle.hir_core.specs.Tree.{Tree}
use Rattle.hir_regex.specs.Loops.{first_empty_loop}
use Rattle.hir_regex.proofs.ForCallers.{all_of_none}

pub none_refused : (xs : List Tree) (allows : Bool) (o : Option ℕ) → o ≡ first_empty_loop xs →
    IfNone o (allows ≡ false → All LoopsRead xs)
none_refused xs allows None is = λ _. all_of_none xs (sym is)
none_refused xs allows (Some n) is = tt
