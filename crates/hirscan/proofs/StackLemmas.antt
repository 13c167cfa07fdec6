-- The top of a stack and what is below it.
use Rattle.std.proofs.Common.{◌≡◌, ◌-◌, List, [], ◌∷◌, ◌++◌, length, get_or, sym, ap, arith}
use Rattle.std.proofs.lemmas.List.{take_all, take_at, drop_at, length_push}
use Rattle.hir_core.specs.Tree.{Tree, empty}
use Rattle.hirscan.specs.LineFault.{top, below}

pub below_none : (s : List Tree) → below 0 s ≡ s
below_none s = take_all (length s - 0) s (omega arith)

pub top_one : (s rest : List Tree) (x : Tree) → s ≡ rest ++ x ∷ [] → get_or (top 1 s) 0 empty ≡ x
top_one s rest x e =
    let l : length rest ≡ length (rest ++ x ∷ []) - 1 = omega (arith, length_push rest x) in
    rw e (ap (λ t. get_or t 0 empty) (drop_at rest (x ∷ []) _ l))

pub below_one : (s rest : List Tree) (x : Tree) → s ≡ rest ++ x ∷ [] → rest ≡ below 1 s
below_one s rest x e =
    let l : length rest ≡ length (rest ++ x ∷ []) - 1 = omega (arith, length_push rest x) in
    rw e (sym (take_at rest (x ∷ []) _ l))
