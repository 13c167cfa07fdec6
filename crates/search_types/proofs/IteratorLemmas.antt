-- A call of an iterator that is seen as the list of what is left.
use Rattle.std.proofs.Common.{◌≡◌, ◌<◌, List, [], ◌∷◌, ◌++◌, length, ap, Some, arith, rules}
use Rattle.std.proofs.lemmas.List.{length_push}
use Rattle.std.specs.Iterator.{MakesProgress, item_count}

-- it returns the last of them and leaves those before it
pub step_from_back : {A : Type 0} (x : A) (s t : List A) → s ≡ t ++ x ∷ [] →
    MakesProgress {S = List A} {A = A} (λ _. Unit {0}) (item_count {S = List A} {A = A} (λ rest. rest)) s (Some x) t
step_from_back {A} x s t e =
    let l = ap length e in
    let h : length t < length s = omega (arith, length_push t x) in
    record { on = λ f. search (rules, h); keeps = search rules; rests = search rules }
