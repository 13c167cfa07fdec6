-- A call of an iterator that is seen as the list of what is left: it returns the first element and leaves the rest, or ends at the empty
-- list.
use Rattle.std.proofs.Common.{◌≡◌, ◌<◌, List, [], ◌∷◌, length, ap, subst, sym, Option, Some, None, arith, rules}
use Rattle.std.specs.Iterator.{YieldsFirst, MakesProgress, item_count}

pub step_ends : {A : Type 0} (s : List A) (r : Option A) → r ≡ None → s ≡ [] → YieldsFirst {S = List A} {A = A} (λ rest. rest) s r s
step_ends {A} s r e h = subst (λ (o : Option A). YieldsFirst {S = List A} {A = A} (λ rest. rest) s o s) (sym e) (h, h)

pub step_goes : {A : Type 0} (x : A) (s t : List A) → s ≡ x ∷ t → MakesProgress {S = List A} {A = A} (λ _. Unit {0})
    (item_count {S = List A} {A = A} (λ rest. rest)) s (Some x) t
step_goes {A} x s t e =
    let l = ap length e in
    let h : length t < length s = omega arith in
    record { on = λ f. search (rules, h); keeps = search rules; rests = search rules }
