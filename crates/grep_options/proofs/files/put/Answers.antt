use Rattle.std.proofs.Common.{◌≡◌, ◌∙◌, ◌++◌, ◌∷◌, List, ℕ, map, take, drop, ap, sym}
use Rattle.std.proofs.lemmas.List.{drop-map, map-append, take-map}
use Rattle.grep_options.specs.FileOptions.{earlier, given_of}
use Rattle.grep_options.specs.declared.files.FileValue.{FileValue}
use Rattle.grep_options.proofs.files.put.Goals as goal

inserted : (n : ℕ) (xs : List FileValue) (x : FileValue) → map given_of (take n xs ++ x ∷ drop n xs)
    ≡ take n (map given_of xs) ++ given_of x ∷ drop n (map given_of xs)
inserted n xs x =
    map-append given_of (take n xs) (x ∷ drop n xs)
    ∙ (ap (λ ys. ys ++ given_of x ∷ map given_of (drop n xs)) (sym (take-map given_of n xs))
    ∙ ap (λ ys. take n (map given_of xs) ++ given_of x ∷ ys) (sym (drop-map given_of n xs)))

pub returns : goal.returns
returns c =
    let place = c.earlier-at.ensures.count ∙ ap (λ xs. earlier c.args.value.index (map given_of xs)) c.deref.ensures.value in
    ap (map given_of) c.in_ok-insert.ensures.items
    ∙ (inserted c.earlier-at.result c.args.values.now.items c.args.value
    ∙ ap (λ n. take n (map given_of c.args.values.now.items) ++ given_of c.args.value ∷ drop n (map given_of c.args.values.now.items)) place)
