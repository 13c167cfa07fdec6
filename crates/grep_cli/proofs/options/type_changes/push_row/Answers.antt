use Rattle.std.proofs.Common.{◌≡◌, ◌∙◌, ◌++◌, ◌∷◌, List, ℕ, drop, length, take, ap, sym}
use Rattle.std.proofs.lemmas.List.{drop-map, length-map, map-append, take-map}
use Rattle.std.specs.Borrow.{Bor}
use Rattle.grep_cli.specs.FileTypes.{row_of, rows_of}
use Rattle.grep_cli.specs.TypeChanges.{end_of}
use Rattle.grep_cli.proofs.options.type_changes.push_row.Goals as goal

inserted : (n : ℕ) (xs : List (Bor (List ℕ) × Bor (List ℕ))) (x : Bor (List ℕ) × Bor (List ℕ))
    → rows_of (take n xs ++ x ∷ drop n xs) ≡ take n (rows_of xs) ++ row_of x ∷ drop n (rows_of xs)
inserted n xs x =
    map-append row_of (take n xs) (x ∷ drop n xs)
    ∙ (ap (λ ys. ys ++ row_of x ∷ rows_of (drop n xs)) (sym (take-map row_of n xs))
    ∙ ap (λ ys. take n (rows_of xs) ++ row_of x ∷ ys) (sym (drop-map row_of n xs)))

at_end : (name : List ℕ) (n : ℕ) (xs ys : List (Bor (List ℕ) × Bor (List ℕ))) → n ≡ end_of name (length xs) 0 (rows_of xs) → xs ≡ ys
    → n ≡ end_of name (length (rows_of ys)) 0 (rows_of ys)
at_end name n xs ys e same =
    e ∙ (ap (λ zs. end_of name (length zs) 0 (rows_of zs)) same ∙ ap (λ k. end_of name k 0 (rows_of ys)) (sym (length-map ys row_of)))

pub returns : goal.returns
returns c =
    let place = at_end c.args.row.0.now c.end_of-at.result _ c.args.rows.now.items c.end_of-at.ensures.end c.deref.ensures.value in
    ap rows_of c.in_ok-insert.ensures.items
    ∙ (inserted c.end_of-at.result c.args.rows.now.items c.args.row
    ∙ ap (λ n. take n (rows_of c.args.rows.now.items) ++ row_of c.args.row ∷ drop n (rows_of c.args.rows.now.items)) place)
