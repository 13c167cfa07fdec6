-- Parts in the order of reading: from the first on, or from the last if the automaton reads in reverse.
use Rattle.std.proofs.Common.{◌≡◌, ℕ, suc, ◌+◌, ◌-◌, ◌<◌, ◌≤◌, Bool, true, false, List, [], ◌∷◌, ◌++◌, length, take, drop, get_or, refl}
use Rattle.std.proofs.Common.{sym, ap, ◌∙◌, subst, arith, drop-cons, add-one, drop_of_length-le}
use Rattle.std.proofs.lemmas.List.{take_more}
use Rattle.std.proofs.Math.Seq.{take-length}
use Rattle.hir_core.specs.Tree.{Tree, empty, literal, cat, concat}
use Rattle.thompson_nfa.specs.Turned.{turned_position, left_after}
use Rattle.thompson_nfa.proofs.Walks.DenoteLemmas.{Joins}
use Rattle.thompson_nfa.proofs.Walks.SameLemmas.{IsSame, joins_same, joins_cat_forward, same_concat_none, same_concat_append}
use Rattle.thompson_nfa.proofs.Walks.SameLemmas.{same_literal_none}
use Rattle.thompson_nfa.proofs.Walks.AheadLemmas.{joins_last_part, joins_first_byte, joins_last_byte}

-- the part at i comes before the others from there on
pub first_left : {A : Type 0} (xs : List A) (i : ℕ) (x d : A) → i < length xs → x ≡ get_or xs i d → drop i xs ≡ x ∷ drop (i + 1) xs
first_left xs i x d l e = drop-cons xs i d l ∙ ap (λ y. y ∷ drop (suc i) xs) (sym e) ∙ ap (λ n. x ∷ drop n xs) (sym (add-one i))

-- and after those up to there
pub last_left : {A : Type 0} (xs : List A) (i : ℕ) (x d : A) → i < length xs → x ≡ get_or xs (length xs - (i + 1)) d →
    take (length xs - i) xs ≡ take (length xs - (i + 1)) xs ++ x ∷ []
last_left {A} xs i x d l is =
    let k = length xs - (i + 1) in
    let low : k < length xs = omega arith in
    let one : length xs - i ≡ k + 1 = omega arith in
    ap (λ n. take n xs) one ∙ take_more xs k d low ∙ ap (λ (y : A). take k xs ++ y ∷ []) (sym is)

pub literal_joins : (back : Bool) (bytes : List ℕ) (i b d : ℕ) → i < length bytes →
    b ≡ get_or bytes (turned_position back i (length bytes)) d →
    Joins back (literal (b ∷ [])) (literal (left_after back (i + 1) bytes)) (literal (left_after back i bytes))
literal_joins false bytes i b d l e =
    let P : List ℕ → Type 0 = λ ys. Joins false (literal (b ∷ [])) (literal (drop (i + 1) bytes)) (literal ys) in
    subst P (sym (first_left bytes i b d l e)) (joins_first_byte b (drop (i + 1) bytes))
literal_joins true bytes i b d l e =
    let P : List ℕ → Type 0 = λ ys. Joins true (literal (b ∷ [])) (literal (take (length bytes - (i + 1)) bytes)) (literal ys) in
    subst P (sym (last_left bytes i b d l e)) (joins_last_byte b (take (length bytes - (i + 1)) bytes))

pub concat_joins : (back : Bool) (xs : List Tree) (i : ℕ) (x : Tree) → i < length xs →
    x ≡ get_or xs (turned_position back i (length xs)) x →
    Joins back (concat (x ∷ [])) (concat (left_after back (i + 1) xs)) (concat (left_after back i xs))
concat_joins false xs i x l e =
    let P : List Tree → Type 0 = λ ys. Joins false (concat (x ∷ [])) (concat (drop (i + 1) xs)) (concat ys) in
    subst P (sym (first_left xs i x x l e))
    (joins_same false (concat (x ∷ [])) (concat (drop (i + 1) xs)) (cat (concat (x ∷ [])) (concat (drop (i + 1) xs)))
    (concat (x ∷ drop (i + 1) xs))
    (same_concat_append (x ∷ []) (drop (i + 1) xs)) (joins_cat_forward (concat (x ∷ [])) (concat (drop (i + 1) xs))))
concat_joins true xs i x l e =
    let P : List Tree → Type 0 = λ ys. Joins true (concat (x ∷ [])) (concat (take (length xs - (i + 1)) xs)) (concat ys) in
    subst P (sym (last_left xs i x x l e)) (joins_last_part x (take (length xs - (i + 1)) xs))

-- at first all parts are left, and at last none
pub left_all : {A : Type 0} (back : Bool) (xs : List A) → left_after back 0 xs ≡ xs
left_all false xs = refl
left_all true xs = let whole : length xs - 0 ≡ length xs = omega arith in ap (λ n. take n xs) whole ∙ take-length xs

pub left_none : {A : Type 0} (back : Bool) (i : ℕ) (xs : List A) → length xs ≤ i → left_after back i xs ≡ []
left_none false i xs l = drop_of_length-le xs l
left_none true i xs l = let none : length xs - i ≡ 0 = omega arith in ap (λ n. take n xs) none

-- the steps of a literal
pub literal_begun : (back : Bool) (bytes : List ℕ) (b d : ℕ) → 0 < length bytes →
    b ≡ get_or bytes (turned_position back 0 (length bytes)) d →
    Joins back (literal (b ∷ [])) (literal (left_after back 1 bytes)) (literal bytes)
literal_begun back bytes b d l e =
    let P : List ℕ → Type 0 = λ ys. Joins back (literal (b ∷ [])) (literal (left_after back 1 bytes)) (literal ys) in
    subst P (left_all back bytes) (literal_joins back bytes 0 b d l e)

pub literal_ended : (back : Bool) (i : ℕ) (bytes : List ℕ) → length bytes ≤ i → IsSame empty (literal (left_after back i bytes))
literal_ended back i bytes l =
    let P : List ℕ → Type 0 = λ ys. IsSame empty (literal ys) in
    subst P (sym (left_none back i bytes l)) same_literal_none

pub concat_begun : (back : Bool) (xs : List Tree) (x : Tree) → 0 < length xs → x ≡ get_or xs (turned_position back 0 (length xs)) x →
    Joins back (concat (x ∷ [])) (concat (left_after back 1 xs)) (concat xs)
concat_begun back xs x l e =
    let P : List Tree → Type 0 = λ ys. Joins back (concat (x ∷ [])) (concat (left_after back 1 xs)) (concat ys) in
    subst P (left_all back xs) (concat_joins back xs 0 x l e)

pub concat_ended : (back : Bool) (i : ℕ) (xs : List Tree) → length xs ≤ i → IsSame empty (concat (left_after back i xs))
concat_ended back i xs l =
    let P : List Tree → Type 0 = λ ys. IsSame empty (concat ys) in
    subst P (sym (left_none back i xs l)) same_concat_none

pub none_is_literal : (bytes : List ℕ) → length bytes ≡ 0 → IsSame empty (literal bytes)
none_is_literal [] l = same_literal_none
none_is_literal (b ∷ bytes) l = absurd (omega arith)

pub none_is_concat : (xs : List Tree) → length xs ≡ 0 → IsSame empty (concat xs)
none_is_concat [] l = same_concat_none
none_is_concat (x ∷ xs) l = absurd (omega arith)
