-- The position of the first element of a list that passes a test, and lists that are longer by one element.
use Rattle.std.proofs.Common.{◌≡◌, ℕ, zero, suc, ◌+◌, ◌-◌, ◌<◌, ◌≤◌, Bool, true, false, cond, ◌⊎◌, List, [], ◌∷◌, ◌++◌, length, get_or}
use Rattle.std.proofs.Common.{take, drop, replicate, refl, sym, ap, ◌∙◌, inl, inr, ⊎_elim, arith, length-append, Option, Some, None}
use Rattle.std.proofs.lemmas.List.{get_or-drop, get_or-take}
use Rattle.std.proofs.lemmas.Bool.{cases_lt, cases_Bool}
use Rattle.std.proofs.Math.Seq.{get_or-append_seam}
use Rattle.std.specs.List.{position_from}
use lib.ListN.{get_or-append}

-- the position among the other elements, or that of the last one if none of the others passes
abbrev pub or_last : Option ℕ → Bool → ℕ → Option ℕ
or_last None b n = cond b (Some n) None
or_last (Some k) b n = Some k

or_last-cond : (c : Bool) (i : ℕ) (o : Option ℕ) (b : Bool) (n : ℕ) → or_last (cond c (Some i) o) b n ≡ cond c (Some i) (or_last o b n)
or_last-cond true i o b n = refl
or_last-cond false i o b n = refl

pub or_last-false : (o : Option ℕ) (n : ℕ) → o ≡ or_last o false n
or_last-false None n = refl
or_last-false (Some k) n = refl

pub pf-append : {X : Type 0} (p : X → Bool) (i : ℕ) (xs : List X) (y : X) →
    position_from p i (xs ++ y ∷ []) ≡ or_last (position_from p i xs) (p y) (i + length xs)
pf-append p i [] y = let e : i ≡ i + 0 = omega arith in ap (λ n. cond (p y) (Some n) None) e
pf-append p i (x ∷ xs) y =
    let e : i + 1 + length xs ≡ i + length (x ∷ xs) = omega arith in
    ap (cond (p x) (Some i)) (pf-append p (i + 1) xs y ∙ ap (or_last (position_from p (i + 1) xs) (p y)) e)
    ∙ sym (or_last-cond (p x) i (position_from p (i + 1) xs) (p y) (i + length (x ∷ xs)))

none_head : (c : Bool) (i : ℕ) (o : Option ℕ) → cond c (Some i) o ≡ None → (c ≡ false) × (o ≡ None)
none_head true i o e = absurd cc
none_head false i o e = (refl, e)

-- if none passes, none does at any position
pub none_at : {X : Type 0} (p : X → Bool) (d : X) (i : ℕ) (xs : List X) (j : ℕ) → position_from p i xs ≡ None → j < length xs →
    p (get_or xs j d) ≡ false
none_at p d i [] j e l = absurd (omega (arith, l))
none_at p d i (x ∷ xs) zero e l = (none_head (p x) i (position_from p (i + 1) xs) e).0
none_at p d i (x ∷ xs) (suc j) e l = none_at p d (i + 1) xs j (none_head (p x) i (position_from p (i + 1) xs) e).1 (omega (arith, l))

-- the element that is found passes
pub found_from : {X : Type 0} (p : X → Bool) (d : X) (i : ℕ) (xs : List X) (k : ℕ) → position_from p i xs ≡ Some k →
    (i ≤ k) × (k - i < length xs) × (p (get_or xs (k - i) d) ≡ true)
found_from p d i [] k e = cc
found_from p d i (x ∷ xs) k e =
    ⊎_elim
    (λ (t : p x ≡ true).
    let f : Some i ≡ Some k = (rw t at e) in
    let same : i ≡ k = cc in
    let none : k - i ≡ 0 = omega arith in
    (omega arith, omega arith, rw none t))
    (λ (t : p x ≡ false).
    let f : position_from p (i + 1) xs ≡ Some k = (rw t at e) in
    let r = found_from p d (i + 1) xs k f in
    let after : k - i ≡ suc (k - (i + 1)) = omega (arith, r.0) in
    (omega (arith, r.0), omega (arith, r.0, r.1), rw after r.2))
    (cases_Bool (p x))

pub found_at : {X : Type 0} (p : X → Bool) (d : X) (xs : List X) (k : ℕ) → position_from p 0 xs ≡ Some k → (k < length xs) ×
    (p (get_or xs k d) ≡ true)
found_at p d xs k e =
    let r = found_from p d 0 xs k e in
    let same : k - 0 ≡ k = omega arith in
    (omega (arith, r.1), rw same at r.2)

pub one_longer : {X : Type 0} (xs : List X) (x : X) → length (xs ++ x ∷ []) ≡ length xs + 1
one_longer xs x = length-append xs (x ∷ [])

pub below_or_last : (k n : ℕ) → k < n + 1 → (k < n) ⊎ (k ≡ n)
below_or_last k n l = ⊎_elim (λ (b : k < n). inl b) (λ (b : n ≤ k). inr (omega (arith, l, b))) (cases_lt k n)

pub at_old : {X : Type 0} (xs : List X) (x d : X) (k : ℕ) → k < length xs → get_or (xs ++ x ∷ []) k d ≡ get_or xs k d
at_old xs x d k l = get_or-append xs (x ∷ []) d k l

pub at_last : {X : Type 0} (xs : List X) (x d : X) (k : ℕ) → k ≡ length xs → get_or (xs ++ x ∷ []) k d ≡ x
at_last xs x d k e = ap (λ (n : ℕ). get_or (xs ++ x ∷ []) n d) e ∙ get_or-append_seam xs x [] d

-- a list in which all elements are false
pub all_false : (n : ℕ) (xs : List Bool) → length xs ≡ n → ((b : ℕ) → b < n → get_or xs b false ≡ false) → xs ≡ replicate n false
all_false zero [] e f = refl
all_false zero (x ∷ xs) e f = absurd (omega (arith, e))
all_false (suc n) [] e f = absurd (omega (arith, e))
all_false (suc n) (x ∷ xs) e f =
    let head : x ≡ false = f 0 (omega arith) in
    let rest : xs ≡ replicate n false = all_false n xs (omega (arith, e)) (λ b l. f (suc b) (omega (arith, l))) in
    ap (λ (y : Bool). y ∷ xs) head ∙ ap (λ (ys : List Bool). false ∷ ys) rest

-- the content of a column of a table
pub cell_of_column : (cells : List ℕ) (id c : ℕ) → id + c < length cells →
    get_or (take (length cells - c) (drop c cells)) id 0 ≡ get_or cells (id + c) 0
cell_of_column cells id c h =
    let e : c + id ≡ id + c = omega arith in
    get_or-take (length cells - c) (drop c cells) id 0 (omega (arith, h)) ∙ (get_or-drop c cells id 0 ∙ ap (λ (k : ℕ). get_or cells k 0) e)
