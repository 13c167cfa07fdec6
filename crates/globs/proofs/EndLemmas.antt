-- What ends in a character that the last item doesn't take isn't matched.
use Rattle.std.proofs.Common.{◌≡◌, ◌∙◌, ◌+◌, ◌<◌, ℕ, zero, suc, Bool, true, false, ◌&&◌, ◌||◌, List, [], ◌∷◌, ◌++◌, length, take, drop, map, get_or, refl, sym, ap, arith}
use Rattle.std.proofs.lemmas.List.{take-append-drop}
use Rattle.globs.specs.Matching.{Fails, Item, One, Set, Star, Anything, Folders, after_slash, either_then, folders, is_end, is_slash, item_then, items_then, many, may_take, one, takes}
use Rattle.globs.proofs.TableLemmas.{drop_all, front_item}

and_false : (a b : Bool) → b ≡ false → (a && b) ≡ false
and_false true b e = e
and_false false b e = refl

both_false : (a b : Bool) → a ≡ false → b ≡ false → (a || b) ≡ false
both_false a b e f = ap (λ x. x || b) e ∙ f

-- ---- each kind of item before what fails

one_on : (c : ℕ) (is : ℕ → Bool) (rest : List ℕ → Bool) → Fails c rest → (before : List ℕ) → one is rest (before ++ c ∷ []) ≡ false
one_on c is rest f [] = and_false (is c) (rest []) f.0
one_on c is rest f (d ∷ ds) = and_false (is d) (rest (ds ++ c ∷ [])) (f.1 ds)

one_fails : (c : ℕ) (is : ℕ → Bool) (rest : List ℕ → Bool) → Fails c rest → Fails c (one is rest)
one_fails c is rest f = (refl, one_on c is rest f)

many_on : (c : ℕ) (is : ℕ → Bool) (rest : List ℕ → Bool) → Fails c rest → (before : List ℕ) → many is rest (before ++ c ∷ []) ≡ false
many_on c is rest f [] = both_false (rest (c ∷ [])) (is c && rest []) (f.1 []) (and_false (is c) (rest []) f.0)
many_on c is rest f (d ∷ ds) =
    both_false (rest (d ∷ ds ++ c ∷ [])) (is d && many is rest (ds ++ c ∷ [])) (f.1 (d ∷ ds)) (and_false (is d) (many is rest (ds ++ c ∷ [])) (many_on c is rest f ds))

many_fails : (c : ℕ) (is : ℕ → Bool) (rest : List ℕ → Bool) → Fails c rest → Fails c (many is rest)
many_fails c is rest f = (f.0, many_on c is rest f)

after_on : (c : ℕ) (rest : List ℕ → Bool) → Fails c rest → (before : List ℕ) → after_slash rest (before ++ c ∷ []) ≡ false
after_on c rest f [] = both_false (is_slash c && rest []) false (and_false (is_slash c) (rest []) f.0) refl
after_on c rest f (d ∷ ds) =
    both_false (is_slash d && rest (ds ++ c ∷ [])) (after_slash rest (ds ++ c ∷ [])) (and_false (is_slash d) (rest (ds ++ c ∷ [])) (f.1 ds)) (after_on c rest f ds)

pub folders_fail : (c : ℕ) (rest : List ℕ → Bool) → Fails c rest → Fails c (folders rest)
folders_fail c rest f =
    (both_false (rest []) false f.0 refl, λ before. both_false (rest (before ++ c ∷ [])) (after_slash rest (before ++ c ∷ [])) (f.1 before) (after_on c rest f before))

item_fails : (c : ℕ) (item : Item) (rest : List ℕ → Bool) → Fails c rest → Fails c (item_then item rest)
item_fails c (One x) rest f = one_fails c (takes (One x)) rest f
item_fails c (Set class) rest f = one_fails c (takes (Set class)) rest f
item_fails c Star rest f = many_fails c (takes Star) rest f
item_fails c Anything rest f = many_fails c (takes Anything) rest f
item_fails c Folders rest f = folders_fail c rest f

-- ---- the last item

-- what it takes is one character, and not this one
end_on : (c : ℕ) (is : ℕ → Bool) → is c ≡ false → (before : List ℕ) → one is is_end (before ++ c ∷ []) ≡ false
end_on c is e [] = ap (λ x. x && true) e
end_on c is e (d ∷ []) = and_false (is d) false refl
end_on c is e (d ∷ x ∷ xs) = and_false (is d) false refl

last_fails : (c : ℕ) (item : Item) → may_take item c ≡ false → Fails c (item_then item is_end)
last_fails c (One x) e = (refl, end_on c (takes (One x)) e)
last_fails c (Set class) e = (refl, end_on c (takes (Set class)) e)
last_fails c Star e = absurd (cc)
last_fails c Anything e = absurd (cc)
last_fails c Folders e = absurd (cc)

items_fail : (c : ℕ) (items : List Item) (last : Item) → may_take last c ≡ false → Fails c (items_then (items ++ last ∷ []) is_end)
items_fail c [] last e = last_fails c last e
items_fail c (item ∷ items) last e = item_fails c item (items_then (items ++ last ∷ []) is_end) (items_fail c items last e)

-- ---- as the code has lists

-- a list is all but its last item, and that
split_last : {A : Type 0} → (xs : List A) (n : ℕ) (x : A) → n + 1 ≡ length xs → x ≡ get_or xs n x → xs ≡ take n xs ++ x ∷ []
split_last xs n x e is =
    sym (take-append-drop n xs) ∙ ap (λ t. take n xs ++ t) (front_item xs n (length xs) x (omega arith) (omega arith) is ∙ ap (λ t. x ∷ t) (drop_all xs))

pub fails_here : (c : ℕ) (rest : List ℕ → Bool) (name : List ℕ) (n : ℕ) → n + 1 ≡ length name → c ≡ get_or name n c → Fails c rest → rest name ≡ false
fails_here c rest name n e is f = ap rest (split_last name n c e is) ∙ f.1 (take n name)

map_last : {A : Type 0} → (f : A → Item) (xs : List A) (x : A) → map f (xs ++ x ∷ []) ≡ map f xs ++ f x ∷ []
map_last f [] x = refl
map_last f (y ∷ ys) x = ap (λ t. f y ∷ t) (map_last f ys x)

pub items_of_fail : {A : Type 0} → (f : A → Item) (c : ℕ) (xs : List A) (n : ℕ) (x : A) → n + 1 ≡ length xs → x ≡ get_or xs n x → may_take (f x) c ≡ false
    → Fails c (items_then (map f xs) is_end)
items_of_fail f c xs n x e is refused =
    let whole = ap (map f) (split_last xs n x e is) ∙ map_last f (take n xs) x in
    let fails = items_fail c (map f (take n xs)) (f x) refused in
    (ap (λ items. items_then items is_end []) whole ∙ fails.0, λ before. ap (λ items. items_then items is_end (before ++ c ∷ [])) whole ∙ fails.1 before)

-- one alternative
pub section_fails : (c : ℕ) (section : List (List Item)) (items : List Item) → section ≡ items ∷ [] → Fails c (items_then items is_end)
    → Fails c (either_then section is_end)
section_fails c section items e f = (
  ap (λ x. either_then x is_end []) e ∙ both_false (items_then items is_end []) false f.0 refl,
  λ before. ap (λ x. either_then x is_end (before ++ c ∷ [])) e ∙ both_false (items_then items is_end (before ++ c ∷ [])) false (f.1 before) refl,
)

-- by an equation of what matches
pub fails_as : {A : Type 0} → (c : ℕ) (f : A → List ℕ → Bool) (x y : A) → x ≡ y → Fails c (f x) → Fails c (f y)
fails_as c f x y e h = (ap (λ z. f z []) (sym e) ∙ h.0, λ before. ap (λ z. f z (before ++ c ∷ [])) (sym e) ∙ h.1 before)
