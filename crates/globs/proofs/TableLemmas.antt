-- Tables of what matches each end of a name.
use Rattle.std.proofs.Common.{◌≡◌, ◌∙◌, ◌+◌, ◌<◌, ℕ, zero, suc, Bool, true, false, ◌&&◌, ◌||◌, List, [], ◌∷◌, ◌++◌, length, get_or, drop, refl, sym, ap, arith}
use Rattle.std.proofs.lemmas.List.{get_or_default, length-append}
use Rattle.std.proofs.Math.Seq.{drop-cons, get_or-append_seam}
use Rattle.std.proofs.Math.ListN.{get_or-append}
use Rattle.globs.specs.Matching.{Item, after_slash, at_ends, either_then, folders, is_slash, many, one}

pub at_ends_length : (rest : List ℕ → Bool) (s : List ℕ) → length (at_ends rest s) ≡ suc (length s)
at_ends_length rest [] = refl
at_ends_length rest (c ∷ cs) = let e = at_ends_length rest cs in let l = length-append (at_ends rest cs) (rest (c ∷ cs) ∷ []) in omega arith

-- the value for the end from an offset on
pub at_ends_get : (rest : List ℕ → Bool) (s : List ℕ) (i j : ℕ) → i + j ≡ length s → get_or (at_ends rest s) j false ≡ rest (drop i s)
at_ends_get rest [] zero zero e = refl
at_ends_get rest [] zero (suc j) e = absurd (omega arith)
at_ends_get rest [] (suc i) j e = absurd (omega arith)
at_ends_get rest (c ∷ cs) zero j e =
    let at : j ≡ length (at_ends rest cs) = omega (arith, at_ends_length rest cs) in
    rw at (get_or-append_seam (at_ends rest cs) (rest (c ∷ cs)) [] false)
at_ends_get rest (c ∷ cs) (suc i) j e =
    let below : j < length (at_ends rest cs) = omega (arith, at_ends_length rest cs) in
    get_or-append (at_ends rest cs) (rest (c ∷ cs) ∷ []) false j below ∙ at_ends_get rest cs i j (omega arith)

-- the end from the start
pub at_ends_first : (rest : List ℕ → Bool) (s : List ℕ) → get_or (at_ends rest s) (length s) false ≡ rest s
at_ends_first rest s = at_ends_get rest s zero (length s) (omega arith)

-- In each of these, i is the offset from which the table is made, p the one before it, and j is how many characters follow that one.

pub drop_all : {A : Type 0} → (xs : List A) → drop (length xs) xs ≡ []
drop_all [] = refl
drop_all (x ∷ xs) = drop_all xs

pub front_item : {A : Type 0} → (xs : List A) (p i : ℕ) (x : A) → p < length xs → i ≡ suc p → x ≡ get_or xs p x → drop p xs ≡ x ∷ drop i xs
front_item xs p i x lt e is = drop-cons xs p x lt ∙ (ap (λ y. y ∷ drop (suc p) xs) (sym is) ∙ ap (λ n. x ∷ drop n xs) (sym e))

pub end_value : (next : List ℕ → Bool) (s : List ℕ) (value : Bool) → value ≡ next [] → value ≡ next (drop (length s) s)
end_value next s value v = v ∙ ap next (sym (drop_all s))

pub first_table : (next : List ℕ → Bool) (s : List ℕ) (table : List Bool) (value : Bool) → table ≡ value ∷ [] → value ≡ next []
    → table ≡ at_ends next (drop (length s) s)
first_table next s table value t v = t ∙ (ap (λ x. x ∷ []) v ∙ ap (at_ends next) (sym (drop_all s)))

-- the value for the empty end
pub first_value : (rest : List ℕ → Bool) (s : List ℕ) (after : List Bool) → after ≡ at_ends rest s → get_or after 0 false ≡ rest []
first_value rest s after a = ap (λ x. get_or x 0 false) a ∙ (at_ends_get rest s (length s) 0 (omega arith) ∙ ap rest (drop_all s))

pub or_false : (a : Bool) → a ≡ (a || false)
or_false true = refl
or_false false = refl

pub last_table : (next : List ℕ → Bool) (s : List ℕ) (table : List Bool) (i : ℕ) → i ≡ 0 → table ≡ at_ends next (drop i s) → table ≡ at_ends next s
last_table next s table i e t = t ∙ ap (λ n. at_ends next (drop n s)) e

front_of : (s : List ℕ) (p i : ℕ) → p < length s → i ≡ suc p → drop p s ≡ get_or s p 0 ∷ drop i s
front_of s p i lt e = drop-cons s p 0 lt ∙ ap (λ n. get_or s p 0 ∷ drop n s) (sym e)

next_value : (rest : List ℕ → Bool) (s : List ℕ) (after : List Bool) (i j : ℕ) → i + j ≡ length s → after ≡ at_ends rest s
    → get_or after j false ≡ rest (drop i s)
next_value rest s after i j at a = ap (λ x. get_or x j false) a ∙ at_ends_get rest s i j at

here_value : (rest : List ℕ → Bool) (s : List ℕ) (after : List Bool) (p i j : ℕ) → p < length s → i ≡ suc p → p + j ≡ length s → after ≡ at_ends rest s
    → get_or after j false ≡ rest (get_or s p 0 ∷ drop i s)
here_value rest s after p i j lt e at a = next_value rest s after p j at a ∙ ap rest (front_of s p i lt e)

-- one more value
pushed : (next : List ℕ → Bool) (s : List ℕ) (table : List Bool) (p i : ℕ) (value : Bool) → p < length s → i ≡ suc p
    → table ≡ at_ends next (drop i s) → value ≡ next (get_or s p 0 ∷ drop i s) → table ++ value ∷ [] ≡ at_ends next (drop p s)
pushed next s table p i value lt e t v =
    ap (λ m. m ++ value ∷ []) t ∙ (ap (λ x. at_ends next (drop i s) ++ x ∷ []) v ∙ sym (ap (at_ends next) (front_of s p i lt e)))

both : {a b x y : Bool} → a ≡ b → x ≡ y → (a && x) ≡ (b && y)
both {b = b} {x = x} p q = ap (λ m. m && x) p ∙ ap (λ m. b && m) q

pub either : {a b x y : Bool} → a ≡ b → x ≡ y → (a || x) ≡ (b || y)
either {b = b} {x = x} p q = ap (λ m. m || x) p ∙ ap (λ m. b || m) q

pub one_step : (is : ℕ → Bool) (rest : List ℕ → Bool) (s : List ℕ) (after table : List Bool) (p i j : ℕ) → p < length s → i ≡ suc p → i + j ≡ length s
    → after ≡ at_ends rest s → table ≡ at_ends (one is rest) (drop i s)
    → table ++ (is (get_or s p 0) && get_or after j false) ∷ [] ≡ at_ends (one is rest) (drop p s)
one_step is rest s after table p i j lt e at a t =
    pushed (one is rest) s table p i _ lt e t (both refl (next_value rest s after i j at a))

pub many_value : (is : ℕ → Bool) (rest : List ℕ → Bool) (s : List ℕ) (after : List Bool) (before : Bool) (p i j : ℕ) → p < length s → i ≡ suc p → p + j ≡ length s
    → after ≡ at_ends rest s → before ≡ many is rest (drop i s)
    → (get_or after j false || (is (get_or s p 0) && before)) ≡ many is rest (get_or s p 0 ∷ drop i s)
many_value is rest s after before p i j lt e at a b = either (here_value rest s after p i j lt e at a) (both refl b)

pub many_next : (is : ℕ → Bool) (rest : List ℕ → Bool) (s : List ℕ) (after : List Bool) (before : Bool) (p i j : ℕ) → p < length s → i ≡ suc p → p + j ≡ length s
    → after ≡ at_ends rest s → before ≡ many is rest (drop i s)
    → (get_or after j false || (is (get_or s p 0) && before)) ≡ many is rest (drop p s)
many_next is rest s after before p i j lt e at a b =
    many_value is rest s after before p i j lt e at a b ∙ sym (ap (many is rest) (front_of s p i lt e))

pub many_step : (is : ℕ → Bool) (rest : List ℕ → Bool) (s : List ℕ) (after table : List Bool) (before : Bool) (p i j : ℕ) → p < length s → i ≡ suc p → p + j ≡ length s
    → after ≡ at_ends rest s → before ≡ many is rest (drop i s) → table ≡ at_ends (many is rest) (drop i s)
    → table ++ (get_or after j false || (is (get_or s p 0) && before)) ∷ [] ≡ at_ends (many is rest) (drop p s)
many_step is rest s after table before p i j lt e at a b t =
    pushed (many is rest) s table p i _ lt e t (many_value is rest s after before p i j lt e at a b)

pub slash_next : (rest : List ℕ → Bool) (s : List ℕ) (after : List Bool) (before : Bool) (p i j : ℕ) → p < length s → i ≡ suc p → i + j ≡ length s
    → after ≡ at_ends rest s → before ≡ after_slash rest (drop i s)
    → ((is_slash (get_or s p 0) && get_or after j false) || before) ≡ after_slash rest (drop p s)
slash_next rest s after before p i j lt e at a b =
    either (both refl (next_value rest s after i j at a)) b ∙ sym (ap (after_slash rest) (front_of s p i lt e))

pub folders_step : (rest : List ℕ → Bool) (s : List ℕ) (after table : List Bool) (before : Bool) (p i k : ℕ) → p < length s → i ≡ suc p → p + k ≡ length s
    → after ≡ at_ends rest s → before ≡ after_slash rest (drop p s) → table ≡ at_ends (folders rest) (drop i s)
    → table ++ (get_or after k false || before) ∷ [] ≡ at_ends (folders rest) (drop p s)
folders_step rest s after table before p i k lt e at a b t =
    pushed (folders rest) s table p i _ lt e t
    (either (here_value rest s after p i k lt e at a) (b ∙ ap (after_slash rest) (front_of s p i lt e)))

pub joined_step : (f g : List ℕ → Bool) (s : List ℕ) (one_table other table : List Bool) (p i j : ℕ) → p < length s → i ≡ suc p → p + j ≡ length s
    → one_table ≡ at_ends f s → other ≡ at_ends g s → table ≡ at_ends (λ n. f n || g n) (drop i s)
    → table ++ (get_or one_table j false || get_or other j false) ∷ [] ≡ at_ends (λ n. f n || g n) (drop p s)
joined_step f g s one_table other table p i j lt e at a b t =
    pushed (λ n. f n || g n) s table p i (get_or one_table j false || get_or other j false) lt e t
    (either (here_value f s one_table p i j lt e at a) (here_value g s other p i j lt e at b))

pub flat_step : (rest : List ℕ → Bool) (s : List ℕ) (table : List Bool) (p i : ℕ) → p < length s → i ≡ suc p
    → ((c : ℕ) (cs : List ℕ) → rest (c ∷ cs) ≡ false) → table ≡ at_ends rest (drop i s) → table ++ false ∷ [] ≡ at_ends rest (drop p s)
flat_step rest s table p i lt e none t = pushed rest s table p i false lt e t (sym (none (get_or s p 0) (drop i s)))

pub at_ends_same : (f g : List ℕ → Bool) (s : List ℕ) → ((n : List ℕ) → f n ≡ g n) → at_ends f s ≡ at_ends g s
at_ends_same f g [] same = ap (λ x. x ∷ []) (same [])
at_ends_same f g (c ∷ cs) same = ap (λ m. m ++ f (c ∷ cs) ∷ []) (at_ends_same f g cs same) ∙ ap (λ x. at_ends g cs ++ x ∷ []) (same (c ∷ cs))

pub none_matches : (section : List (List Item)) (rest : List ℕ → Bool) (n : List ℕ) → section ≡ [] → either_then section rest n ≡ false
none_matches section rest n e = ap (λ x. either_then x rest n) e

pub either_false : (b : Bool) → (b || false) ≡ b
either_false true = refl
either_false false = refl

pub single : {A : Type 0} → (xs : List A) (x : A) → length xs ≡ 1 → x ≡ get_or xs 0 x → xs ≡ x ∷ []
single [] x e is = absurd (omega arith)
single (y ∷ []) x e is = ap (λ z. z ∷ []) (sym is)
single (y ∷ z ∷ zs) x e is = absurd (omega arith)

-- the value for the whole name, as it is read from the table
pub whole_value : (rest : List ℕ → Bool) (s : List ℕ) (table : List Bool) (x : Bool) → table ≡ at_ends rest s → x ≡ get_or table (length s) x → x ≡ rest s
whole_value rest s table x e is =
    let lt : length s < length (at_ends rest s) = omega (arith, at_ends_length rest s) in
    is ∙ (ap (λ t. get_or t (length s) x) e ∙ (get_or_default (at_ends rest s) (length s) x false lt ∙ at_ends_first rest s))
