-- How many members a set of patterns has, and the list of them read from both ends.
use Rattle.std.proofs.Common.{◌≡◌, ℕ, zero, suc, ◌+◌, ◌<◌, ◌≤◌, ◌==◌, ◌↔◌, IsTrue, Bool, true, false, cond, List, [], ◌∷◌, ◌++◌, length}
use Rattle.std.proofs.Common.{get_or, refl, sym, ap, ◌∙◌, arith, append-nil}
use Rattle.std.proofs.lemmas.List.Sums.{sum_by-cons, count_by-le-length}
use Rattle.std.proofs.lemmas.Bool.{eqb-true, eq-eqb}
use Rattle.search_types.specs.PatternSets.{member_count, members_from, onto_members}

count_cons : (b : Bool) (bs : List Bool) → member_count (b ∷ bs) ≡ cond b 1 0 + member_count bs
count_cons b bs = sum_by-cons (λ c. cond c 1 0) b bs

count_le : (bs : List Bool) → member_count bs ≤ length bs
count_le bs = count_by-le-length (λ c. c) bs

-- a set of no members has none at any index, and vice versa
pub none_of_count : (bs : List Bool) → member_count bs ≡ 0 → (p : ℕ) → p < length bs → get_or bs p false ≡ false
none_of_count [] e p h = absurd (omega arith)
none_of_count (true ∷ bs) e p h = absurd (omega (arith, count_cons true bs))
none_of_count (false ∷ bs) e zero h = refl
none_of_count (false ∷ bs) e (suc p) h = none_of_count bs (omega (arith, count_cons false bs)) p (omega arith)

pub count_of_none : (bs : List Bool) → ((p : ℕ) → p < length bs → get_or bs p false ≡ false) → member_count bs ≡ 0
count_of_none [] h = refl
count_of_none (true ∷ bs) h = let e = h 0 (omega arith) in cc
count_of_none (false ∷ bs) h = omega (arith, count_cons false bs, count_of_none bs (λ p q. h (suc p) (omega arith)))

-- a set of as many members as there are indices has one at each, and vice versa
pub all_of_count : (bs : List Bool) → member_count bs ≡ length bs → (p : ℕ) → p < length bs → get_or bs p false ≡ true
all_of_count [] e p h = absurd (omega arith)
all_of_count (false ∷ bs) e p h = absurd (omega (arith, count_cons false bs, count_le bs))
all_of_count (true ∷ bs) e zero h = refl
all_of_count (true ∷ bs) e (suc p) h = all_of_count bs (omega (arith, count_cons true bs)) p (omega arith)

pub count_of_all : (bs : List Bool) → ((p : ℕ) → p < length bs → get_or bs p false ≡ true) → member_count bs ≡ length bs
count_of_all [] h = refl
count_of_all (false ∷ bs) h = let e = h 0 (omega arith) in cc
count_of_all (true ∷ bs) h = omega (arith, count_cons true bs, count_of_all bs (λ p q. h (suc p) (omega arith)))

-- the members of a list and one test more
pub members_push : (p : ℕ) (bs : List Bool) (b : Bool) → members_from p (bs ++ b ∷ []) ≡ members_from p bs
    ++ onto_members b (p + length bs) []
members_push p [] b = ap (λ n. onto_members b n []) (omega arith)
members_push p (true ∷ bs) b =
    ap (λ ps. p ∷ ps) (members_push (p + 1) bs b ∙ ap (λ n. members_from (p + 1) bs ++ onto_members b n []) (omega arith))
members_push p (false ∷ bs) b =
    members_push (p + 1) bs b ∙ ap (λ n. members_from (p + 1) bs ++ onto_members b n []) (omega arith)

-- what is left once the last index was skipped, and once its pattern was given
pub back_skips : (p : ℕ) (bs rest : List Bool) (b : Bool) → bs ≡ rest ++ b ∷ [] → b ≡ false → members_from p bs ≡ members_from p rest
back_skips p bs rest b e f =
    ap (members_from p) e ∙ members_push p rest b ∙ ap (λ c. members_from p rest ++ onto_members c (p + length rest) []) f ∙ append-nil _

pub back_gives : (p : ℕ) (bs rest : List Bool) (b : Bool) → bs ≡ rest ++ b ∷ [] → b ≡ true →
    members_from p bs ≡ members_from p rest ++ (p + length rest) ∷ []
back_gives p bs rest b e t =
    ap (members_from p) e ∙ members_push p rest b ∙ ap (λ c. members_from p rest ++ onto_members c (p + length rest) []) t

-- what `is_empty` and `is_full` return, by the count of the members
pub empty_when_zero : (bs : List Bool) (n : ℕ) → n ≡ member_count bs → IsTrue (n == 0) ↔
    ((p : ℕ) → p < length bs → get_or bs p false ≡ false)
empty_when_zero bs n e = (λ t. none_of_count bs (sym e ∙ eqb-true n 0 t), λ h. eq-eqb n 0 (e ∙ count_of_none bs h))

pub full_when_all : (bs : List Bool) (n m : ℕ) → n ≡ member_count bs → m ≡ length bs → IsTrue (n == m) ↔
    ((p : ℕ) → p < length bs → get_or bs p false ≡ true)
full_when_all bs n m e f = (λ t. all_of_count bs (sym e ∙ eqb-true n m t ∙ f), λ h. eq-eqb n m (e ∙ count_of_all bs h ∙ sym f))
