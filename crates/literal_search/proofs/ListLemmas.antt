-- Lists of literals: what is in them, and how loops from the last literal to the first make other lists.
use Rattle.std.proofs.Common.{◌≡◌, ◌⊎◌, inl, inr, ℕ, zero, suc, ◌+◌, ◌<◌, true, List, ◌∷◌, ◌++◌, length, get_or, drop, []}
use Rattle.std.proofs.Common.{refl, sym, subst, arith}
use Rattle.std.proofs.lemmas.List.{append-nil, drop_more}
use Rattle.std.specs.List.{starts_with}
use Rattle.std.specs.Bool.{nat_eq}
use Rattle.std.proofs.lemmas.Bool.Decides.{Decides-eqb}
use Rattle.std.proofs.lemmas.Slice.Eq.{starts_is}
use Rattle.literal_search.specs.Literals.{Listed, KeepsAll, ListsPrefix, ListsPrefixes, Crosses}

-- ---- members
pub listed_left : (xs ys : List (List ℕ)) (l : List ℕ) → Listed xs l → Listed (xs ++ ys) l
listed_left [] ys l m = elim m [ ]
listed_left (x ∷ xs) ys l (inl e) = inl e
listed_left (x ∷ xs) ys l (inr m) = inr (listed_left xs ys l m)

pub listed_last : (xs : List (List ℕ)) (l : List ℕ) → Listed (xs ++ l ∷ []) l
listed_last [] l = inl refl
listed_last (x ∷ xs) l = inr (listed_last xs l)

pub listed_at : (xs : List (List ℕ)) (n : ℕ) → n < length xs → Listed xs (get_or xs n [])
listed_at [] n l = absurd (omega (arith, l))
listed_at (x ∷ xs) zero l = inl refl
listed_at (x ∷ xs) (suc n) l = inr (listed_at xs n (omega (arith, l)))

-- a literal of the list has a number
pub listed_number : (xs : List (List ℕ)) (l : List ℕ) → Listed xs l → (n : ℕ) × (n < length xs) × (get_or xs n [] ≡ l)
listed_number [] l m = elim m [ ]
listed_number (x ∷ xs) l (inl e) = (0, omega arith, e)
listed_number (x ∷ xs) l (inr m) = let r = listed_number xs l m in (suc r.0, omega (arith, r.1), r.2)

-- a literal after an offset of a list is the one there, or one after it
pub listed_from : (xs : List (List ℕ)) (m n : ℕ) (l : List ℕ) → m + 1 ≡ n → m < length xs → Listed (drop m xs) l →
    (get_or xs m [] ≡ l) ⊎ Listed (drop n xs) l
listed_from xs m n l e w there =
    subst (λ k. (get_or xs m [] ≡ l) ⊎ Listed (drop k xs) l) e (subst (λ ys. Listed ys l) (drop_more xs m [] w) there)

-- ---- lists that keep another one's literals

pub keeps_pushed : (old new : List (List ℕ)) (bytes : List ℕ) → new ≡ old ++ bytes ∷ [] → KeepsAll old new
keeps_pushed old new bytes e = record { keeps = λ l m. subst (λ zs. Listed zs l) (sym e) (listed_left old (bytes ∷ []) l m) }

pub pushed_listed : (old new : List (List ℕ)) (bytes : List ℕ) → new ≡ old ++ bytes ∷ [] → Listed new bytes
pushed_listed old new bytes e = subst (λ zs. Listed zs bytes) (sym e) (listed_last old bytes)

pub keeps_then : (xs ys zs : List (List ℕ)) → KeepsAll xs ys → KeepsAll ys zs → KeepsAll xs zs
keeps_then xs ys zs a b = record { keeps = λ l m. b.keeps l (a.keeps l m) }

-- ---- prefixes
pub prefix_rest : (bytes prefix : List ℕ) → starts_with nat_eq bytes prefix ≡ true → bytes ≡ prefix ++ drop (length prefix) bytes
prefix_rest bytes prefix e = (starts_is Decides-eqb bytes prefix true (sym e)).0 refl

pub rest_prefix : (bytes prefix rest : List ℕ) → bytes ≡ prefix ++ rest → starts_with nat_eq bytes prefix ≡ true
rest_prefix bytes prefix rest e = (starts_is Decides-eqb bytes prefix (starts_with nat_eq bytes prefix) refl).1 rest e

pub prefix_of_itself : (ls : List (List ℕ)) (bytes : List ℕ) → Listed ls bytes → ListsPrefix ls bytes
prefix_of_itself ls bytes m = record { prefix = bytes; listed = m; begins = rest_prefix bytes bytes [] (sym (append-nil bytes)) }

pub prefixes_of_keeps : (old new : List (List ℕ)) → KeepsAll old new → ListsPrefixes old new
prefixes_of_keeps old new k = record { prefixes = λ l m. prefix_of_itself new l (k.keeps l m) }

pub prefixes_of_itself : (ls : List (List ℕ)) → ListsPrefixes ls ls
prefixes_of_itself ls = record { prefixes = λ l m. prefix_of_itself ls l m }

-- ---- loops

pub keeps_more : (xs old new : List (List ℕ)) (m n : ℕ) → m + 1 ≡ n → m < length xs → KeepsAll (drop n xs) old → KeepsAll old new →
    Listed new (get_or xs m []) → KeepsAll (drop m xs) new
keeps_more xs old new m n e w before k one = record {
  keeps = λ l there. elim (listed_from xs m n l e w there) [
    | inl here ↦ subst (λ b. Listed new b) here one
    | inr later ↦ k.keeps l (before.keeps l later)
  ];
}

pub front_more : (front : List ℕ) (second old new : List (List ℕ)) (m n : ℕ) → m + 1 ≡ n → m < length second →
    Crosses (front ∷ []) (drop n second) old → KeepsAll old new → Listed new (front ++ get_or second m []) →
    Crosses (front ∷ []) (drop m second) new
front_more front second old new m n e w before k one = record {
  crosses = λ a b one_of there. elim (listed_from second m n b e w there) [
    | inl here ↦ elim one_of [
      | inl is ↦ subst (λ (t : List ℕ). Listed new (t ++ b)) is (subst (λ (t : List ℕ). Listed new (front ++ t)) here one)
      | inr none ↦ elim none [ ]
    ]
    | inr later ↦ k.keeps _ (before.crosses a b one_of later)
  ];
}
