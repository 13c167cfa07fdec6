-- The first bytes of a reader.
use Rattle.std.proofs.Common.{◌≡◌, ◌⊎◌, inl, inr, ◌<◌, ◌≤◌, ◌+◌, ◌∙◌, ℕ, List, [], ◌++◌, length, take, drop, take-add, ap, sym, subst, arith}
use Rattle.std.specs.Prelude.{Option, Some, None, IfSome}
use Rattle.std.specs.Io.KnownBytes.{Consumes, IsAtEnd}
use Rattle.std.proofs.KnownBytes.{Consumes-trans}
use Rattle.std.proofs.lemmas.Bool.{cases_lt}
use Rattle.std.proofs.lemmas.List.{append-nil, length-take-le, take-append-le, take_all}

pub consumed_more : (a b c : Option (List ℕ)) (old new : List ℕ) (done n : ℕ) → Consumes a b (take done old) → take done new ≡ take done old
    → Consumes b c (take n (drop done new)) → Consumes a c (take (done + n) new)
consumed_more a b c old new done n before same next =
    subst (Consumes a c) (sym (take-add done n new))
    (Consumes-trans a b c (take done new) (take n (drop done new)) (subst (Consumes a b) (sym same) before) next)

-- Either the bytes are as many as they may be, or nothing follows them.
first_by : (xs rest text : List ℕ) (n : ℕ) → text ≡ xs ++ rest → length xs ≤ n → (length xs < n → rest ≡ []) → (length xs < n) ⊎ (n ≤ length xs)
    → xs ≡ take n text
first_by xs rest text n whole few end (inl less) =
    let all : text ≡ xs = whole ∙ (ap (λ r. xs ++ r) (end less) ∙ append-nil xs) in
    sym (ap (take n) all ∙ take_all n xs few)
first_by xs rest text n whole few end (inr full) =
    sym (ap (take n) whole ∙ (take-append-le n xs rest full ∙ take_all n xs few))

pub first_of : (a b : Option (List ℕ)) (xs : List ℕ) (n : ℕ) → Consumes a b xs → length xs ≤ n → (length xs < n → IsAtEnd b)
    → IfSome a (λ text. xs ≡ take n text)
first_of None b xs n read few end = _
first_of (Some text) None xs n read few end = absurd read
first_of (Some text) (Some rest) xs n read few end = first_by xs rest text n read few end (cases_lt (length xs) n)

pub first_filled : (a b : Option (List ℕ)) (buf xs : List ℕ) (n m : ℕ) → xs ≡ take n buf → length buf ≡ m → n ≤ length buf
    → Consumes a b (take n buf) → (n < length buf → IsAtEnd b) → IfSome a (λ text. xs ≡ take m text)
first_filled a b buf xs n m cut long few read end =
    let count : length xs ≡ n = ap length cut ∙ length-take-le n buf few in
    first_of a b xs m (subst (Consumes a b) (sym cut) read) (omega (arith, count, long, few)) (λ less. end (omega (arith, count, long, less)))
