-- Inputs that are read as a whole, up to a limit.
use Rattle.std.specs.Prelude.{option_map}
use Rattle.std.proofs.Common.{◌≡◌, ◌⊎◌, inl, inr, ◌<◌, ◌≤◌, ◌∙◌, ℕ, List, [], ◌++◌, length, take, ap, subst, arith}
use Rattle.std.specs.Prelude.{Option, Some, None, IfSome}
use Rattle.std.proofs.lemmas.Bool.{cases_lt}
use Rattle.std.proofs.lemmas.List.{length-take-le, take_all}

cut_whole : (items bytes : List ℕ) (limit : ℕ) → items ≡ take limit bytes → length items < limit
    → (length bytes < limit) ⊎ (limit ≤ length bytes) → items ≡ bytes
cut_whole items bytes limit cut less (inl few) = cut ∙ take_all limit bytes (omega (arith, few))
cut_whole items bytes limit cut less (inr many) =
    let count : length items ≡ limit = ap length cut ∙ length-take-le limit bytes many in
    absurd (omega (arith, count, less))

-- What was read up to a limit is all if it is less.
pub whole_read : (known : Option (List ℕ)) (limit : ℕ) (start items : List ℕ) → start ≡ []
    → IfSome (option_map (take limit) known) (λ xs. items ≡ start ++ xs) → length items < limit → IfSome known (λ bytes. items ≡ bytes)
whole_read None limit start items none h less = _
whole_read (Some bytes) limit start items none h less =
    cut_whole items bytes limit (h ∙ ap (λ xs. xs ++ take limit bytes) none) less (cases_lt (length bytes) limit)

-- A reader that takes so many bytes of another one.
pub taken : {R : Type 0} (remaining : R → Option (List ℕ)) (inner reader : R) (most limit : ℕ) (P : List ℕ → Type 0) → most ≡ limit → inner ≡ reader
    → IfSome (option_map (take most) (remaining inner)) P → IfSome (option_map (take limit) (remaining reader)) P
taken remaining inner reader most limit P e f h =
    subst (λ r. IfSome (option_map (take limit) (remaining r)) P) f (subst (λ (n : ℕ). IfSome (option_map (take n) (remaining inner)) P) e h)
