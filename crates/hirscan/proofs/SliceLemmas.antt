-- The rest of a slice, as code takes it.
use Rattle.std.proofs.Common.{◌≡◌, ℕ, ◌-◌, List, length, take, drop, arith, length-drop}
use Rattle.std.proofs.lemmas.List.{take_all}

pub rest_of_slice : (n : ℕ) (xs : List ℕ) → take (length xs - n) (drop n xs) ≡ drop n xs
rest_of_slice n xs = take_all (length xs - n) (drop n xs) (omega (arith, length-drop n xs))
