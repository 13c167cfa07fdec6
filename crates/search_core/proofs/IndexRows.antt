-- The definitions at the numbers around the greatest index.
use Rattle.std.proofs.Common.{◌≡◌, ◌-◌, ◌^◌, Ok, Err, refl, lit<, lit≤}
use Rattle.search_core.specs.Index.{greatest_index, IsIndexOrError}

greatest : greatest_index ≡ 2 ^ 31 - 2
greatest = refl

-- zero and the greatest number are made an index, and one more is an error
least_is_made : IsIndexOrError 0 (Ok 0)
least_is_made = (lit≤ tt, refl)

greatest_is_made : IsIndexOrError 2147483646 (Ok 2147483646)
greatest_is_made = (lit≤ tt, refl)

one_more_is_refused : IsIndexOrError 2147483647 (Err 2147483647)
one_more_is_refused = (lit< tt, refl)
