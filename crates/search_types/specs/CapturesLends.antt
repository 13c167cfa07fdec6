-- What captures are after a `&mut` to their slots, which was returned, ends.
use Rattle.std.specs.Prelude.{ℕ, ◌++◌, List, length, take, drop, Option}
use Rattle.std.specs.Borrow.{Lends, MutBor, Fml, Array}
use Rattle.std.specs.contracts.option.Option.{the_row as OptionOf}
use Rattle.search_core.specs.contracts.non_max.NonMaxUsize.{the_row as NonMax}
use Rattle.search_types.specs.contracts.captures.Captures.{the_row}
use Rattle.search_types.specs.CapturesValue.{CapturesValue}

-- the same groups and pattern, with these slots; the number of slots stays as it was, and if these are fewer,
-- the others stay
abbrev pub with_slots : CapturesValue → List (Option ℕ) → CapturesValue
with_slots c slots =
    record { groups = c.groups; pattern = c.pattern; slots = take (length c.slots) (slots ++ drop (length slots) c.slots) }

-- once the borrow r ends, the slots are those that r shows last
abbrev pub borrows_slots : MutBor CapturesValue → MutBor (List (Option ℕ)) → Fml
borrows_slots c r = Lends the_row (Array (OptionOf NonMax) 0) c r (with_slots c.now)
