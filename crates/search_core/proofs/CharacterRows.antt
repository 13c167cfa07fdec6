-- The characters of "aβ", whose bytes are 61, CE and B2.
use Rattle.std.proofs.Common.{◌≡◌, ℕ, List, [], ◌∷◌, Some, None, Ok, Err, refl}
use Rattle.search_core.specs.Characters.{character_at, character_before, spelling_len, read_at, read_before}

abbrev text : List ℕ
text = 0x61 ∷ 0xCE ∷ 0xB2 ∷ []

begins_at_start : character_at text 0 ≡ Some 0x61
begins_at_start = refl

begins_behind_one : character_at text 1 ≡ Some 0x3B2
begins_behind_one = refl

begins_inside : character_at text 2 ≡ None
begins_inside = refl

begins_at_end : character_at text 3 ≡ None
begins_at_end = refl

ends_at_end : character_before text 3 ≡ Some 0x3B2
ends_at_end = refl

ends_inside : character_before text 2 ≡ None
ends_inside = refl

ends_behind_one : character_before text 1 ≡ Some 0x61
ends_behind_one = refl

ends_at_start : character_before text 0 ≡ None
ends_at_start = refl

read_inside : read_at text 2 ≡ Some (Err 0xB2)
read_inside = refl

read_of_two : read_before text 3 ≡ Some (Ok 0x3B2)
read_of_two = refl

read_at_end : read_at text 3 ≡ None
read_at_end = refl

one_byte_long : spelling_len 0x7F ≡ 1
one_byte_long = refl

two_bytes_long : spelling_len 0x80 ≡ 2
two_bytes_long = refl

three_bytes_long : spelling_len 0x800 ≡ 3
three_bytes_long = refl

four_bytes_long : spelling_len 0x10000 ≡ 4
four_bytes_long = refl
