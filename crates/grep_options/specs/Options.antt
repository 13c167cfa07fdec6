-- What the matches of a command line hold for an option, by its name.
use Rattle.std.specs.Prelude.{ℕ, ◌^◌, ℤ, pos, negsuc, Bool, false, ◌&&◌, nat_lt, List, [], length, codes}
use Rattle.std.specs.Prelude.{Option, Some, None, option_map, option_and_then, unwrap_or, if◌then◌else◌}
use Rattle.std.specs.List.{list_all}
use Rattle.std.specs.Str.{bytes_eq}
use Rattle.std.specs.Str.Parse.{digits_value, signed_digits_value, without_leading_plus, without_leading_sign}
use Rattle.std.specs.Char.{digit_value}
use Rattle.clap.specs.Words.{matched_of, one_text, raw_values}
use Rattle.clap.specs.declared.parser.matches.Found.{Found}

-- ---- values

-- There is a value, and it is this text.
abbrev pub is_text : List ℕ → Option (List ℕ) → Bool
is_text text None = false
is_text text (Some value) = bytes_eq value text

-- one decimal digit or more, and nothing else
abbrev pub is_numeral : List ℕ → Bool
is_numeral text = nat_lt 0 (length text) && list_all (λ c. nat_lt (digit_value c) 10) text

-- a number below 2^64, as decimal digits that may follow a plus sign
abbrev pub number_in : List ℕ → Option ℕ
number_in text =
    if is_numeral (without_leading_plus text) && nat_lt (digits_value 10 (without_leading_plus text)) (2 ^ 64)
    then Some (digits_value 10 (without_leading_plus text)) else None

-- a number from -2^63 to below 2^63, as decimal digits that may follow a sign
abbrev pub is_signed_word : ℤ → Bool
is_signed_word (pos n) = nat_lt n (2 ^ 63)
is_signed_word (negsuc n) = nat_lt n (2 ^ 63)

abbrev pub integer_in : List ℕ → Option ℤ
integer_in text =
    if is_numeral (without_leading_sign text) && is_signed_word (signed_digits_value 10 text)
    then Some (signed_digits_value 10 text) else None

-- a negative number is no limit
abbrev pub natural : ℤ → Option ℕ
natural (pos n) = Some n
natural (negsuc n) = None

-- ---- options by their names

-- Whether the option, which takes no value, was given: its first value is `true`.
abbrev pub is_set : Found → List ℕ → Bool
is_set f name = is_text (codes "true") (one_text f name)

-- the number that was given for the option
abbrev pub number_given : Found → List ℕ → Option ℕ
number_given f name = option_and_then number_in (one_text f name)

abbrev pub integer_given : Found → List ℕ → Option ℤ
integer_given f name = option_and_then integer_in (one_text f name)

abbrev pub limit_given : Found → List ℕ → Option ℕ
limit_given f name = option_and_then natural (integer_given f name)

-- All values that were given for the option, or all operands under the name of the operands.
abbrev pub values_given : Found → List ℕ → List (List ℕ)
values_given f name = unwrap_or (option_map raw_values (matched_of f name)) []
