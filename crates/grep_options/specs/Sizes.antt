-- Sizes of files, as options give them: digits, after which K, M or G may follow.
use Rattle.std.specs.Prelude.{ℕ, ◌+◌, ◌*◌, ◌-◌, ◌^◌, ◌==◌, Bool, ◌&&◌, nat_lt, List, [], ◌∷◌, length, take, Option, Some, None, if◌then◌else◌, option_and_then}
use Rattle.std.specs.List.{slice_index}

abbrev pub is_decimal : ℕ → Bool
is_decimal b = nat_lt 47 b && nat_lt b 58

-- a number if it has 64 bits
abbrev pub word : ℕ → Option ℕ
word n = if nat_lt n (2 ^ 64) then Some n else None

-- the number with one more digit
abbrev pub add_decimal : ℕ → ℕ → Option ℕ
add_decimal n b = if is_decimal b then word (n * 10 + (b - 48)) else None

-- the number with these digits after its own
abbrev pub digits_from : ℕ → List ℕ → Option ℕ
digits_from n [] = Some n
digits_from n (b ∷ bs) = option_and_then (λ m. digits_from m bs) (add_decimal n b)

-- the number that one digit or more stand for
abbrev pub number_of : List ℕ → Option ℕ
number_of [] = None
number_of (b ∷ bs) = digits_from 0 (b ∷ bs)

-- what a letter after a number multiplies it by
abbrev pub size_unit : ℕ → Option ℕ
size_unit b =
    if b == 75 then Some 1024
    else if b == 77 then Some 1048576
    else if b == 71 then Some 1073741824
    else None

abbrev pub sized : Option ℕ → List ℕ → Option ℕ
sized None text = number_of text
sized (Some unit) text = option_and_then (λ n. word (n * unit)) (number_of (take (length text - 1) text))

-- the size that a text stands for
abbrev pub size_by : List ℕ → Option ℕ
size_by text = sized (size_unit (slice_index text (length text - 1))) text

abbrev pub size_of : List ℕ → Option ℕ
size_of [] = None
size_of (b ∷ bs) = size_by (b ∷ bs)
