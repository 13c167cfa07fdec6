-- How the bytes of a powerset state are laid out, and what bytes stand for. First comes a byte of flags. Then come the looks that are known
-- to hold and the looks of its states, in four bytes each. The patterns that match follow, and then the states of the NFA, each as its
-- difference from the one before.
use Rattle.std.specs.Prelude.{◌≡◌, ℕ, zero, suc, ◌+◌, ◌-◌, ◌*◌, ◌/◌, ◌%◌, ◌==◌, ◌||◌, Bool, true, false, not, nat_lt, nat_le, List, [], ◌∷◌}
use Rattle.std.specs.Prelude.{◌++◌, length, take, drop, slice_index, if◌then◌else◌}
use Rattle.std.specs.Int.{w32, to_le_bytes, from_le_bytes}
use Rattle.std.specs.Int.Bits.{bit_and}
use Rattle.std.specs.Str.{bytes_eq}
use Rattle.determinize_core.specs.States.{StateValue, IsState}

-- a number in four bytes, the least one first
abbrev pub in_four_bytes : ℕ → List ℕ
in_four_bytes n = to_le_bytes w32 n

-- the number in four bytes from an offset on
abbrev pub number_at : ℕ → List ℕ → ℕ
number_at at bytes = from_le_bytes w32 (drop at bytes)

-- numbers one after another, four bytes each, and what they are
abbrev pub four_bytes_each : List ℕ → List ℕ
four_bytes_each [] = []
four_bytes_each (n ∷ ns) = in_four_bytes n ++ four_bytes_each ns

abbrev pub numbers : List ℕ → List ℕ
numbers [] = []
numbers (a ∷ []) = []
numbers (a ∷ b ∷ []) = []
numbers (a ∷ b ∷ c ∷ []) = []
numbers (a ∷ b ∷ c ∷ d ∷ rest) = from_le_bytes w32 (a ∷ b ∷ c ∷ d ∷ []) ∷ numbers rest

-- whether a pattern matches, and whether the patterns are listed: they are unless there is none or pattern 0 alone
abbrev pub is_match : List ℕ → Bool
is_match [] = false
is_match (p ∷ ps) = true

abbrev pub is_listed : List ℕ → Bool
is_listed [] = false
is_listed (p ∷ []) = not (p == 0)
is_listed (p ∷ q ∷ ps) = true

-- the byte of flags, and whether it has one of them
abbrev pub flag_if : ℕ → Bool → ℕ
flag_if flag true = flag
flag_if flag false = 0

abbrev pub flag_byte : Bool → Bool → Bool → Bool → ℕ
flag_byte matching listed word half = flag_if 1 matching + (flag_if 2 listed + (flag_if 4 word + flag_if 8 half))

abbrev pub has_flag : ℕ → ℕ → Bool
has_flag flags flag = not (bit_and flags flag == 0)

-- the first nine bytes
abbrev pub first_bytes : StateValue → List ℕ
first_bytes v =
    flag_byte (is_match v.matches) (is_listed v.matches) v.is_from_word v.is_half_crlf
    ∷ (in_four_bytes v.look_have ++ in_four_bytes v.look_need)

-- the patterns, if they are listed: how many there are and then each
abbrev pub pattern_bytes : Bool → ℕ → List ℕ → List ℕ
pattern_bytes false count ps = []
pattern_bytes true count ps = in_four_bytes count ++ four_bytes_each ps

-- the difference from one number to the next as a number: the even ones for steps up, the odd ones for steps down
abbrev pub zigzag : ℕ → ℕ → ℕ
zigzag from to = if nat_le from to then 2 * (to - from) else (2 * (from - to) - 1)

abbrev pub moved : ℕ → ℕ → ℕ
moved from way = if way % 2 == 0 then (from + way / 2) else (from - (way + 1) / 2)

-- a number in groups of seven bits, the least first, with the top bit on all but the last: at most `more` and one
abbrev pub groups : ℕ → ℕ → List ℕ
groups zero n = n ∷ []
groups (suc more) n = if nat_lt n 128 then (n ∷ []) else ((n % 128 + 128) ∷ groups more (n / 128))

-- the states, each as its difference from the one before
abbrev pub id_bytes : ℕ → List ℕ → List ℕ
id_bytes before [] = []
id_bytes before (q ∷ qs) = groups 4 (zigzag before q) ++ id_bytes q qs

-- what the fifth group of a number is worth
abbrev pub last_weight : ℕ
last_weight = 268435456

-- The states that bytes name, after some groups of the next one's difference were read. The arguments are the sum of these groups, and what
-- the next group is worth.
abbrev pub ids_read : ℕ → ℕ → ℕ → List ℕ → List ℕ
ids_read before part weight [] = []
ids_read before part weight (b ∷ bs) =
    if nat_lt b 128 || nat_le last_weight weight
    then (moved before (part + b * weight) ∷ ids_read (moved before (part + b * weight)) 0 1 bs)
    else ids_read before (part + (b - 128) * weight) (weight * 128) bs

-- the bytes of a state
abbrev pub encoded : StateValue → List ℕ
encoded v = first_bytes v ++ (pattern_bytes (is_listed v.matches) (length v.matches) v.matches ++ id_bytes 0 v.ids)

-- whether two states have the same bytes, which is how a map tests them
abbrev pub has_same_bytes : StateValue → StateValue → Bool
has_same_bytes v w = bytes_eq (encoded v) (encoded w)

-- the bytes while patterns are added: their number is 0 until all are there
abbrev pub unfinished : StateValue → List ℕ
unfinished v = first_bytes v ++ pattern_bytes (is_listed v.matches) 0 v.matches

-- the patterns: the listed ones; or, if none are listed, pattern 0 if the flag says that a pattern matches
abbrev pub patterns_encoded : Bool → Bool → List ℕ → List ℕ
patterns_encoded true matching listed = listed
patterns_encoded false true listed = 0 ∷ []
patterns_encoded false false listed = []

-- where the states begin
abbrev pub ids_start : Bool → ℕ → ℕ
ids_start true count = 13 + 4 * count
ids_start false count = 9

-- what the first nine bytes say, with these patterns and states
abbrev pub value_of : List ℕ → List ℕ → List ℕ → StateValue
value_of bytes listed ids = record {
  is_from_word = has_flag (slice_index bytes 0) 4;
  is_half_crlf = has_flag (slice_index bytes 0) 8;
  look_have = number_at 1 bytes;
  look_need = number_at 5 bytes;
  matches = patterns_encoded (has_flag (slice_index bytes 0) 2) (has_flag (slice_index bytes 0) 1) listed;
  ids = ids;
}

-- the state that bytes stand for
abbrev pub decoded : List ℕ → StateValue
decoded bytes =
    value_of bytes (numbers (take (4 * number_at 9 bytes) (drop 13 bytes)))
    (ids_read 0 0 1 (drop (ids_start (has_flag (slice_index bytes 0) 2) (number_at 9 bytes)) bytes))

-- what the bytes of a state stand for while its patterns are added
abbrev pub decoded_unfinished : List ℕ → StateValue
decoded_unfinished bytes = value_of bytes (numbers (drop 13 bytes)) []

-- what holds of the bytes of a state: they are those of the state that they stand for
pub record IsEncoded (bytes : List ℕ) : Type 0 where
  pub same : bytes ≡ encoded (decoded bytes)
  pub state : IsState (decoded bytes)

-- what holds of them while patterns are added
pub record IsUnfinished (bytes : List ℕ) : Type 0 where
  pub same : bytes ≡ unfinished (decoded_unfinished bytes)
  pub state : IsState (decoded_unfinished bytes)
