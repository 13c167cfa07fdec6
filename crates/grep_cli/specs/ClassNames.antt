-- Names of classes in patterns. In brackets a name is a class, as in `[[:alpha:]]`. A pattern with a name outside of brackets, or with one
-- that no class has, is rejected.
use Rattle.std.specs.Prelude.{ℕ, ◌+◌, ◌-◌, ◌==◌, Bool, true, false, ◌&&◌, ◌||◌, not, nat_eq, nat_lt, List, [], ◌∷◌, codes, drop, take, Option, Some, None, if◌then◌else◌}
use Rattle.std.specs.Option.{option_or}
use Rattle.std.specs.List.{list_any, starts_with}
use Rattle.std.specs.Char.{is_ascii_lowercase}
use Rattle.std.specs.Cmp.Lexicographic.{pointwise}
use Rattle.globs.specs.Rules.{without_first}
use Rattle.grep_cli.specs.declared.class_names.Misnamed.{Misnamed}
use Rattle.grep_cli.specs.declared.class_names.Misnamed.TheVariants.{Outside, Unknown}

-- ---- names

-- the names of classes
abbrev pub known_names : List (List ℕ)
known_names =
    codes "alnum" ∷ codes "alpha" ∷ codes "ascii" ∷ codes "blank" ∷ codes "cntrl" ∷ codes "digit" ∷ codes "graph" ∷ codes "lower"
    ∷ codes "print" ∷ codes "punct" ∷ codes "space" ∷ codes "upper" ∷ codes "word" ∷ codes "xdigit" ∷ []

abbrev pub is_class_name : List ℕ → Bool
is_class_name name = list_any (λ known. pointwise nat_eq known name) known_names

-- how many small letters a text begins with
abbrev pub letters_len : List ℕ → ℕ
letters_len [] = 0
letters_len (c ∷ cs) = if is_ascii_lowercase c then 1 + letters_len cs else 0

-- The length of the name that a text begins with, as `:alpha:]` does. It is 0 if there is none.
abbrev pub name_len : List ℕ → ℕ
name_len [] = 0
name_len (c ∷ cs) = if c == 58 && starts_with nat_eq (drop (letters_len cs) cs) (codes ":]") then letters_len cs else 0

-- whether a text begins with a name, as `:alpha:]` does, and which one that is
abbrev pub has_name : List ℕ → Bool
has_name text = nat_lt 0 (name_len text)

abbrev pub class_name_in : List ℕ → List ℕ
class_name_in text = take (name_len text) (drop 1 text)

-- ---- brackets

-- What the last byte was: a bracket that begins a class, the caret after one, a backslash that escapes the next byte, or any other.
pub data Last : Type 0 where
  Bracket : Last
  Caret : Last
  Backslash : Last
  Other : Last

abbrev pub is_bracket : Last → Bool
is_bracket Bracket = true
is_bracket Caret = false
is_bracket Backslash = false
is_bracket Other = false

-- what a byte is that isn't escaped, and isn't a caret after a bracket
abbrev pub last_by : ℕ → Last
last_by c = if c == 91 then Bracket else if c == 92 then Backslash else Other

-- what a byte is after this one
abbrev pub next : Last → ℕ → Last
next Bracket c = if c == 94 then Caret else last_by c
next Caret c = last_by c
next Backslash c = Other
next Other c = last_by c

-- A closing bracket ends a class. It doesn't if it is the first character of one.
abbrev pub is_end : Last → ℕ → Bool
is_end Bracket c = false
is_end Caret c = false
is_end Backslash c = false
is_end Other c = c == 93

-- how many classes are open after one more byte
abbrev pub open_after : Last → ℕ → ℕ → ℕ
open_after last depth c = if is_bracket (next last c) then depth + 1 else if is_end last c then depth - 1 else depth

-- ---- names that are none

-- What is wrong with the name at a bracket, which is followed by `rest`. Outside of classes no name may stand there, also after a caret. In a
-- class it has to be known.
abbrev pub fault_at : ℕ → ℕ → List ℕ → Option Misnamed
fault_at depth at rest =
    if depth == 0 then (if has_name (without_first 94 rest) then Some Outside else None)
    else if has_name rest && not (is_class_name (class_name_in rest)) then Some (Unknown at) else None

-- The first fault of the rest of a pattern, which begins at this offset in `depth` classes.
abbrev pub fault_from : Last → ℕ → ℕ → List ℕ → Option Misnamed
fault_from last depth at [] = None
fault_from last depth at (c ∷ cs) =
    option_or (if is_bracket (next last c) then fault_at depth at cs else None)
    (fault_from (next last c) (open_after last depth c) (at + 1) cs)

-- `(?x)` and the like turn on comments, which begin with `#`, and in which names mean nothing. A pattern that has both isn't looked at.
abbrev pub has_flags : List ℕ → Bool
has_flags [] = false
has_flags (c ∷ cs) = starts_with nat_eq (c ∷ cs) (codes "(?") || has_flags cs

abbrev pub may_have_comments : List ℕ → Bool
may_have_comments pattern = list_any (λ c. c == 35) pattern && has_flags pattern

abbrev pub first_misnamed : List ℕ → Option Misnamed
first_misnamed pattern = if may_have_comments pattern then None else fault_from Other 0 0 pattern
