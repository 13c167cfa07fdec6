-- The names of classes of characters, as `[:alpha:]` in a set, and their characters. These are ASCII's.
use Rattle.std.specs.Prelude.{ℕ, Bool, List, [], ◌∷◌, codes, nat_eq, if◌then◌else◌}
use Rattle.std.specs.Cmp.Lexicographic.{pointwise}

abbrev pub is_name : List ℕ → List ℕ → Bool
is_name = pointwise nat_eq

-- letters and digits
abbrev pub letter_ranges : List ℕ → List (ℕ × ℕ)
letter_ranges name =
    if is_name name (codes "alnum") then (48, 57) ∷ (65, 90) ∷ (97, 122) ∷ []
    else if is_name name (codes "alpha") then (65, 90) ∷ (97, 122) ∷ []
    else if is_name name (codes "digit") then (48, 57) ∷ []
    else if is_name name (codes "lower") then (97, 122) ∷ []
    else if is_name name (codes "upper") then (65, 90) ∷ []
    else if is_name name (codes "xdigit") then (48, 57) ∷ (65, 70) ∷ (97, 102) ∷ []
    else []

-- those and other characters
abbrev pub other_ranges : List ℕ → List (ℕ × ℕ)
other_ranges name =
    if is_name name (codes "blank") then (9, 9) ∷ (32, 32) ∷ []
    else if is_name name (codes "cntrl") then (0, 31) ∷ (127, 127) ∷ []
    else if is_name name (codes "graph") then (33, 126) ∷ []
    else if is_name name (codes "print") then (32, 126) ∷ []
    else if is_name name (codes "punct") then (33, 47) ∷ (58, 64) ∷ (91, 96) ∷ (123, 126) ∷ []
    else if is_name name (codes "space") then (9, 13) ∷ (32, 32) ∷ []
    else letter_ranges name

-- The characters of a class. A name that isn't known has none.
unfoldable pub named_ranges : List ℕ → List (ℕ × ℕ)
named_ranges name = other_ranges name
