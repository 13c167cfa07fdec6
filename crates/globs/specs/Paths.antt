-- Parts of names, of paths and of the lines of a file of globs, as lists of characters.
use Rattle.std.specs.Prelude.{ℕ, ◌+◌, ◌==◌, Bool, ◌&&◌, ◌||◌, nat_le, List, [], ◌∷◌, length, take, drop, slice_index, if◌then◌else◌, ◌++◌}
use Rattle.globs.specs.Matching.{is_slash}

-- a white space character of ASCII
abbrev pub is_space : ℕ → Bool
is_space c = c == 32 || (nat_le 9 c && nat_le c 13)

-- How many characters there are up to the last one that is no such character. `kept` is how many there were up to here, and `at` is how
-- many come before these characters.
abbrev pub kept_len : (ℕ → Bool) → ℕ → ℕ → List ℕ → ℕ
kept_len is kept at [] = kept
kept_len is kept at (c ∷ cs) = kept_len is (if is c then kept else at + 1) (at + 1) cs

-- The name of a folder without the slashes at its end, unless it has nothing else.
abbrev pub folder_name : List ℕ → List ℕ
folder_name text = if kept_len is_slash 0 0 text == 0 then text else take (kept_len is_slash 0 0 text) text

-- A line without the white space at its end.
abbrev pub without_end_space : List ℕ → List ℕ
without_end_space line = take (kept_len is_space 0 0 line) line

-- How many characters there are up to the last slash, with it. `begin` is how many there were up to here.
abbrev pub name_begin : ℕ → ℕ → List ℕ → ℕ
name_begin begin at [] = begin
name_begin begin at (c ∷ cs) = name_begin (if is_slash c then at + 1 else begin) (at + 1) cs

-- What is after the last slash of a path, or all of it if there is none.
abbrev pub file_name : List ℕ → List ℕ
file_name path = drop (name_begin 0 0 path) path

-- A path without `./` at its beginning.
abbrev pub without_dot : List ℕ → List ℕ
without_dot path =
    if nat_le 2 (length path) && (slice_index path 0 == 46 && is_slash (slice_index path 1)) then drop 2 path else path

-- The full path of what is at a path in the folder at `root`, whose full path is `full`.
abbrev pub full_path : List ℕ → List ℕ → List ℕ → List ℕ
full_path full root path = full ++ drop (kept_len is_slash 0 0 root) path
