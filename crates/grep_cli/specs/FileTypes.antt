-- Types of files, by globs of their names.
use Rattle.std.specs.Prelude.{ℕ, Bool, ◌||◌, List, [], ◌∷◌, ◌++◌, codes, length, nat_eq, map, if◌then◌else◌}
use Rattle.std.specs.Borrow.{Bor}
use Rattle.std.specs.List.{list_any}
use Rattle.std.specs.Str.{bytes_eq, chars}
use Rattle.globs.specs.Rules.{Rule, type_rule}

-- A type, and a glob of names of its files.
pub record TypeRow : Type 0 where
  pub name : List ℕ
  pub glob : List ℕ

abbrev pub row_of : Bor (List ℕ) × Bor (List ℕ) → TypeRow
row_of row = record { name = row.0.now; glob = row.1.now }

abbrev pub rows_of : List (Bor (List ℕ) × Bor (List ℕ)) → List TypeRow
rows_of rows = map row_of rows

-- All rows are of the type `all`.
abbrev pub is_of : List ℕ → TypeRow → Bool
is_of name row = bytes_eq name row.name || bytes_eq name (codes "all")

abbrev pub is_type : List ℕ → List TypeRow → Bool
is_type name rows = list_any (is_of name) rows

abbrev pub of_type : List ℕ → List TypeRow → List TypeRow
of_type name [] = []
of_type name (row ∷ rows) = if is_of name row then row ∷ of_type name rows else of_type name rows

-- the rules of rows, which select files or leave them out
abbrev pub type_rules : Bool → List TypeRow → List Rule
type_rules selects rows = map (λ (row : TypeRow). type_rule selects (chars row.glob)) rows

-- ---- the list of types

-- What a row adds to the list, after a row of a type of this name or after nothing.
abbrev pub row_begin : List ℕ → TypeRow → List ℕ
row_begin previous row =
    if bytes_eq row.name previous then codes ", "
    else (if nat_eq (length previous) 0 then [] else 10 ∷ []) ++ (row.name ++ codes ": ")

abbrev pub row_text : List ℕ → TypeRow → List ℕ
row_text previous row = row_begin previous row ++ row.glob

abbrev pub types_text : List ℕ → List TypeRow → List ℕ
types_text previous [] = 10 ∷ []
types_text previous (row ∷ rows) = row_text previous row ++ types_text row.name rows
