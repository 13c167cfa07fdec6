-- Types of files that options change.
use Rattle.std.specs.Prelude.{ℕ, ◌+◌, ◌==◌, Bool, true, false, ◌&&◌, ◌||◌, not, nat_lt, List, [], ◌∷◌, ◌++◌, codes, drop, length, nat_eq, take, is_some, if◌then◌else◌}
use Rattle.std.specs.List.{flat_map, list_any, slice_split}
use Rattle.std.specs.Str.{bytes_eq, chars}
use Rattle.clap.specs.Words.{first_value}
use Rattle.clap.specs.declared.parser.matches.Found.{Found}
use Rattle.globs.specs.Rules.{is_type_glob}
use Rattle.grep_options.specs.Options.{values_given}
use Rattle.grep_cli.specs.FileTypes.{TypeRow, of_type}
use Rattle.grep_cli.specs.Selecting.{are_types, ignore_files, is_sure}

-- ---- types that are cleared

abbrev pub is_cleared : List (List ℕ) → TypeRow → Bool
is_cleared names row = list_any (λ name. bytes_eq row.name name) names

-- the rows that aren't of these types
abbrev pub types_kept : List (List ℕ) → List TypeRow → List TypeRow
types_kept names [] = []
types_kept names (row ∷ rows) = if is_cleared names row then types_kept names rows else row ∷ types_kept names rows

-- ---- globs that are added

-- the position after the last row of a type, from the position `at` on, or `end` if there is none
abbrev pub end_of : List ℕ → ℕ → ℕ → List TypeRow → ℕ
end_of name end at [] = end
end_of name end at (row ∷ rows) = end_of name (if bytes_eq row.name name then at + 1 else end) (at + 1) rows

-- One more row, after the last one of its type, or after all rows.
abbrev pub end_of_type : TypeRow → List TypeRow → ℕ
end_of_type row rows = end_of row.name (length rows) 0 rows

abbrev pub with_row : TypeRow → List TypeRow → List TypeRow
with_row row rows = take (end_of_type row rows) rows ++ row ∷ drop (end_of_type row rows) rows

-- with the globs of these rows in a type
abbrev pub with_rows : List ℕ → List TypeRow → List TypeRow → List TypeRow
with_rows name [] rows = rows
with_rows name (row ∷ more) rows = with_rows name more (with_row (record { name = name; glob = row.glob }) rows)

-- the rows of types
abbrev pub rows_of_types : List (List ℕ) → List TypeRow → List TypeRow
rows_of_types names rows = flat_map (λ name. of_type name rows) names

-- ---- definitions

-- the parts of a definition, between its colons, and the names in a list of types, between its commas
abbrev pub colon_parts : List ℕ → List (List ℕ)
colon_parts text = slice_split (λ b. b == 58) text

abbrev pub names_in : List ℕ → List (List ℕ)
names_in text = slice_split (λ b. b == 44) text

-- `all` is the name of all types.
abbrev pub may_be_named : List ℕ → Bool
may_be_named name = nat_lt 0 (length name) && not (bytes_eq name (codes "all"))

abbrev pub may_be_added : List ℕ → List ℕ → Bool
may_be_added name glob = may_be_named name && (nat_lt 0 (length glob) && is_type_glob (chars glob))

abbrev pub may_include : List TypeRow → List ℕ → List ℕ → List (List ℕ) → Bool
may_include rows name word names = may_be_named name && (bytes_eq word (codes "include") && are_types rows names)

-- A definition is TYPE:GLOB or TYPE:include:TYPE,TYPE.. with types that there are by then.
abbrev pub is_definition : List TypeRow → List (List ℕ) → Bool
is_definition rows [] = false
is_definition rows (name ∷ []) = false
is_definition rows (name ∷ glob ∷ []) = may_be_added name glob
is_definition rows (name ∷ word ∷ list ∷ []) = may_include rows name word (names_in list)
is_definition rows (name ∷ word ∷ list ∷ other ∷ more) = false

-- what it adds
abbrev pub with_definition : List TypeRow → List (List ℕ) → List TypeRow
with_definition rows [] = rows
with_definition rows (name ∷ []) = rows
with_definition rows (name ∷ glob ∷ []) = with_row (record { name = name; glob = glob }) rows
with_definition rows (name ∷ word ∷ list ∷ []) = with_rows name (rows_of_types (names_in list) rows) rows
with_definition rows (name ∷ word ∷ list ∷ other ∷ more) = rows

abbrev pub are_definitions : List TypeRow → List (List ℕ) → Bool
are_definitions rows [] = true
are_definitions rows (text ∷ texts) = is_definition rows (colon_parts text) && are_definitions (with_definition rows (colon_parts text)) texts

abbrev pub with_definitions : List TypeRow → List (List ℕ) → List TypeRow
with_definitions rows [] = rows
with_definitions rows (text ∷ texts) = with_definitions (with_definition rows (colon_parts text)) texts

-- ---- what the options give

abbrev pub changes_types : Found → Bool
changes_types f = is_some (first_value f (codes "type-add")) || is_some (first_value f (codes "type-clear"))

-- The types, of which some are cleared and then some added to, and whether all definitions can be read.
abbrev pub types_changed : Found → List TypeRow → List TypeRow
types_changed f rows = with_definitions (types_kept (values_given f (codes "type-clear")) rows) (values_given f (codes "type-add"))

abbrev pub gives_definitions : Found → List TypeRow → Bool
gives_definitions f rows = are_definitions (types_kept (values_given f (codes "type-clear")) rows) (values_given f (codes "type-add"))

-- The types that options choose files by, if these are the ones without options.
abbrev pub types_in_force : Found → List TypeRow → List TypeRow
types_in_force f rows = if changes_types f then types_changed f rows else rows

-- The options choose files whatever the system does: no file of rules is named, each glob, size and definition can be read and each type is
-- known.
abbrev pub chooses_surely : Found → List TypeRow → Bool
chooses_surely f rows =
    (not (changes_types f) || gives_definitions f rows) && (is_sure f (types_in_force f rows) && nat_eq (length (ignore_files f)) 0)
