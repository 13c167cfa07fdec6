-- What is found in folders.
use Rattle.std.specs.Prelude.{◌≡◌, ℕ, ◌==◌, Bool, true, false, ◌&&◌, not, List, [], ◌∷◌, ◌++◌, reverse, Result, Ok, Err, if◌then◌else◌}
use Rattle.std.specs.List.{flat_map, list_any, slice_split}
use Rattle.std.specs.List.Sorted.{IsPermutation}
use Rattle.std.specs.Str.{is_utf8}
use Rattle.std.specs.declared.io.Error.{Error}
use Rattle.globs.specs.Paths.{without_dot}
use Rattle.globs.specs.Rules.{ends_in_slash}
use Rattle.grep_cli.specs.declared.files.walking.Kind.{Kind}
use Rattle.grep_cli.specs.declared.files.walking.Kind.TheVariants.{File, Folder, Link, Device}

-- ---- the entries of a folder

-- the path of what has this name in a folder
abbrev pub joined : List ℕ → List ℕ → List ℕ
joined folder name = if ends_in_slash folder then folder ++ name else folder ++ 47 ∷ name

-- Neither nothing nor the folder itself nor the one above it.
abbrev pub is_entry : List ℕ → Bool
is_entry [] = false
is_entry (a ∷ []) = not (a == 46)
is_entry (a ∷ b ∷ []) = not (a == 46 && b == 46)
is_entry (a ∷ b ∷ c ∷ more) = true

-- The path of what has this name in a folder, if it is an entry and its name is UTF-8.
abbrev pub entry_paths : List ℕ → List ℕ → List (List ℕ)
entry_paths folder name = if is_entry name && is_utf8 name then joined folder name ∷ [] else []

-- An entry has a name that isn't UTF-8.
abbrev pub has_no_path : List ℕ → Bool
has_no_path name = is_entry name && not (is_utf8 name)

-- The paths of the entries of a folder with these names, each of which a zero byte ends, and whether an entry has none.
abbrev pub entries_of : List ℕ → List ℕ → List (List ℕ)
entries_of folder names = flat_map (entry_paths folder) (slice_split (λ b. b == 0) names)

abbrev pub hides_entries : List ℕ → Bool
hides_entries names = list_any has_no_path (slice_split (λ b. b == 0) names)

-- These paths are put in any order after others. The last one is the next one that is searched.
abbrev pub PutsEntries : List ℕ → List ℕ → List (List ℕ) → List (List ℕ) → Type 0
PutsEntries folder names old new =
    (paths : List (List ℕ)) × (IsPermutation (entries_of folder names) paths × (new ≡ old ++ reverse paths))

-- The name that is printed for a path. If no file is named, it is relative to the current folder.
abbrev pub shown_name : Bool → List ℕ → List ℕ
shown_name bare path = if bare then without_dot path else path

-- ---- what is at a path

abbrev pub is_folder_kind : Kind → Bool
is_folder_kind File = false
is_folder_kind Folder = true
is_folder_kind Link = false
is_folder_kind Device = false

abbrev pub is_folder : Result Kind Error → Bool
is_folder (Ok kind) = is_folder_kind kind
is_folder (Err e) = false

abbrev pub is_file_kind : Kind → Bool
is_file_kind File = true
is_file_kind Folder = false
is_file_kind Link = false
is_file_kind Device = false

abbrev pub is_file : Result Kind Error → Bool
is_file (Ok kind) = is_file_kind kind
is_file (Err e) = false
