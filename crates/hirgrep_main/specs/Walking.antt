-- What arguments name, and what is searched of it.
use Rattle.std.specs.Prelude.{◌≡◌, ◌⊎◌, ◌==◌, ℕ, Bool, true, false, ◌&&◌, not, List, [], ◌∷◌, codes, length, Result, Ok, Err, if◌then◌else◌}
use Rattle.std.specs.declared.io.Error.{Error}
use Rattle.grep_cli.specs.Counting.{counted}
use Rattle.grep_cli.specs.Flags.{reads_named}
use Rattle.hirgrep_main.specs.Decisions.{selects_none}
use Rattle.hirgrep_main.specs.Outcomes.{Continues, with_failure}
use Rattle.hirgrep_main.specs.Readings.{prints_summary}
use Rattle.grep_cli.specs.Selecting.{Selection, skips_named}
use Rattle.grep_cli.specs.declared.options.flags.Directories.{Directories}
use Rattle.grep_cli.specs.declared.options.flags.Directories.TheVariants.{Reject, Recurse, Skip}
use Rattle.hirgrep_main.specs.declared.options.asked.Asked.{Asked}
use Rattle.hirgrep_main.specs.declared.results.outcome.Outcome.{Outcome}
use Rattle.hirgrep_main.specs.declared.searching.Named.{Named}
use Rattle.hirgrep_main.specs.declared.searching.Named.TheVariants.{Input, File as NamedFile, Folder as NamedFolder, Device as NamedDevice}
use Rattle.grep_cli.specs.declared.files.walking.Kind.{Kind}
use Rattle.grep_cli.specs.declared.files.walking.Kind.TheVariants.{File, Folder, Link, Device}

-- What an argument names, by what is at its path. A link to nothing is opened as a file, and reported.
abbrev pub named_by : Kind → Named
named_by File = NamedFile
named_by Folder = NamedFolder
named_by Link = NamedFile
named_by Device = NamedDevice

-- The options leave out what an argument names. They don't leave out standard input, and the current folder only if it is named.
abbrev pub leaves_out : Selection → Bool → Named → List ℕ → Bool
leaves_out s bare Input path = false
leaves_out s bare NamedFile path = skips_named s false path
leaves_out s bare NamedFolder path = not bare && skips_named s true path
leaves_out s bare NamedDevice path = skips_named s false path

abbrev pub is_left_out : Selection → Bool → Result Named Error → List ℕ → Bool
is_left_out s bare (Ok named) path = leaves_out s bare named path
is_left_out s bare (Err e) path = false

abbrev pub recurses : Directories → Bool
recurses Reject = false
recurses Recurse = true
recurses Skip = false

abbrev pub is_named_folder : Named → Bool
is_named_folder Input = false
is_named_folder NamedFile = false
is_named_folder NamedFolder = true
is_named_folder NamedDevice = false

-- What an argument names may be several files: those of a folder.
abbrev pub may_be_several : Directories → Result Named Error → Bool
may_be_several directories (Ok named) = is_named_folder named && recurses directories
may_be_several directories (Err e) = false

-- A file was searched, or a failure was recorded.
abbrev pub Tries : Outcome → Outcome → Type 0
Tries old new = (new.files ≡ counted old.files 1) ⊎ (new ≡ with_failure old)

-- What is done with folders. If the names of files are printed, folders are searched too, unless these are skipped.
abbrev pub listed_directories : Bool → Directories → Directories
listed_directories false directories = directories
listed_directories true Reject = Recurse
listed_directories true Recurse = Recurse
listed_directories true Skip = Skip

abbrev pub with_listed_folders : Asked → Bool → Asked
with_listed_folders asked lists = record asked { directories = listed_directories lists asked.directories }

-- What is searched if no argument names anything: the current folder, or standard input.
abbrev pub default_paths : Directories → List (List ℕ)
default_paths Reject = codes "-" ∷ []
default_paths Recurse = codes "." ∷ []
default_paths Skip = codes "-" ∷ []

-- What is searched: what arguments name, or what is searched if they name nothing. Nothing is if no line can be selected, unless the names of
-- files are printed.
abbrev pub searched_paths : Asked → Directories → Bool → List (List ℕ) → List (List ℕ) → List (List ℕ)
searched_paths asked directories lists patterns names =
    if not lists && selects_none asked patterns then []
    else if length names == 0 then default_paths directories
    else names

-- What comes of an argument that isn't left out, by what the system says of it.
abbrev pub Comes : Asked → Bool → Result Named Error → Outcome → Outcome → Type 0
Comes asked lists (Ok Input) old new = lists ≡ false → Tries old new
Comes asked lists (Ok NamedFile) old new = Tries old new
Comes asked lists (Ok NamedFolder) old new = (asked.directories ≡ Reject → new ≡ with_failure old) × (asked.directories ≡ Skip → new ≡ old)
Comes asked lists (Ok NamedDevice) old new =
    (reads_named asked.devices ≡ false → new ≡ old) × (reads_named asked.devices ≡ true → Tries old new)
Comes asked lists (Err e) old new = new ≡ with_failure old

-- What comes of any argument. Nothing comes of one that the options leave out, and `-` is standard input.
pub record IsHandled (asked : Asked) (s : Selection) (bare : Bool) (path : List ℕ) (named : Result Named Error) (old new : Outcome) : Type 0 where
  pub input : path ≡ codes "-" → named ≡ Ok Input
  pub left : is_left_out s bare named path ≡ true → new ≡ old
  pub comes : is_left_out s bare named path ≡ false → Comes asked s.lists named old new
  pub continues : Continues old new

-- What comes of arguments, one after the other, up to the last outcome. They aren't searched further if the search has ended after one of
-- them, or if memory ran out (`done` is false), before an argument was searched or meanwhile.
pub data AreHandled (asked : Asked) (s : Selection) (bare done : Bool) (last : Outcome) : List (List ℕ) → Outcome → Type 0 where
  all : done ≡ true → AreHandled asked s bare done last [] last
  next : (path : List ℕ) (rest : List (List ℕ)) (named : Result Named Error) (old new : Outcome) →
      IsHandled asked s bare path named old new → AreHandled asked s bare done last rest new →
      AreHandled asked s bare done last (path ∷ rest) old
  ended : (path : List ℕ) (rest : List (List ℕ)) (named : Result Named Error) (old : Outcome) →
      IsHandled asked s bare path named old last → last.ended ≡ true → done ≡ true → AreHandled asked s bare done last (path ∷ rest) old
  failed : (path : List ℕ) (rest : List (List ℕ)) (named : Result Named Error) (old : Outcome) → done ≡ false →
      (last ≡ old) ⊎ IsHandled asked s bare path named old last → AreHandled asked s bare done last (path ∷ rest) old

-- What comes of the names that a command line gives, and is printed after them.
pub record SearchesNames (asked : Asked) (s : Selection) (patterns names : List (List ℕ)) (done : Bool) (old new : Outcome) : Type 0 where
  pub last : Outcome
  pub each : AreHandled (with_listed_folders asked s.lists) s (length names == 0) done last
      (searched_paths asked (with_listed_folders asked s.lists).directories s.lists patterns names) old
  pub end : prints_summary asked ≡ false → new ≡ last
