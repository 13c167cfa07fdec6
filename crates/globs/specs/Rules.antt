-- Rules that choose files: globs in the order in which they were given, of which the last one that matches decides.
use Rattle.std.specs.Prelude.{ℕ, ◌-◌, ◌==◌, Bool, true, false, ◌&&◌, ◌||◌, not, nat_lt, List, [], ◌∷◌, length, take, drop, slice_index, Option, Some, None, if◌then◌else◌, is_none}
use Rattle.std.specs.List.{list_any}
use Rattle.globs.specs.Matching.{Sections, is_slash, matches, matches_part, sections_of}
use Rattle.globs.specs.Paths.{folder_name, without_end_space}
use Rattle.globs.specs.Reading.{read}
use Rattle.globs.specs.declared.reading.Fault.{Fault}
use Rattle.globs.specs.declared.reading.Syntax.{Syntax}
use Rattle.globs.specs.declared.reading.Syntax.TheVariants.{Fnmatch, Globset, Folded}
use Rattle.globs.specs.declared.rules.Rule.{Rule as TheRule}

pub record Rule : Type 0 where
  pub glob : Sections
  -- what it matches is chosen, and not left out
  pub selects : Bool
  -- it matches folders alone
  pub only_folders : Bool
  -- it may match what is after one of the slashes of a name
  pub anywhere : Bool

-- Whether a rule matches a name, of a file or of a folder. `part`: any rule may match what is after one of the slashes.
abbrev pub applies : Rule → Bool → Bool → List ℕ → Bool
applies r is_folder part name =
    (not r.only_folders || is_folder) && (if part || r.anywhere then matches_part r.glob name else matches r.glob name)

-- what the last rule says that matches, or else what was known before
abbrev pub decided : Option Bool → List Rule → Bool → Bool → List ℕ → Option Bool
decided known [] is_folder part name = known
decided known (r ∷ rs) is_folder part name = decided (if applies r is_folder part name then Some r.selects else known) rs is_folder part name

-- ---- the rules of --include, --exclude, --exclude-from and --exclude-dir

abbrev pub grep_rule : Bool → List ℕ → Rule
grep_rule selects text = record { glob = (read Fnmatch text).sections; selects = selects; only_folders = false; anywhere = false }

-- The rule of --exclude-dir.
abbrev pub folder_rule : List ℕ → Rule
folder_rule text = grep_rule false (folder_name text)

-- The rules of a line of a file of --exclude-from: none if the line is empty without the white space at its end.
abbrev pub excluded_by : List ℕ → List Rule
excluded_by [] = []
excluded_by (c ∷ cs) = grep_rule false (c ∷ cs) ∷ []

abbrev pub excluded : List ℕ → List Rule
excluded line = excluded_by (without_end_space line)

-- If the first rule chooses files, all others are left out.
abbrev pub skips_by : Option Bool → List Rule → Bool
skips_by (Some selects) rules = not selects
skips_by None [] = false
skips_by None (r ∷ rs) = r.selects

-- Whether what has this name is left out. `part`: the name is that of an argument, and not that of something in a folder.
abbrev pub skips : List Rule → Bool → List ℕ → Bool
skips rules part name = skips_by (decided None rules false part name) rules

-- ---- the rules of --glob

-- it begins with this character
abbrev pub begins : ℕ → List ℕ → Bool
begins c [] = false
begins c (x ∷ xs) = x == c

abbrev pub without_first : ℕ → List ℕ → List ℕ
without_first c s = if begins c s then drop 1 s else s

abbrev pub ends_in_slash : List ℕ → Bool
ends_in_slash s = nat_lt 0 (length s) && is_slash (slice_index s (length s - 1))

abbrev pub without_last_slash : List ℕ → List ℕ
without_last_slash s = if ends_in_slash s then take (length s - 1) s else s

-- The syntax of --glob, or of --iglob and with --glob-case-insensitive.
abbrev pub glob_syntax : Bool → Syntax
glob_syntax false = Globset
glob_syntax true = Folded

-- The glob in an argument, without a `!` and a slash at the beginning and a slash at the end; and its first fault.
abbrev pub glob_body : List ℕ → List ℕ
glob_body text = without_first 47 (without_last_slash (without_first 33 text))

-- The glob of a type of files has no fault.
abbrev pub is_type_glob : List ℕ → Bool
is_type_glob text = is_none (read Globset text).fault

abbrev pub glob_fault : Bool → List ℕ → Option Fault
glob_fault folds text = (read (glob_syntax folds) (glob_body text)).fault

-- A `!` at the beginning leaves out what the glob matches. With a slash at the end it matches folders alone. Without another slash it
-- matches at any depth.
abbrev pub rule_with : Sections → List ℕ → Rule
rule_with glob text = record {
  glob = glob;
  selects = not (begins 33 text);
  only_folders = ends_in_slash (without_first 33 text);
  anywhere = not (list_any is_slash (without_last_slash (without_first 33 text)));
}

abbrev pub glob_rule : Bool → List ℕ → Rule
glob_rule folds text = rule_with (read (glob_syntax folds) (glob_body text)).sections text

-- The rule of a glob of a type of files.
abbrev pub type_rule : Bool → List ℕ → Rule
type_rule selects text = record { glob = (read Globset text).sections; selects = selects; only_folders = false; anywhere = false }

-- Folders that no rule matches are searched, and files if no rule chooses files.
abbrev pub chooses_by : Option Bool → List Rule → Bool → Bool
chooses_by (Some selects) rules is_folder = selects
chooses_by None rules is_folder = is_folder || not (list_any (λ r. r.selects) rules)

-- Whether what has this path is searched.
abbrev pub chooses : List Rule → Bool → List ℕ → Bool
chooses rules is_folder path = chooses_by (decided None rules is_folder false path) rules is_folder

-- ---- what the code holds

abbrev pub rule_of : TheRule → Rule
rule_of r = record { glob = sections_of r.glob.items; selects = r.selects; only_folders = r.only_folders; anywhere = r.anywhere }
