-- Which files the options choose.
use Rattle.std.specs.Prelude.{◌≡◌, ℕ, ◌+◌, ◌==◌, Bool, true, false, ◌&&◌, ◌||◌, not, nat_lt, List, [], ◌∷◌, ◌++◌, codes, drop, length, map, nat_eq, is_none, is_some, option_and_then, Option, Some, None, if◌then◌else◌}
use Rattle.std.specs.List.{flat_map, list_all, list_any, slice_split}
use Rattle.std.specs.Cmp.Lexicographic.{pointwise}
use Rattle.std.specs.Str.{chars}
use Rattle.clap.specs.Words.{first_value}
use Rattle.clap.specs.declared.parser.matches.Found.{Found}
use Rattle.globs.specs.Matching.{is_slash}
use Rattle.globs.specs.Paths.{file_name, kept_len, without_dot}
use Rattle.globs.specs.Ignoring.{ignore_rules, or_else}
use Rattle.globs.specs.Rules.{Rule, begins, chooses, decided, excluded, folder_rule, glob_fault, glob_rule, grep_rule, rule_of, skips}
use Rattle.grep_options.specs.FileOptions.{Given, file_values}
use Rattle.grep_options.specs.Options.{is_set, is_text, number_given, values_given}
use Rattle.grep_options.specs.Sizes.{size_of}
use Rattle.grep_options.specs.declared.files.FileOption.{FileOption}
use Rattle.grep_options.specs.declared.files.FileOption.TheVariants.{Include, Exclude, ExcludeFrom}
use Rattle.grep_cli.specs.FileTypes.{TypeRow, is_type, of_type, type_rules}
use Rattle.grep_cli.specs.Ignores.{ignoring_given}
use Rattle.grep_cli.specs.declared.files.selecting_files.Ignoring.{Ignoring}
use Rattle.grep_cli.specs.declared.files.selecting_files.Selection.{Selection as TheSelection}

-- ---- the rules that options give

-- The rules in the content of a file of --exclude-from, one a line.
abbrev pub excluded_lines : List ℕ → List Rule
excluded_lines text = flat_map (λ line. excluded (chars line)) (slice_split (λ b. b == 10) text)

-- The rules of a value. `content` is that of the file that it names, if it names one.
abbrev pub value_by : FileOption → List ℕ → List ℕ → List Rule
value_by Include text content = grep_rule true (chars text) ∷ []
value_by Exclude text content = grep_rule false (chars text) ∷ []
value_by ExcludeFrom text content = excluded_lines content

abbrev pub value_rules : Given → List ℕ → List Rule
value_rules v content = value_by v.option v.text content

-- The rules of values, with a content for each.
abbrev pub values_rules : List Given → List (List ℕ) → List Rule
values_rules [] contents = []
values_rules (v ∷ vs) [] = []
values_rules (v ∷ vs) (content ∷ contents) = value_rules v content ++ values_rules vs contents

-- Whether a value names a file of rules.
abbrev pub names_rules : FileOption → Bool
names_rules Include = false
names_rules Exclude = false
names_rules ExcludeFrom = true

abbrev pub folder_rules : List (List ℕ) → List Rule
folder_rules texts = map (λ text. folder_rule (chars text)) texts

-- Whether the globs have no fault, and their rules. `folds`: letters match in either case.
abbrev pub are_sound : Bool → List (List ℕ) → Bool
are_sound folds texts = list_all (λ text. is_none (glob_fault folds (chars text))) texts

abbrev pub glob_rules : Bool → List (List ℕ) → List Rule
glob_rules folds texts = map (λ text. glob_rule folds (chars text)) texts

-- The globs of --glob come before those of --iglob.
abbrev pub gives_globs : Found → Bool
gives_globs f =
    are_sound (is_set f (codes "glob-case-insensitive")) (values_given f (codes "glob")) && are_sound true (values_given f (codes "iglob"))

abbrev pub globs_given : Found → List Rule
globs_given f =
    glob_rules (is_set f (codes "glob-case-insensitive")) (values_given f (codes "glob")) ++ glob_rules true (values_given f (codes "iglob"))

-- The rules of the files of --ignore-file, with a content for each.
abbrev pub AreIgnored : List Rule → List Rule → ℕ → Type 0
AreIgnored old new files = (contents : List (List ℕ)) × ((length contents ≡ files) × (new ≡ old ++ flat_map ignore_rules contents))

-- Whether there are types of these names, and their rules, which select files or leave them out.
abbrev pub are_types : List TypeRow → List (List ℕ) → Bool
are_types rows names = list_all (λ name. is_type name rows) names

abbrev pub named_types : Bool → List TypeRow → List (List ℕ) → List Rule
named_types selects rows names = flat_map (λ name. type_rules selects (of_type name rows)) names

-- The rules of --type come before those of --type-not.
abbrev pub types_given : Found → List TypeRow → List Rule
types_given f rows = named_types true rows (values_given f (codes "type")) ++ named_types false rows (values_given f (codes "type-not"))

abbrev pub gives_types : Found → List TypeRow → Bool
gives_types f rows = are_types rows (values_given f (codes "type")) && are_types rows (values_given f (codes "type-not"))

-- The greatest size of a file that is searched, and whether no size is given that can't be read.
abbrev pub size_given : Found → Option ℕ
size_given f = option_and_then size_of (first_value f (codes "max-filesize"))

abbrev pub is_size_given : Found → List ℕ → Bool
is_size_given f name = is_none (first_value f name) || is_some (option_and_then size_of (first_value f name))

abbrev pub gives_size : Found → Bool
gives_size f = is_size_given f (codes "max-filesize") && is_size_given f (codes "max-size")

-- ---- what chooses files

pub record Selection : Type 0 where
  -- the rules of --include, --exclude and --exclude-from
  pub files : List Rule
  -- the rules of --exclude-dir
  pub folders : List Rule
  -- the rules of --glob and --iglob
  pub globs : List Rule
  -- the rules of --type and --type-not
  pub types : List Rule
  -- the rules of --ignore-file
  pub ignored : List Rule
  -- which ignore files of folders are read
  pub ignoring : Ignoring
  -- what is hidden is left out
  pub hides : Bool
  -- how deep folders are searched
  pub max_depth : Option ℕ
  -- how many bytes a file has at most that is searched
  pub max_size : Option ℕ
  -- names are printed, and nothing is searched
  pub lists : Bool
  -- the names in a folder are put in order
  pub sorts : Bool

abbrev pub selection : TheSelection → Selection
selection s = record {
  files = map rule_of s.files.items;
  folders = map rule_of s.folders.items;
  globs = map rule_of s.globs.items;
  types = map rule_of s.types.items;
  ignored = map rule_of s.ignored.items;
  ignoring = s.ignoring;
  hides = s.hides;
  max_depth = s.max_depth;
  max_size = s.max_size;
  lists = s.lists;
  sorts = s.sorts;
}

-- Without rules.
abbrev pub selection_without_rules : Found → Selection
selection_without_rules f = record {
  files = [];
  folders = [];
  globs = [];
  types = [];
  ignored = [];
  ignoring = ignoring_given f;
  hides = is_set f (codes "no-hidden");
  max_depth = number_given f (codes "max-depth");
  max_size = size_given f;
  lists = is_set f (codes "files");
  sorts = is_text (codes "path") (first_value f (codes "sort"));
}

-- With more rules.
abbrev pub with_files : Selection → List Rule → Selection
with_files s rules = record s { files = s.files ++ rules }

abbrev pub with_folders : Selection → List Rule → Selection
with_folders s rules = record s { folders = s.folders ++ rules }

abbrev pub with_globs : Selection → List Rule → Selection
with_globs s rules = record s { globs = s.globs ++ rules }

abbrev pub with_types : Selection → List Rule → Selection
with_types s rules = record s { types = s.types ++ rules }

abbrev pub with_ignored : Selection → List Rule → Selection
with_ignored s rules = record s { ignored = s.ignored ++ rules }

-- With the rules that options give, but for those of --ignore-file. `contents` has a content for each value of --include, --exclude and
-- --exclude-from.
abbrev pub with_rules : Selection → Found → List TypeRow → List (List ℕ) → Selection
with_rules s f rows contents =
    with_types
    (with_globs (with_folders (with_files s (values_rules (file_values f) contents)) (folder_rules (values_given f (codes "exclude-dir"))))
    (globs_given f))
    (types_given f rows)

-- What the options choose.
abbrev pub selection_given : Found → List TypeRow → List (List ℕ) → Selection
selection_given f rows contents = with_rules (selection_without_rules f) f rows contents

-- What they choose with the rules of the files of --ignore-file, each of which has a content.
abbrev pub ignore_files : Found → List (List ℕ)
ignore_files f = if is_set f (codes "no-ignore-files") then [] else values_given f (codes "ignore-file")

abbrev pub IsGiven : Found → List TypeRow → Selection → Type 0
IsGiven f rows s = (contents : List (List ℕ)) × ((ignored : List Rule) × (AreIgnored [] ignored (length (ignore_files f))
    × (s ≡ with_ignored (selection_given f rows contents) ignored)))

-- No file of rules is named but by --ignore-file, each glob and the size can be read and each type is known: then the options choose files
-- whatever the system does.
abbrev pub is_sure : Found → List TypeRow → Bool
is_sure f rows =
    gives_size f && (not (list_any (λ (v : Given). names_rules v.option) (file_values f)) && (gives_globs f && gives_types f rows))

-- ---- what is left out

abbrev pub rules_for : Selection → Bool → List Rule
rules_for s is_folder = if is_folder then s.folders else s.files

-- An argument that names a file or a folder is left out.
abbrev pub skips_named : Selection → Bool → List ℕ → Bool
skips_named s is_folder name = skips (rules_for s is_folder) true (chars name)

-- The rules of GNU grep's options leave out what has this path in a folder, by its name.
abbrev pub skips_entry : Selection → Bool → List ℕ → Bool
skips_entry s is_folder path = skips (rules_for s is_folder) false (file_name (chars path))

-- What the rules of --glob say of a path: whether it is searched, if one matches or if one chooses files.
abbrev pub chosen_by : Option Bool → List Rule → Bool → Option Bool
chosen_by (Some selects) rules is_folder = Some selects
chosen_by None rules is_folder = if list_any (λ (r : Rule). r.selects) rules && not is_folder then Some false else None

abbrev pub globs_say : Selection → Bool → List ℕ → Option Bool
globs_say s is_folder path = chosen_by (decided None s.globs is_folder false (without_dot (chars path))) s.globs is_folder

-- The types of files leave out what has this path, by its name. They don't leave out folders.
abbrev pub skips_type : Selection → Bool → List ℕ → Bool
skips_type s is_folder path = not is_folder && not (chooses s.types false (file_name (chars path)))

-- Where git's ignore files are read, git's own folder is left out.
abbrev pub is_git_folder : Selection → List ℕ → Bool
is_git_folder s path = (s.ignoring.reads && s.ignoring.git) && pointwise nat_eq (file_name (chars path)) (codes ".git")

-- Whether a rule of ignore files says that something is to be ignored.
abbrev pub is_ignoring : Option Bool → Bool
is_ignoring None = false
is_ignoring (Some is) = is

-- What all ignore files say of what is at this path. `said` is what those of folders say of it, which count before those of --ignore-file.
abbrev pub ignores_say : Selection → Option Bool → Bool → List ℕ → Option Bool
ignores_say s said is_folder path = or_else said (decided None s.ignored is_folder false (without_dot (chars path)))

-- What is at this path is to be ignored.
abbrev pub skips_ignored : Selection → Option Bool → Bool → List ℕ → Bool
skips_ignored s said is_folder path = is_git_folder s path || is_ignoring (ignores_say s said is_folder path)

-- The name of what is at this path begins with a dot.
abbrev pub is_hidden : List ℕ → Bool
is_hidden path = begins 46 (file_name (chars path))

-- A rule of ignore files says that something isn't to be ignored.
abbrev pub is_keeping : Option Bool → Bool
is_keeping None = false
is_keeping (Some is) = not is

-- Files are chosen by their types, and this is one of them.
abbrev pub has_type : Selection → Bool → List ℕ → Bool
has_type s is_folder path = not is_folder && is_ignoring (decided None s.types false false (file_name (chars path)))

-- What is at this path is hidden, and neither an ignore file nor its type chooses it.
abbrev pub skips_hidden : Selection → Option Bool → Bool → List ℕ → Bool
skips_hidden s said is_folder path =
    (s.hides && is_hidden path) && not (is_keeping (ignores_say s said is_folder path) || has_type s is_folder path)

-- What is at this path is left out by ignore files, by types or since it is hidden. This counts only if the globs say nothing.
abbrev pub skips_unnamed : Selection → Option Bool → Bool → List ℕ → Bool
skips_unnamed s said is_folder path =
    skips_ignored s said is_folder path || (skips_type s is_folder path || skips_hidden s said is_folder path)

-- A file has more bytes than a file may have. The size of other things isn't known.
abbrev pub is_too_large : Option ℕ → Option ℕ → Bool
is_too_large None size = false
is_too_large (Some most) None = false
is_too_large (Some most) (Some size) = nat_lt most size

abbrev pub skips_by_globs : Option Bool → Bool → Bool
skips_by_globs (Some chosen) other = not chosen
skips_by_globs None other = other

-- What is at this path, which was found in a folder and has this size, is left out.
abbrev pub skips_found : Selection → Option Bool → Bool → Option ℕ → List ℕ → Bool
skips_found s said is_folder size path =
    (is_too_large s.max_size size || skips_entry s is_folder path)
    || skips_by_globs (globs_say s is_folder path) (skips_unnamed s said is_folder path)

-- ---- how deep folders are searched

-- how many slashes there are in a part of a path
abbrev pub slashes : List ℕ → ℕ
slashes [] = 0
slashes (b ∷ bs) = if b == 47 then 1 + slashes bs else slashes bs

-- how many bytes a path has without the slashes at its end
abbrev pub base_len : List ℕ → ℕ
base_len path = kept_len is_slash 0 0 path

-- how deep a path is in the folder at `root`, in which it was found: 1 for an entry of that folder
abbrev pub depth_in : List ℕ → List ℕ → ℕ
depth_in root path = slashes (drop (base_len root) path)

-- whether a folder is searched that is this deep
abbrev pub enters : Option ℕ → ℕ → Bool
enters None depth = true
enters (Some most) depth = nat_lt depth most
