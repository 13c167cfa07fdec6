-- The command line: the name under which its matches hold what was given for an option, its letter, its long name and what a use does.
use Rattle.std.specs.Prelude.{◌≡◌, ℕ, Bool, false, List, [], ◌∷◌, ◌++◌, map, codes, Option, Some, None, option_map}
use Rattle.clap.specs.Words.{items_of}
use Rattle.clap.specs.declared.builder.action.ArgAction.{ArgAction}
use Rattle.clap.specs.declared.builder.action.ArgAction.TheVariants.{Append, Help, Set, SetTrue, Version}
use Rattle.clap.specs.declared.builder.arg.Arg.{Arg}

pub record OptionRow : Type 0 where
  -- the name under which the matches hold what was given
  pub name : List ℕ
  -- `-c` has the letter "c"; no text where an option has no letter
  pub letter : List ℕ
  -- the letters that stand for the same option and that help leaves out
  pub other_letters : List ℕ
  pub long : Option (List ℕ)
  pub aliases : List (List ℕ)
  -- what a use does: set a value, add one, set a flag, or print something
  pub action : Option ArgAction
  -- the value of a use without one
  pub missing : List (List ℕ)
  -- the names of options that a use turns off
  pub turns_off : List (List ℕ)
  -- the names of options with which a use is an error
  pub excludes : List (List ℕ)
  pub is_global : Bool

abbrev pub letter_of : Option ℕ → List ℕ
letter_of None = []
letter_of (Some c) = c ∷ []

abbrev pub option_row : Arg → OptionRow
option_row a = record {
  name = a.id.now;
  letter = letter_of a.short;
  other_letters = map (λ alias. alias.0) a.short_aliases.items;
  long = option_map (λ s. s.now) a.long;
  aliases = map (λ alias. alias.0.now) a.aliases.items;
  action = a.action;
  missing = map (λ s. s.now) (items_of a.default_missing_vals);
  turns_off = map (λ s. s.now) a.overrides.items;
  excludes = map (λ s. s.now) a.conflicts.items;
  is_global = a.global;
}

abbrev pub option_rows : List Arg → List OptionRow
option_rows = map option_row

-- these options were added at the end
pub record AddsOptions (old new : List Arg) (rows : List OptionRow) : Type 0 where
  pub added : option_rows new ≡ option_rows old ++ rows

-- An option whose long name is the name under which its value is held.
abbrev pub option : List ℕ → List ℕ → ArgAction → OptionRow
option name letter action = record {
  name = name;
  letter = letter;
  other_letters = [];
  long = Some name;
  aliases = [];
  action = Some action;
  missing = [];
  turns_off = [];
  excludes = [];
  is_global = false;
}

-- an option that takes no value
abbrev pub flag : List ℕ → List ℕ → OptionRow
flag name letter = option name letter SetTrue

-- an option that turns off another one
abbrev pub flag_over : List ℕ → List ℕ → List ℕ → OptionRow
flag_over name letter other = record (flag name letter) { turns_off = other ∷ [] }

abbrev pub list_options : List OptionRow
list_options =
    option (codes "regexp") (codes "e") Append
    ∷ option (codes "file") (codes "f") Append
    ∷ option (codes "directory") [] Append
    ∷ []

-- an option with which another one is an error
abbrev pub flag_without : List ℕ → List ℕ → List ℕ → OptionRow
flag_without name letter other = record (flag name letter) { excludes = other ∷ [] }

-- Patterns are strings or have the one syntax, so that the first two change nothing. Of them and -F no two go together. With the last
-- one the program fails.
abbrev pub syntax_options : List OptionRow
syntax_options =
    flag_without (codes "extended-regexp") (codes "E") (codes "fixed-strings")
    ∷ flag_without (codes "perl-regexp") (codes "P") (codes "extended-regexp")
    ∷ flag_without (codes "fixed-strings") (codes "F") (codes "perl-regexp")
    ∷ flag (codes "basic-regexp") (codes "G")
    ∷ []

abbrev pub ignore_option : OptionRow
ignore_option = record (flag (codes "ignore-case") (codes "i")) {
  other_letters = codes "y";
  turns_off = codes "smart-case" ∷ codes "no-ignore-case" ∷ [];
}

abbrev pub no_ignore_option : OptionRow
no_ignore_option = record (flag (codes "no-ignore-case") []) { turns_off = codes "smart-case" ∷ codes "ignore-case" ∷ [] }

abbrev pub smart_option : OptionRow
smart_option = record (flag (codes "smart-case") (codes "S")) { turns_off = codes "ignore-case" ∷ codes "no-ignore-case" ∷ [] }

-- Of these the last one takes effect.
abbrev pub case_options : List OptionRow
case_options =
    ignore_option
    ∷ no_ignore_option
    ∷ smart_option
    ∷ []

abbrev pub selecting_options : List OptionRow
selecting_options =
    flag (codes "word-regexp") (codes "w")
    ∷ flag (codes "line-regexp") (codes "x")
    ∷ flag (codes "invert-match") (codes "v")
    ∷ []

abbrev pub quiet_option : OptionRow
quiet_option = record (flag (codes "quiet") (codes "q")) { aliases = codes "silent" ∷ [] }

-- Of these two the later one takes effect.
abbrev pub count_options : List OptionRow
count_options =
    flag_over (codes "count") (codes "c") (codes "count-matches")
    ∷ flag_over (codes "count-matches") [] (codes "count")
    ∷ []

abbrev pub printing_options : List OptionRow
printing_options =
    count_options
    ++ (flag (codes "only-matching") (codes "o")
    ∷ flag (codes "no-messages") (codes "s")
    ∷ flag_over (codes "line-number") (codes "n") (codes "no-line-number")
    ∷ flag_over (codes "no-line-number") (codes "N") (codes "line-number")
    ∷ flag (codes "byte-offset") (codes "b")
    ∷ quiet_option
    ∷ [])

abbrev pub directories_option : OptionRow
directories_option =
    record (option (codes "directories") (codes "d") Set) { turns_off = codes "recursive" ∷ codes "dereference-recursive" ∷ [] }

-- What is done with folders and with devices. Of the first three the last one takes effect.
abbrev pub folder_options : List OptionRow
folder_options =
    flag_over (codes "recursive") (codes "r") (codes "directories")
    ∷ flag_over (codes "dereference-recursive") (codes "R") (codes "directories")
    ∷ directories_option
    ∷ option (codes "devices") (codes "D") Set
    ∷ []

-- Which files are searched.
abbrev pub glob_options : List OptionRow
glob_options =
    option (codes "include") [] Append
    ∷ option (codes "exclude") [] Append
    ∷ option (codes "exclude-from") [] Append
    ∷ option (codes "exclude-dir") [] Append
    ∷ option (codes "glob") (codes "g") Append
    ∷ []

-- Files by their types. The third of these prints the types instead of a search. The last two change which types there are.
abbrev pub type_options : List OptionRow
type_options =
    option (codes "type") (codes "t") Append
    ∷ option (codes "type-not") [] Append
    ∷ flag (codes "type-list") []
    ∷ option (codes "type-add") [] Append
    ∷ option (codes "type-clear") [] Append
    ∷ []

-- Ignore files. Of the first three the last one takes effect.
abbrev pub ignore_switches : List OptionRow
ignore_switches =
    flag_over (codes "ignore") [] (codes "no-ignore")
    ∷ flag_over (codes "no-ignore") [] (codes "ignore")
    ∷ flag_over (codes "unrestricted") (codes "u") (codes "ignore")
    ∷ option (codes "ignore-file") [] Append
    ∷ []

-- which ignore files of folders are read
abbrev pub ignore_limits : List OptionRow
ignore_limits =
    flag (codes "no-ignore-vcs") []
    ∷ flag (codes "no-ignore-dot") []
    ∷ flag (codes "no-ignore-parent") []
    ∷ flag (codes "no-require-git") []
    ∷ flag (codes "no-ignore-exclude") []
    ∷ flag (codes "no-ignore-files") []
    ∷ []

-- globs in which letters match in either case
abbrev pub glob_cases : List OptionRow
glob_cases =
    option (codes "iglob") [] Append
    ∷ flag (codes "glob-case-insensitive") []
    ∷ []

abbrev pub ignore_options : List OptionRow
ignore_options = ignore_switches ++ (ignore_limits ++ glob_cases)

-- Files and folders whose name begins with a dot. Of these two the later one takes effect.
abbrev pub hidden_options : List OptionRow
hidden_options =
    flag_over (codes "hidden") [] (codes "no-hidden")
    ∷ flag_over (codes "no-hidden") [] (codes "hidden")
    ∷ []

-- how deep folders are searched, how large files are, in which order they are searched, and whether their names are printed instead
abbrev pub found_options : List OptionRow
found_options =
    option (codes "max-depth") [] Set
    ∷ option (codes "max-filesize") [] Set
    ∷ option (codes "sort") [] Set
    ∷ flag (codes "files") []
    ∷ []

abbrev pub file_options : List OptionRow
file_options = glob_options ++ (type_options ++ (hidden_options ++ (found_options ++ ignore_options)))

abbrev pub paired_options : List OptionRow
paired_options =
    flag_over (codes "with-filename") (codes "H") (codes "no-filename")
    ∷ flag_over (codes "no-filename") (codes "h") (codes "with-filename")
    ∷ flag_over (codes "files-with-matches") (codes "l") (codes "files-without-match")
    ∷ flag_over (codes "files-without-match") (codes "L") (codes "files-with-matches")
    ∷ []

-- Of these and `passthru` the later one takes effect.
abbrev pub context_option : List ℕ → List ℕ → OptionRow
context_option name letter = record (option name letter Set) { turns_off = codes "passthru" ∷ [] }

abbrev pub number_options : List OptionRow
number_options =
    option (codes "max-count") (codes "m") Set
    ∷ context_option (codes "after-context") (codes "A")
    ∷ context_option (codes "before-context") (codes "B")
    ∷ context_option (codes "context") (codes "C")
    ∷ []

-- Of these two the later one takes effect.
abbrev pub given_separator : OptionRow
given_separator = record (option (codes "group-separator") [] Set) { turns_off = codes "no-group-separator" ∷ [] }

abbrev pub no_separator : OptionRow
no_separator = flag_over (codes "no-group-separator") [] (codes "group-separator")

abbrev pub passthru_option : OptionRow
passthru_option = record (flag (codes "passthru") []) {
  aliases = codes "passthrough" ∷ [];
  turns_off = codes "after-context" ∷ codes "before-context" ∷ codes "context" ∷ [];
}

-- Which lines are printed, and how. Of the first two the later one takes effect.
abbrev pub line_options : List OptionRow
line_options =
    flag_over (codes "column") [] (codes "no-column")
    ∷ flag_over (codes "no-column") [] (codes "column")
    ∷ flag (codes "vimgrep") []
    ∷ flag (codes "trim") []
    ∷ option (codes "max-columns") (codes "M") Set
    ∷ flag (codes "max-columns-preview") []
    ∷ passthru_option
    ∷ option (codes "replace") [] Set
    ∷ []

-- what separates fields, and the parts of names
abbrev pub separator_options : List OptionRow
separator_options =
    option (codes "field-match-separator") [] Set
    ∷ option (codes "field-context-separator") [] Set
    ∷ option (codes "path-separator") [] Set
    ∷ []

-- Names above lines. Of the first two the later one takes effect.
abbrev pub heading_options : List OptionRow
heading_options =
    flag_over (codes "heading") [] (codes "no-heading")
    ∷ flag_over (codes "no-heading") [] (codes "heading")
    ∷ flag (codes "pretty") (codes "p")
    ∷ []

-- what stands between names, numbers, lines and groups of lines
abbrev pub spacing_options : List OptionRow
spacing_options =
    flag (codes "null") (codes "Z")
    ∷ flag (codes "initial-tab") (codes "T")
    ∷ given_separator
    ∷ no_separator
    ∷ []

-- the format of what is printed
abbrev pub format_options : List OptionRow
format_options = spacing_options ++ (line_options ++ (separator_options ++ heading_options))

-- Which files with zero bytes are text. Of these three the last one takes effect. The last of them has no long name.
abbrev pub text_option : OptionRow
text_option = record (flag (codes "text") (codes "a")) { turns_off = codes "binary-files" ∷ codes "skip-binary" ∷ [] }

abbrev pub given_type : OptionRow
given_type = record (option (codes "binary-files") [] Set) { turns_off = codes "text" ∷ codes "skip-binary" ∷ [] }

abbrev pub short_flag : List ℕ → List ℕ → OptionRow
short_flag name letter = record (flag name letter) { long = None }

abbrev pub skip_option : OptionRow
skip_option = record (short_flag (codes "skip-binary") (codes "I")) { turns_off = codes "text" ∷ codes "binary-files" ∷ [] }

abbrev pub binary_options : List OptionRow
binary_options =
    text_option
    ∷ given_type
    ∷ skip_option
    ∷ []

-- These change nothing: no carriage return is removed, lines are written before more input is read, counts of 0 are printed, and no file is
-- converted from another encoding.
abbrev pub accepted_options : List OptionRow
accepted_options =
    flag (codes "binary") (codes "U")
    ∷ flag (codes "line-buffered") []
    ∷ flag (codes "include-zero") []
    ∷ option (codes "encoding") [] Set
    ∷ []

-- Records that end in zero bytes. Of this option and `crlf` the later one takes effect.
abbrev pub null_option : OptionRow
null_option = record (flag (codes "null-data") (codes "z")) {
  turns_off = codes "crlf" ∷ [];
  excludes = codes "multiline" ∷ codes "json" ∷ [];
}

-- Matches over several lines. Of the first two the later one takes effect, and of the last two.
abbrev pub text_options : List OptionRow
text_options =
    flag_over (codes "multiline") [] (codes "no-multiline")
    ∷ flag_over (codes "no-multiline") [] (codes "multiline")
    ∷ flag_over (codes "multiline-dotall") [] (codes "no-multiline-dotall")
    ∷ flag_over (codes "no-multiline-dotall") [] (codes "multiline-dotall")
    ∷ []

abbrev pub json_option : OptionRow
json_option = record (flag (codes "json") []) {
  turns_off = codes "no-json" ∷ [];
  excludes = codes "count" ∷ codes "count-matches" ∷ codes "files" ∷ codes "files-with-matches" ∷ codes "files-without-match" ∷ [];
}

-- JSON instead of lines. Of these two the later one takes effect.
abbrev pub json_options : List OptionRow
json_options =
    json_option
    ∷ flag_over (codes "no-json") [] (codes "json")
    ∷ []

-- Inputs that are read as a whole, and how large they may be.
abbrev pub input_options : List OptionRow
input_options = null_option ∷ (text_options ++ (json_options ++ option (codes "max-size") [] Set ∷ []))

-- A use of this option without a value counts as `auto`.
abbrev pub color_option : OptionRow
color_option = record (option (codes "color") [] Set) { aliases = codes "colour" ∷ []; missing = codes "auto" ∷ [] }

-- The operands, which belong to no option.
abbrev pub words_option : OptionRow
words_option = record (option (codes "words") [] Append) { long = None }

abbrev pub other_options : List OptionRow
other_options =
    color_option
    ∷ option (codes "label") [] Set
    ∷ flag_over (codes "crlf") [] (codes "null-data")
    ∷ flag (codes "stats") []
    ∷ option (codes "help") [] Help
    ∷ option (codes "version") (codes "V") Version
    ∷ flag (codes "report-input") []
    ∷ words_option
    ∷ []

-- all options, in the order in which they are listed
abbrev pub options : List OptionRow
options =
    list_options
    ++ (syntax_options
    ++ (case_options
    ++ (selecting_options
    ++ (printing_options
    ++ (folder_options
    ++ (file_options ++ (paired_options ++ (number_options ++ (binary_options ++ (accepted_options ++ (format_options ++ (input_options ++ other_options))))))))))))
