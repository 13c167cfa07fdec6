-- What single options ask for. Options are identified by their long names, under which the matches of the command line hold what was given.
use Rattle.std.specs.Prelude.{ℕ, Bool, true, false, not, ◌&&◌, ◌||◌, nat_lt, List, codes, Option, Some, None, is_some, if◌then◌else◌}
use Rattle.clap.specs.Words.{first_value}
use Rattle.clap.specs.declared.parser.matches.Found.{Found}
use Rattle.grep_options.specs.Options.{is_set, is_text}
use Rattle.grep_cli.specs.declared.options.flags.Devices.{Devices}
use Rattle.grep_cli.specs.declared.options.flags.Devices.TheVariants.{ReadAll, ReadNamed, SkipAll}
use Rattle.grep_cli.specs.declared.options.flags.Directories.{Directories}
use Rattle.grep_cli.specs.declared.options.flags.Directories.TheVariants.{Reject, Recurse, Skip}
use Rattle.grep_cli.specs.declared.options.flags.Names.{Names}
use Rattle.grep_cli.specs.declared.options.flags.Names.TheVariants.{Always, Never, IfSeveral}

-- --color: some words mark what goes to a terminal that supports colours, and some what goes anywhere.
abbrev pub color_by : Option (List ℕ) → Bool → Bool
color_by word is_colorful =
    if is_text (codes "always") word || is_text (codes "yes") word || is_text (codes "force") word then true
    else if is_text (codes "auto") word || is_text (codes "tty") word || is_text (codes "if-tty") word then is_colorful
    else false

-- --color, -p, --vimgrep: without the first one the second one marks what is printed, and the third one doesn't.
abbrev pub color_of : Found → Bool → Bool
color_of f is_colorful =
    if is_some (first_value f (codes "color")) then color_by (first_value f (codes "color")) is_colorful
    else is_set f (codes "pretty") && not (is_set f (codes "vimgrep"))

-- --heading, -p, --no-heading, --vimgrep, --json: the name of a file is printed once above its lines. The last three take precedence.
abbrev pub has_heading : Found → Bool
has_heading f =
    if is_set f (codes "no-heading") || (is_set f (codes "vimgrep") || is_set f (codes "json")) then false
    else is_set f (codes "heading") || is_set f (codes "pretty")

-- -h, -H, --vimgrep
abbrev pub asked_names : Found → Names
asked_names f =
    if is_set f (codes "no-filename") then Never
    else if is_set f (codes "with-filename") || is_set f (codes "vimgrep") then Always
    else IfSeveral

-- -d, -r, -R: what is done with a folder that an argument names. Of these options the last one has turned off the others.
abbrev pub directories_by : Option (List ℕ) → Bool → Directories
directories_by action recursive =
    if is_text (codes "skip") action then Skip
    else if is_text (codes "recurse") action then Recurse
    else if recursive then Recurse
    else Reject

-- -D: which devices are read. With -R all are, unless -D skips them.
abbrev pub devices_by : Option (List ℕ) → Bool → Devices
devices_by action follows =
    if is_text (codes "skip") action then SkipAll
    else if is_text (codes "read") action then ReadAll
    else if follows then ReadAll
    else ReadNamed

-- -n, -p, --column, --vimgrep, --json, -N: numbers of lines are printed. The last one takes precedence, and has turned off -n.
abbrev pub has_numbers : Found → Bool
has_numbers f =
    not (is_set f (codes "no-line-number"))
    && (is_set f (codes "line-number") || is_set f (codes "pretty") || is_set f (codes "column") || is_set f (codes "vimgrep")
    || is_set f (codes "json"))

-- --column, --vimgrep, --no-column: columns are printed. The last one takes precedence.
abbrev pub has_columns : Found → Bool
has_columns f = not (is_set f (codes "no-column")) && (is_set f (codes "column") || is_set f (codes "vimgrep"))

-- -M: the greatest number of bytes of a line that is printed. 0 is no limit.
abbrev pub most_bytes_by : Option ℕ → Option ℕ
most_bytes_by None = None
most_bytes_by (Some n) = if nat_lt 0 n then Some n else None

-- --replace: the template by which matches are replaced, if it is given. With --json nothing is replaced.
abbrev pub template_given : Found → Option (List ℕ)
template_given f = if is_set f (codes "json") then None else first_value f (codes "replace")

-- -z: the byte that ends lines.
abbrev pub terminator_given : Found → ℕ
terminator_given f = if is_set f (codes "null-data") then 0 else 10

-- Whether names are printed before lines, depending on whether several files may be searched.
abbrev pub shows_names : Names → Bool → Bool
shows_names Always several = true
shows_names Never several = false
shows_names IfSeveral several = several

-- Devices that are found in folders are read.
abbrev pub reads_found : Devices → Bool
reads_found ReadAll = true
reads_found ReadNamed = false
reads_found SkipAll = false

-- Devices that arguments name are read.
abbrev pub reads_named : Devices → Bool
reads_named ReadAll = true
reads_named ReadNamed = true
reads_named SkipAll = false
