-- How inputs are read: line by line or as a whole, and what is searched of those with zero bytes.
use Rattle.std.specs.Prelude.{ℕ, ◌^◌, ◌==◌, Bool, true, false, not, ◌&&◌, ◌||◌, List, [], map, take, codes, Option, option_and_then, option_map, unwrap_or, if◌then◌else◌}
use Rattle.std.specs.List.{list_any}
use Rattle.clap.specs.Words.{first_value}
use Rattle.clap.specs.declared.parser.matches.Found.{Found}
use Rattle.grep_options.specs.Options.{is_set, is_text}
use Rattle.grep_options.specs.Sizes.{size_of}
use Rattle.grep_cli.specs.declared.inputs.binary.Binary.{Binary}
use Rattle.grep_cli.specs.declared.inputs.binary.Binary.TheVariants.{AsText, Notice, NoMatch}
use Rattle.grep_cli.specs.declared.inputs.reading.Reading.{Reading}
use Rattle.grep_cli.specs.declared.inputs.reading.Reading.TheVariants.{Lines, Records, Text, Events, TextEvents}

-- -z, --multiline, --json: the first one goes with none of the others. The last one decides how lines are printed, and with -q none is.
abbrev pub reading_given : Found → Reading
reading_given f =
    if is_set f (codes "json") && not (is_set f (codes "quiet")) then (if is_set f (codes "multiline") then TextEvents else Events)
    else if is_set f (codes "multiline") then Text
    else if is_set f (codes "null-data") then Records
    else Lines

-- -z, --multiline-dotall: the dot matches line feeds. The second one takes effect with --multiline alone.
abbrev pub dot_matches_feeds : Found → Bool
dot_matches_feeds f = is_set f (codes "null-data") || (is_set f (codes "multiline") && is_set f (codes "multiline-dotall"))

-- --max-size: how many bytes an input has at most that is read as a whole. A GiB, if it isn't given.
abbrev pub most_given : Found → ℕ
most_given f = unwrap_or (option_and_then size_of (first_value f (codes "max-size"))) (2 ^ 30)

-- All matches in an input are listed, whatever is printed of it.
abbrev pub lists_all : Reading → Bool
lists_all Lines = false
lists_all Records = false
lists_all Text = true
lists_all Events = true
lists_all TextEvents = true

abbrev pub prints_json : Reading → Bool
prints_json Lines = false
prints_json Records = false
prints_json Text = false
prints_json Events = true
prints_json TextEvents = true

-- An input is read line by line, and never held as a whole.
abbrev pub is_by_lines : Reading → Bool
is_by_lines Lines = true
is_by_lines Records = false
is_by_lines Text = false
is_by_lines Events = false
is_by_lines TextEvents = false

-- ---- inputs with zero bytes

-- --binary-files, -I: of these options and -a the last one has turned off the others.
abbrev pub binary_by : Option (List ℕ) → Bool → Binary
binary_by word skips =
    if is_text (codes "binary") word then Notice
    else if is_text (codes "without-match") word then NoMatch
    else if skips then NoMatch
    else AsText

-- How many bytes at the beginning of an input decide whether it is binary.
abbrev pub first_len : ℕ
first_len = 98304

-- The bytes at the beginning of an input that are read before its search: none if every input is text.
abbrev pub read_ahead : Binary → List ℕ → List ℕ
read_ahead AsText text = []
read_ahead Notice text = take first_len text
read_ahead NoMatch text = take first_len text

abbrev pub has_zero : List ℕ → Bool
has_zero bytes = list_any (λ b. b == 0) bytes

-- There is a zero byte among the first bytes.
abbrev pub is_binary : List ℕ → Bool
is_binary text = has_zero (take first_len text)

abbrev pub zero_as_feed : ℕ → ℕ
zero_as_feed b = if b == 0 then 10 else b

-- The bytes that are searched of an input, given whether it is binary. Then zero bytes end lines, or there is no line.
abbrev pub searched_bytes : Binary → Bool → List ℕ → List ℕ
searched_bytes AsText zero text = text
searched_bytes Notice zero text = if zero then map zero_as_feed text else text
searched_bytes NoMatch zero text = if zero then [] else text

abbrev pub with_feeds : Option (List ℕ) → Option (List ℕ)
with_feeds known = option_map (map zero_as_feed) known

abbrev pub remaining_of : Binary → Bool → Option (List ℕ) → Option (List ℕ)
remaining_of binary zero known = option_map (searched_bytes binary zero) known

abbrev pub notices : Binary → Bool
notices AsText = false
notices Notice = true
notices NoMatch = false
