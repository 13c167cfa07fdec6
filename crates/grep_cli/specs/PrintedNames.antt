-- Names and other strings that are printed, without the control characters that could change what a terminal shows or does.
use Rattle.std.specs.Prelude.{ℕ, Bool, ◌&&◌, not, List, chars, encode_utf8_all, if◌then◌else◌, map, string_bytes}
use Rattle.std.specs.Char.{is_control}
use Rattle.grep_cli.specs.declared.results.shown.PrintedName.{PrintedName}
use Rattle.grep_cli.specs.declared.results.shown.PrintedName.TheVariants.{Given, Made}

-- The character that is shown for this one in messages and at a terminal: a question mark for a control character.
abbrev pub shown_char : ℕ → ℕ
shown_char c = if is_control c then 63 else c

-- Control characters of names are hidden if standard output is a terminal, unless zero bytes end names.
abbrev pub hides_controls : Bool → Bool → Bool
hides_controls is_terminal zero_names = is_terminal && not zero_names

-- A name with a question mark for each control character.
abbrev pub without_controls : List ℕ → List ℕ
without_controls name = encode_utf8_all (map shown_char (chars name))

-- A name as it is printed, given whether control characters are hidden.
abbrev pub printed_name : Bool → List ℕ → List ℕ
printed_name hides name = if hides then without_controls name else name

-- The bytes of a name that is as it was given, or that was made of it.
abbrev pub name_bytes : PrintedName → List ℕ
name_bytes (Given name) = name.now
name_bytes (Made name) = string_bytes name
