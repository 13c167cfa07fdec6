-- What each option asks for. Options are identified by their long names, under which the matches of the command line hold what was given.
use Rattle.std.specs.Prelude.{ℕ, ◌^◌, ◌-◌, Bool, not, ◌&&◌, ◌||◌, List, codes, Option, Some, None, unwrap_or, if◌then◌else◌}
use Rattle.std.specs.Borrow.{Bor}
use Rattle.std.specs.Option.{option_or}
use Rattle.clap.specs.Words.{first_value}
use Rattle.clap.specs.declared.parser.matches.Found.{Found}
use Rattle.grep_options.specs.Options.{is_set, limit_given, number_given}
use Rattle.grep_core.specs.declared.colors.Colors.{Colors}
use Rattle.line_search.specs.declared.patterns.PatternOptions.{PatternOptions}
use Rattle.grep_core.specs.declared.output_options.Context.{Context}
use Rattle.grep_core.specs.declared.output_options.Print.{Print}
use Rattle.grep_core.specs.declared.output_options.Print.TheVariants.{Lines, Matches, Count, CountMatches, NameIfAny, NameIfNone, Nothing}
use Rattle.grep_core.specs.declared.output_options.GroupSeparator.{GroupSeparator}
use Rattle.grep_core.specs.declared.output_options.OutputOptions.{OutputOptions}
use Rattle.grep_cli.specs.Flags.{asked_names, color_of, devices_by, directories_by, has_columns, has_heading, has_numbers, most_bytes_by, terminator_given}
use Rattle.grep_cli.specs.Inputs.{binary_by, dot_matches_feeds, most_given, reading_given}
use Rattle.grep_cli.specs.SmartCase.{ignores_case}
use Rattle.hirgrep_main.specs.declared.options.asked.Asked.{Asked}
use Rattle.grep_cli.specs.declared.inputs.binary.Binary.{Binary}
use Rattle.grep_cli.specs.declared.inputs.binary.Binary.TheVariants.{AsText}
use Rattle.hirgrep_main.specs.declared.options.asked.Texts.{Texts}

-- -F, -i, -x, -w, --crlf, --multiline, -z, --multiline-dotall: how patterns are interpreted.
abbrev pub how_of : Found → PatternOptions
how_of f = record {
  fixed = is_set f (codes "fixed-strings");
  ignore_case = is_set f (codes "ignore-case");
  lines = is_set f (codes "line-regexp");
  words = is_set f (codes "word-regexp");
  crlf = is_set f (codes "crlf");
  text = is_set f (codes "multiline");
  null = dot_matches_feeds f;
}

-- -q, -L, -l, -c, --count-matches, -o: of several options, the one that prints least takes effect. Of -c and --count-matches the later one
-- has turned off the other. Lines that -v selects have no matches, and are counted themselves. With --json, -o changes nothing.
abbrev pub print_of : Found → Print
print_of f =
    if is_set f (codes "quiet") then Nothing
    else if is_set f (codes "files-without-match") then NameIfNone
    else if is_set f (codes "files-with-matches") then NameIfAny
    else if is_set f (codes "count") then Count
    else if is_set f (codes "count-matches") then (if is_set f (codes "invert-match") then Count else CountMatches)
    else if is_set f (codes "only-matching") && not (is_set f (codes "json")) then Matches
    else Lines

-- The numbers of lines before and after each selected line, if either is asked for.
abbrev pub context_by : Option ℕ → Option ℕ → Option Context
context_by None None = None
context_by (Some before) after = Some (record { before = before; after = unwrap_or after 0; first = 0 })
context_by None (Some after) = Some (record { before = 0; after = after; first = 0 })

-- All lines that aren't selected are context lines.
abbrev pub all_lines : Option Context
all_lines = Some (record { before = 0; after = 2 ^ 64 - 1; first = 2 ^ 64 - 1 })

-- -B, -A, -C, --passthru: the first two take precedence over the third. The last one and the others have turned off each other.
abbrev pub context_of : Found → Option Context
context_of f = if is_set f (codes "passthru") then all_lines else context_by (option_or (number_given f (codes "before-context")) (number_given f (codes "context")))
    (option_or (number_given f (codes "after-context")) (number_given f (codes "context")))

-- --group-separator, --no-group-separator: the text between groups of lines. Of the two options the later one has turned off the other.
-- --passthru: there are no groups.
abbrev pub group_given : Found → Option (List ℕ)
group_given f =
    if is_set f (codes "no-group-separator") || is_set f (codes "passthru") then None
    else Some (unwrap_or (first_value f (codes "group-separator")) (codes "--"))

-- --binary-files, -I, -z: what is printed of inputs with zero bytes. With the last one these end records, and every input is text.
abbrev pub binary_given : Found → Binary
binary_given f =
    if is_set f (codes "null-data") then AsText
    else binary_by (first_value f (codes "binary-files")) (is_set f (codes "skip-binary"))

-- --color, with these colours
abbrev pub colors_of : Found → Bool → Colors → Option Colors
colors_of f is_colorful colors = if color_of f is_colorful then Some colors else None

-- -v, -b, -m, -Z, -T, --trim, --max-columns-preview, and what is above. The width of numbers depends on the input. The colours are given, and
-- so are the separators of --field-match-separator and --field-context-separator, and the template of --replace.
abbrev pub what_of : Found → Bool → Texts → GroupSeparator → Option (Bor (List ℕ)) → OutputOptions
what_of f is_colorful texts groups replacement = record {
  invert = is_set f (codes "invert-match");
  print = print_of f;
  numbers = has_numbers f;
  columns = has_columns f;
  each_match = is_set f (codes "vimgrep");
  offsets = is_set f (codes "byte-offset");
  context = context_of f;
  most = limit_given f (codes "max-count");
  color = colors_of f is_colorful texts.colors;
  match_separator = texts.match_separator;
  context_separator = texts.context_separator;
  zero_names = is_set f (codes "null");
  initial_tab = is_set f (codes "initial-tab");
  trim = is_set f (codes "trim");
  most_bytes = most_bytes_by (number_given f (codes "max-columns"));
  preview = is_set f (codes "max-columns-preview");
  width = 0;
  groups = groups;
  replacement = replacement;
  terminator = terminator_given f;
}

-- -S, -R, -s, --stats, --max-size, and what is above
abbrev pub asked_of : Found → Bool → Texts → GroupSeparator → Option (Bor (List ℕ)) → Asked
asked_of f is_colorful texts groups replacement = record {
  how = how_of f;
  smart_case = is_set f (codes "smart-case");
  what = what_of f is_colorful texts groups replacement;
  binary = binary_given f;
  names = asked_names f;
  directories = directories_by (first_value f (codes "directories"))
      (is_set f (codes "recursive") || is_set f (codes "dereference-recursive"));
  follows = is_set f (codes "dereference-recursive");
  devices = devices_by (first_value f (codes "devices")) (is_set f (codes "dereference-recursive"));
  silent = is_set f (codes "no-messages");
  stats = is_set f (codes "stats");
  reports_input = is_set f (codes "report-input");
  heading = has_heading f;
  reading = reading_given f;
  most_read = most_given f;
  path_separator = texts.path_separator;
}

-- What is asked for, if these patterns are searched for: with -S they decide about the case of letters.
abbrev pub with_case : Asked → List (List ℕ) → Asked
with_case a texts = record a { how = record (a.how) { ignore_case = a.how.ignore_case || (a.smart_case && ignores_case texts) } }
