-- What the reading of inputs asks of searches, and what is printed at the end.
use Rattle.std.specs.Prelude.{Bool, ◌&&◌, ◌||◌}
use Rattle.grep_core.specs.Reporting.{needs_spans, prints_lines}
use Rattle.grep_core.specs.declared.output_options.OutputOptions.{OutputOptions}
use Rattle.grep_cli.specs.Inputs.{lists_all, prints_json}
use Rattle.grep_cli.specs.declared.inputs.reading.Reading.{Reading}
use Rattle.hirgrep_main.specs.declared.options.asked.Asked.{Asked}

-- Where matches are is asked for, and not only whether there are any.
abbrev pub lists_in : Reading → OutputOptions → Bool
lists_in r w = lists_all r || needs_spans w

abbrev pub lists_matches : Asked → Bool
lists_matches a = lists_in a.reading a.what

-- --json, -q: a summary is printed at the end.
abbrev pub prints_summary : Asked → Bool
prints_summary a = prints_json a.reading && prints_lines a.what.print
