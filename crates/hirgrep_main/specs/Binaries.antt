-- What is printed of inputs with zero bytes, under --binary-files and -I.
use Rattle.std.specs.Prelude.{ℕ, Bool, false, ◌&&◌, nat_lt, Result, Ok, Err, if◌then◌else◌}
use Rattle.line_search.specs.declared.fault.Fault.{Fault}
use Rattle.grep_core.specs.declared.output_options.OutputOptions.{OutputOptions}
use Rattle.grep_core.specs.declared.output_options.Print.{Print}
use Rattle.grep_core.specs.declared.output_options.Print.TheVariants.{Nothing}
use Rattle.grep_core.specs.Reporting.{prints_lines}
use Rattle.grep_cli.specs.Inputs.{notices}
use Rattle.grep_cli.specs.declared.inputs.binary.Binary.{Binary}

-- The lines or matches of a binary input aren't printed if it is only reported that it matches.
abbrev pub options_by : Binary → Bool → OutputOptions → OutputOptions
options_by binary zero w = if (notices binary && zero) && prints_lines w.print then record w { print = Nothing } else w

-- It is reported that a binary input has a selected line, instead of its lines.
abbrev pub is_noticed : Binary → Print → Bool → Result ℕ Fault → Bool
is_noticed binary print zero (Ok lines) = ((notices binary && zero) && prints_lines print) && nat_lt 0 lines
is_noticed binary print zero (Err fault) = false
