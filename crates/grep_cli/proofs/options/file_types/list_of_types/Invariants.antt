use denote.Shadow.{shadow}
use denote.Text.{Utf8}
use Rattle.std.proofs.Common.{◌≡◌, ◌++◌, [], drop, string_bytes}
use Rattle.grep_cli.specs.FileTypes.{rows_of, types_text}
use Rattle.grep_cli.proofs.options.file_types.list_of_types.Given as goal

abbrev pub invariant-loop-row : goal.invariant-loop-row
invariant-loop-row l = record {
  rows : string_bytes l.text ++ types_text l.previous (rows_of (drop l.row-index l.types)) ≡ types_text [] (rows_of l.types);
  text : shadow (Utf8 l.previous);
}
