-- The options of the grammar with which patterns are parsed.
use Rattle.std.specs.Prelude.{false}
use Rattle.regex_syntax.specs.declared.Config.{Config}
use Rattle.hirhead.specs.declared.pattern_options.PatternOptions.{PatternOptions}

abbrev pub config_of : PatternOptions → Config
config_of how = record {
  flags = record {
    case_insensitive = how.ignore_case;
    multi_line = how.multi_line;
    dot_matches_new_line = how.dot_matches_new_line;
    swap_greed = how.swap_greed;
    unicode = how.unicode;
    crlf = how.crlf;
    ignore_whitespace = false;
  };
  octal = false;
  utf8 = how.utf8;
  nest_limit = how.nest_limit;
}
