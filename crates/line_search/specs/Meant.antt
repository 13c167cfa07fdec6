-- How patterns are interpreted: in which form each is parsed, and under which options.
use Rattle.std.specs.Prelude.{ℕ, Bool, ◌&&◌, false, List, chars, encode_utf8_all, if◌then◌else◌}
use Rattle.regex_syntax.specs.declared.Config.{Config}
use Rattle.regex_syntax.specs.Verdict.{default_config, escaped_text}
use Rattle.line_search.specs.declared.patterns.PatternOptions.{PatternOptions}

-- A pattern in the syntax that is parsed. A fixed string is escaped, so that it matches itself.
abbrev pub written : Bool → List ℕ → List ℕ
written fixed pattern = if fixed then encode_utf8_all (escaped_text (chars pattern)) else pattern

-- The options under which each pattern is parsed, by itself. Any bytes can match, whether they are UTF-8 or not. In a text `^` and `$` match
-- at the edges of its lines.
abbrev pub line_config : PatternOptions → Config
line_config how = record default_config {
  utf8 = false;
  flags = record (default_config.flags) {
    case_insensitive = how.ignore_case;
    dot_matches_new_line = how.null;
    multi_line = how.text;
    crlf = how.text && how.crlf;
  };
}
