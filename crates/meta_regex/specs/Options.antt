-- How the patterns of a regex are parsed, and how its automata are built.
use Rattle.std.specs.Prelude.{Some, true}
use Rattle.regex_syntax.specs.declared.Config.{Config}
use Rattle.look_core.specs.Terminators.{one_of}
use Rattle.search_types.specs.declared.match_kind.MatchKind.{MatchKind}
use Rattle.lazy_dfa.specs.ConfigValue.{DfaOptions, no_dfa_options}
use Rattle.hir_regex.specs.declared.settings.Settings.{Settings}
use Rattle.meta_regex.specs.declared.options.Options.{Options}

-- How the grammar parses the patterns.
abbrev pub config_of : Options → Config
config_of o = o.syntax

-- The options of the automata of a regex that finds matches of this kind.
abbrev pub dfa_options_of : Options → MatchKind → DfaOptions
dfa_options_of o kind = record no_dfa_options {
  match_kind = Some kind;
  unicode_word_boundary = Some true;
  byte_classes = Some o.byte_classes;
  skip_cache_capacity_check = Some o.skip_cache_capacity_check;
  cache_capacity = o.cache_capacity;
}

-- How that regex is built.
abbrev pub settings_of : Options → MatchKind → Settings
settings_of o kind = record {
  utf8 = o.syntax.utf8;
  line_terminator = one_of 10;
  shrink = o.shrink;
  size_limit = o.size_limit;
  dfa = dfa_options_of o kind;
}
