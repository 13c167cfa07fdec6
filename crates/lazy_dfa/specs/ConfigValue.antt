-- What contracts see of a configuration: the options that were set, and the defaults of those that weren't.
use Rattle.std.specs.Prelude.{ℕ, Bool, true, false, Option, None, List, replicate}
use Rattle.std.specs.Option.{option_or, unwrap_or}
use Rattle.search_types.specs.declared.match_kind.MatchKind.{MatchKind}
use Rattle.search_types.specs.declared.match_kind.MatchKind.TheVariants.{LeftmostFirst}

pub record DfaOptions : Type 0 where
  pub match_kind : Option MatchKind
  pub starts_for_each_pattern : Option Bool
  pub byte_classes : Option Bool
  pub unicode_word_boundary : Option Bool
  pub quit_set : Option (List Bool)  -- the quit bytes that were set by hand, as a whole
  pub specialize_start_states : Option Bool
  pub cache_capacity : Option ℕ
  pub skip_cache_capacity_check : Option Bool
  pub minimum_cache_clear_count : Option (Option ℕ)  -- None within: a clear is always allowed
  pub minimum_bytes_per_state : Option (Option ℕ)  -- None within: bytes that were searched don't matter

-- no option is set
abbrev pub no_dfa_options : DfaOptions
no_dfa_options = record {
  match_kind = None;
  starts_for_each_pattern = None;
  byte_classes = None;
  unicode_word_boundary = None;
  quit_set = None;
  specialize_start_states = None;
  cache_capacity = None;
  skip_cache_capacity_check = None;
  minimum_cache_clear_count = None;
  minimum_bytes_per_state = None;
}

-- the options of the second, and of the first those that the second doesn't set
abbrev pub changed_dfa_options : DfaOptions → DfaOptions → DfaOptions
changed_dfa_options old new = record {
  match_kind = option_or new.match_kind old.match_kind;
  starts_for_each_pattern = option_or new.starts_for_each_pattern old.starts_for_each_pattern;
  byte_classes = option_or new.byte_classes old.byte_classes;
  unicode_word_boundary = option_or new.unicode_word_boundary old.unicode_word_boundary;
  quit_set = option_or new.quit_set old.quit_set;
  specialize_start_states = option_or new.specialize_start_states old.specialize_start_states;
  cache_capacity = option_or new.cache_capacity old.cache_capacity;
  skip_cache_capacity_check = option_or new.skip_cache_capacity_check old.skip_cache_capacity_check;
  minimum_cache_clear_count = option_or new.minimum_cache_clear_count old.minimum_cache_clear_count;
  minimum_bytes_per_state = option_or new.minimum_bytes_per_state old.minimum_bytes_per_state;
}

-- ---- the defaults of options that aren't set

-- the set with no bytes
unfoldable pub no_bytes : List Bool
no_bytes = replicate 256 false

abbrev pub kind_of : DfaOptions → MatchKind
kind_of o = unwrap_or o.match_kind LeftmostFirst

abbrev pub starts_each_of : DfaOptions → Bool
starts_each_of o = unwrap_or o.starts_for_each_pattern false

abbrev pub classes_on : DfaOptions → Bool
classes_on o = unwrap_or o.byte_classes true

abbrev pub word_boundary_of : DfaOptions → Bool
word_boundary_of o = unwrap_or o.unicode_word_boundary false

-- the quit bytes that were set by hand
abbrev pub by_hand : DfaOptions → List Bool
by_hand o = unwrap_or o.quit_set no_bytes

abbrev pub specializes : DfaOptions → Bool
specializes o = unwrap_or o.specialize_start_states false

abbrev pub capacity_of : DfaOptions → ℕ
capacity_of o = unwrap_or o.cache_capacity 2097152

abbrev pub skips_check : DfaOptions → Bool
skips_check o = unwrap_or o.skip_cache_capacity_check false

abbrev pub clears_of : DfaOptions → Option ℕ
clears_of o = unwrap_or o.minimum_cache_clear_count None

abbrev pub minimum_bytes_of : DfaOptions → Option ℕ
minimum_bytes_of o = unwrap_or o.minimum_bytes_per_state None
