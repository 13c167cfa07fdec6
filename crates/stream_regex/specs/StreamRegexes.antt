-- What an automaton for streams is made of, and why none is made.
use Rattle.std.specs.Prelude.{◌≡◌, ℕ, Bool, true, false, List, All, Option, Some, None, ⊤}
use Rattle.std.specs.List.{position}
use Rattle.search_core.specs.ByteSets.{has}
use Rattle.look_core.specs.Codes.{is_word_unicode}
use Rattle.look_core.specs.LookSets.{has_any}
use Rattle.look_core.specs.Terminators.{one_of}
use Rattle.hir_core.specs.Facts.{is_utf8_tree, look_set}
use Rattle.hir_core.specs.Tree.{Tree}
use Rattle.search_types.specs.declared.match_kind.MatchKind.TheVariants.{All as AllMatches}
use Rattle.lazy_dfa.specs.ConfigValue.{DfaOptions, no_dfa_options}
use Rattle.lazy_dfa.specs.Dfas.{Dfa}
use Rattle.regex_pair.specs.Pairs.{Pair}
use Rattle.hir_regex.specs.declared.settings.Settings.{Settings}
use Rattle.hir_regex.specs.Built.{FailsBuild, IsBuilt}
use Rattle.pattern_search.specs.Texts.{AllMean, IsFirstFault}
use Rattle.stream_regex.specs.declared.errors.NewError.{NewError}
use Rattle.stream_regex.specs.declared.errors.NewError.TheVariants.{NoMemory, Text, WordLook, Build}
use Rattle.stream_regex.specs.declared.options.Options.{Options}

-- The options of the automaton: it finds all matches, and Unicode word looks aren't supported.
abbrev pub dfa_options_of : Options → DfaOptions
dfa_options_of o = record no_dfa_options {
  match_kind = Some AllMatches;
  byte_classes = Some o.byte_classes;
  skip_cache_capacity_check = Some o.skip_cache_capacity_check;
  cache_capacity = o.cache_capacity;
}

-- How it is built.
abbrev pub settings_of : Options → Settings
settings_of o = record {
  utf8 = o.syntax.utf8;
  line_terminator = one_of 10;
  shrink = false;
  size_limit = o.size_limit;
  dfa = dfa_options_of o;
}

-- Whether a tree has a Unicode word look.
abbrev pub has_word_look : Tree → Bool
has_word_look x = has_any is_word_unicode (look_set x)

-- The number of the first pattern with a Unicode word look.
abbrev pub first_word_look : List Tree → Option ℕ
first_word_look xs = position has_word_look xs

-- The automaton reads forward, and is built of the trees of these patterns, as they are parsed under these options. It gives up at no byte.
pub record IsStreamRegexOf (o : Options) (texts : List (List ℕ)) (d : Dfa) : Type 0 where
  pub trees : List Tree
  pub pair : Pair
  pub mean : AllMean o.syntax texts trees
  pub utf8_trees : o.syntax.utf8 ≡ true → All (λ x. is_utf8_tree x ≡ true) trees
  pub built : IsBuilt trees (settings_of o) pair
  pub forward : d ≡ pair.forward
  pub reads : d.nfa.automaton.reverse ≡ false
  pub quiet : (b : ℕ) → has d.quits b ≡ false

-- Why no automaton for streams is made from patterns under these options.
abbrev pub IsNewError : Options → List (List ℕ) → NewError → Type 0
IsNewError o texts NoMemory = ⊤
IsNewError o texts (Text e) = IsFirstFault o.syntax texts e.number e.error
IsNewError o texts (WordLook number) = (xs : List Tree) × AllMean o.syntax texts xs × (first_word_look xs ≡ Some number)
IsNewError o texts (Build e) =
    (xs : List Tree) × AllMean o.syntax texts xs × (first_word_look xs ≡ None) × FailsBuild xs (settings_of o) e
