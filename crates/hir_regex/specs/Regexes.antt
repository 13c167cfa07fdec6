-- Two automata that search together for the trees of a list, and what is required of a search over them.
use Rattle.std.specs.Prelude.{◌≡◌, ◌<◌, ◌≤◌, Bool, true, false, List, All, length}
use Rattle.std.specs.List.{list_any}
use Rattle.search_core.specs.Utf8.{IsValidText}
use Rattle.look_core.specs.Terminators.{Terminator}
use Rattle.hir_core.specs.Tree.{Tree}
use Rattle.hir_core.specs.Means.{Looks}
use Rattle.hir_core.specs.Facts.{is_utf8_tree}
use Rattle.search_types.specs.declared.match_kind.MatchKind.TheVariants.{All as AllMatches, LeftmostFirst}
use Rattle.search_types.specs.Inputs.{Search}
use Rattle.nfa_core.specs.NfaValue.{is_capture}
use Rattle.thompson_nfa.specs.Configs.{Options, utf8_of, reverse_of, terminator_of}
use Rattle.thompson_nfa.specs.Compilations.{IsCompiled}
use Rattle.lazy_dfa.specs.ConfigValue.{kind_of}
use Rattle.lazy_dfa.specs.Dfas.{IsDfa}
use Rattle.regex_pair.specs.Pairs.{Pair}
use Rattle.hir_regex.specs.Choices.{Query}

-- The first automaton is compiled from the trees for searches forward, and keeps no captures. The second is compiled
-- from the same trees for searches in reverse. Both are in the same mode and have the same terminator and quit bytes.
-- The first finds the most preferred end, and the second the last start.
pub record IsRegexOf (xs : List Tree) (utf8 : Bool) (t : Terminator) (p : Pair) : Type 0 where
  pub forward_options : Options
  pub reverse_options : Options
  pub is_forward : IsCompiled forward_options xs p.forward.nfa
  pub is_reverse : IsCompiled reverse_options xs p.reverse.nfa
  pub reads_forward : reverse_of forward_options ≡ false
  pub reads_reverse : reverse_of reverse_options ≡ true
  pub forward_utf8 : utf8_of forward_options ≡ utf8
  pub reverse_utf8 : utf8_of reverse_options ≡ utf8
  pub forward_terminator : terminator_of forward_options ≡ t
  pub reverse_terminator : terminator_of reverse_options ≡ t
  pub no_captures : list_any is_capture p.forward.nfa.automaton.states ≡ false
  pub forward : IsDfa p.forward
  pub reverse : IsDfa p.reverse
  pub finds_first : kind_of p.forward.options ≡ LeftmostFirst
  pub finds_all : kind_of p.reverse.options ≡ AllMatches
  pub same_quits : p.reverse.quits ≡ p.forward.quits

-- A search of a haystack of bytes, within the haystack, that doesn't ask for the earliest end. In UTF-8 mode the
-- haystack is valid, and no tree has a span that isn't.
pub record IsSearchOf (xs : List Tree) (utf8 : Bool) (q : Search) : Type 0 where
  pub within : q.end ≤ length q.haystack
  pub whole : q.earliest ≡ false
  pub bytes : All (λ byte. byte < 256) q.haystack
  pub valid : utf8 ≡ true → IsValidText q.haystack
  pub utf8_trees : utf8 ≡ true → All (λ x. is_utf8_tree x ≡ true) xs

-- what it searches for, with looks decided so
abbrev pub query_of : List Tree → Bool → Looks → Search → Query
query_of xs utf8 looks q =
    record { patterns = xs; looks = looks; haystack = q.haystack; end = q.end; mode = q.anchored; utf8 = utf8 }
