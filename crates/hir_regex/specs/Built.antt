-- The regex that is built of expression trees: the options with which its automata are compiled and made, what it is,
-- and why a build fails.
use Rattle.std.specs.Prelude.{◌≡◌, ◌≢◌, ◌^◌, ◌<◌, ◌≤◌, ◌&&◌, not, Bool, true, false, List, Some, None, Ok, if◌then◌else◌}
use Rattle.std.specs.List.{list_any}
use Rattle.look_core.specs.Codes.{is_word_unicode}
use Rattle.look_core.specs.LookSets.{has_any}
use Rattle.look_core.specs.Terminators.{one_of}
use Rattle.hir_core.specs.Tree.{Tree}
use Rattle.hir_core.specs.Facts.{looks_used}
use Rattle.search_types.specs.declared.match_kind.MatchKind.TheVariants.{LeftmostFirst}
use Rattle.nfa_core.specs.NfaValue.{Nfa}
use Rattle.nfa_core.specs.declared.build_error.BuildError.{BuildError as NfaBuildError}
use Rattle.nfa_core.specs.declared.build_error.BuildError.TheVariants.{NoMemory as NfaNoMemory}
use Rattle.thompson_nfa.specs.Compilations.{IsCompiled}
use Rattle.thompson_nfa.specs.Configs.{Options}
use Rattle.thompson_nfa.specs.RefusedTrees.{RejectsTrees}
use Rattle.thompson_nfa.specs.declared.which_captures.WhichCaptures.TheVariants as which
use Rattle.lazy_dfa.specs.Accounting.{least_capacity}
use Rattle.lazy_dfa.specs.Building.{measures_with}
use Rattle.lazy_dfa.specs.ConfigValue.{DfaOptions}
use Rattle.lazy_dfa.specs.ConfigValue.{no_dfa_options, by_hand, word_boundary_of, capacity_of, skips_check, kind_of}
use Rattle.lazy_dfa.specs.Dfas.{IsDfa}
use Rattle.lazy_dfa.specs.Quits.{with_high_bytes, has_high_bytes}
use Rattle.lazy_dfa.specs.declared.build_error.BuildError.{BuildError}
use Rattle.lazy_dfa.specs.declared.build_error.BuildError.TheVariants.{NFA, NoMemory, Unsupported, InsufficientCacheCapacity}
use Rattle.regex_pair.specs.Pairs.{Pair, pair_built}
use Rattle.hir_regex.specs.declared.settings.Settings.{Settings}

-- ---- settings

abbrev pub default_settings : Settings
default_settings = record { utf8 = true; line_terminator = one_of 0x0A; shrink = false; size_limit = None; dfa = no_dfa_options }

-- the settings of a query, with those that the program adds
abbrev pub program_settings : Settings → Settings
program_settings said = record said {
  size_limit = Some (2 ^ 26);
  dfa = record said.dfa {
    match_kind = Some LeftmostFirst;
    unicode_word_boundary = Some true;
    skip_cache_capacity_check = Some true;
    minimum_cache_clear_count = Some None;
  };
}

-- the options of one of the two compilations, forward or in reverse: no captures are kept
abbrev pub compile_options : Bool → Settings → Options
compile_options reverse s = record {
  utf8 = Some s.utf8;
  reverse = Some reverse;
  size_limit = Some s.size_limit;
  shrink = Some s.shrink;
  captures = Some which.None;
  terminator = Some s.line_terminator;
}

-- the search finds the match that the trees define, as far as this depends on the options
abbrev pub FindsFirst : Settings → Type 0
FindsFirst s = kind_of s.dfa ≡ LeftmostFirst

-- ---- quit bytes

-- whether one of the trees has a Unicode word look, outside of repetitions of no rounds
abbrev pub use_unicode_words : List Tree → Bool
use_unicode_words xs = list_any (λ x. has_any is_word_unicode (looks_used x)) xs

-- The bytes at which searches for these trees give up are those that were set by hand. All bytes above 7F are added if
-- a tree has a Unicode word look and the option asks that a search does what it can over ASCII.
abbrev pub quit_bytes_for : List Tree → DfaOptions → List Bool
quit_bytes_for xs o = if use_unicode_words xs && word_boundary_of o then with_high_bytes (by_hand o) else by_hand o

-- trees with a Unicode word look are supported only if all bytes above 7F are quit bytes, by the option or by hand
abbrev pub are_unsupported : List Tree → DfaOptions → Bool
are_unsupported xs o = use_unicode_words xs && not (word_boundary_of o) && not (has_high_bytes (by_hand o))

-- ---- the regex

-- Both automata are compiled from the trees, one forward and one in reverse. They are made with the same options,
-- except that the second finds all matches and has no tagged starts.
pub record IsBuilt (xs : List Tree) (s : Settings) (p : Pair) : Type 0 where
  pub is_forward : IsCompiled (compile_options false s) xs p.forward.nfa
  pub is_reverse : IsCompiled (compile_options true s) xs p.reverse.nfa
  pub made : pair_built p.forward.nfa p.reverse.nfa s.dfa ≡ Ok p
  pub forward : IsDfa p.forward
  pub reverse : IsDfa p.reverse

-- the capacity is enough for the automaton, or isn't checked
abbrev pub HasRoom : Nfa → DfaOptions → Type 0
HasRoom n o = skips_check o ≡ false → least_capacity (measures_with n o) ≤ capacity_of o

-- one of the two NFAs
abbrev pub nfa_for : Bool → Nfa → Nfa → Nfa
nfa_for reverse n m = if reverse then m else n

-- Why no regex is built. A compilation fails, and its error is reported as it is. Or both NFAs are made, and the trees
-- have Unicode word looks that aren't supported. If that isn't so, the capacity may be below the least one of an
-- automaton, where the forward one is checked first. Or an allocation failed.
pub data FailsBuild (xs : List Tree) (s : Settings) (e : BuildError) : Type 0 where
  not_compiled : (reverse : Bool) (x : NfaBuildError) → x ≢ NfaNoMemory → RejectsTrees (compile_options reverse s) xs x →
      e ≡ NFA x → FailsBuild xs s e
  unsupported : (n m : Nfa) → IsCompiled (compile_options false s) xs n → IsCompiled (compile_options true s) xs m →
      are_unsupported xs s.dfa ≡ true → e ≡ Unsupported → FailsBuild xs s e
  too_small : (n m : Nfa) → IsCompiled (compile_options false s) xs n → IsCompiled (compile_options true s) xs m →
      are_unsupported xs s.dfa ≡ false → skips_check s.dfa ≡ false → (reverse : Bool) → (reverse ≡ true → HasRoom n s.dfa) →
      capacity_of s.dfa < least_capacity (measures_with (nfa_for reverse n m) s.dfa) →
      e ≡ InsufficientCacheCapacity (least_capacity (measures_with (nfa_for reverse n m) s.dfa)) (capacity_of s.dfa) → FailsBuild xs s e
  no_memory : e ≡ NoMemory → FailsBuild xs s e
