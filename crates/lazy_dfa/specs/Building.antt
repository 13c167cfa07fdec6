-- What the builder makes of an NFA and options, and why it fails: a function of both.
use Rattle.std.specs.Prelude.{ℕ, ◌&&◌, not, nat_lt, Bool, List, map, if◌then◌else◌, Result, Ok, Err}
use Rattle.std.specs.List.{range_with_len}
use Rattle.search_core.specs.ByteSets.{ranges_from}
use Rattle.search_core.specs.Marks.{marks_below, recorded}
use Rattle.nfa_core.specs.Alike.{marks_of}
use Rattle.nfa_core.specs.NfaValue.{Nfa}
use Rattle.lazy_dfa.specs.Accounting.{Measures, measures_of, least_capacity, effective_capacity}
use Rattle.lazy_dfa.specs.ConfigValue.{DfaOptions, starts_each_of, classes_on, word_boundary_of, by_hand, capacity_of, skips_check}
use Rattle.lazy_dfa.specs.Dfas.{Dfa}
use Rattle.lazy_dfa.specs.Quits.{quit_bytes, is_unsupported}
use Rattle.lazy_dfa.specs.declared.build_error.BuildError.{BuildError}
use Rattle.lazy_dfa.specs.declared.build_error.BuildError.TheVariants.{InsufficientCacheCapacity, Unsupported, NoMemory, NFA}
use Rattle.nfa_core.specs.declared.build_error.BuildError.{BuildError as NfaBuildError}
use Rattle.nfa_core.specs.declared.build_error.BuildError.TheVariants.{NoMemory as NfaNoMemory}

-- the quit bytes of the NFA with these options
abbrev pub quits_of : Nfa → DfaOptions → List Bool
quits_of n o = quit_bytes n.automaton (word_boundary_of o) (by_hand o)

-- the class of a byte, by the marks of the NFA and of the quit bytes; without byte classes, each byte has a class of
-- its own
abbrev pub class_in : Nfa → DfaOptions → ℕ → ℕ
class_in n o b = if classes_on o then marks_below (recorded (marks_of n.terminator n.automaton.states) (ranges_from (quits_of n o) 0)) b
    else b

unfoldable pub classes_of : Nfa → DfaOptions → List ℕ
classes_of n o = map (class_in n o) (range_with_len 0 256)

abbrev pub measures_with : Nfa → DfaOptions → Measures
measures_with n o = measures_of n.automaton (classes_of n o) (starts_each_of o)

-- the automaton that is built
abbrev pub dfa_of : Nfa → DfaOptions → Dfa
dfa_of n o = record {
  nfa = n;
  options = o;
  classes = classes_of n o;
  quits = quits_of n o;
  measures = measures_with n o;
  capacity = effective_capacity (measures_with n o) (skips_check o) (capacity_of o);
}

-- whether the given capacity is too small, and is checked
abbrev pub is_too_small : Nfa → DfaOptions → Bool
is_too_small n o = not (skips_check o) && nat_lt (capacity_of o) (least_capacity (measures_with n o))

-- the error of the builder when the NFA can't be compiled; out of memory is reported as that
abbrev pub error_of_compile : NfaBuildError → BuildError
error_of_compile NfaNoMemory = NoMemory
error_of_compile e = NFA e

-- the result of the builder
abbrev pub built : Nfa → DfaOptions → Result Dfa BuildError
built n o =
    if is_unsupported n.automaton (word_boundary_of o) (by_hand o)
    then Err Unsupported
    else if is_too_small n o
    then Err (InsufficientCacheCapacity (least_capacity (measures_with n o)) (capacity_of o))
    else Ok (dfa_of n o)

-- the least capacity of a cache, or an error if the automaton can't be searched
abbrev pub least_for : Nfa → DfaOptions → Result ℕ BuildError
least_for n o =
    if is_unsupported n.automaton (word_boundary_of o) (by_hand o) then Err Unsupported else Ok (least_capacity (measures_with n o))
