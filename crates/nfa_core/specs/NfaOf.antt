-- The NFA that is built from a builder's states.
use Rattle.std.specs.Prelude.{ℕ}
use Rattle.nfa_core.specs.BuilderStates.{Assembly}
use Rattle.nfa_core.specs.NfaValue.{Nfa}
use Rattle.nfa_core.specs.Renaming.{automaton_of}

-- the automaton, with the builder's groups and settings
abbrev pub nfa_of : Assembly → ℕ → ℕ → Nfa
nfa_of b anchored unanchored = record {
  automaton = automaton_of b anchored unanchored;
  groups = b.groups;
  utf8 = b.utf8;
  terminator = b.terminator;
}
