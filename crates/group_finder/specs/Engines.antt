-- Automata of patterns, and what the engines find by them.
use Rattle.std.specs.Prelude.{◌≡◌, ℕ, ◌+◌, ◌-◌, ◌*◌, ◌^◌, ◌<◌, ◌≤◌, All, Bool, true, false, List, Some, IsSomeAnd, chars, length, map, min, vec_len}
use Rattle.std.specs.List.{range_with_len}
use Rattle.regex_hir.specs.Re.{Re, Trace, accept, attempt}
use Rattle.regex_hir.specs.Find.{Match, last_write}
use Rattle.regex_syntax.specs.Captures.{outcome}
use Rattle.regex_syntax.specs.declared.Config.{Config}
use Rattle.regex_syntax.specs.Grammar.{read}
use Rattle.regex_nfa.specs.Run.{run}
use Rattle.regex_nfa.specs.declared.nfa.Nfa.{Nfa}
use Rattle.regex_vm.specs.Pike.{Room}
use Rattle.group_finder.specs.Slots.{offset_or_none}

-- In each haystack of bytes, the automaton finds from each offset what the pattern has there: the same end, and the same offsets of groups.
-- It writes to its own slots alone.
pub record RunsAs (nfa : Nfa) (a : Re) : Type 0 where
  pub same : (h : List ℕ) → All (λ x. x < 256) h → (i : ℕ) →
      outcome (run nfa h (length h) nfa.start i) ≡ outcome (attempt h a accept i)
  pub within : (h : List ℕ) (i : ℕ) (t : Trace) → run nfa h (length h) nfa.start i ≡ Some t → All (λ w. w.0 < nfa.slot_count) t.writes

-- An automaton was made of a pattern, parsed under these options. It has two slots for each group of the pattern.
abbrev pub IsAutomatonOf : Config → List ℕ → Nfa → Type 0
IsAutomatonOf config text nfa = IsSomeAnd (read config (chars text)) (λ (re, names).
    (re.depth ≤ config.nest_limit) × RunsAs nfa re.value × (nfa.slot_count ≡ 2 * length names))

-- A PikeVM has room for the states and groups of an automaton.
abbrev pub HasRoomFor : Nfa → Room → Type 0
HasRoomFor nfa room = (room.states ≡ vec_len nfa.states) × (room.groups ≡ nfa.slot_count - 2)

-- n slots of a match, from slot 2 on
abbrev pub offsets_of : Match → ℕ → List ℕ
offsets_of m n = map (λ k. offset_or_none (last_write m.trace.writes (k + 2))) (range_with_len 0 n)

-- ---- memory

-- The bytes of an automaton, without spare capacity: 16 for each state with its rank, and 8 for each transition.
abbrev pub automaton_bytes : Nfa → ℕ
automaton_bytes nfa = 16 * vec_len nfa.states + 8 * vec_len nfa.transitions

-- The bytes of a PikeVM for an automaton, if there is one: for each state 60, and 16 for each slot after the first two.
abbrev pub pikevm_bytes : Nfa → Bool → ℕ
pikevm_bytes nfa false = 0
pikevm_bytes nfa true = vec_len nfa.states * (16 * (nfa.slot_count - 2) + 60)

-- What a count of bytes returns. The greatest number stands for any number above it.
abbrev pub counted : ℕ → ℕ
counted n = min n (2 ^ 64 - 1)
