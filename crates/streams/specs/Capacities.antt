-- Automata that differ in nothing but how many bytes their caches may take.
use Rattle.std.specs.Prelude.{None}
use Rattle.lazy_dfa.specs.Dfas.{Dfa}

-- The automaton without the capacity that was set, and without the one in effect. What is the same for two automata isn't changed by the
-- capacity.
abbrev pub without_capacity : Dfa → Dfa
without_capacity d = record d { options = record d.options { cache_capacity = None }; capacity = 0 }
