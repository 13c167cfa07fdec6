-- Finders of groups, and what they find.
use Rattle.std.specs.Prelude.{◌≡◌, ℕ, ◌+◌, List, length, Option, Some, is_some, IfSome}
use Rattle.regex_hir.specs.Re.{Trace}
use Rattle.regex_syntax.specs.declared.Config.{Config}
use Rattle.regex_nfa.specs.declared.nfa.Nfa.{Nfa}
use Rattle.group_finder.specs.declared.finder.GroupFinder.{GroupFinder}
use Rattle.group_finder.specs.Engines.{IsAutomatonOf, automaton_bytes, pikevm_bytes}
use Rattle.group_finder.specs.Layouts.{IsLaidBy, layout_bytes}
use Rattle.group_finder.specs.Slots.{slots_of}

-- The automaton by which a finder searches. No search changes it.
abbrev pub automaton_of : GroupFinder → Nfa
automaton_of g = g.dfa.nfa

-- A finder was made of a pattern, parsed under these options: its automaton, and its layout if there is one.
pub record IsFinderOf (config : Config) (text : List ℕ) (g : GroupFinder) : Type 0 where
  pub runs : IsAutomatonOf config text (automaton_of g)
  pub laid : IfSome g.layout (λ steps. IsLaidBy config text steps.items)

-- The match that starts at this offset and continues so was found: its end, and its slots as far as there is room.
pub record HasSlots (start : ℕ) (t : Trace) (o : Option ℕ) (slots : List ℕ) : Type 0 where
  pub end_is : o ≡ Some t.end
  pub slots_are : slots ≡ slots_of (record { start = start; trace = t }) (length slots)

-- ---- memory

-- The bytes of a finder, as far as they are counted.
abbrev pub finder_bytes : GroupFinder → ℕ
finder_bytes g = automaton_bytes (automaton_of g) + pikevm_bytes (automaton_of g) (is_some g.pikevm) + layout_bytes g.layout
