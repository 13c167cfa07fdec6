-- How far the runs of an automaton read: the offsets that they reach, and inputs that are alike as far as they read.
use Rattle.std.specs.Prelude.{◌≡◌, ℕ, ◌≤◌, Bool, List, []}
use Rattle.std.specs.List.{flat_map}
use Rattle.look_core.specs.declared.look.Look.{Look}
use Rattle.nfa_core.specs.Nfa.{Automaton}
use Rattle.nfa_core.specs.Ways.{Text, plain_steps, byte_steps, offset_of}

-- a span of a haystack in which looks hold as the given function says
abbrev pub read_by : (Look → ℕ → Bool) → List ℕ → ℕ → ℕ → Text
read_by holds h i j = record { haystack = h; start = i; end = j; holds = holds }

-- offset j can be reached from offset i by reading at most so many bytes, forward or in reverse
abbrev pub IsWithinReach : Bool → ℕ → ℕ → ℕ → Type 0
IsWithinReach reverse i len j = (k : ℕ) × (k ≤ len) × (j ≡ offset_of reverse i k)

-- at offset i and up to d bytes further, each state of the automaton leads to the same states in both inputs, by the next byte and without
-- one
pub record LeadAlike (a : Automaton) (t u : Text) (i d : ℕ) : Type 0 where
  pub same_start : t.start ≡ u.start
  pub same_end : t.end ≡ u.end
  pub looks : (k q : ℕ) → k ≤ d → plain_steps a t (offset_of a.reverse i k) q ≡ plain_steps a u (offset_of a.reverse i k) q
  pub bytes : (k q : ℕ) → k ≤ d → byte_steps a t (offset_of a.reverse i k) q ≡ byte_steps a u (offset_of a.reverse i k) q

-- after d bytes no state of the given list, which is already cut, leads on by a byte
abbrev pub LeadsNoFurther : Automaton → Text → ℕ → ℕ → List ℕ → Type 0
LeadsNoFurther a t i d list = flat_map (byte_steps a t (offset_of a.reverse i d)) list ≡ []
