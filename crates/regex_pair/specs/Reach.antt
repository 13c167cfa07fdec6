-- How far a search over two automata came when it answered.
use Rattle.std.specs.Prelude.{◌≡◌, ℕ, suc, ◌+◌, ◌<◌, ◌≤◌, false, List, length, Option, Some, Ok}
use Rattle.search_core.specs.Text.{byte_at}
use Rattle.search_types.specs.Found.{Found}
use Rattle.search_types.specs.Inputs.{Search}
use Rattle.lazy_dfa.specs.Dfas.{reader}
use Rattle.lazy_dfa.specs.Readers.{is_quit}
use Rattle.regex_pair.specs.Joined.{joined}
use Rattle.regex_pair.specs.Pairs.{Pair}

-- The offset right after what a search read. From the byte before the span up to there, no byte is a quit byte of the first
-- automaton. Over any haystack that has the same bytes there, the answer is the same. A search that was done before it began
-- read nothing.
pub record IsPairReach (p : Pair) (q : Search) (o : Option Found) (end : ℕ) : Type 0 where
  pub within : end ≤ suc q.end
  pub done : q.end < q.start → (x : ℕ) → q.start ≤ x + 1 → x < end → ⊥
  pub past : (f : Found) → o ≡ Some f → f.end < end
  pub quiet : (x : ℕ) → q.start ≤ x + 1 → x < end → is_quit (reader p.forward).quits (byte_at q.haystack x) ≡ false
  pub local : (g : List ℕ) → q.end ≤ length g → ((x : ℕ) → q.start ≤ x + 1 → x < end → byte_at g x ≡ byte_at q.haystack x) →
      joined p (record q { haystack = g }) ≡ Ok o

abbrev pub HasPairReach : Pair → Search → Option Found → Type 0
HasPairReach p q o = (end : ℕ) × IsPairReach p q o end
