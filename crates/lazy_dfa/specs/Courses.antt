-- The course of a scan: the states after the units that it reads, and the matches that it records.
use Rattle.std.specs.Prelude.{◌≡◌, ℕ, zero, suc, ◌<◌, ◌&&◌, not, Bool, false, List, Option}
use Rattle.nfa_core.specs.Ways.{offset_of}
use Rattle.determinize_core.specs.States.{StateValue}
use Rattle.lazy_dfa.specs.Readers.{Reader, is_quit}
use Rattle.lazy_dfa.specs.Scans.{is_empty, is_dead, next_value, best_recorded}
use Rattle.lazy_dfa.specs.ScanLaws.{unit_of}

-- the state after k units, from a state at offset i
abbrev pub state_after : Reader → List ℕ → ℕ → StateValue → ℕ → StateValue
state_after r h i v zero = v
state_after r h i v (suc k) = next_value r h (offset_of r.automaton.reverse i k) (state_after r h i v k)

-- the match that was recorded last after k units
abbrev pub best_after : Reader → List ℕ → ℕ → StateValue → Option (ℕ × ℕ) → ℕ → Option (ℕ × ℕ)
best_after r h i v best zero = best
best_after r h i v best (suc k) =
    best_recorded (offset_of r.automaton.reverse i k) (state_after r h i v (suc k)) (best_after r h i v best k)

-- the state before unit k isn't dead, and the unit isn't a quit byte
pub record IsRead (r : Reader) (h : List ℕ) (i : ℕ) (v : StateValue) (k : ℕ) : Type 0 where
  pub alive : is_dead (state_after r h i v k) ≡ false
  pub quiet : is_quit r.quits (unit_of r h i k) ≡ false

-- this holds for each of the first n units
abbrev pub AreRead : Reader → List ℕ → ℕ → StateValue → ℕ → Type 0
AreRead r h i v n = (k : ℕ) → k < n → IsRead r h i v k

-- whether a scan ends after unit k: the earliest end is asked for, and the state there lists a match
abbrev pub stops_after : Reader → Bool → List ℕ → ℕ → StateValue → ℕ → Bool
stops_after r earliest h i v k = earliest && not (is_empty (state_after r h i v (suc k)).matches)

-- it does so after none of the first n units
abbrev pub HasNoStop : Reader → Bool → List ℕ → ℕ → StateValue → ℕ → Type 0
HasNoStop r earliest h i v n = (k : ℕ) → k < n → stops_after r earliest h i v k ≡ false
