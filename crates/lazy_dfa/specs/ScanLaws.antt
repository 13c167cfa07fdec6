-- What the laws of scans are about: the units that a scan reads, quit bytes among them, and the last and the nearest
-- end.
use Rattle.std.specs.Prelude.{◌≡◌, ℕ, zero, suc, ◌-◌, ◌<◌, ◌&&◌, not, nat_lt, Bool, true, false, List, [], Option, Some, None}
use Rattle.std.specs.Prelude.{if◌then◌else◌}
use Rattle.std.specs.List.{filter}
use Rattle.std.specs.Bool.{nat_eq}
use Rattle.search_core.specs.ByteSets.{has}
use Rattle.search_types.specs.declared.anchored.Anchored.{Anchored}
use Rattle.search_types.specs.Modes.{is_supported}
use Rattle.nfa_core.specs.Walks.{Has}
use Rattle.nfa_core.specs.Places.{first, same_pair}
use Rattle.nfa_core.specs.Ways.{offset_of}
use Rattle.determinize_core.specs.States.{StateValue}
use Rattle.determinize_core.specs.Steps.{unit_at, unit_before}
use Rattle.lazy_dfa.specs.Readers.{Reader, HalfAnswer, found, quit, unsupported, is_quit}
use Rattle.lazy_dfa.specs.Scans.{index_at, index_before_offset, is_empty, is_dead, next_value, next_offset, first_value, scan}

-- How many of n units a scan from a state at an offset reads, if none is a quit byte. It reads until its state is dead.
-- If the earliest end is asked for, it reads until its state is dead or lists a match.
abbrev pub units_read : Reader → Bool → List ℕ → ℕ → ℕ → StateValue → ℕ
units_read r earliest h zero i v = 0
units_read r earliest h (suc n) i v =
    if is_dead v then 0 else
    if earliest && not (is_empty (next_value r h i v).matches) then 1 else
    suc (units_read r earliest h n (next_offset r i) (next_value r h i v))

-- how many units a scan from offset i over n bytes reads, apart from the look-behind byte of i
abbrev pub scan_len_of : Reader → Anchored → Bool → List ℕ → ℕ → ℕ → ℕ
scan_len_of r mode earliest h n i =
    if is_supported r.starts_for_each_pattern mode then units_read r earliest h (suc n) i (first_value r mode h i) else 0

-- unit k from offset i on
abbrev pub unit_of : Reader → List ℕ → ℕ → ℕ → Option ℕ
unit_of r h i k = unit_at r.automaton.reverse h (offset_of r.automaton.reverse i k)

-- the unit is the quit byte b, with the index x
abbrev pub IsQuitAt : List Bool → Option ℕ → ℕ → ℕ → ℕ → Type 0
IsQuitAt quits u index b x = (u ≡ Some b) × (has quits b ≡ true) × (x ≡ index)

-- the look-behind byte of offset i is the quit byte b, with the index x
abbrev pub IsQuitBefore : Reader → List ℕ → ℕ → ℕ → ℕ → Type 0
IsQuitBefore r h i b x = IsQuitAt r.quits (unit_before r.automaton.reverse h i) (index_before_offset r.automaton.reverse i) b x

-- the look-behind byte of offset i isn't a quit byte
abbrev pub HasNoQuitBefore : Reader → List ℕ → ℕ → Type 0
HasNoQuitBefore r h i = is_quit r.quits (unit_before r.automaton.reverse h i) ≡ false

-- none of the first n units from offset i on is a quit byte
abbrev pub HasNoQuit : Reader → List ℕ → ℕ → ℕ → Type 0
HasNoQuit r h i n = (k : ℕ) → k < n → is_quit r.quits (unit_of r h i k) ≡ false

-- the first quit byte among these units is b, and has the index x
abbrev pub IsFirstQuit : Reader → List ℕ → ℕ → ℕ → ℕ → ℕ → Type 0
IsFirstQuit r h i n b x =
    (k : ℕ) × (k < n) × (unit_of r h i k ≡ Some b) × (has r.quits b ≡ true) ×
    (x ≡ index_at r.automaton.reverse (offset_of r.automaton.reverse i k)) × HasNoQuit r h i k

-- offset j is beyond offset k, forward or in reverse
abbrev pub is_past : Bool → ℕ → ℕ → Bool
is_past false j k = nat_lt k j
is_past true j k = nat_lt j k

-- the end of the best of the runs that end at offset j
abbrev pub best_at : List (ℕ × ℕ) → ℕ → Option (ℕ × ℕ)
best_at ends j = first (filter (λ x. nat_eq x.0 j) ends)

-- of these ends of runs, the last one in reading order, with the pattern of the best run there
abbrev pub IsLastEnd : Bool → List (ℕ × ℕ) → Option (ℕ × ℕ) → Type 0
IsLastEnd reverse ends None = ends ≡ []
IsLastEnd reverse ends (Some e) =
    (best_at ends e.0 ≡ Some e) × ((x : ℕ × ℕ) → Has same_pair x ends → is_past reverse x.0 e.0 ≡ false)

-- of these ends of runs, the nearest one, with the pattern of the best run there
abbrev pub IsNearestEnd : Bool → List (ℕ × ℕ) → Option (ℕ × ℕ) → Type 0
IsNearestEnd reverse ends None = ends ≡ []
IsNearestEnd reverse ends (Some e) =
    (best_at ends e.0 ≡ Some e) × ((x : ℕ × ℕ) → Has same_pair x ends → is_past reverse e.0 x.0 ≡ false)

-- whether an answer has an end that doesn't count
abbrev pub splits : (ℕ → Bool) → HalfAnswer → Bool
splits counted (found (Some e)) = not (counted e.0)
splits counted (found None) = false
splits counted (quit b x) = false
splits counted (unsupported mode) = false

-- scan number k of the scans over n bytes from offset i, over one byte less from the next offset, and so on
abbrev pub scan_of : Reader → Anchored → Bool → List ℕ → ℕ → ℕ → ℕ → HalfAnswer
scan_of r mode earliest h n i k = scan r mode earliest h (n - k) (offset_of r.automaton.reverse i k)
