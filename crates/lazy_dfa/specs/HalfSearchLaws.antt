-- What a half search has to find, how its scans follow each other, and what it reads.
use Rattle.std.specs.Prelude.{◌≡◌, ◌⊎◌, ℕ, zero, suc, nat_le, ◌+◌, ◌-◌, ◌<◌, ◌≤◌, Bool, true, false, List, Option, Some, None}
use Rattle.std.specs.Prelude.{if◌then◌else◌}
use Rattle.search_core.specs.ByteSets.{has}
use Rattle.search_core.specs.Text.{byte_at}
use Rattle.look_core.specs.declared.look.Look.{Look}
use Rattle.look_core.specs.LookSets.{has_look}
use Rattle.search_types.specs.declared.match_kind.MatchKind.{MatchKind}
use Rattle.search_types.specs.declared.match_kind.MatchKind.TheVariants.{All as AllMatches, LeftmostFirst}
use Rattle.search_types.specs.declared.anchored.Anchored.{Anchored}
use Rattle.search_types.specs.Modes.{is_anchored}
use Rattle.search_types.specs.Inputs.{Search, with_span}
use Rattle.search_types.specs.Places.{counts}
use Rattle.nfa_core.specs.Places.{first}
use Rattle.nfa_core.specs.NfaValue.{looks_of}
use Rattle.nfa_core.specs.Reaches.{read_by}
use Rattle.nfa_core.specs.Ways.{span, is_satisfied, offset_of, ends_from}
use Rattle.lazy_dfa.specs.Readers.{Reader, HalfAnswer, found, is_quit}
use Rattle.lazy_dfa.specs.Scans.{next_offset, scan}
use Rattle.lazy_dfa.specs.HalfSearches.{first_offset}
use Rattle.lazy_dfa.specs.ScanLaws.{IsLastEnd, IsNearestEnd, splits, scan_of, scan_len_of}

-- ---- what is found

-- of these ends of runs, the one that a half search has to find
abbrev pub IsWanted : MatchKind → Bool → Bool → List (ℕ × ℕ) → Option (ℕ × ℕ) → Type 0
IsWanted kind true reverse ends o = IsNearestEnd reverse ends o
IsWanted LeftmostFirst false reverse ends o = o ≡ first ends
IsWanted AllMatches false reverse ends o = IsLastEnd reverse ends o

-- the offset at which such a search begins to read
abbrev pub begins_at : Reader → Search → ℕ
begins_at r q = first_offset r.automaton.reverse q.start q.end

-- the ends of the runs from an automaton state, k offsets after the offset at which a search begins
abbrev pub ends_of : Reader → Search → ℕ → ℕ → List (ℕ × ℕ)
ends_of r q name k =
    ends_from r.automaton (span r.terminator q.haystack q.start q.end) (offset_of r.automaton.reverse (begins_at r q) k, name)

-- how often a search over n bytes may restart
abbrev pub restarts : Anchored → ℕ → ℕ
restarts mode n = if is_anchored mode then 0 else n

-- What is wanted of a search that begins k offsets after the first offset is an end that doesn't count.
abbrev pub IsSplitBy : (ℕ → Option (ℕ × ℕ) → Type 0) → Reader → Search → ℕ → Type 0
IsSplitBy wanted r q k = (x : ℕ × ℕ) × wanted k (Some x) × (counts r.between_characters q.haystack x.0 ≡ false)

-- What a half search finds: what is wanted at the first offset, of those where it begins, at which this isn't an end
-- that doesn't count. If it is such an end at each of these offsets, the search finds nothing.
abbrev pub IsFoundBy : (ℕ → Option (ℕ × ℕ) → Type 0) → Reader → Search → Option (ℕ × ℕ) → Type 0
IsFoundBy wanted r q o =
    ((k : ℕ) × (k ≤ restarts q.anchored (q.end - q.start)) × ((m : ℕ) → m < k → IsSplitBy wanted r q m) × wanted k o ×
    (splits (counts r.between_characters q.haystack) (found o) ≡ false)) ⊎
    (((m : ℕ) → m ≤ restarts q.anchored (q.end - q.start) → IsSplitBy wanted r q m) × (o ≡ None))

-- what a half search finds among the ends of runs from an automaton state
abbrev pub IsFound : Reader → Search → ℕ → Option (ℕ × ℕ) → Type 0
IsFound r q name o = IsFoundBy (λ k x. IsWanted r.kind q.earliest r.automaton.reverse (ends_of r q name k) x) r q o

-- `ends_of`, if `holds` decides the looks
abbrev pub ends_by : Reader → Search → (Look → ℕ → Bool) → ℕ → ℕ → List (ℕ × ℕ)
ends_by r q holds name k =
    ends_from r.automaton (read_by holds q.haystack q.start q.end) (offset_of r.automaton.reverse (begins_at r q) k, name)

-- what a half search finds if the first of these ends is wanted
abbrev pub IsFirstFound : Reader → Search → (Look → ℕ → Bool) → ℕ → Option (ℕ × ℕ) → Type 0
IsFirstFound r q holds name o = IsFoundBy (λ k x. x ≡ first (ends_by r q holds name k)) r q o

-- ---- scans that follow each other

-- the end of scan number k doesn't count
abbrev pub Splits : Reader → Anchored → Bool → List ℕ → ℕ → ℕ → ℕ → Type 0
Splits r mode earliest h n i k = splits (counts r.between_characters h) (scan_of r mode earliest h n i k) ≡ true

-- One of the scans that follow each other gives the answer: the first one without an end that doesn't count. If each of
-- them has such an end, the answer is that nothing is found.
abbrev pub IsOfScans : Reader → Anchored → Bool → List ℕ → ℕ → ℕ → HalfAnswer → Type 0
IsOfScans r mode earliest h n i answer =
    ((k : ℕ) × (k ≤ n) × ((m : ℕ) → m < k → Splits r mode earliest h n i m) ×
    (splits (counts r.between_characters h) (scan_of r mode earliest h n i k) ≡ false) × (answer ≡ scan_of r mode earliest h n i k)) ⊎
    (((m : ℕ) → m ≤ n → Splits r mode earliest h n i m) × (answer ≡ found None))

-- the search over one byte less, at the side where it begins to read
abbrev pub shorter : Bool → Search → Search
shorter false q = with_span (q.start + 1) q.end q
shorter true q = with_span q.start (q.end - 1) q

-- ---- quit bytes in a span or next to it

-- No byte of the span is a quit byte, nor is the byte before it or the byte after it.
abbrev pub HasNoQuitNear : Reader → List ℕ → ℕ → ℕ → Type 0
HasNoQuitNear r h s e = (x : ℕ) → s ≤ x + 1 → x ≤ e → is_quit r.quits (byte_at h x) ≡ false

-- the quit byte b is there, at the index x
abbrev pub IsQuitNear : Reader → List ℕ → ℕ → ℕ → ℕ → ℕ → Type 0
IsQuitNear r h s e b x = (byte_at h x ≡ Some b) × (has r.quits b ≡ true) × (s ≤ x + 1) × (x ≤ e)

-- ---- what is read

abbrev pub larger : ℕ → ℕ → ℕ
larger m n = if nat_le m n then n else m

-- How many units the scans over n bytes from offset i read, including those after a restart, apart from the look-behind
-- byte of i.
abbrev pub scans_len : Reader → Anchored → Bool → List ℕ → ℕ → ℕ → ℕ
scans_len r mode earliest h zero i = scan_len_of r mode earliest h 0 i
scans_len r mode earliest h (suc n) i =
    if splits (counts r.between_characters h) (scan r mode earliest h (suc n) i)
    then larger (scan_len_of r mode earliest h (suc n) i) (suc (scans_len r mode earliest h n (next_offset r i)))
    else scan_len_of r mode earliest h (suc n) i

-- how many units a half search reads
abbrev pub scan_len : Reader → Search → ℕ
scan_len r q =
    if nat_le q.start q.end
    then (if is_anchored q.anchored
    then scan_len_of r q.anchored q.earliest q.haystack (q.end - q.start) (begins_at r q)
    else scans_len r q.anchored q.earliest q.haystack (q.end - q.start) (begins_at r q))
    else 0

-- x is the index of the look-behind byte of offset i, or of one of the n units from there, forward or in reverse
abbrev pub IsReached : Bool → ℕ → ℕ → ℕ → Type 0
IsReached false i n x = (i ≤ x + 1) × (x < i + n)
IsReached true i n x = (i ≤ x + n) × (x ≤ i)

-- The reach of a scan, and of a half search: the indices of the bytes at which it looks. They are contiguous.
abbrev pub IsInScan : Reader → Anchored → Bool → List ℕ → ℕ → ℕ → ℕ → Type 0
IsInScan r mode earliest h n i x = IsReached r.automaton.reverse i (scan_len_of r mode earliest h n i) x

abbrev pub IsInReach : Reader → Search → ℕ → Type 0
IsInReach r q x = (q.start ≤ q.end) × IsReached r.automaton.reverse (begins_at r q) (scan_len r q) x

-- two haystacks have the same bytes, or end alike, in a reach
abbrev pub Agree : List ℕ → List ℕ → (ℕ → Type 0) → Type 0
Agree h g reach = (x : ℕ) → reach x → byte_at h x ≡ byte_at g x

-- from offset i on, at n offsets, `holds` decides the looks of the automaton as the definition for ASCII bytes does
abbrev pub ReadsAlike : Reader → (Look → ℕ → Bool) → List ℕ → ℕ → ℕ → ℕ → ℕ → Type 0
ReadsAlike r holds h s e i n =
    (l : Look) (k : ℕ) → has_look (looks_of r.automaton.states) l ≡ true → k < n →
    is_satisfied r.automaton.reverse (span r.terminator h s e) l (offset_of r.automaton.reverse i k) ≡
    is_satisfied r.automaton.reverse (read_by holds h s e) l (offset_of r.automaton.reverse i k)

-- ---- how much is done

-- The number of scans from offset i over n bytes and of those that follow, and the number of units that they read
-- together.
abbrev pub scans_made : Reader → Anchored → Bool → List ℕ → ℕ → ℕ → ℕ
scans_made r mode earliest h zero i = 1
scans_made r mode earliest h (suc n) i =
    if splits (counts r.between_characters h) (scan r mode earliest h (suc n) i)
    then suc (scans_made r mode earliest h n (next_offset r i))
    else 1

abbrev pub units_in_scans : Reader → Anchored → Bool → List ℕ → ℕ → ℕ → ℕ
units_in_scans r mode earliest h zero i = scan_len_of r mode earliest h 0 i
units_in_scans r mode earliest h (suc n) i =
    if splits (counts r.between_characters h) (scan r mode earliest h (suc n) i)
    then scan_len_of r mode earliest h (suc n) i + units_in_scans r mode earliest h n (next_offset r i)
    else scan_len_of r mode earliest h (suc n) i

-- how many scans a half search makes
abbrev pub scan_count : Reader → Search → ℕ
scan_count r q =
    if nat_le q.start q.end
    then (if is_anchored q.anchored then 1 else scans_made r q.anchored q.earliest q.haystack (q.end - q.start) (begins_at r q))
    else 0

-- How many units these scans read together. What a scan after a restart reads again counts again.
abbrev pub unit_count : Reader → Search → ℕ
unit_count r q =
    if nat_le q.start q.end
    then (if is_anchored q.anchored
    then scan_len_of r q.anchored q.earliest q.haystack (q.end - q.start) (begins_at r q)
    else units_in_scans r q.anchored q.earliest q.haystack (q.end - q.start) (begins_at r q))
    else 0
