-- What is left of an overlapping search: at its start, where it stopped, and where it reads on.
use Rattle.std.proofs.Common.{◌≡◌, ◌≢◌, ℕ, zero, suc, ◌+◌, ◌<◌, ◌≤◌, ◌&&◌, Bool, true, false, List, ◌∷◌, length, drop, map, Option, Some}
use Rattle.std.proofs.Common.{None, if◌then◌else◌, refl, sym, ap, ◌∙◌, ⊎_elim, arith, true≢false, []}
use Rattle.std.specs.Prelude.{Err, slice_index, nat_lt, nat_le}
use Rattle.std.proofs.lemmas.List.{drop_more, drop_all}
use Rattle.std.proofs.lemmas.Bool.{ltb-true, cases_lt, lt-ltb}
use Rattle.search_types.specs.declared.anchored.Anchored.{Anchored}
use Rattle.search_types.specs.declared.match_error.MatchErrorKind.{MatchErrorKind}
use Rattle.search_types.specs.declared.match_error.MatchErrorKind.TheVariants.{Quit, UnsupportedAnchored}
use Rattle.search_types.specs.Inputs.{Search}
use Rattle.search_types.specs.Modes.{is_supported}
use Rattle.nfa_core.specs.Ways.{offset_of}
use Rattle.determinize_core.specs.States.{StateValue}
use Rattle.determinize_core.specs.Steps.{unit_before}
use Rattle.lazy_dfa.specs.ConfigValue.{starts_each_of}
use Rattle.lazy_dfa.specs.Courses.{state_after}
use Rattle.lazy_dfa.specs.declared.start_error.StartError.{StartError}
use Rattle.lazy_dfa.specs.declared.start_error.StartError.TheVariants.{UnsupportedAnchored as StartUnsupported}
use Rattle.lazy_dfa.specs.Dfas.{Dfa, reader}
use Rattle.lazy_dfa.specs.MadeScans.{span_len}
use Rattle.lazy_dfa.specs.Scans.{index_before_offset, is_dead, next_offset, first_value, unless_quit, if_supported, scan, pass_from}
use Rattle.lazy_dfa.specs.Readers.{Reader, HalfAnswer, quit, is_quit}
use Rattle.lazy_dfa.specs.HalfSearches.{first_offset}
use Rattle.lazy_dfa.specs.HalfSearchLaws.{begins_at}
use Rattle.lazy_dfa.specs.SearchAnswers.{reported}
use Rattle.lazy_dfa.specs.ScanOffsets.{came, left_at, last_offset, IsWithinSpan, scan_start}
use Rattle.lazy_dfa.specs.StartCalls.{rejected_by_quit, rejected_by_byte, rejected_mode, rejected_start}
use Rattle.lazy_dfa.specs.Overlapping.{Rest, nothing_left, refused, unless_quit_at, where_supported, end_of, rest_from, whole_rest}
use Rattle.lazy_dfa.specs.Overlapping.{value_past}
use Rattle.lazy_dfa.specs.Overlapping.{rest_past}
use Rattle.lazy_dfa.specs.OverlappingAnswers.{units_met, value_before, rest_at, units_at}
use Rattle.lazy_dfa.proofs.HalfSearches.TurnLemmas.{failed, one_failed}

-- ---- offsets of a span

left_first : (is_reverse : Bool) (q : Search) → left_at is_reverse q (first_offset is_reverse q.start q.end) ≡ span_len q
left_first false q = refl
left_first true q = refl

came_first : (is_reverse : Bool) (q : Search) → came is_reverse q (first_offset is_reverse q.start q.end) ≡ 0
came_first false q = omega arith
came_first true q = omega arith

pub left_last : (is_reverse : Bool) (q : Search) (at : ℕ) → at ≡ last_offset is_reverse q → left_at is_reverse q at ≡ 0
left_last false q at e = omega (arith, e)
left_last true q at e = omega (arith, e)

left_next : (is_reverse : Bool) (q : Search) (at : ℕ) → IsWithinSpan q at → at ≢ last_offset is_reverse q →
    suc (left_at is_reverse q (offset_of is_reverse at 1)) ≡ left_at is_reverse q at
left_next false q at within apart = let l = within.1 in ⊎_elim
    (λ (less : at < q.end). omega (arith, less))
    (λ (past : q.end ≤ at). absurd (apart (omega (arith, l, past))))
    (cases_lt at q.end)
left_next true q at within apart = let l = within.0 in ⊎_elim
    (λ (less : q.start < at). omega (arith, less))
    (λ (past : at ≤ q.start). absurd (apart (omega (arith, l, past))))
    (cases_lt q.start at)

pub came_next : (is_reverse : Bool) (q : Search) (at : ℕ) → IsWithinSpan q at → at ≢ last_offset is_reverse q →
    came is_reverse q (offset_of is_reverse at 1) ≡ suc (came is_reverse q at)
came_next false q at within apart = let l = within.0 in omega (arith, l)
came_next true q at within apart = let l = within.0 in let k = within.1 in ⊎_elim
    (λ (less : q.start < at). omega (arith, less, k))
    (λ (past : at ≤ q.start). absurd (apart (omega (arith, l, past))))
    (cases_lt q.start at)

pub next_within : (is_reverse : Bool) (q : Search) (at : ℕ) → IsWithinSpan q at → at ≢ last_offset is_reverse q →
    IsWithinSpan q (offset_of is_reverse at 1)
next_within false q at within apart = let l = within.0 in let k = within.1 in ⊎_elim
    (λ (less : at < q.end). (omega (arith, l), omega (arith, less)))
    (λ (past : q.end ≤ at). absurd (apart (omega (arith, k, past))))
    (cases_lt at q.end)
next_within true q at within apart = let l = within.0 in let k = within.1 in ⊎_elim
    (λ (less : q.start < at). (omega (arith, less), omega (arith, k)))
    (λ (past : at ≤ q.start). absurd (apart (omega (arith, l, past))))
    (cases_lt q.start at)

pub first_within : (is_reverse : Bool) (q : Search) → q.start ≤ q.end → IsWithinSpan q (first_offset is_reverse q.start q.end)
first_within false q l = (omega arith, l)
first_within true q l = (l, omega arith)

-- ---- the start of an overlapping search

module _ (r : Reader) (q : Search) where
  abbrev from : ℕ
  from = begins_at r q

  abbrev first_state : StateValue
  first_state = first_value r q.anchored q.haystack from

  abbrev is_reverse : Bool
  is_reverse = r.automaton.reverse

  -- if it has begun and reads on at its first offset
  pub begun_rest : rest_from r q.haystack (suc (span_len q)) from first_state ≡ rest_at r q from
  begun_rest = sym (
      ap (λ (n : ℕ). rest_from r q.haystack (suc n) from (value_before r q from)) (left_first is_reverse q)
      ∙ ap (λ (k : ℕ). rest_from r q.haystack (suc (span_len q)) from (state_after r q.haystack from first_state k))
      (came_first is_reverse q))

  pub begun_units : units_met r q.haystack (suc (span_len q)) from first_state ≡ units_at r q from
  begun_units = sym (
      ap (λ (n : ℕ). units_met r q.haystack (suc n) from (value_before r q from)) (left_first is_reverse q)
      ∙ ap (λ (k : ℕ). units_met r q.haystack (suc (span_len q)) from (state_after r q.haystack from first_state k))
      (came_first is_reverse q))

  pub begun_value : value_before r q from ≡ first_state
  begun_value = ap (λ (k : ℕ). state_after r q.haystack from first_state k) (came_first is_reverse q)

  -- if it stopped after a unit
  module _ (at : ℕ) (within : IsWithinSpan q at) where
    pub past_last : at ≡ last_offset is_reverse q → rest_past r q at ≡ nothing_left
    unfolding rest_from
    past_last e = ap (λ (n : ℕ). rest_from r q.haystack n (next_offset r at) (value_past r q at)) (left_last is_reverse q at e)

    module _ (apart : at ≢ last_offset is_reverse q) where
      pub past_value : value_past r q at ≡ value_before r q (next_offset r at)
      past_value = sym (ap (λ (k : ℕ). state_after r q.haystack from first_state k) (came_next is_reverse q at within apart))

      pub past_rest : rest_past r q at ≡ rest_at r q (next_offset r at)
      past_rest =
          ap (λ (n : ℕ). rest_from r q.haystack n (next_offset r at) (value_past r q at)) (sym (left_next is_reverse q at within apart))
          ∙ ap (λ (s : StateValue). rest_from r q.haystack (suc (left_at is_reverse q (next_offset r at))) (next_offset r at) s) past_value

      pub past_units : units_met r q.haystack (left_at is_reverse q at) (next_offset r at) (value_past r q at) ≡ units_at r q
          (next_offset r at)
      past_units =
          ap (λ (n : ℕ). units_met r q.haystack n (next_offset r at) (value_past r q at)) (sym (left_next is_reverse q at within apart))
          ∙ ap (λ (s : StateValue). units_met r q.haystack (suc (left_at is_reverse q (next_offset r at))) (next_offset r at) s) past_value

-- a dead state leaves nothing, and reads nothing
pub dead_rest : (r : Reader) (h : List ℕ) (n i : ℕ) (s : StateValue) → is_dead s ≡ true → rest_from r h n i s ≡ nothing_left
unfolding rest_from
dead_rest r h zero i s e = refl
dead_rest r h (suc n) i s e = rw e refl

pub dead_units : (r : Reader) (h : List ℕ) (n i : ℕ) (s : StateValue) → is_dead s ≡ true → units_met r h n i s ≡ 0
dead_units r h zero i s e = refl
dead_units r h (suc n) i s e = rw e refl

-- ---- starts that are rejected

mode_left : (is : Bool) (mode : Anchored) (e : MatchErrorKind) (all : HalfAnswer) (rest : Rest) (x : StartError) →
    (if is then None else Some (StartUnsupported mode)) ≡ Some x → failed e ≡ reported (if_supported is mode all) →
    where_supported is mode rest ≡ refused e
mode_left true mode e all rest x some is = absurd cc
mode_left false mode e all rest x some is = ap refused (sym (one_failed e (UnsupportedAnchored mode) is))

quit_left : (quits : Bool) (b index : ℕ) (fine : Bool) (mode : Anchored) (e : MatchErrorKind)
    (all : HalfAnswer) (rest : Rest) (x : StartError) →
    rejected_by_quit quits b (if fine then None else Some (StartUnsupported mode)) ≡ Some x →
    failed e ≡ reported (if quits then quit b index else if_supported fine mode all) →
    (if quits then refused (Quit b index) else where_supported fine mode rest) ≡ refused e
quit_left true b index fine mode e all rest x some is = ap refused (sym (one_failed e (Quit b index) is))
quit_left false b index fine mode e all rest x some is = mode_left fine mode e all rest x some is

-- if the start of a scan is rejected, the error of the scan is the error that is left of the overlapping search
pub refused_left : (d : Dfa) (behind : Option ℕ) (index : ℕ) (mode : Anchored) (e : MatchErrorKind)
    (all : HalfAnswer) (rest : Rest) (x : StartError) →
    rejected_by_byte d behind (rejected_mode d mode) ≡ Some x →
    failed e ≡ reported (unless_quit d.quits behind index (if_supported (is_supported (starts_each_of d.options) mode) mode all)) →
    unless_quit_at d.quits behind index (where_supported (is_supported (starts_each_of d.options) mode) mode rest) ≡ refused e
refused_left d None index mode e all rest x some is = mode_left (is_supported (starts_each_of d.options) mode) mode e all rest x some is
refused_left d (Some b) index mode e all rest x some is =
    quit_left (is_quit d.quits (Some b)) b index (is_supported (starts_each_of d.options) mode) mode e all rest x some is

fits_mode : (fit : Bool) (mode : Anchored) → (if fit then None else Some (StartUnsupported mode)) ≡ None → fit ≡ true
fits_mode true mode e = refl
fits_mode false mode e = absurd cc

fits_quit : (quits : Bool) (b : ℕ) (fit : Bool) (mode : Anchored) →
    rejected_by_quit quits b (if fit then None else Some (StartUnsupported mode)) ≡ None → (quits ≡ false) × (fit ≡ true)
fits_quit true b fit mode e = absurd cc
fits_quit false b fit mode e = (refl, fits_mode fit mode e)

-- if a start isn't rejected, its mode is supported, and what is left of the overlapping search is what its first state leaves
pub fit_left : (d : Dfa) (behind : Option ℕ) (index : ℕ) (mode : Anchored) (rest : Rest) →
    rejected_by_byte d behind (rejected_mode d mode) ≡ None →
    (is_supported (starts_each_of d.options) mode ≡ true) ×
    (unless_quit_at d.quits behind index (where_supported (is_supported (starts_each_of d.options) mode) mode rest) ≡ rest)
fit_left d None index mode rest none =
    let fit = fits_mode (is_supported (starts_each_of d.options) mode) mode none in
    (fit, ap (λ (b : Bool). where_supported b mode rest) fit)
fit_left d (Some b) index mode rest none =
    let fit = fits_quit (is_quit d.quits (Some b)) b (is_supported (starts_each_of d.options) mode) mode none in (
      fit.1,
      ap (λ (x : Bool). if x then refused (Quit b index) else where_supported (is_supported (starts_each_of d.options) mode) mode rest)
          fit.0
          ∙ ap (λ (x : Bool). where_supported x mode rest) fit.1,
    )

-- ---- overlapping searches that have not begun

module _ (d : Dfa) (q : Search) where
  abbrev begins : ℕ
  begins = begins_at (reader d) q

  abbrev behind_it : Option ℕ
  behind_it = unit_before d.nfa.automaton.reverse q.haystack begins

  abbrev index_of_it : ℕ
  index_of_it = index_before_offset d.nfa.automaton.reverse begins

  abbrev is_fit : Bool
  is_fit = is_supported (starts_each_of d.options) q.anchored

  abbrev pub whole_from : Rest
  whole_from = rest_from (reader d) q.haystack (suc (span_len q)) begins (first_value (reader d) q.anchored q.haystack begins)

  abbrev started : Rest
  started = unless_quit_at d.quits behind_it index_of_it (where_supported is_fit q.anchored whole_from)

  pub done_left : nat_le q.start q.end ≡ false → whole_rest (reader d) q ≡ nothing_left
  done_left e = ap (λ (b : Bool). if b then started else nothing_left) e

  module _ (begun : nat_le q.start q.end ≡ true) where
    begun_left : whole_rest (reader d) q ≡ started
    begun_left = ap (λ (b : Bool). if b then started else nothing_left) begun

    pub refused_whole : (e : MatchErrorKind) (x : StartError) → rejected_start d (scan_start d q) ≡ Some x →
        Err e ≡ reported (scan (reader d) q.anchored q.earliest q.haystack (span_len q) begins) → whole_rest (reader d) q ≡ refused e
    refused_whole e x some is =
        begun_left
        ∙ refused_left d behind_it index_of_it q.anchored e
        (pass_from (reader d) q.earliest q.haystack (suc (span_len q)) begins (first_value (reader d) q.anchored q.haystack begins) None)
        whole_from x some is

    pub fit_whole : rejected_start d (scan_start d q) ≡ None → (is_fit ≡ true) × (whole_rest (reader d) q ≡ whole_from)
    fit_whole none =
        let fit = fit_left d behind_it index_of_it q.anchored whole_from none in
        (fit.0, begun_left ∙ fit.1)

-- ---- what a state lists from an index on

pub lists_none : (counted : Bool) (at index : ℕ) (patterns : List ℕ) → (counted && nat_lt index (length patterns)) ≡ false →
    (if counted then map (end_of at) (drop index patterns) else []) ≡ []
lists_none false at index patterns e = refl
lists_none true at index patterns e = ap (map (end_of at)) (drop_all index patterns (at_end index (length patterns) e))
  where
    at_end : (i n : ℕ) → nat_lt i n ≡ false → n ≤ i
    at_end i n f = ⊎_elim (λ (l : i < n). absurd (true≢false (sym (lt-ltb i n l) ∙ f))) (λ (l : n ≤ i). l) (cases_lt i n)

pub lists_one : (counted : Bool) (at index : ℕ) (patterns : List ℕ) → (counted && nat_lt index (length patterns)) ≡ true →
    ((if counted then map (end_of at) (drop index patterns) else []) ≡
    (at, slice_index patterns index) ∷ (if counted then map (end_of at) (drop (index + 1) patterns) else [])) × (index < length patterns)
lists_one false at index patterns e = absurd (true≢false (sym e))
lists_one true at index patterns e =
    let l : index < length patterns = ltb-true index (length patterns) e in
    (ap (map (end_of at)) (drop_more patterns index 0 l), l)
