-- What an overlapping search that comes to no error reads: at each offset of its span neither byte next to the offset is a quit byte, or no
-- state is left there.
use Rattle.std.proofs.Common.{◌≡◌, ◌⊎◌, ℕ, zero, suc, ◌+◌, ◌-◌, ◌<◌, ◌≤◌, Bool, true, false, ◌&&◌, ◌==◌, not, List, [], Option, Some}
use Rattle.std.proofs.Common.{None, refl, sym, ap, ◌∙◌, inl, inr, ⊎_elim, subst, arith, if◌then◌else◌}
use Rattle.std.proofs.lemmas.Bool.{cases_Bool, cases_lt, le-leb}
use Rattle.std.specs.List.{flat_map}
use Rattle.search_core.specs.ByteSets.{has}
use Rattle.search_core.specs.Text.{byte_before}
use Rattle.search_types.specs.declared.anchored.Anchored.{Anchored}
use Rattle.search_types.specs.declared.match_error.MatchErrorKind.TheVariants.{Quit}
use Rattle.search_types.specs.declared.match_kind.MatchKind.{MatchKind}
use Rattle.search_types.specs.Inputs.{Search}
use Rattle.search_types.specs.Modes.{is_supported}
use Rattle.search_types.specs.Places.{counts}
use Rattle.look_core.specs.Terminators.{Terminator}
use Rattle.nfa_core.specs.Nfa.{Automaton}
use Rattle.nfa_core.specs.Ways.{offset_of}
use Rattle.determinize_core.specs.States.{StateValue}
use Rattle.determinize_core.specs.Starts.{start_of}
use Rattle.determinize_core.specs.Steps.{closed, kept_among, unit_steps, reading, ids_before, gains, known_before, known_after, families}
use Rattle.determinize_core.specs.Steps.{step_value, start_value, value_after, unit_at, unit_before}
use Rattle.lazy_dfa.specs.Scans.{is_empty, is_dead, index_at, index_before_offset, next_value, next_offset, start_or_dead, first_value}
use Rattle.lazy_dfa.specs.Readers.{Reader, is_quit}
use Rattle.lazy_dfa.specs.HalfSearches.{first_offset}
use Rattle.lazy_dfa.specs.HalfSearchLaws.{begins_at}
use Rattle.lazy_dfa.specs.Overlapping.{Rest, nothing_left, refused, onto, unless_quit_at, where_supported, listed, rest_from, whole_rest}
use Rattle.lazy_dfa.specs.OverlappingLaws.{IsBegun}
use Rattle.nfa_core.proofs.ForCallers.{place_zero}
use Rattle.determinize_core.proofs.ForCallers.{reading_none}
use Rattle.lazy_dfa.proofs.ForCallers.{place_next, empty_is}

-- ---- states that are left

first_true : (a b c d e f : Bool) → a && b && c && d && e && f ≡ true → a ≡ true
first_true true b c d e f is = refl
first_true false b c d e f is = is

dead_ids : (v : StateValue) → is_dead v ≡ true → v.ids ≡ []
dead_ids v dead =
    empty_is v.ids (first_true (is_empty v.ids) (is_empty v.matches) (v.look_have == 0) (v.look_need == 0) (not v.is_from_word)
    (not v.is_half_crlf) dead)

none_closed : (a : Automaton) (b : Bool) (looks : ℕ) (ids : List ℕ) → ids ≡ [] → (if b then closed a looks ids else ids) ≡ []
none_closed a true looks ids e = ap (closed a looks) e
none_closed a false looks ids e = e

pub none_before : (a : Automaton) (t : Terminator) (v : StateValue) (u : Option ℕ) → v.ids ≡ [] → ids_before a t v u ≡ []
none_before a t v u e = none_closed a (gains v (known_before a.reverse t v u)) (known_before a.reverse t v u) v.ids e

-- if none is left none comes
none_next : (a : Automaton) (t : Terminator) (kind : MatchKind) (v : StateValue) (u : Option ℕ) → v.ids ≡ [] →
    (step_value a t kind v u).ids ≡ []
none_next a t kind v u e =
    ap (λ (l : List ℕ). kept_among a (closed a (known_after (families a) a.reverse t u) (flat_map (unit_steps a u) l)))
    (ap (reading kind a) (none_before a t v u e) ∙ reading_none kind a)

-- ---- a unit

unit_reads : (quits : List Bool) (u : Option ℕ) (index : ℕ) (more : Rest) → (unless_quit_at quits u index more).rejection ≡ None →
    (is_quit quits u ≡ false) × (more.rejection ≡ None)
unit_reads quits None index more none = (refl, none)
unit_reads quits (Some b) index more none = ⊎_elim
    (λ (e : has quits b ≡ true).
    let never : Some (Quit b index) ≡ None =
    sym (ap (λ (q : Bool). (if q then refused (Quit b index) else more).rejection) e) ∙ none in cc)
    (λ (e : has quits b ≡ false). (e, sym (ap (λ (q : Bool). (if q then refused (Quit b index) else more).rejection) e) ∙ none))
    (cases_Bool (has quits b))

mode_reads : (fit : Bool) (mode : Anchored) (more : Rest) → (where_supported fit mode more).rejection ≡ None → more.rejection ≡ None
mode_reads true mode more none = none
mode_reads false mode more none = cc

alive_reads : (dead : Bool) (rest : Rest) → dead ≡ false → (if dead then nothing_left else rest).rejection ≡ None → rest.rejection ≡ None
alive_reads true rest alive none = cc
alive_reads false rest alive none = none

-- the unit before the next offset, in reading order, is the one that was read
pub unit_behind_next : (b : Bool) (h : List ℕ) (i k : ℕ) → (b ≡ true → k < i) →
    unit_before b h (offset_of b i (suc k)) ≡ unit_at b h (offset_of b i k)
unit_behind_next false h i k inside = let e : i + suc k ≡ suc (i + k) = omega arith in ap (byte_before h) e
unit_behind_next true h i k inside =
    let l : k < i = inside refl in
    let e : i - k ≡ suc (i - suc k) = omega (arith, l) in sym (ap (byte_before h) e)

-- ---- an overlapping search from an offset

module _ (r : Reader) (h : List ℕ) (i q : ℕ) where
  abbrev place : ℕ → ℕ
  place k = offset_of r.automaton.reverse i k

  abbrev state : ℕ → StateValue
  state k = value_after r.automaton r.terminator r.kind h i q k

  abbrev pub IsQuiet : ℕ → Type 0
  IsQuiet k = is_quit r.quits (unit_at r.automaton.reverse h (place k)) ≡ false

  abbrev HasNone : ℕ → Type 0
  HasNone k = (state k).ids ≡ []

  -- what is left of it comes to no error, or it has no state
  abbrev Goes : ℕ → ℕ → Type 0
  Goes n k = ((rest_from r h n (place k) (state k)).rejection ≡ None) ⊎ HasNone k

  abbrev pub more : ℕ → ℕ → Rest
  more n k = rest_from r h n (next_offset r (place k)) (next_value r h (place k) (state k))

  pub turn_is : (n k : ℕ) → rest_from r h (suc n) (place k) (state k) ≡
      (if is_dead (state k) then nothing_left else
      unless_quit_at r.quits (unit_at r.automaton.reverse h (place k)) (index_at r.automaton.reverse (place k))
      (onto (listed (counts r.between_characters h) (place k) (next_value r h (place k) (state k)).matches) (more n k)))
  unfolding rest_from
  turn_is n k = refl

  next_is : (k : ℕ) → next_value r h (place k) (state k) ≡ state (suc k)
  unfolding next_value
  next_is k = refl

  pub more_is : (n k : ℕ) → more n k ≡ rest_from r h n (place (suc k)) (state (suc k))
  more_is n k =
      ap (λ (j : ℕ). rest_from r h n j (next_value r h (place k) (state k))) (place_next r.automaton.reverse i k)
      ∙ ap (λ (v : StateValue). rest_from r h n (place (suc k)) v) (next_is k)

  none_later : (k : ℕ) → HasNone k → HasNone (suc k)
  none_later k e = none_next r.automaton r.terminator r.kind (state k) (unit_at r.automaton.reverse h (place k)) e

  one_turn : (n k : ℕ) → Goes (suc n) k → (IsQuiet k ⊎ HasNone k) × Goes n (suc k)
  one_turn n k (inr e) = (inr e, inr (none_later k e))
  one_turn n k (inl none) = ⊎_elim
      (λ (dead : is_dead (state k) ≡ true). let e = dead_ids (state k) dead in (inr e, inr (none_later k e)))
      (λ (alive : is_dead (state k) ≡ false).
      let read = unit_reads r.quits (unit_at r.automaton.reverse h (place k)) (index_at r.automaton.reverse (place k))
      (onto (listed (counts r.between_characters h) (place k) (next_value r h (place k) (state k)).matches) (more n k))
      (alive_reads (is_dead (state k)) _ alive (sym (ap (λ (z : Rest). z.rejection) (turn_is n k)) ∙ none)) in
      (inl read.0, inl (sym (ap (λ (z : Rest). z.rejection) (more_is n k)) ∙ read.1)))
      (cases_Bool (is_dead (state k)))

  reads_or_ends : (n k : ℕ) → Goes n k → (m : ℕ) → k ≤ m → m < k + n → IsQuiet m ⊎ HasNone m
  reads_or_ends zero k goes m low high = absurd (omega (arith, low, high))
  reads_or_ends (suc n) k goes m low high =
      let turn = one_turn n k goes in
      elim (cases_lt k m) [
        | inl lt ↦ reads_or_ends n (suc k) turn.1 m lt (omega (arith, high))
        | inr ge ↦ let same : k ≡ m = omega (arith, low, ge) in subst (λ (j : ℕ). IsQuiet j ⊎ HasNone j) same turn.0
      ]

  -- neither byte next to the offset is a quit byte
  abbrev pub IsQuietBeside : ℕ → Type 0
  IsQuietBeside k = IsQuiet k × (is_quit r.quits (unit_before r.automaton.reverse h (place k)) ≡ false)

  module _ (n : ℕ) (goes : Goes (suc n) 0) (behind : is_quit r.quits (unit_before r.automaton.reverse h (place 0)) ≡ false)
      (inside : r.automaton.reverse ≡ true → n ≤ i) where
    behind_quiet : (m : ℕ) → m ≤ n → (is_quit r.quits (unit_before r.automaton.reverse h (place m)) ≡ false) ⊎ HasNone m
    behind_quiet zero l = inl behind
    behind_quiet (suc m) l = ⊎_elim
        (λ (quiet : IsQuiet m).
        inl (ap (is_quit r.quits) (unit_behind_next r.automaton.reverse h i m (λ is_reverse. let far = inside is_reverse in
        omega (arith, far, l)))
        ∙ quiet))
        (λ (none : HasNone m). inr (none_later m none))
        (reads_or_ends (suc n) 0 goes m (omega arith) (omega (arith, l)))

    quiet_or_none : (m : ℕ) → m ≤ n → IsQuietBeside m ⊎ HasNone m
    quiet_or_none m l = ⊎_elim
        (λ (quiet : IsQuiet m). ⊎_elim
        (λ (back : is_quit r.quits (unit_before r.automaton.reverse h (place m)) ≡ false). inl (quiet, back))
        (λ (none : HasNone m). inr none) (behind_quiet m l))
        (λ (none : HasNone m). inr none)
        (reads_or_ends (suc n) 0 goes m (omega arith) (omega (arith, l)))

-- ---- whole overlapping searches

walk_begins : (r : Reader) (behind : Option ℕ) (h : List ℕ) (i q : ℕ) → behind ≡ unit_before r.automaton.reverse h i →
    start_or_dead r behind (Some q) ≡ value_after r.automaton r.terminator r.kind h i q 0
unfolding start_or_dead
walk_begins r behind h i q is = ap (λ (o : Option ℕ). start_value r.automaton r.terminator (start_of r.terminator o) q) is

pub reverse_inside : (b : Bool) (s e : ℕ) → b ≡ true → e - s ≤ first_offset b s e
reverse_inside true s e is_reverse = omega arith
reverse_inside false s e is_reverse = cc

module _ (r : Reader) (q : Search) (name : ℕ) (begun : IsBegun r q name) where
  abbrev begin : ℕ
  begin = begins_at r q

  abbrev behind : Option ℕ
  behind = unit_before r.automaton.reverse q.haystack begin

  abbrev start : Rest
  start = rest_from r q.haystack (suc (q.end - q.start)) begin (first_value r q.anchored q.haystack begin)

  abbrev in_mode : Rest
  in_mode = where_supported (is_supported r.starts_for_each_pattern q.anchored) q.anchored start

  pub whole_is : whole_rest r q ≡ unless_quit_at r.quits behind (index_before_offset r.automaton.reverse begin) in_mode
  whole_is =
      ap (λ (b : Bool). if b then unless_quit_at r.quits behind (index_before_offset r.automaton.reverse begin) in_mode else nothing_left)
      (le-leb q.start q.end begun.begun)

  pub start_is : start ≡ rest_from r q.haystack (suc (q.end - q.start)) (offset_of r.automaton.reverse begin 0)
      (value_after r.automaton r.terminator r.kind q.haystack begin name 0)
  start_is =
      ap (λ (o : Option ℕ). rest_from r q.haystack (suc (q.end - q.start)) begin (start_or_dead r behind o)) begun.start
      ∙ ap (λ (v : StateValue). rest_from r q.haystack (suc (q.end - q.start)) begin v) (walk_begins r behind q.haystack begin name refl)
      ∙ ap (λ (j : ℕ). rest_from r q.haystack (suc (q.end - q.start)) j
      (value_after r.automaton r.terminator r.kind q.haystack begin name 0))
      (sym (place_zero r.automaton.reverse begin))

  pub behind_there : is_quit r.quits behind ≡ false →
      is_quit r.quits (unit_before r.automaton.reverse q.haystack (offset_of r.automaton.reverse begin 0)) ≡ false
  behind_there quiet =
      ap (λ (j : ℕ). is_quit r.quits (unit_before r.automaton.reverse q.haystack j)) (place_zero r.automaton.reverse begin) ∙ quiet

  module _ (none : (whole_rest r q).rejection ≡ None) where
    begins_quiet : (is_quit r.quits behind ≡ false) × (start.rejection ≡ None)
    begins_quiet =
        let read = unit_reads r.quits behind (index_before_offset r.automaton.reverse begin) in_mode
        (sym (ap (λ (z : Rest). z.rejection) whole_is) ∙ none) in
        (read.0, mode_reads (is_supported r.starts_for_each_pattern q.anchored) q.anchored start read.1)

    pub walk_quiet_or_none : (m : ℕ) → m ≤ q.end - q.start → IsQuietBeside r q.haystack begin name m ⊎
        ((value_after r.automaton r.terminator r.kind q.haystack begin name m).ids ≡ [])
    walk_quiet_or_none =
        quiet_or_none r q.haystack begin name (q.end - q.start) (inl (sym (ap (λ (z : Rest). z.rejection) start_is) ∙ begins_quiet.1))
        (behind_there begins_quiet.0) (reverse_inside r.automaton.reverse q.start q.end)
