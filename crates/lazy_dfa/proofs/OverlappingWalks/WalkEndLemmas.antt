-- What an overlapping search lists of runs if all matches are searched for: the ends at each offset that it reads, up to a quit byte.
use Rattle.std.proofs.Common.{◌≡◌, ℕ, zero, suc, ◌+◌, ◌-◌, ◌*◌, ◌<◌, ◌≤◌, Bool, true, false, List, [], ◌∷◌, ◌++◌, length, map, Option, Some}
use Rattle.std.proofs.Common.{None, if◌then◌else◌, refl, sym, ap, ◌∙◌, ◌⊎◌, inl, inr, subst, arith}
use Rattle.std.proofs.lemmas.Bool.Decides.{Decides-eqb}
use Rattle.std.specs.List.{filter}
use Rattle.search_core.specs.ByteSets.{has}
use Rattle.search_types.specs.declared.match_error.MatchErrorKind.{MatchErrorKind}
use Rattle.search_types.specs.declared.match_error.MatchErrorKind.TheVariants.{Quit, UnsupportedAnchored}
use Rattle.search_types.specs.declared.match_kind.MatchKind.{MatchKind}
use Rattle.search_types.specs.declared.match_kind.MatchKind.TheVariants.{All as AllMatches}
use Rattle.search_types.specs.Inputs.{Search}
use Rattle.search_types.specs.Places.{counts}
use Rattle.nfa_core.specs.Places.{same_pair}
use Rattle.nfa_core.specs.Walks.{has as has_in, Has, HasNoneTwice, chain_ends}
use Rattle.nfa_core.specs.Runs.{answers}
use Rattle.nfa_core.specs.Ways.{Text, span, offset_of, bytes_left, ways, matched, ends_from}
use Rattle.nfa_core.proofs.ForCallers.{ends_inside, one_value, no_value, join_once, pairs_equal, place_zero}
use Rattle.determinize_core.specs.States.{StateValue, dead}
use Rattle.determinize_core.specs.Steps.{unit_at, unit_before, value_after}
use Rattle.determinize_core.proofs.ForCallers.{all_listed}
use Rattle.lazy_dfa.specs.Readers.{Reader, is_quit}
use Rattle.lazy_dfa.specs.Scans.{index_at, index_before_offset, next_value, next_offset, start_or_dead, first_value}
use Rattle.lazy_dfa.specs.ScanLaws.{unit_of, HasNoQuit, HasNoQuitBefore, IsQuitBefore}
use Rattle.lazy_dfa.specs.HalfSearches.{first_offset}
use Rattle.lazy_dfa.specs.HalfSearchLaws.{begins_at, ends_of}
use Rattle.lazy_dfa.specs.Overlapping.{Rest, refused, onto, end_of, listed, rest_from, whole_rest}
use Rattle.lazy_dfa.specs.OverlappingLaws.{ends_at, ends_by_offset, span_ends, IsBegun, IsInReadingOrder, IsQuitUnit}
use Rattle.lazy_dfa.proofs.HalfSearches.TurnLemmas.{place_next, place_later, dead_is}
use Rattle.lazy_dfa.proofs.HalfSearches.LastLemmas.{pattern, is_at, none_mapped}
use Rattle.lazy_dfa.proofs.HalfSearches.PassQuitLemmas.{unit_first, unit_later, none_more}
use Rattle.lazy_dfa.proofs.HalfSearches.PassLemmas.{dead_next, walk, walk_steps, walk_starts}
use Rattle.lazy_dfa.proofs.OverlappingWalks.PlaceEndLemmas.{HasRoom, order_told, best_by_place, has_by_place, once_by_place}
use Rattle.lazy_dfa.proofs.OverlappingWalks.PlaceEndLemmas.{ordered_by_place}
use Rattle.lazy_dfa.proofs.OverlappingWalks.RestLemmas.{Turn, turn_ends, turn_quits, turn_goes, turn, rest_none, Begins, begins_done}
use Rattle.lazy_dfa.proofs.OverlappingWalks.RestLemmas.{begins_quit}
use Rattle.lazy_dfa.proofs.OverlappingWalks.RestLemmas.{begins_unfit, begins_there, begins, rest_in_span, no_quit_mode, quit_parts}

-- ---- one offset

if_placed : (b : Bool) (j : ℕ) (x : ℕ × ℕ) (kept : List (ℕ × ℕ)) → (b ≡ true → x.0 ≡ j) → map (end_of j) (map pattern kept) ≡ kept →
    map (end_of j) (map pattern (if b then x ∷ kept else kept)) ≡ (if b then x ∷ kept else kept)
if_placed true j x kept at same = λ n. (sym (at refl) n, x.1) ∷ same n
if_placed false j x kept at same = same

-- the patterns of the ends at an offset, paired with that offset again
placed_again : (j : ℕ) (xs : List (ℕ × ℕ)) → map (end_of j) (map pattern (filter (is_at j) xs)) ≡ filter (is_at j) xs
placed_again j [] = refl
placed_again j (x ∷ xs) = if_placed (is_at j x) j x (filter (is_at j) xs) (λ e. (Decides-eqb x.0 j).0 e) (placed_again j xs)

pub listed_is : (counted : ℕ → Bool) (j : ℕ) (ms : List ℕ) (ends : List (ℕ × ℕ)) → ms ≡ map pattern (filter (is_at j) ends) →
    listed counted j ms ≡ ends_at counted ends j
listed_is counted j ms ends e =
    ap (λ (l : List ℕ). if counted j then map (end_of j) l else []) e
    ∙ ap (λ (l : List (ℕ × ℕ)). if counted j then l else []) (placed_again j ends)

either_nothing : (b : Bool) (l : List (ℕ × ℕ)) → l ≡ [] → (if b then l else []) ≡ []
either_nothing true l e = e
either_nothing false l e = refl

-- ---- an overlapping search from an offset

-- What is left of an overlapping search through d units: the ends at their offsets, or those before the offset of the first quit byte.
pub data ReportsFaultOf (r : Reader) (h : List ℕ) (ends : List (ℕ × ℕ)) (j d : ℕ) (rest : Rest) : Type 0 where
  tells_all : rest ≡ record { ends = ends_by_offset r.automaton.reverse (counts r.between_characters h) ends j d; rejection = None } →
      ReportsFaultOf r h ends j d rest
  tells_until : (m b : ℕ) → m < d → unit_of r h j m ≡ Some b → has r.quits b ≡ true → HasNoQuit r h j m →
      rest ≡ record {
        ends = ends_by_offset r.automaton.reverse (counts r.between_characters h) ends j m;
        rejection = Some (Quit b (index_at r.automaton.reverse (offset_of r.automaton.reverse j m)));
      } → ReportsFaultOf r h ends j d rest

module _ (r : Reader) (h : List ℕ) (i len : ℕ) (ends : List (ℕ × ℕ)) (state : ℕ → StateValue)
    (steps : (k : ℕ) → state (suc k) ≡ next_value r h (offset_of r.automaton.reverse i k) (state k))
    (all : (k : ℕ) → k ≤ len → (state (suc k)).matches ≡ map pattern (filter (is_at (offset_of r.automaton.reverse i k)) ends)) where
  abbrev is_reverse : Bool
  is_reverse = r.automaton.reverse

  abbrev counted : ℕ → Bool
  counted = counts r.between_characters h

  abbrev by : ℕ → ℕ → List (ℕ × ℕ)
  by j d = ends_by_offset is_reverse counted ends j d

  next_at : (j k : ℕ) → j ≡ offset_of is_reverse i k → offset_of is_reverse j 1 ≡ offset_of is_reverse i (suc k)
  next_at j k at = ap (λ (p : ℕ). offset_of is_reverse p 1) at ∙ place_next is_reverse i k

  -- after the dead state no run ends
  dead_silent : (k : ℕ) → k ≤ len → state k ≡ dead → ends_at counted ends (offset_of is_reverse i k) ≡ []
  dead_silent k l e =
      either_nothing (counted (offset_of is_reverse i k)) (filter (is_at (offset_of is_reverse i k)) ends)
      (none_mapped (filter (is_at (offset_of is_reverse i k)) ends)
      (sym (all k l) ∙ ap (λ (v : StateValue). v.matches) (dead_next r h i state steps k e)))

  dead_tells : (d k j : ℕ) → j ≡ offset_of is_reverse i k → k + d ≡ suc len → state k ≡ dead → by j d ≡ []
  dead_tells zero k j at left e = refl
  dead_tells (suc d) k j at left e =
      ap (λ (l : List (ℕ × ℕ)). l ++ by (offset_of is_reverse j 1) d)
      (ap (λ (p : ℕ). ends_at counted ends p) at ∙ dead_silent k (omega (arith, left)) e)
      ∙ dead_tells d (suc k) (offset_of is_reverse j 1) (next_at j k at) (omega (arith, left)) (dead_next r h i state steps k e)

  listed_next : (d k j : ℕ) → j ≡ offset_of is_reverse i k → k ≤ len →
      onto (listed counted j (next_value r h j (state k)).matches) (rest_from r h d (next_offset r j) (next_value r h j (state k))) ≡
      onto (ends_at counted ends j) (rest_from r h d (offset_of is_reverse j 1) (state (suc k)))
  listed_next d k j at l =
      ap (λ (v : StateValue). onto (listed counted j v.matches) (rest_from r h d (offset_of is_reverse j 1) v))
      (ap (λ (p : ℕ). next_value r h p (state k)) at ∙ sym (steps k))
      ∙ ap (λ (ends : List (ℕ × ℕ)). onto ends (rest_from r h d (offset_of is_reverse j 1) (state (suc k))))
      (listed_is counted j (state (suc k)).matches ends
      (all k l ∙ ap (λ (p : ℕ). map pattern (filter (is_at p) ends)) (sym at)))

  tells_later : (j d : ℕ) (rest more : Rest) → more ≡ onto (ends_at counted ends j) rest →
      is_quit r.quits (unit_at is_reverse h j) ≡ false → ReportsFaultOf r h ends (offset_of is_reverse j 1) d rest →
      ReportsFaultOf r h ends j (suc d) more
  tells_later j d rest more is quiet (tells_all e) = tells_all (is ∙ ap (λ (z : Rest). onto (ends_at counted ends j) z) e)
  tells_later j d rest more is quiet (tells_until m b l u quits none e) =
      tells_until (suc m) b (omega (arith, l)) (sym (unit_later r h j m) ∙ u) quits (none_more r h j m quiet none)
      (is ∙ ap (λ (z : Rest). onto (ends_at counted ends j) z) e
      ∙ ap (λ (p : ℕ). until (by j (suc m)) b p) (place_later is_reverse j m))
    where
      until : List (ℕ × ℕ) → ℕ → ℕ → Rest
      until ends b p = record { ends = ends; rejection = Some (Quit b (index_at is_reverse p)) }

  tells_turn : (d k j : ℕ) → j ≡ offset_of is_reverse i k → k + suc d ≡ suc len → Turn r h d j (state k) →
      ReportsFaultOf r h ends (offset_of is_reverse j 1) d (rest_from r h d (offset_of is_reverse j 1) (state (suc k))) →
      ReportsFaultOf r h ends j (suc d) (rest_from r h (suc d) j (state k))
  tells_turn d k j at left (turn_ends e is) later =
      tells_all (is ∙ (λ n. record { ends = sym (dead_tells (suc d) k j at left (dead_is (state k) e)) n; rejection = None }))
  tells_turn d k j at left (turn_quits b alive u quits is) later =
      tells_until 0 b (omega arith) (unit_first r h j ∙ u) quits (λ k l. absurd (omega (arith, l)))
      (is ∙ ap (λ (p : ℕ). refused (Quit b (index_at is_reverse p))) (sym (place_zero is_reverse j)))
  tells_turn d k j at left (turn_goes alive quiet is) later =
      tells_later j d (rest_from r h d (offset_of is_reverse j 1) (state (suc k))) (rest_from r h (suc d) j (state k))
      (is ∙ listed_next d k j at (omega (arith, left))) quiet later

  pub walk_tells : (d k j : ℕ) → j ≡ offset_of is_reverse i k → k + d ≡ suc len → ReportsFaultOf r h ends j d (rest_from r h d j (state k))
  walk_tells zero k j at left = tells_all (rest_none r h j (state k))
  walk_tells (suc d) k j at left =
      tells_turn d k j at left (turn r h d j (state k))
      (walk_tells d (suc k) (offset_of is_reverse j 1) (next_at j k at) (omega (arith, left)))

-- ---- whole overlapping searches

all_left : (is_reverse : Bool) (s e : ℕ) (t : Text) → t.start ≡ s → t.end ≡ e →
    bytes_left is_reverse t (first_offset is_reverse s e) ≡ e - s
all_left false s e t a b = omega (arith, a, b)
all_left true s e t a b = omega (arith, a, b)

pub first_low : (is_reverse : Bool) (s e : ℕ) → s ≤ e → first_offset is_reverse s e ≤ e
first_low false s e l = l
first_low true s e l = omega arith

first_room : (is_reverse : Bool) (s e : ℕ) → s ≤ e → HasRoom is_reverse (first_offset is_reverse s e) (suc (e - s))
first_room false s e l = tt
first_room true s e l = omega (arith, l)

module _ (r : Reader) (q : Search) (name : ℕ) (begun : IsBegun r q name) where
  abbrev len : ℕ
  len = q.end - q.start

  abbrev first : ℕ
  first = begins_at r q

  abbrev text : Text
  text = span r.terminator q.haystack q.start q.end

  abbrev all_ends : List (ℕ × ℕ)
  all_ends = ends_of r q name 0

  left_there : bytes_left r.automaton.reverse text first ≡ len
  left_there = all_left r.automaton.reverse q.start q.end text refl refl

  ends_there : all_ends ≡ ends_from r.automaton text (first, name)
  ends_there = ap (λ (p : ℕ). ends_from r.automaton text (p, name)) (place_zero r.automaton.reverse first)

  -- each end lies at an offset of the span
  ends_in_span : (x : ℕ × ℕ) → Has same_pair x all_ends → (k : ℕ) × (k < suc len) × (x.0 ≡ offset_of r.automaton.reverse first k)
  ends_in_span x there =
      let at = ends_inside r.automaton text first name begun.formed
      (first_low r.automaton.reverse q.start q.end begun.begun, begun.inside) x
      (subst (λ (l : List (ℕ × ℕ)). Has same_pair x l) ends_there there) in
      let up = at.1 in
      let left = left_there in
      (at.0, omega (arith, up, left), at.2)

  ends_once : HasNoneTwice same_pair all_ends
  ends_once = join_once same_pair pairs_equal []
      (answers (matched r.automaton) (chain_ends same_pair (ways r.automaton text) (suc q.end * length r.automaton.states) []
      (offset_of r.automaton.reverse first 0, name))) tt

  module _ (wants_all : r.kind ≡ AllMatches) where
    pub states_list : (k : ℕ) → k ≤ len →
        (walk r q.haystack first name (suc k)).matches ≡ map pattern (filter (is_at (offset_of r.automaton.reverse first k)) all_ends)
    states_list k l =
        subst (λ (m : MatchKind). (value_after r.automaton r.terminator m q.haystack first name (suc k)).matches ≡
        map pattern (filter (is_at (offset_of r.automaton.reverse first k)) all_ends)) (sym wants_all)
        (all_listed r.automaton r.terminator q.haystack q.start q.end first name begun.formed
        (first_low r.automaton.reverse q.start q.end begun.begun) begun.within begun.inside k (subst (λ (n : ℕ). k ≤ n) (sym left_there) l)
        ∙ ap (λ (l : List (ℕ × ℕ)). map pattern (filter (is_at (offset_of r.automaton.reverse first k)) l)) (sym ends_there))

    pub first_is : first_value r q.anchored q.haystack first ≡ walk r q.haystack first name 0
    first_is = ap (λ (o : Option ℕ). start_or_dead r (unit_before r.automaton.reverse q.haystack first) o) begun.start
        ∙ walk_starts r q.haystack first name

    tells_from_start : ReportsFaultOf r q.haystack all_ends first (suc len)
        (rest_from r q.haystack (suc len) first (first_value r q.anchored q.haystack first))
    tells_from_start =
        subst (λ (v : StateValue). ReportsFaultOf r q.haystack all_ends first (suc len) (rest_from r q.haystack (suc len) first v)) (sym
        first_is)
        (walk_tells r q.haystack first len all_ends (walk r q.haystack first name) (walk_steps r q.haystack first name) states_list
        (suc len) 0 first (sym (place_zero r.automaton.reverse first)) (omega arith))

    -- ---- without an error

    abbrev Ends : List (ℕ × ℕ) → Type 0
    Ends l = l ≡ span_ends r q name (suc len)

    all_told : (rest : Rest) → rest.rejection ≡ None → ReportsFaultOf r q.haystack all_ends first (suc len) rest → Ends rest.ends
    all_told rest none (tells_all e) = ap (λ (z : Rest). z.ends) e
    all_told rest none (tells_until m b l u quits quiet e) = no_value rest.rejection _ _ none (ap (λ (z : Rest). z.rejection) e)

    begun_tells : (whole_rest r q).rejection ≡ None → Begins r q → Ends (whole_rest r q).ends
    begun_tells none (begins_done past is) = let fits = begun.begun in absurd (omega (arith, past, fits))
    begun_tells none (begins_quit b l u quits is) = no_value (whole_rest r q).rejection _ _ none (ap (λ (z : Rest). z.rejection) is)
    begun_tells none (begins_unfit l quiet unfit is) = no_value (whole_rest r q).rejection _ _ none (ap (λ (z : Rest). z.rejection) is)
    begun_tells none (begins_there l quiet fit is) =
        all_told (whole_rest r q) none
        (subst (λ (z : Rest). ReportsFaultOf r q.haystack all_ends first (suc len) z) (sym is) tells_from_start)

    -- the ends of all runs, offset by offset
    pub rest_by_place : (whole_rest r q).rejection ≡ None → Ends (whole_rest r q).ends
    rest_by_place none = begun_tells none (begins r q)

    pub rest_exactly : (x : ℕ × ℕ) → (whole_rest r q).rejection ≡ None → counts r.between_characters q.haystack x.0 ≡ true →
        has_in same_pair x (whole_rest r q).ends ≡ has_in same_pair x all_ends
    rest_exactly x none counted_there =
        ap (λ (l : List (ℕ × ℕ)). has_in same_pair x l) (rest_by_place none)
        ∙ has_by_place r.automaton.reverse (counts r.between_characters q.haystack) all_ends first (suc len)
        (first_room r.automaton.reverse q.start q.end begun.begun) ends_in_span x counted_there

    pub rest_has : (x : ℕ × ℕ) → (whole_rest r q).rejection ≡ None → Has same_pair x (whole_rest r q).ends →
        Has same_pair x all_ends × (counts r.between_characters q.haystack x.0 ≡ true)
    rest_has x none there =
        let counted_there = (rest_in_span r q x there).2 in
        (sym (rest_exactly x none counted_there) ∙ there, counted_there)

    pub rest_once : (whole_rest r q).rejection ≡ None → HasNoneTwice same_pair (whole_rest r q).ends
    rest_once none =
        subst (λ (l : List (ℕ × ℕ)). HasNoneTwice same_pair l) (sym (rest_by_place none))
        (once_by_place r.automaton.reverse (counts r.between_characters q.haystack) all_ends (suc len) first
        (first_room r.automaton.reverse q.start q.end begun.begun) ends_once)

    pub rest_ordered : (whole_rest r q).rejection ≡ None → IsInReadingOrder r.automaton.reverse (whole_rest r q).ends
    rest_ordered none =
        subst (λ (l : List (ℕ × ℕ)). IsInReadingOrder r.automaton.reverse l) (sym (rest_by_place none))
        (order_told r.automaton.reverse (span_ends r q name (suc len))
        (ordered_by_place r.automaton.reverse (counts r.between_characters q.haystack) all_ends (suc len) first))

    pub rest_best : (j : ℕ) → (whole_rest r q).rejection ≡ None → counts r.between_characters q.haystack j ≡ true →
        filter (is_at j) (whole_rest r q).ends ≡ filter (is_at j) all_ends
    rest_best j none counted_there =
        ap (λ (l : List (ℕ × ℕ)). filter (is_at j) l) (rest_by_place none)
        ∙ best_by_place r.automaton.reverse (counts r.between_characters q.haystack) all_ends first (suc len)
        (first_room r.automaton.reverse q.start q.end begun.begun) ends_in_span j counted_there

    -- ---- before a quit byte

    module _ (b x : ℕ) where
      abbrev IsQuitThere : List (ℕ × ℕ) → Type 0
      IsQuitThere l = (m : ℕ) × IsQuitUnit r q m b x × (l ≡ span_ends r q name m)

      same_quit : (c y : ℕ) (o : Option MatchErrorKind) → o ≡ Some (Quit b x) → o ≡ Some (Quit c y) → (b ≡ c) × (x ≡ y)
      same_quit c y o e f = quit_parts b x c y (one_value (Some (Quit b x)) (Quit b x) (Quit c y) refl (sym e ∙ f))

      told_until : (rest : Rest) → rest.rejection ≡ Some (Quit b x) → ReportsFaultOf r q.haystack all_ends first (suc len) rest →
          IsQuitThere rest.ends
      told_until rest there (tells_all e) = no_value rest.rejection _ _ (ap (λ (z : Rest). z.rejection) e) there
      told_until rest there (tells_until m c l u quits quiet e) =
          let same = same_quit c (index_at r.automaton.reverse (offset_of r.automaton.reverse first m)) rest.rejection there
          (ap (λ (z : Rest). z.rejection) e) in (
            m,
            record {
              within = omega (arith, l);
              unit = u ∙ ap Some (sym same.0);
              quits = ap (has r.quits) same.0 ∙ quits;
              index = same.1;
              quiet = quiet;
            },
            ap (λ (z : Rest). z.ends) e,
          )

      abbrev IsStopped : Rest → Type 0
      IsStopped z = (IsQuitBefore r q.haystack first b x × (z.ends ≡ [])) ⊎ (HasNoQuitBefore r q.haystack first × IsQuitThere z.ends)

      stopped_at : (whole_rest r q).rejection ≡ Some (Quit b x) → Begins r q → IsStopped (whole_rest r q)
      stopped_at there (begins_done past is) = no_value (whole_rest r q).rejection _ _ (ap (λ (z : Rest). z.rejection) is) there
      stopped_at there (begins_quit c l u quits is) =
          let same = same_quit c (index_before_offset r.automaton.reverse first) (whole_rest r q).rejection there
          (ap (λ (z : Rest). z.rejection) is) in
          inl ((u ∙ ap Some (sym same.0), ap (has r.quits) same.0 ∙ quits, same.1), ap (λ (z : Rest). z.ends) is)
      stopped_at there (begins_unfit l quiet unfit is) =
          absurd (no_quit_mode q.anchored b x
          (sym (one_value (whole_rest r q).rejection (Quit b x) (UnsupportedAnchored q.anchored) there (ap (λ (z : Rest). z.rejection)
          is))))
      stopped_at there (begins_there l quiet fit is) =
          inr (
            quiet,
            told_until (whole_rest r q) there
                (subst (λ (z : Rest). ReportsFaultOf r q.haystack all_ends first (suc len) z) (sym is) tells_from_start),
          )

      -- the ends before the unit of the quit byte
      pub rest_before_quit : (whole_rest r q).rejection ≡ Some (Quit b x) → IsStopped (whole_rest r q)
      rest_before_quit there = stopped_at there (begins r q)
