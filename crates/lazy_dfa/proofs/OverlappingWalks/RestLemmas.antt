-- What is left of an overlapping search, turn by turn: how it begins and reads on, its errors, and where the ends lie that it reports.
use Rattle.std.proofs.Common.{◌≡◌, ℕ, zero, suc, ◌-◌, ◌<◌, ◌≤◌, Bool, true, false, List, ◌∷◌, map, Option, Some, None, if◌then◌else◌, []}
use Rattle.std.proofs.Common.{refl, sym, ap, ◌∙◌, ◌⊎◌, inl, inr, ⊎_elim, subst, arith}
use Rattle.std.proofs.lemmas.Bool.{cases_Bool, le-leb}
use Rattle.search_core.specs.ByteSets.{has}
use Rattle.search_core.specs.Text.{byte_at}
use Rattle.search_types.specs.declared.anchored.Anchored.{Anchored}
use Rattle.search_types.specs.declared.match_error.MatchErrorKind.{MatchErrorKind}
use Rattle.search_types.specs.declared.match_error.MatchErrorKind.TheVariants.{Quit, UnsupportedAnchored}
use Rattle.search_types.specs.Inputs.{Search}
use Rattle.search_types.specs.Modes.{is_supported}
use Rattle.search_types.specs.Places.{counts}
use Rattle.nfa_core.specs.Places.{same_pair}
use Rattle.nfa_core.specs.Walks.{Has}
use Rattle.nfa_core.specs.Ways.{offset_of}
use Rattle.nfa_core.proofs.ForCallers.{none_in, has_cons, of_append, option_cases, one_value, no_value, pairs_equal, place_zero}
use Rattle.determinize_core.specs.States.{StateValue, dead}
use Rattle.determinize_core.specs.Steps.{unit_at, unit_before}
use Rattle.lazy_dfa.specs.Readers.{Reader, is_quit}
use Rattle.lazy_dfa.specs.Scans.{index_at, index_before_offset, is_dead, next_value, next_offset, start_name, start_or_dead, first_value}
use Rattle.lazy_dfa.specs.ScanLaws.{IsFirstQuit, HasNoQuitBefore}
use Rattle.lazy_dfa.specs.HalfSearches.{first_offset}
use Rattle.lazy_dfa.specs.HalfSearchLaws.{begins_at, IsQuitNear, HasNoQuitNear}
use Rattle.lazy_dfa.specs.Overlapping.{Rest, nothing_left, refused, onto, unless_quit_at, where_supported, end_of, listed, rest_from}
use Rattle.lazy_dfa.specs.Overlapping.{whole_rest}
use Rattle.lazy_dfa.proofs.HalfSearches.TurnLemmas.{place_later}
use Rattle.lazy_dfa.proofs.HalfSearches.PassQuitLemmas.{first_here, first_later}
use Rattle.lazy_dfa.proofs.HalfSearches.NearbyLemmas.{behind_near, at_near}
use Rattle.lazy_dfa.proofs.HalfSearches.ScanLemmas.{past_le, begins_inside, le_or_done}

-- ---- a unit

-- an overlapping search fails at a unit, or what is left stays
pub data AtUnit (quits : List Bool) (u : Option ℕ) (index : ℕ) (rest : Rest) : Type 0 where
  reads_quit : (b : ℕ) → u ≡ Some b → has quits b ≡ true → unless_quit_at quits u index rest ≡ refused (Quit b index) →
      AtUnit quits u index rest
  reads_other : is_quit quits u ≡ false → unless_quit_at quits u index rest ≡ rest → AtUnit quits u index rest

pub at_unit : (quits : List Bool) (u : Option ℕ) (index : ℕ) (rest : Rest) → AtUnit quits u index rest
at_unit quits None index rest = reads_other refl refl
at_unit quits (Some b) index rest = ⊎_elim
    (λ (e : has quits b ≡ true). reads_quit b refl e (ap (λ (q : Bool). if q then refused (Quit b index) else rest) e))
    (λ (e : has quits b ≡ false). reads_other e (ap (λ (q : Bool). if q then refused (Quit b index) else rest) e))
    (cases_Bool (has quits b))

pub past_other : (quits : List Bool) (u : Option ℕ) (index : ℕ) (rest : Rest) → is_quit quits u ≡ false →
    unless_quit_at quits u index rest ≡ rest
past_other quits None index rest e = refl
past_other quits (Some b) index rest e = ap (λ (q : Bool). if q then refused (Quit b index) else rest) e

-- ---- a turn

-- an overlapping search ends at the dead state, fails at a quit byte, or goes on after the unit
pub data Turn (r : Reader) (h : List ℕ) (n i : ℕ) (v : StateValue) : Type 0 where
  turn_ends : is_dead v ≡ true → rest_from r h (suc n) i v ≡ nothing_left → Turn r h n i v
  turn_quits : (b : ℕ) → is_dead v ≡ false → unit_at r.automaton.reverse h i ≡ Some b → has r.quits b ≡ true →
      rest_from r h (suc n) i v ≡ refused (Quit b (index_at r.automaton.reverse i)) → Turn r h n i v
  turn_goes : is_dead v ≡ false → is_quit r.quits (unit_at r.automaton.reverse h i) ≡ false →
      rest_from r h (suc n) i v ≡ onto (listed (counts r.between_characters h) i (next_value r h i v).matches)
      (rest_from r h n (next_offset r i) (next_value r h i v)) → Turn r h n i v

pub rest_none : (r : Reader) (h : List ℕ) (i : ℕ) (v : StateValue) → rest_from r h zero i v ≡ nothing_left
unfolding rest_from
rest_none r h i v = refl

module _ (r : Reader) (h : List ℕ) (n i : ℕ) (v : StateValue) where
  abbrev read_on : Rest
  read_on = onto (listed (counts r.between_characters h) i (next_value r h i v).matches)
      (rest_from r h n (next_offset r i) (next_value r h i v))

  abbrev read_unit : Rest
  read_unit = unless_quit_at r.quits (unit_at r.automaton.reverse h i) (index_at r.automaton.reverse i) read_on

  rest_more : rest_from r h (suc n) i v ≡ (if is_dead v then nothing_left else read_unit)
  unfolding rest_from
  rest_more = refl

  alive_turn : is_dead v ≡ false → AtUnit r.quits (unit_at r.automaton.reverse h i) (index_at r.automaton.reverse i) read_on →
      Turn r h n i v
  alive_turn e (reads_quit b u quits is) =
      turn_quits b e u quits (rest_more ∙ ap (λ (d : Bool). if d then nothing_left else read_unit) e ∙ is)
  alive_turn e (reads_other quiet is) =
      turn_goes e quiet (rest_more ∙ ap (λ (d : Bool). if d then nothing_left else read_unit) e ∙ is)

  pub rest_dead : is_dead v ≡ true → rest_from r h (suc n) i v ≡ nothing_left
  rest_dead e = rest_more ∙ ap (λ (d : Bool). if d then nothing_left else read_unit) e

  pub turn : Turn r h n i v
  turn = ⊎_elim (λ (e : is_dead v ≡ true). turn_ends e (rest_dead e))
      (λ (e : is_dead v ≡ false). alive_turn e (at_unit r.quits (unit_at r.automaton.reverse h i) (index_at r.automaton.reverse i) read_on))
      (cases_Bool (is_dead v))

-- ---- how an overlapping search begins

-- It is done, or fails at the look-behind byte of its first offset or for its mode, or reads on from that offset.
pub data Begins (r : Reader) (q : Search) : Type 0 where
  begins_done : q.end < q.start → whole_rest r q ≡ nothing_left → Begins r q
  begins_quit : (b : ℕ) → q.start ≤ q.end → unit_before r.automaton.reverse q.haystack (begins_at r q) ≡ Some b → has r.quits b ≡ true →
      whole_rest r q ≡ refused (Quit b (index_before_offset r.automaton.reverse (begins_at r q))) → Begins r q
  begins_unfit : q.start ≤ q.end → HasNoQuitBefore r q.haystack (begins_at r q) →
      is_supported r.starts_for_each_pattern q.anchored ≡ false → whole_rest r q ≡ refused (UnsupportedAnchored q.anchored) → Begins r q
  begins_there : q.start ≤ q.end → HasNoQuitBefore r q.haystack (begins_at r q) →
      is_supported r.starts_for_each_pattern q.anchored ≡ true →
      whole_rest r q ≡ rest_from r q.haystack (suc (q.end - q.start)) (begins_at r q)
      (first_value r q.anchored q.haystack (begins_at r q)) →
      Begins r q

module _ (r : Reader) (q : Search) where
  abbrev from_start : Rest
  from_start = rest_from r q.haystack (suc (q.end - q.start)) (begins_at r q) (first_value r q.anchored q.haystack (begins_at r q))

  abbrev in_mode : Rest
  in_mode = where_supported (is_supported r.starts_for_each_pattern q.anchored) q.anchored from_start

  abbrev past_behind : Rest
  past_behind = unless_quit_at r.quits (unit_before r.automaton.reverse q.haystack (begins_at r q))
      (index_before_offset r.automaton.reverse (begins_at r q)) in_mode

  pub rest_done : q.end < q.start → whole_rest r q ≡ nothing_left
  rest_done past = ap (λ (b : Bool). if b then past_behind else nothing_left) (past_le q.start q.end past)

  rest_begun : q.start ≤ q.end → whole_rest r q ≡ past_behind
  rest_begun l = ap (λ (b : Bool). if b then past_behind else nothing_left) (le-leb q.start q.end l)

  mode_told : is_supported r.starts_for_each_pattern q.anchored ≡ false → in_mode ≡ refused (UnsupportedAnchored q.anchored)
  mode_told unfit = ap (λ (b : Bool). if b then from_start else refused (UnsupportedAnchored q.anchored)) unfit

  mode_fits : is_supported r.starts_for_each_pattern q.anchored ≡ true → in_mode ≡ from_start
  mode_fits fit = ap (λ (b : Bool). if b then from_start else refused (UnsupportedAnchored q.anchored)) fit

  begun : q.start ≤ q.end →
      AtUnit r.quits (unit_before r.automaton.reverse q.haystack (begins_at r q)) (index_before_offset r.automaton.reverse (begins_at r q))
      in_mode → Begins r q
  begun l (reads_quit b u quits is) = begins_quit b l u quits (rest_begun l ∙ is)
  begun l (reads_other none is) = ⊎_elim
      (λ (fit : is_supported r.starts_for_each_pattern q.anchored ≡ true).
      begins_there l none fit (rest_begun l ∙ is ∙ mode_fits fit))
      (λ (unfit : is_supported r.starts_for_each_pattern q.anchored ≡ false).
      begins_unfit l none unfit (rest_begun l ∙ is ∙ mode_told unfit))
      (cases_Bool (is_supported r.starts_for_each_pattern q.anchored))

  pub begins : Begins r q
  begins = ⊎_elim
      (λ (l : q.start ≤ q.end). begun l (at_unit r.quits (unit_before r.automaton.reverse q.haystack (begins_at r q))
      (index_before_offset r.automaton.reverse (begins_at r q)) in_mode))
      (λ (past : q.end < q.start). begins_done past (rest_done past))
      (le_or_done r q q.start q.end)

-- ---- where ends lie

pub mapped_there : (i : ℕ) (ms : List ℕ) (x : ℕ × ℕ) → Has same_pair x (map (end_of i) ms) → x.0 ≡ i
mapped_there i [] x there = none_in same_pair x _ there
mapped_there i (m ∷ ms) x there = ⊎_elim
    (λ (e : x ≡ (i, m)). ap (λ (p : ℕ × ℕ). p.0) e)
    (λ later. mapped_there i ms x later)
    (has_cons same_pair pairs_equal x (i, m) (map (end_of i) ms) there)

if_listed : (b : Bool) (counted : ℕ → Bool) (i : ℕ) (ms : List ℕ) (x : ℕ × ℕ) → counted i ≡ b →
    Has same_pair x (if b then map (end_of i) ms else []) → (x.0 ≡ i) × (counted x.0 ≡ true)
if_listed true counted i ms x e there = let at = mapped_there i ms x there in (at, ap counted at ∙ e)
if_listed false counted i ms x e there = none_in same_pair x _ there

-- an end lies at an offset that is read and that counts
abbrev pub IsToldAt : Reader → List ℕ → ℕ → ℕ → ℕ × ℕ → Type 0
IsToldAt r h n i x = (k : ℕ) × (k < n) × (x.0 ≡ offset_of r.automaton.reverse i k) × (counts r.between_characters h x.0 ≡ true)

module _ (r : Reader) (h : List ℕ) where
  abbrev AreToldAt : ℕ → ℕ → StateValue → Type 0
  AreToldAt n i v = (x : ℕ × ℕ) → Has same_pair x (rest_from r h n i v).ends → IsToldAt r h n i x

  listed_first : (n i : ℕ) (ms : List ℕ) (x : ℕ × ℕ) → Has same_pair x (listed (counts r.between_characters h) i ms) →
      IsToldAt r h (suc n) i x
  listed_first n i ms x there =
      let at = if_listed (counts r.between_characters h i) (counts r.between_characters h) i ms x refl there in
      (0, omega arith, at.0 ∙ sym (place_zero r.automaton.reverse i), at.1)

  told_turn : (n i : ℕ) (v : StateValue) → Turn r h n i v → AreToldAt n (next_offset r i) (next_value r h i v) → AreToldAt (suc n) i v
  told_turn n i v (turn_ends e is) later x there = none_in same_pair x _ (subst (λ (z : Rest). Has same_pair x z.ends) is there)
  told_turn n i v (turn_quits b e u quits is) later x there = none_in same_pair x _ (subst (λ (z : Rest). Has same_pair x z.ends) is there)
  told_turn n i v (turn_goes e quiet is) later x there =
      of_append same_pair pairs_equal (λ (y : ℕ × ℕ). IsToldAt r h (suc n) i y)
      (listed (counts r.between_characters h) i (next_value r h i v).matches)
      (rest_from r h n (next_offset r i) (next_value r h i v)).ends
      (λ y here. listed_first n i (next_value r h i v).matches y here)
      (λ y on. let at = later y on in let less = at.1 in
      (suc at.0, omega (arith, less), at.2 ∙ place_later r.automaton.reverse i at.0, at.3))
      x (subst (λ (z : Rest). Has same_pair x z.ends) is there)

  pub told_there : (n i : ℕ) (v : StateValue) → AreToldAt n i v
  told_there zero i v x there = none_in same_pair x _ (subst (λ (z : Rest). Has same_pair x z.ends) (rest_none r h i v) there)
  told_there (suc n) i v x there =
      told_turn n i v (turn r h n i v) (λ y on. told_there n (next_offset r i) (next_value r h i v) y on) x there

-- ---- the errors of an overlapping search

module _ (r : Reader) (h : List ℕ) where
  -- the error is that of a quit byte, the first one that is read
  abbrev IsRefusedBy : ℕ → ℕ → MatchErrorKind → Type 0
  IsRefusedBy n i e = (b : ℕ) × (x : ℕ) × (e ≡ Quit b x) × IsFirstQuit r h i n b x

  abbrev AreRefusedBy : ℕ → ℕ → StateValue → Type 0
  AreRefusedBy n i v = (e : MatchErrorKind) → (rest_from r h n i v).rejection ≡ Some e → IsRefusedBy n i e

  refused_turn : (n i : ℕ) (v : StateValue) → Turn r h n i v → AreRefusedBy n (next_offset r i) (next_value r h i v) →
      AreRefusedBy (suc n) i v
  refused_turn n i v (turn_ends d is) later e there =
      no_value None e _ refl (subst (λ (z : Rest). z.rejection ≡ Some e) is there)
  refused_turn n i v (turn_quits b d u quits is) later e there = (
    b,
    index_at r.automaton.reverse i,
    sym (one_value (Some (Quit b (index_at r.automaton.reverse i))) (Quit b (index_at r.automaton.reverse i)) e refl
        (subst (λ (z : Rest). z.rejection ≡ Some e) is there)),
    first_here r h i n b (index_at r.automaton.reverse i) u quits refl,
  )
  refused_turn n i v (turn_goes d quiet is) later e there =
      let by = later e (subst (λ (z : Rest). z.rejection ≡ Some e) is there) in
      (by.0, by.1, by.2, first_later r h i n by.0 by.1 quiet by.3)

  pub refused_there : (n i : ℕ) (v : StateValue) → AreRefusedBy n i v
  refused_there zero i v e there = no_value None e _ refl (subst (λ (z : Rest). z.rejection ≡ Some e) (rest_none r h i v) there)
  refused_there (suc n) i v e there =
      refused_turn n i v (turn r h n i v) (λ f on. refused_there n (next_offset r i) (next_value r h i v) f on) e there

-- ---- whole overlapping searches

in_span : (is_reverse : Bool) (s e k j : ℕ) → s ≤ e → k < suc (e - s) → j ≡ offset_of is_reverse (first_offset is_reverse s e) k → (s ≤ j) ×
    (j ≤ e)
in_span false s e k j fits l at = (omega (arith, fits, l, at), omega (arith, fits, l, at))
in_span true s e k j fits l at = (omega (arith, fits, l, at), omega (arith, fits, l, at))

pub no_quit_mode : (m : Anchored) (b x : ℕ) → UnsupportedAnchored m ≡ Quit b x → ⊥
no_quit_mode m b x e = let never : true ≡ false = cc in absurd (grind (arith, never))

pub quit_parts : (b x c y : ℕ) → Quit b x ≡ Quit c y → (b ≡ c) × (x ≡ y)
quit_parts b x c y e = (cc, cc)

pub is_no_quit : (quits : List Bool) (u : Option ℕ) (b : ℕ) → u ≡ Some b → has quits b ≡ true → is_quit quits u ≡ false → ⊥
is_no_quit quits u b e is none = let never : true ≡ false = sym is ∙ sym (ap (is_quit quits) e) ∙ none in absurd (grind (arith, never))

module _ (r : Reader) (q : Search) where
  abbrev IsInSpan : ℕ × ℕ → Type 0
  IsInSpan x = (q.start ≤ x.0) × (x.0 ≤ q.end) × (counts r.between_characters q.haystack x.0 ≡ true)

  told_in_span : (x : ℕ × ℕ) → Begins r q → Has same_pair x (whole_rest r q).ends → IsInSpan x
  told_in_span x (begins_done past is) there = none_in same_pair x _ (subst (λ (z : Rest). Has same_pair x z.ends) is there)
  told_in_span x (begins_quit b l u quits is) there = none_in same_pair x _ (subst (λ (z : Rest). Has same_pair x z.ends) is there)
  told_in_span x (begins_unfit l none unfit is) there = none_in same_pair x _ (subst (λ (z : Rest). Has same_pair x z.ends) is there)
  told_in_span x (begins_there l none fit is) there =
      let at = told_there r q.haystack (suc (q.end - q.start)) (begins_at r q) (first_value r q.anchored q.haystack (begins_at r q)) x
      (subst (λ (z : Rest). Has same_pair x z.ends) is there) in
      let near = in_span r.automaton.reverse q.start q.end at.0 x.0 l at.1 at.2 in
      (near.0, near.1, at.3)

  -- each end that is reported lies in the span, at an offset that counts
  pub rest_in_span : (x : ℕ × ℕ) → Has same_pair x (whole_rest r q).ends → IsInSpan x
  rest_in_span x there = told_in_span x (begins r q) there

  abbrev IsEarliestError : MatchErrorKind → Type 0
  IsEarliestError e = ((b : ℕ) × (x : ℕ) × (e ≡ Quit b x) × IsQuitNear r q.haystack q.start q.end b x) ⊎
      ((e ≡ UnsupportedAnchored q.anchored) × (is_supported r.starts_for_each_pattern q.anchored ≡ false))

  refusal_by : (e : MatchErrorKind) → Begins r q → (whole_rest r q).rejection ≡ Some e → IsEarliestError e
  refusal_by e (begins_done past is) there = no_value None e _ refl (subst (λ (z : Rest). z.rejection ≡ Some e) is there)
  refusal_by e (begins_quit b l u quits is) there =
      let x : ℕ = index_before_offset r.automaton.reverse (begins_at r q) in
      inl (
        b,
        x,
        sym (one_value (Some (Quit b x)) (Quit b x) e refl (subst (λ (z : Rest). z.rejection ≡ Some e) is there)),
        behind_near r q.haystack q.start q.end r.automaton.reverse (q.end - q.start) (begins_at r q) b x
            (begins_inside r q r.automaton.reverse q.start q.end l) u quits refl,
      )
  refusal_by e (begins_unfit l none unfit is) there =
      inr (
        sym (one_value (Some (UnsupportedAnchored q.anchored)) (UnsupportedAnchored q.anchored) e refl
            (subst (λ (z : Rest). z.rejection ≡ Some e) is there)),
        unfit,
      )
  refusal_by e (begins_there l none fit is) there =
      let by = refused_there r q.haystack (suc (q.end - q.start)) (begins_at r q) (first_value r q.anchored q.haystack (begins_at r q)) e
      (subst (λ (z : Rest). z.rejection ≡ Some e) is there) in
      let at = by.3 in
      inl (
        by.0,
        by.1,
        by.2,
        at_near r q.haystack q.start q.end r.automaton.reverse (q.end - q.start) (begins_at r q) at.0
            (offset_of r.automaton.reverse (begins_at r q) at.0) by.0 by.1 (begins_inside r q r.automaton.reverse q.start q.end l)
            at.1 refl at.2 at.3 at.4,
      )

  -- an error is that of a quit byte in the span or next to it, or that of the mode
  pub refusal_is : (e : MatchErrorKind) → (whole_rest r q).rejection ≡ Some e → IsEarliestError e
  refusal_is e there = refusal_by e (begins r q) there

  pub refusal_kinds : (e : MatchErrorKind) → (whole_rest r q).rejection ≡ Some e →
      ((b x : ℕ) × (e ≡ Quit b x)) ⊎ ((e ≡ UnsupportedAnchored q.anchored) × (is_supported r.starts_for_each_pattern q.anchored ≡ false))
  refusal_kinds e there = ⊎_elim
      (λ (quits : (b : ℕ) × (x : ℕ) × (e ≡ Quit b x) × IsQuitNear r q.haystack q.start q.end b x). inl (quits.0, quits.1, quits.2))
      (λ (unfit : (e ≡ UnsupportedAnchored q.anchored) × (is_supported r.starts_for_each_pattern q.anchored ≡ false)). inr unfit)
      (refusal_is e there)

  pub quit_is_near : (b x : ℕ) → (whole_rest r q).rejection ≡ Some (Quit b x) → IsQuitNear r q.haystack q.start q.end b x
  quit_is_near b x there = ⊎_elim
      (λ (quits : (c : ℕ) × (y : ℕ) × (Quit b x ≡ Quit c y) × IsQuitNear r q.haystack q.start q.end c y).
      let same = quit_parts b x quits.0 quits.1 quits.2 in
      subst (λ (c : ℕ). IsQuitNear r q.haystack q.start q.end c x) (sym same.0)
      (subst (λ (y : ℕ). IsQuitNear r q.haystack q.start q.end quits.0 y) (sym same.1) quits.3))
      (λ (unfit : (Quit b x ≡ UnsupportedAnchored q.anchored) × (is_supported r.starts_for_each_pattern q.anchored ≡ false)).
      absurd (no_quit_mode q.anchored b x (sym unfit.0)))
      (refusal_is (Quit b x) there)

  not_refused : is_supported r.starts_for_each_pattern q.anchored ≡ true → HasNoQuitNear r q.haystack q.start q.end →
      (e : MatchErrorKind) → (whole_rest r q).rejection ≡ Some e → ⊥
  not_refused fit none e there = ⊎_elim
      (λ (quits : (b : ℕ) × (x : ℕ) × (e ≡ Quit b x) × IsQuitNear r q.haystack q.start q.end b x).
      let near = quits.3 in
      is_no_quit r.quits (byte_at q.haystack quits.1) quits.0 near.0 near.1 (none quits.1 near.2 near.3))
      (λ (unfit : (e ≡ UnsupportedAnchored q.anchored) × (is_supported r.starts_for_each_pattern q.anchored ≡ false)).
      let never : true ≡ false = sym fit ∙ unfit.1 in absurd (grind (arith, never)))
      (refusal_is e there)

  pub quiet_goes : is_supported r.starts_for_each_pattern q.anchored ≡ true → HasNoQuitNear r q.haystack q.start q.end →
      (whole_rest r q).rejection ≡ None
  quiet_goes fit none = ⊎_elim (λ (e : (whole_rest r q).rejection ≡ None). e)
      (λ (e : (x : MatchErrorKind) × ((whole_rest r q).rejection ≡ Some x)). absurd (not_refused fit none e.0 e.1))
      (option_cases (whole_rest r q).rejection)

  -- ---- no pattern

  first_dead : start_name r.automaton q.anchored ≡ None → first_value r q.anchored q.haystack (begins_at r q) ≡ dead
  unfolding start_or_dead
  first_dead none = ap (λ (name : Option ℕ). start_or_dead r (unit_before r.automaton.reverse q.haystack (begins_at r q)) name) none

  none_told : start_name r.automaton q.anchored ≡ None → Begins r q → (whole_rest r q).ends ≡ []
  none_told none (begins_done past is) = ap (λ (z : Rest). z.ends) is
  none_told none (begins_quit b l u quits is) = ap (λ (z : Rest). z.ends) is
  none_told none (begins_unfit l quiet unfit is) = ap (λ (z : Rest). z.ends) is
  none_told none (begins_there l quiet fit is) = ap (λ (z : Rest). z.ends) (is
      ∙ rest_dead r q.haystack (q.end - q.start) (begins_at r q) (first_value r q.anchored q.haystack (begins_at r q))
      (ap is_dead (first_dead none)))

  -- no end of a pattern that doesn't exist is reported
  pub rest_of_no_pattern : start_name r.automaton q.anchored ≡ None → (whole_rest r q).ends ≡ []
  rest_of_no_pattern none = none_told none (begins r q)
