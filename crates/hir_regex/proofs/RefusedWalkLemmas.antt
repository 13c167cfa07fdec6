-- Each end that an overlapping search reports is that of a run, also if an error comes after it.
use Rattle.std.proofs.Common.{◌≡◌, ℕ, zero, suc, ◌-◌, Bool, true, false, List, [], ◌∷◌, Option, Some, None, nat_le, nat_eq, refl, ap, ◌∙◌}
use Rattle.std.proofs.Common.{⊎_elim, subst, if◌then◌else◌}
use Rattle.std.specs.List.{filter}
use Rattle.search_core.specs.ByteSets.{has}
use Rattle.search_types.specs.declared.anchored.Anchored.{Anchored}
use Rattle.search_types.specs.declared.match_error.MatchErrorKind.{MatchErrorKind}
use Rattle.search_types.specs.declared.match_error.MatchErrorKind.TheVariants.{Quit, UnsupportedAnchored}
use Rattle.search_types.specs.declared.match_kind.MatchKind.TheVariants.{All as AllMatches}
use Rattle.search_types.specs.Inputs.{Search}
use Rattle.search_types.specs.Modes.{is_supported}
use Rattle.nfa_core.specs.Places.{same_pair}
use Rattle.nfa_core.specs.Walks.{Has}
use Rattle.nfa_core.specs.Ways.{offset_of}
use Rattle.nfa_core.proofs.ForCallers.{none_in, has_cons, has_same, has_later, of_append, option_cases, pairs_equal}
use Rattle.determinize_core.specs.Steps.{unit_before}
use Rattle.lazy_dfa.specs.Scans.{index_before_offset, first_value}
use Rattle.lazy_dfa.specs.ScanLaws.{HasNoQuitBefore, IsQuitBefore}
use Rattle.lazy_dfa.specs.Readers.{Reader}
use Rattle.lazy_dfa.specs.HalfSearchLaws.{begins_at, ends_of, IsQuitNear}
use Rattle.lazy_dfa.specs.Overlapping.{Rest, nothing_left, refused, unless_quit_at, where_supported, rest_from, whole_rest}
use Rattle.lazy_dfa.specs.OverlappingLaws.{IsBegun, IsQuitUnit, ends_at, ends_by_offset, span_ends}
use Rattle.lazy_dfa.proofs.ForCallers.{rest_has, rest_before_quit, refusal_is}

-- ---- ends by offset are ends

abbrev HasHere : ℕ × ℕ → List (ℕ × ℕ) → Type 0
HasHere x l = Has same_pair x l

if_kept : (b : Bool) (x y : ℕ × ℕ) (kept ys : List (ℕ × ℕ)) → (HasHere x kept → HasHere x ys) →
    HasHere x (if b then y ∷ kept else kept) → HasHere x (y ∷ ys)
if_kept true x y kept ys on there = ⊎_elim
    (λ (e : x ≡ y). has_same same_pair pairs_equal x y ys e)
    (λ (later : HasHere x kept). has_later same_pair x y ys (on later))
    (has_cons same_pair pairs_equal x y kept there)
if_kept false x y kept ys on there = has_later same_pair x y ys (on there)

of_filter : (test : ℕ × ℕ → Bool) (x : ℕ × ℕ) (xs : List (ℕ × ℕ)) → HasHere x (filter test xs) → HasHere x xs
of_filter test x [] there = there
of_filter test x (y ∷ ys) there = if_kept (test y) x y (filter test ys) ys (of_filter test x ys) there

if_some : (b : Bool) (x : ℕ × ℕ) (l ends : List (ℕ × ℕ)) → (HasHere x l → HasHere x ends) → HasHere x (if b then l else []) → HasHere x ends
if_some true x l ends on there = on there
if_some false x l ends on there = none_in same_pair x _ there

of_places : (is_reverse : Bool) (counted : ℕ → Bool) (ends : List (ℕ × ℕ)) (n i : ℕ) (x : ℕ × ℕ) →
    HasHere x (ends_by_offset is_reverse counted ends i n) →
    HasHere x ends
of_places is_reverse counted ends zero i x there = none_in same_pair x _ there
of_places is_reverse counted ends (suc n) i x there =
    of_append same_pair pairs_equal (λ y. HasHere y ends) (ends_at counted ends i)
    (ends_by_offset is_reverse counted ends (offset_of is_reverse i 1) n)
    (λ y here. if_some (counted i) y (filter (λ z. nat_eq z.0 i) ends) ends (of_filter (λ z. nat_eq z.0 i) y ends) here)
    (λ y on. of_places is_reverse counted ends n (offset_of is_reverse i 1) y on)
    x there

-- ---- if its mode isn't supported, an overlapping search reports nothing

silent_at : (quits : List Bool) (u : Option ℕ) (index : ℕ) (e : MatchErrorKind) → (unless_quit_at quits u index (refused e)).ends ≡ []
silent_at quits None index e = refl
silent_at quits (Some b) index e = silent (has quits b)
  where
    silent : (c : Bool) → (if c then refused (Quit b index) else refused e).ends ≡ []
    silent true = refl
    silent false = refl

unfit_silent : (begun fit : Bool) (quits : List Bool) (u : Option ℕ) (index : ℕ) (mode : Anchored) (rest : Rest) → fit ≡ false →
    (if begun then unless_quit_at quits u index (where_supported fit mode rest) else nothing_left).ends ≡ []
unfit_silent false fit quits u index mode rest unfit = refl
unfit_silent true false quits u index mode rest unfit = silent_at quits u index (UnsupportedAnchored mode)
unfit_silent true true quits u index mode rest unfit = cc

module _ (r : Reader) (q : Search) (name : ℕ) (begun : IsBegun r q name) (wants_all : r.kind ≡ AllMatches) (x : ℕ × ℕ)
    (there : Has same_pair x (whole_rest r q).ends) where
  abbrev IsOfRun : Type 0
  IsOfRun = Has same_pair x (ends_of r q name 0)

  by_nothing : (whole_rest r q).ends ≡ [] → IsOfRun
  by_nothing e = none_in same_pair x _ (subst (λ (l : List (ℕ × ℕ)). Has same_pair x l) e there)

  by_quit : (b y : ℕ) → (whole_rest r q).rejection ≡ Some (Quit b y) → IsOfRun
  by_quit b y is = ⊎_elim
      (λ (behind : IsQuitBefore r q.haystack (begins_at r q) b y × ((whole_rest r q).ends ≡ [])). by_nothing behind.1)
      (λ (at : HasNoQuitBefore r q.haystack (begins_at r q) ×
      ((m : ℕ) × IsQuitUnit r q m b y × ((whole_rest r q).ends ≡ span_ends r q name m))).
      of_places r.automaton.reverse _ (ends_of r q name 0) at.1.0 (begins_at r q) x
      (subst (λ (l : List (ℕ × ℕ)). Has same_pair x l) at.1.2 there))
      (rest_before_quit r q name begun wants_all b y is)

  by_mode : is_supported r.starts_for_each_pattern q.anchored ≡ false → IsOfRun
  by_mode unfit =
      by_nothing (unfit_silent (nat_le q.start q.end) (is_supported r.starts_for_each_pattern q.anchored) r.quits
      (unit_before r.automaton.reverse q.haystack (begins_at r q)) (index_before_offset r.automaton.reverse (begins_at r q)) q.anchored
      (rest_from r q.haystack (suc (q.end - q.start)) (begins_at r q) (first_value r q.anchored q.haystack (begins_at r q))) unfit)

  pub told_of_runs : IsOfRun
  told_of_runs = ⊎_elim
      (λ (none : (whole_rest r q).rejection ≡ None). (rest_has r q name begun wants_all x none there).0)
      (λ (some : (e : MatchErrorKind) × ((whole_rest r q).rejection ≡ Some e)). ⊎_elim
      (λ (quits : (b : ℕ) × (y : ℕ) × (some.0 ≡ Quit b y) × IsQuitNear r q.haystack q.start q.end b y).
      by_quit quits.0 quits.1 (some.1 ∙ ap Some quits.2))
      (λ (unfit : (some.0 ≡ UnsupportedAnchored q.anchored) × (is_supported r.starts_for_each_pattern q.anchored ≡ false)). by_mode unfit.1)
      (refusal_is r q some.0 some.1))
      (option_cases (whole_rest r q).rejection)
