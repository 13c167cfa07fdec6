-- One unit of an overlapping search in its span: what a step says about it, and what follows from that.
use Rattle.std.proofs.Common.{◌≡◌, ◌≢◌, ◌⊎◌, inl, inr, ℕ, ◌+◌, ◌*◌, ◌==◌, ◌&&◌, ◌||◌, not, nat_le, is_none, min, Bool}
use Rattle.std.proofs.Common.{true, false, true≢false, List, [], ◌∷◌, length, Option, Some, None, Err, IsSome, refl, sym, ap, ◌∙◌, subst}
use Rattle.std.proofs.Common.{⊎_elim, arith}
use Rattle.std.proofs.lemmas.Bool.{eqb-true, eq-eqb}
use Rattle.search_core.specs.ByteSets.{has}
use Rattle.nfa_core.specs.Ways.{offset_of}
use Rattle.determinize_core.specs.States.{StateValue}
use Rattle.determinize_core.specs.StateBytes.{is_match}
use Rattle.determinize_core.specs.Steps.{unit_at}
use Rattle.search_types.specs.declared.match_error.MatchErrorKind.{MatchErrorKind}
use Rattle.search_types.specs.declared.match_error.MatchErrorKind.TheVariants.{Quit}
use Rattle.search_types.specs.Inputs.{Search}
use Rattle.search_types.specs.Places.{counts}
use Rattle.lazy_dfa.specs.Caches.{CacheValue, IsShaped, IsRow, HeldAt, Names, names_dead, names_held, greatest, progress_len, moved_to}
use Rattle.lazy_dfa.specs.Caches.{search_total_len, is_clear_denied, fits, has_no_room, row_holding}
use Rattle.lazy_dfa.specs.ConfigValue.{clears_of, minimum_bytes_of}
use Rattle.lazy_dfa.specs.Courses.{state_after, stops_after}
use Rattle.lazy_dfa.specs.declared.cache_error.CacheError.{CacheError}
use Rattle.lazy_dfa.specs.declared.cache_error.CacheError.TheVariants.{GaveUp, NoMemory}
use Rattle.lazy_dfa.specs.declared.search.position.Position.{Position}
use Rattle.lazy_dfa.specs.declared.cache.progress.Progress.{Progress}
use Rattle.lazy_dfa.specs.declared.search.scan_steps.Turn.{Turn}
use Rattle.lazy_dfa.specs.declared.search.scan_steps.Turn.TheVariants.{GoesOn, Ends, Quits}
use Rattle.lazy_dfa.specs.Dfas.{Dfa, reader, is_dead as is_lost}
use Rattle.lazy_dfa.specs.Ids.{has_tag, match_tag}
use Rattle.lazy_dfa.specs.Linked.{IsMoved}
use Rattle.lazy_dfa.specs.Readers.{is_quit}
use Rattle.lazy_dfa.specs.Scans.{index_at, is_empty, is_dead}
use Rattle.lazy_dfa.specs.Points.{Point, point, began}
use Rattle.lazy_dfa.specs.LeftProgress.{progress_reached}
use Rattle.lazy_dfa.specs.SearchAnswers.{pair_of, progress_of, running_at}
use Rattle.lazy_dfa.specs.ScanOffsets.{last_offset, finished, finished_where, error_of, gave_up_at}
use Rattle.lazy_dfa.specs.ScanSteps.{FailsOn, GoesOne, IsSeen, IsTurn}
use Rattle.lazy_dfa.specs.OverlappingTurns.{reports_end, is_over, ReportsUnit, IsStepTo, FailsUnit, StopsWith, ReadsInto}
use Rattle.lazy_dfa.proofs.OverlappingWalks.WalkToldLemmas.{unit_stepped, unit_finished}
use Rattle.lazy_dfa.proofs.CacheChanges.LinkedLemmas.{moved_trans}
use Rattle.lazy_dfa.proofs.Courses.SpanTurnLemmas.{held_moved, leaves_forth, goes_back, began_moved, moved_is, some_moved, runs_there}
use Rattle.lazy_dfa.proofs.Courses.SpanTurnLemmas.{finished_moves, fails_back, leaves_back}
use Rattle.lazy_dfa.proofs.Courses.TurnStepLemmas.{row_matches, has_not}
use Rattle.lazy_dfa.proofs.Courses.WholePassLemmas.{min_twice}

-- ---- room

-- If a search ends where it is, the sum of all searches stays the same. So whether a clear pays off stays the same, too.
still_refused : (clears bytes : Option ℕ) (v : CacheValue) (at : ℕ) → moved_to at v.progress ≡ v.progress →
    is_clear_denied clears bytes (finished at v) ≡ is_clear_denied clears bytes v
still_refused None bytes v at e = refl
still_refused (Some least) None v at e = refl
still_refused (Some least) (Some bytes) v at e =
    ap (λ (n : ℕ). nat_le least v.clears && not (nat_le (min (bytes * (length v.states + 3)) greatest) n)) same
  where
    no_more : (n : ℕ) → n ≡ n + 0
    no_more n = omega arith

    same : search_total_len (finished at v) ≡ search_total_len v
    same = min_twice (v.searched + progress_len (moved_to at v.progress)) 0 greatest
        ∙ (ap (λ (n : ℕ). min n greatest) (sym (no_more (v.searched + progress_len (moved_to at v.progress))))
        ∙ ap (λ (p : Option Progress). min (v.searched + progress_len p) greatest) e)

still_lacks : (d : Dfa) (v : CacheValue) (at : ℕ) (s : StateValue) → moved_to at v.progress ≡ v.progress →
    has_no_room d (finished at v) s ≡ has_no_room d v s
still_lacks d v at s e =
    ap (λ (b : Bool). not (is_lost s) && (is_none (row_holding s v.states) && (not (fits d.capacity s v) && b)))
    (still_refused (clears_of d.options) (minimum_bytes_of d.options) v at e)

moved_twice : (at : ℕ) (o : Option Progress) → moved_to at (moved_to at o) ≡ moved_to at o
moved_twice at None = refl
moved_twice at (Some p) = refl

-- ---- tags

both : (a b c : Bool) → a ≡ b → (a && c) ≡ (c && b)
both a b c e = ap (λ (x : Bool). x && c) e ∙ swap b c
  where
    swap : (b c : Bool) → (b && c) ≡ (c && b)
    swap true true = refl
    swap true false = refl
    swap false true = refl
    swap false false = refl

some_listed : (ms : List ℕ) → is_match ms ≡ not (is_empty ms)
some_listed [] = refl
some_listed (p ∷ ps) = refl

-- the tag and the offset show whether an end is listed that counts
tag_tells : (d : Dfa) (h : List ℕ) (v : CacheValue) (id at : ℕ) (reports : Bool) (s : StateValue) → IsShaped v →
    reports ≡ (has_tag match_tag id && counts (reader d).between_characters h at) →
    Names v id s → reports ≡ reports_end (reader d) h at s
tag_tells d h v id at reports s i e (names_held g) =
    e ∙ both (has_tag match_tag id) (not (is_empty s.matches)) (counts (reader d).between_characters h at) (row_matches v id s i g
    ∙ some_listed s.matches)
tag_tells d h v id at reports s i e (names_dead f g) =
    e ∙ both (has_tag match_tag id) (not (is_empty s.matches)) (counts (reader d).between_characters h at)
    (has_not match_tag id (omega (arith, f, i.narrow)) ∙ sym (ap (λ (t : StateValue). not (is_empty t.matches)) g))

-- ---- a step

-- the unit at an offset, by the direction and the haystack that the code uses
pub unit_same : (is_reverse back : Bool) (q : Search) (h : List ℕ) (at : ℕ) (u : Option ℕ) → u ≡ unit_at is_reverse h at → h ≡ q.haystack →
    is_reverse ≡ back → u ≡ unit_at back q.haystack at
unit_same is_reverse back q h at u e f g = e ∙ (ap (λ (x : List ℕ). unit_at is_reverse x at) f
    ∙ ap (λ (b : Bool). unit_at b q.haystack at) g)

module _ (d : Dfa) (q : Search) (is_reverse : Bool) (same : is_reverse ≡ d.nfa.automaton.reverse) (v0 v1 v2 : CacheValue)
    (m1 n1 m2 n2 at id : ℕ) (best : Option (ℕ × ℕ)) (u : Option ℕ)
    (place : ℕ) (moves : v1 ≡ record v0 { progress = moved_to place v0.progress }) (runs : IsSome v0.progress) where
  abbrev from : Point
  from = point v0 m1 n1 at id best

  abbrev before : Point
  before = point v1 m1 n1 at id best

  abbrev rev : Bool
  rev = d.nfa.automaton.reverse

  moved : IsMoved v0 v1
  moved = moved_is v0 v1 place moves

  goes_from : (to : ℕ) (best2 : Option (ℕ × ℕ)) → GoesOne d q.haystack before v2 m2 n2 to best2 →
      GoesOne d q.haystack from v2 m2 n2 to best2
  goes_from to best2 g = goes_back d v0 v1 moved q.haystack m1 n1 at id best (point v2 m2 n2 (offset_of rev at 1) to best2) 1
      (ap (λ (c : CacheValue). c.searched) moves) (ap (λ (c : CacheValue). began c.progress) moves
      ∙ began_moved place v0.progress) (some_moved v0 v1 place moves) g

  -- where a step leads if its unit isn't a quit byte
  pub step_leads : (to : ℕ) (best2 : Option (ℕ × ℕ)) (turn : Turn) → place ≡ gave_up_at rev q at → (turn ≡ Quits → ⊥) →
      IsSeen d false q.haystack u before v2 m2 n2 to best2 turn → IsStepTo d q from v2 m2 n2 to best2 turn
  step_leads to best2 GoesOn there never x = (goes_from to best2 x.0, x.2, unit_stepped d q at place there v0 v1 v2 moves x.1)
  step_leads to best2 Ends there never x = (
    goes_from to best2 x.0,
    λ s held. ⊎_elim
        (λ (y : stops_after (reader d) false q.haystack at s 0 ≡ true). absurd (true≢false (sym y)))
        (λ (y : is_dead (state_after (reader d) q.haystack at s 1) ≡ true). y)
        (x.2 s (held_moved v0 v1 id s moved held)),
    unit_stepped d q at place there v0 v1 v2 moves x.1,
  )
  step_leads to best2 Quits there never x = absurd (never refl)

  -- if the step fails
  module _ (v3 : CacheValue) (there : place ≡ gave_up_at rev q at) (is : u ≡ unit_at rev q.haystack at) where
    fails_forth : IsMoved v2 v3 → FailsOn d q.haystack from v2 m2 n2 0 → FailsOn d q.haystack from v3 m2 n2 0
    fails_forth e f = record { leaves = leaves_forth d q.haystack from v2 v3 m2 n2 0 e f.leaves; unknown = f.unknown }

    -- what is reported, depending on whether the unit that fails is the last one
    abbrev ReportsFaultOf : CacheValue → Type 0
    ReportsFaultOf v = ReportsUnit d (at == last_offset rev q) q at v0 v

    before_told : (e : CacheError) → IsTurn d false q.haystack u before v2 m2 n2 (Err e) → ReportsUnit d false q at v0 v2
    before_told NoMemory turn = unit_stepped d q at place there v0 v1 v2 moves turn.2
    before_told GaveUp turn = inl (
      ap progress_of (turn.3 ∙ moves) ∙ ap (λ (x : ℕ). progress_reached x (progress_of v0)) there,
      ap (λ (v : CacheValue). v.clears) (turn.3 ∙ moves),
    )

    refused_before : (e : CacheError) → IsTurn d false q.haystack u before v2 m2 n2 (Err e) → ReportsFaultOf v2 →
        FailsUnit d q from v2 m2 n2 (error_of place e)
    refused_before NoMemory turn reports = (fails_back d v0 v1 moved q.haystack m1 n1 at id best v2 m2 n2 0 turn.0, reports)
    refused_before GaveUp turn reports = (
      fails_back d v0 v1 moved q.haystack m1 n1 at id best v2 m2 n2 0 turn.0,
      ap (is_quit d.quits) (sym is) ∙ turn.1,
      there,
      λ s held. turn.2 s (held_moved v0 v1 id s moved held),
      λ far. ap (λ (v : CacheValue). running_at v.progress) turn.3 ∙ runs_there v0 v1 place moves runs,
      reports,
      subst (λ (v : CacheValue). IsMoved v0 v) (sym turn.3) moved,
    )

    refused_last : (e : CacheError) → at ≡ last_offset rev q → v3 ≡ finished place v2 →
        IsTurn d false q.haystack u before v2 m2 n2 (Err e) →
        ReportsFaultOf v3 → FailsUnit d q from v3 m2 n2 (error_of place e)
    refused_last NoMemory last f turn reports = (
      fails_forth (finished_moves v2 v3 place f) (fails_back d v0 v1 moved q.haystack m1 n1 at id best v2 m2 n2 0 turn.0),
      reports,
    )
    refused_last GaveUp last f turn reports =
        let at_place : moved_to place v2.progress ≡ v2.progress =
        ap (λ (c : CacheValue). moved_to place c.progress) (turn.3 ∙ moves)
        ∙ (moved_twice place v0.progress ∙ sym (ap (λ (c : CacheValue). c.progress) (turn.3 ∙ moves))) in (
          fails_forth (finished_moves v2 v3 place f) (fails_back d v0 v1 moved q.haystack m1 n1 at id best v2 m2 n2 0 turn.0),
          ap (is_quit d.quits) (sym is) ∙ turn.1,
          there,
          λ s held. ap (λ (c : CacheValue). has_no_room d c (state_after (reader d) q.haystack at s 1)) f
              ∙ (still_lacks d v2 place (state_after (reader d) q.haystack at s 1) at_place ∙ turn.2 s (held_moved v0 v1 id s moved held)),
          λ far. absurd (far last),
          reports,
          moved_trans v0 v2 v3 (subst (λ (v : CacheValue). IsMoved v0 v) (sym turn.3) moved) (finished_moves v2 v3 place f),
        )

    wanted_is : {wanted : Bool} → wanted ≡ (at == last_offset is_reverse q) → wanted ≡ (at == last_offset rev q)
    wanted_is w = w ∙ ap (λ (b : Bool). at == last_offset b q) same

    pub step_refused : (e : CacheError) (err : MatchErrorKind) (wanted : Bool) → wanted ≡ (at == last_offset is_reverse q) →
        v3 ≡ finished_where wanted place v2 → err ≡ error_of place e →
        IsTurn d false q.haystack u before v2 m2 n2 (Err e) → FailsUnit d q from v3 m2 n2 err
    step_refused e err true w f reported turn = subst (λ (x : MatchErrorKind). FailsUnit d q from v3 m2 n2 x) (sym reported)
        (refused_last e (eqb-true at (last_offset is_reverse q) (sym w) ∙ ap (λ (b : Bool). last_offset b q) same) f turn
        (subst (λ (b : Bool). ReportsUnit d b q at v0 v3) (wanted_is w)
        (unit_finished d q at place there v0 v2 v3 f (before_told e turn))))
    step_refused e err false w f reported turn = subst (λ (x : MatchErrorKind). FailsUnit d q from v3 m2 n2 x) (sym reported)
        (subst (λ (c : CacheValue). FailsUnit d q from c m2 n2 (error_of place e)) (sym f) (refused_before e turn
        (subst (λ (b : Bool). ReportsUnit d b q at v0 v2) (wanted_is w) (before_told e turn))))

  -- by a quit byte
  pub step_quits : (to : ℕ) (best2 : Option (ℕ × ℕ)) (turn : Turn) (v3 : CacheValue) (b index : ℕ) (err : MatchErrorKind) →
      place ≡ gave_up_at rev q at →
      v3 ≡ finished place v2 →
      u ≡ unit_at rev q.haystack at → u ≡ Some b →
      index ≡ index_at is_reverse at → err ≡ Quit b index → turn ≡ Quits → IsSeen d false q.haystack u before v2 m2 n2 to best2 turn →
      FailsUnit d q from v3 m2 n2 err
  step_quits to best2 turn v3 b index err there ends is some here reported e seen =
      let x = subst (λ (t : Turn). IsSeen d false q.haystack u before v2 m2 n2 to best2 t) e seen in
      let byte : x.2.0 ≡ b = one_byte x.2.0 b (sym x.2.1 ∙ some) in
      subst (λ (o : MatchErrorKind). FailsUnit d q from v3 m2 n2 o) (sym reported) (
        leaves_forth d q.haystack from v2 v3 m2 n2 0 (finished_moves v2 v3 place ends)
            (leaves_back d v0 v1 moved q.haystack m1 n1 at id best v2 m2 n2 0 x.0),
        sym is ∙ some,
        ap (has d.quits) (sym byte) ∙ x.2.2,
        here ∙ ap (λ (b : Bool). index_at b at) same,
        unit_finished d q at place there v0 v2 v3 ends (unit_stepped d q at place there v0 v1 v2 moves x.3),
      )
    where
      one_byte : (a b : ℕ) → Some a ≡ Some b → a ≡ b
      one_byte a b e = cc

-- ---- a unit

module _ (d : Dfa) (q : Search) (is_reverse : Bool) (same : is_reverse ≡ d.nfa.automaton.reverse) (p : Point) (v : CacheValue) (m n : ℕ)
    (id : ℕ) (turn : Turn) (reports last : Bool)
    (mine : IsShaped v) (listed : reports ≡ (has_tag match_tag id && counts (reader d).between_characters q.haystack p.at))
    (is_last : last ≡ (p.at == last_offset is_reverse q)) where
  abbrev Step : Option (ℕ × ℕ) → Type 0
  Step best = IsStepTo d q p v m n id best turn

  goes_of : (best : Option (ℕ × ℕ)) (t : Turn) → IsStepTo d q p v m n id best t → GoesOne d q.haystack p v m n id best
  goes_of best GoesOn x = x.0
  goes_of best Ends x = x.0
  goes_of best Quits x = absurd x

  tells_there : (best : Option (ℕ × ℕ)) → Step best → (s : StateValue) → HeldAt p.cache p.id s →
      reports ≡ reports_end (reader d) q.haystack p.at (state_after (reader d) q.haystack p.at s 1)
  tells_there best x s held = tag_tells d q.haystack v id p.at reports (state_after (reader d) q.haystack p.at s 1) mine listed
      ((goes_of best turn x).names s (names_held held))

  -- the call is over
  pub unit_ends : (w : CacheValue) (place : ℕ) (position : Position) → position.id ≡ id → position.at ≡ p.at →
      is_over turn reports last ≡ true → place ≡ gave_up_at is_reverse q p.at → w ≡ finished place v →
      Step (pair_of position.best) → StopsWith d q p w m n position reports
  unit_ends w place position is at over there ended x = record {
    behind = v;
    goes = subst (λ (i : ℕ). GoesOne d q.haystack p v m n i (pair_of position.best)) (sym is) (goes_of (pair_of position.best) turn x);
    place = at;
    ended = ended ∙ ap (λ (i : ℕ). finished i v) (there ∙ ap (λ (b : Bool). gave_up_at b q p.at) same);
    listed = tells_there (pair_of position.best) x;
    why = λ none s held. by turn x over none s held;
    reported = unit_finished d q p.at place (there ∙ ap (λ (b : Bool). gave_up_at b q p.at) same) p.cache v w ended (told_of_it turn x);
  }
    where
      at_last : (a b : Bool) → a ≡ false → (a || b) ≡ true → b ≡ true
      at_last false b e f = f
      at_last true b e f = absurd (true≢false e)

      by : (t : Turn) → IsStepTo d q p v m n id (pair_of position.best) t → is_over t reports last ≡ true → reports ≡ false →
          (s : StateValue) →
          HeldAt p.cache p.id s →
          (is_dead (state_after (reader d) q.haystack p.at s 1) ≡ true) ⊎ (p.at ≡ last_offset d.nfa.automaton.reverse q)
      by GoesOn x over none s held = inr (eqb-true p.at (last_offset is_reverse q) (sym is_last ∙ at_last reports last none over)
          ∙ ap (λ (b : Bool). last_offset b q) same)
      by Ends x over none s held = inl (x.1 s held)
      by Quits x over none s held = absurd x

      told_of_it : (t : Turn) → IsStepTo d q p v m n id (pair_of position.best) t → ReportsUnit d false q p.at p.cache v
      told_of_it GoesOn x = x.2
      told_of_it Ends x = x.2
      told_of_it Quits x = absurd x

  not_last : is_over turn reports last ≡ false → p.at ≢ last_offset is_reverse q
  not_last over e = by turn over (is_last ∙ eq-eqb p.at (last_offset is_reverse q) e)
    where
      never : (a : Bool) → (a || true) ≡ false → ⊥
      never true e = true≢false e
      never false e = true≢false e

      by : (t : Turn) → is_over t reports last ≡ false → last ≡ true → ⊥
      by GoesOn f g = never reports (sym (ap (λ (b : Bool). reports || b) g) ∙ f)
      by Ends f g = true≢false f
      by Quits f g = true≢false f

  -- it goes on
  pub unit_goes : (position : Position) → position.id ≡ id → position.at ≡ offset_of is_reverse p.at 1 → is_over turn reports last ≡ false →
      Step (pair_of position.best) → ReadsInto d q p v m n position reports false
  unit_goes position is at over x = (
    subst (λ (i : ℕ). GoesOne d q.haystack p v m n i (pair_of position.best)) (sym is) (goes_of (pair_of position.best) turn x),
    at ∙ ap (λ (b : Bool). offset_of b p.at 1) same,
    (λ e. not_last over (e ∙ ap (λ (b : Bool). last_offset b q) (sym same))),
    subst (IsRow v) (sym is) (row_of turn x over),
    λ s held. sym (tells_there (pair_of position.best) x s held) ∙ none turn over,
    told_on turn x over,
  )
    where
      told_on : (t : Turn) → IsStepTo d q p v m n id (pair_of position.best) t → is_over t reports last ≡ false →
          ReportsUnit d false q p.at p.cache v
      told_on GoesOn x over = x.2
      told_on Ends x over = absurd (true≢false over)
      told_on Quits x over = absurd x

      row_of : (t : Turn) → IsStepTo d q p v m n id (pair_of position.best) t → is_over t reports last ≡ false → IsRow v id
      row_of GoesOn x over = x.1
      row_of Ends x over = absurd (true≢false over)
      row_of Quits x over = absurd x

      first_no : (a b : Bool) → (a || b) ≡ false → a ≡ false
      first_no false b e = refl
      first_no true b e = e

      none : (t : Turn) → is_over t reports last ≡ false → reports ≡ false
      none GoesOn f = first_no reports last f
      none Ends f = absurd (true≢false f)
      none Quits f = absurd (true≢false f)
