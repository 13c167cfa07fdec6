-- One turn of a scan over a cache: what an ID shows by its tags, and what a step by one unit makes of the scan.
use Rattle.std.proofs.Common.{◌≡◌, ◌≢◌, ℕ, ◌+◌, ◌*◌, ◌/◌, ◌%◌, ◌<◌, Bool, true, false, List, [], ◌∷◌, length, get_or, Option, Some}
use Rattle.std.proofs.Common.{None, refl, sym, ap, ◌∙◌, subst, inl, inr, ⊎_elim, arith, true≢false}
use Rattle.std.specs.Prelude.{◌&&◌, ◌==◌, not, nat_le, Result, Ok, Err, IsSome}
use Rattle.std.proofs.lemmas.Bool.{cases_Bool}
use Rattle.std.proofs.lemmas.Bool.Decides.{Decides-eqb}
use Rattle.determinize_core.specs.States.{StateValue, dead}
use Rattle.determinize_core.specs.StateBytes.{is_match}
use Rattle.determinize_core.specs.Steps.{unit_at}
use Rattle.lazy_dfa.specs.Caches.{CacheValue, IsShaped, IsCacheOf, IsRow, HeldAt, Names, names_dead, names_held, Leads}
use Rattle.lazy_dfa.specs.Caches.{state_at, has_no_room}
use Rattle.lazy_dfa.specs.Courses.{stops_after}
use Rattle.lazy_dfa.specs.declared.cache_error.CacheError.{CacheError}
use Rattle.lazy_dfa.specs.declared.cache_error.CacheError.TheVariants.{GaveUp, NoMemory}
use Rattle.lazy_dfa.specs.declared.cache.progress.Progress.{Progress}
use Rattle.lazy_dfa.specs.declared.search.scan_steps.Seen.{Seen}
use Rattle.lazy_dfa.specs.declared.search.scan_steps.Turn.{Turn}
use Rattle.lazy_dfa.specs.declared.search.scan_steps.Turn.TheVariants.{GoesOn, Ends, Quits}
use Rattle.lazy_dfa.specs.Dfas.{Dfa, after, reader}
use Rattle.lazy_dfa.specs.Ids.{tag, has_tag, dead_tag, quit_tag, match_tag, tagged, dead_id, quit_id, is_sentinel}
use Rattle.lazy_dfa.specs.Linked.{IsLinkedOver}
use Rattle.lazy_dfa.specs.Scans.{is_empty, is_dead, best_recorded}
use Rattle.lazy_dfa.specs.ScanLaws.{unit_of}
use Rattle.lazy_dfa.specs.Points.{Point, point}
use Rattle.lazy_dfa.specs.Readers.{is_quit}
use Rattle.lazy_dfa.specs.SearchAnswers.{pair_of, progress_of}
use Rattle.lazy_dfa.specs.StepPromises.{MakesStep}
use Rattle.lazy_dfa.specs.Steps.{IsHeld, Grew, WasCleared, noted, IsKnown, GivesUp, IsStepCause, most_inserts}
use Rattle.lazy_dfa.specs.ScanSteps.{Sees, sees_dead, sees_quit, sees_end, sees_on, Leaves, FailsOn, StaysRunning, ReportsTheSame}
use Rattle.lazy_dfa.specs.ScanSteps.{GoesOne, IsSeen, IsTurn}
use Rattle.lazy_dfa.proofs.CacheChanges.ChangeLemmas.{one_state}
use Rattle.lazy_dfa.proofs.Courses.CourseLemmas.{state_behind_one, unmatched}
use Rattle.lazy_dfa.proofs.CacheChanges.IsCacheLemmas.{row_is_low, row_is_plain, lt_of}
use Rattle.lazy_dfa.proofs.CacheChanges.LinkedLemmas.{grows_of, has_cleared, moved_same}
use Rattle.lazy_dfa.proofs.CacheChanges.ChangesLemmas.{step_changes}
use Rattle.lazy_dfa.proofs.Courses.PointLemmas.{goes_step, held_plain, plain_row, runs_anew, one_time}
use Rattle.nfa_core.proofs.ForCallers.{place_zero}

-- ---- tags

-- the tests of tags, as equations
tag_on : (bit id : ℕ) → has_tag bit id ≡ true → (id / bit) % 2 ≡ 1
tag_on bit id e = (Decides-eqb ((id / bit) % 2) 1).0 e

tag_off : (bit id : ℕ) → has_tag bit id ≡ false → (id / bit) % 2 ≢ 1
tag_off bit id e f = true≢false (sym ((Decides-eqb ((id / bit) % 2) 1).1 f) ∙ e)

has_it : (bit id : ℕ) → (id / bit) % 2 ≡ 1 → has_tag bit id ≡ true
has_it bit id e = (Decides-eqb ((id / bit) % 2) 1).1 e

pub has_not : (bit id : ℕ) → (id / bit) % 2 ≡ 0 → has_tag bit id ≡ false
has_not bit id e = ap (λ (n : ℕ). n == 1) e

match_tagged : (start matching : Bool) (p : ℕ) → p < tag → has_tag match_tag (tagged start matching p) ≡ matching
match_tagged true true p l = has_it match_tag (tagged true true p) (omega (arith, l))
match_tagged true false p l = has_not match_tag (tagged true false p) (omega (arith, l))
match_tagged false true p l = has_it match_tag (tagged false true p) (omega (arith, l))
match_tagged false false p l = has_not match_tag (tagged false false p) (omega (arith, l))

-- the tag of an ID of a row shows whether its state lists a match
pub row_matches : (v : CacheValue) (id : ℕ) (s : StateValue) → IsShaped v → HeldAt v id s → has_tag match_tag id ≡ is_match s.matches
row_matches v id s i g =
    let t = i.tags g.0 g.1 in
    ap (has_tag match_tag) (g.2 ∙ t.1)
    ∙ (match_tagged t.0 (is_match (state_at v g.0).matches) ((g.0 + 3) * v.stride) (row_is_low v i g.0 g.1)
    ∙ ap (λ (x : StateValue). is_match x.matches) (sym g.3))

module _ (v : CacheValue) (id : ℕ) (i : IsShaped v) where
  row_low : IsRow v id → id < 0x2000_0000
  row_low r = row_is_plain v id r.0 i r.1 r.2

  -- an ID without a tag is an ID of a row
  pub row_untagged : IsHeld v id → nat_le tag id ≡ false → IsRow v id
  row_untagged (inl e) f = let l = lt_of tag id f in absurd (omega (arith, e, l))
  row_untagged (inr (inl e)) f = let l = lt_of tag id f in absurd (omega (arith, e, l))
  row_untagged (inr (inr r)) f = r

  pub dead_tagged : IsHeld v id → has_tag dead_tag id ≡ true → id ≡ dead_id v.stride
  dead_tagged (inl e) f = e
  dead_tagged (inr (inl e)) f = let t = tag_on dead_tag id f in absurd (omega (arith, e, t, i.narrow))
  dead_tagged (inr (inr r)) f = let t = tag_on dead_tag id f in let l = row_low r in absurd (omega (arith, l, t))

  pub quit_tagged : IsHeld v id → has_tag quit_tag id ≡ true → id ≡ quit_id v.stride
  quit_tagged (inl e) f = let t = tag_on quit_tag id f in absurd (omega (arith, e, t, i.narrow))
  quit_tagged (inr (inl e)) f = e
  quit_tagged (inr (inr r)) f = let t = tag_on quit_tag id f in let l = row_low r in absurd (omega (arith, l, t))

  -- an ID with neither tag of a sentinel is an ID of a row, too
  pub row_of_neither : IsHeld v id → has_tag dead_tag id ≡ false → has_tag quit_tag id ≡ false → IsRow v id
  row_of_neither (inl e) f g = let t = tag_off dead_tag id f in absurd (omega (arith, e, t, i.narrow))
  row_of_neither (inr (inl e)) f g = let t = tag_off quit_tag id g in absurd (omega (arith, e, t, i.narrow))
  row_of_neither (inr (inr r)) f g = r

  pub untagged_unmatched : (s : StateValue) → nat_le tag id ≡ false → HeldAt v id s → is_match s.matches ≡ false
  untagged_unmatched s f g = let l = lt_of tag id f in sym (row_matches v id s i g) ∙ has_not match_tag id (omega (arith, l))

-- ---- matches

-- If a state lists no match, no scan stops there. If it lists one, a scan stops there if it asks for the earliest end.
quiet_end : (earliest : Bool) (ms : List ℕ) → is_match ms ≡ false → (earliest && not (is_empty ms)) ≡ false
quiet_end true [] e = refl
quiet_end false [] e = refl
quiet_end earliest (p ∷ ps) e = absurd (true≢false e)

loud_end : (earliest : Bool) (ms : List ℕ) → is_match ms ≡ true → (earliest && not (is_empty ms)) ≡ earliest
loud_end true (p ∷ ps) e = refl
loud_end false (p ∷ ps) e = refl
loud_end earliest [] e = absurd (true≢false (sym e))

some_match : (ms : List ℕ) → is_match ms ≡ true → 0 < length ms
some_match [] e = absurd (true≢false (sym e))
some_match (p ∷ ps) e = omega arith

pub first_recorded : (s : StateValue) (place : ℕ) (best : Option (ℕ × ℕ)) (ms : List ℕ) → s.matches ≡ ms → is_match ms ≡ true →
    Some (place, get_or ms 0 0) ≡ best_recorded place s best
first_recorded s place best [] e f = absurd (true≢false (sym f))
first_recorded s place best (p ∷ ps) e f = ap (λ (ms : List ℕ). best_recorded place (record s { matches = ms }) best) (sym e)

pub matches_there : (v : CacheValue) (id : ℕ) → IsShaped v → has_tag match_tag id ≡ true → (s : StateValue) → HeldAt v id s →
    0 < length s.matches
matches_there v id i t s g = some_match s.matches (sym (row_matches v id s i g) ∙ t)

-- ---- what an ID shows

module _ (v : CacheValue) (id place : ℕ) (best : Option (ℕ × ℕ)) (earliest : Bool) (seen : Seen) (i : IsShaped v) (held : IsHeld v id)
    (same : seen.id ≡ id) where
  pub see_dead : has_tag dead_tag id ≡ true → seen.turn ≡ Ends → pair_of seen.best ≡ best → Sees v id place best earliest seen
  see_dead t ends b = sees_dead (dead_tagged v id i held t) same ends b

  pub see_quit : has_tag quit_tag id ≡ true → seen.turn ≡ Quits → Sees v id place best earliest seen
  see_quit t quits = sees_quit (quit_tagged v id i held t) quits

  -- an ID of a row whose state lists no match
  see_row : IsRow v id → ((s : StateValue) → HeldAt v id s → is_match s.matches ≡ false) → seen.turn ≡ GoesOn → pair_of seen.best ≡ best →
      Sees v id place best earliest seen
  see_row r none goes b =
      let s = state_at v r.0 in
      let g : HeldAt v id s = (r.0, r.1, r.2, refl) in
      sees_on s g same goes (b ∙ unmatched s place best (none s g)) (quiet_end earliest s.matches (none s g))

  pub see_untagged : nat_le tag id ≡ false → seen.turn ≡ GoesOn → pair_of seen.best ≡ best → Sees v id place best earliest seen
  see_untagged t goes b = see_row (row_untagged v id i held t) (λ s g. untagged_unmatched v id i s t g) goes b

  module _ (no_dead : has_tag dead_tag id ≡ false) (no_quit : has_tag quit_tag id ≡ false) where
    pub see_unmatched : has_tag match_tag id ≡ false → seen.turn ≡ GoesOn → pair_of seen.best ≡ best → Sees v id place best earliest seen
    see_unmatched t goes b = see_row (row_of_neither v id i held no_dead no_quit) (λ s g. sym (row_matches v id s i g) ∙ t) goes b

    module _ (matches : has_tag match_tag id ≡ true) (p : ℕ) (listed : (s : StateValue) → HeldAt v id s → p ≡ get_or s.matches 0 0)
        (b : pair_of seen.best ≡ Some (place, p)) where
      abbrev matched_row : IsRow v id
      matched_row = row_of_neither v id i held no_dead no_quit

      abbrev matched : StateValue
      matched = state_at v matched_row.0

      abbrev matched_held : HeldAt v id matched
      matched_held = (matched_row.0, matched_row.1, matched_row.2, refl)

      does_match : is_match matched.matches ≡ true
      does_match = sym (row_matches v id matched i matched_held) ∙ matches

      last_recorded : pair_of seen.best ≡ best_recorded place matched best
      last_recorded = b ∙ (ap (λ (n : ℕ). Some (place, n)) (listed matched matched_held)
          ∙ first_recorded matched place best matched.matches refl does_match)

      pub see_end : earliest ≡ true → seen.turn ≡ Ends → Sees v id place best earliest seen
      see_end e ends = sees_end matched matched_held same ends last_recorded (loud_end earliest matched.matches does_match ∙ e)

      pub see_on : earliest ≡ false → seen.turn ≡ GoesOn → Sees v id place best earliest seen
      see_on e goes = sees_on matched matched_held same goes last_recorded (loud_end earliest matched.matches does_match ∙ e)

-- ---- a step

-- a quit byte
quit_byte : (quits : List Bool) (u : Option ℕ) → is_quit quits u ≡ true → (b : ℕ) × (u ≡ Some b) × (get_or quits b false ≡ true)
quit_byte quits None e = absurd (true≢false (sym e))
quit_byte quits (Some b) e = (b, refl, e)

module _ (d : Dfa) (h : List ℕ) (old : CacheValue) (at id m1 n1 : ℕ) (u : Option ℕ) (best : Option (ℕ × ℕ)) (earliest : Bool)
    (own : IsCacheOf d old) (row : IsRow old id) (here : u ≡ unit_at d.nfa.automaton.reverse h at) where
  is : u ≡ unit_of (reader d) h at 0
  is = here ∙ ap (unit_at d.nfa.automaton.reverse h) (sym (place_zero d.nfa.automaton.reverse at))

  abbrev from : Point
  from = point old m1 n1 at id best

  abbrev held_here : HeldAt old id (state_at old row.0)
  held_here = (row.0, row.1, row.2, refl)

  -- if a path is known, so is this step
  known_first : IsLinkedOver d old h at id 1 → IsKnown d old id u
  known_first l = subst (IsKnown d old id) (sym is) (l.steps 0 (omega arith))

  module _ (new : CacheValue) (m2 n2 : ℕ) (r : Result ℕ CacheError) (step : MakesStep d id u old new m1 m2 n1 n2 r) where
    leaves_one : Leaves d h from new m2 n2 0
    leaves_one = record {
      kept = grows_of d old new step.kept;
      free = λ l. let k = known_first l in let w = step.free k in (moved_same old new (step.same k), w.0, w.1);
      determinized = step.determinized;
      inserted = one_time n1 n2 (most_inserts d) step.inserted;
      changes = λ s named. step_changes d h old at id u own row is new step.adds s
          (held_plain old id s (row_low old id own.shape row) named);
    }

    stays_running : StaysRunning old new
    stays_running runs = ⊎_elim
        (λ (g : Grew d old new). subst (λ (p : Option Progress). IsSome p) (sym g.progress) runs)
        (λ (w : WasCleared old new 2). subst (λ (p : Option Progress). IsSome p) (sym w.progress) (runs_anew old.progress runs))
        step.kept

    tells_same : ReportsTheSame old new
    tells_same = ⊎_elim
        (λ (g : Grew d old new). inl (told_same g.searched g.progress, g.clears))
        (λ (w : WasCleared old new 2). inr (has_cleared old new 2 w, λ i. record { searched = w.searched i; progress = w.progress i }))
        step.kept
      where
        told_same : new.searched ≡ old.searched → new.progress ≡ old.progress → progress_of new ≡ progress_of old
        told_same e f = λ i. record { searched = e i; progress = f i }

  -- ---- a step that fails

  abbrev refused : CacheError → Result ℕ CacheError
  refused e = Err e

  no_answer : (e : CacheError) (to : ℕ) → refused e ≡ Ok to → ⊥
  no_answer e to f = absurd cc

  module _ (new : CacheValue) (m2 n2 : ℕ) where
    fails_on : (e : CacheError) → MakesStep d id u old new m1 m2 n1 n2 (Err e) → FailsOn d h from new m2 n2 0
    fails_on e step = record {
      leaves = leaves_one new m2 n2 (Err e) step;
      unknown = λ l. no_known (known_first l);
    }
      where
        plain : is_sentinel id ≡ false
        plain = plain_row id (row_low old id own.shape row)

        no_known : IsKnown d old id u → ⊥
        no_known (inl s) = true≢false (sym s ∙ plain)
        no_known (inr n) = no_answer e (noted d old id u) (step.known plain n)

    gives_up : IsStepCause d old id u GaveUp → GivesUp d old id u
    gives_up (inl e) = absurd cc
    gives_up (inr g) = g.1

    pub turn_refused : (e : CacheError) → MakesStep d id u old new m1 m2 n1 n2 (Err e) → IsTurn d earliest h u from new m2 n2 (Err e)
    turn_refused NoMemory step = (
      fails_on NoMemory step,
      stays_running new m2 n2 (Err NoMemory) step,
      tells_same new m2 n2 (Err NoMemory) step,
    )
    turn_refused GaveUp step =
        let g = gives_up step.err in (
          fails_on GaveUp step,
          g.no_quit,
          λ s held. ap (λ (t : StateValue). has_no_room d new t) (state_behind_one d h at u is s)
              ∙ (ap (λ (v : CacheValue). has_no_room d v (after d s u)) (step.gave_up refl) ∙ g.lacks s held),
          step.gave_up refl,
        )

    -- ---- where the step leads

    module _ (to : ℕ) (mine : IsCacheOf d new) (step : MakesStep d id u old new m1 m2 n1 n2 (Ok to)) where
      leads : Leads d new (state_at old row.0) u to
      leads = step.step (state_at old row.0) held_here

      -- the unit isn't a quit byte if the step doesn't lead to the quit sentinel
      quiet_if : to ≢ quit_id new.stride → is_quit d.quits u ≡ false
      quiet_if n = ⊎_elim (λ (q : is_quit d.quits u ≡ true). absurd (n (leads.quits q))) (λ (q : is_quit d.quits u ≡ false). q)
          (cases_Bool (is_quit d.quits u))

      to_dead : (s : StateValue) → to ≡ dead_id new.stride → Names new to s → s ≡ dead
      to_dead s e (names_dead f g) = g
      to_dead s e (names_held g) = let l = row_is_plain new to g.0 mine.shape g.1 g.2 in absurd (omega (arith, e, l))

      no_quit_named : (s : StateValue) → to ≡ quit_id new.stride → Names new to s → ⊥
      no_quit_named s e (names_dead f g) = omega (arith, e, f, mine.shape.narrow)
      no_quit_named s e (names_held g) = let l = row_is_plain new to g.0 mine.shape g.1 g.2 in omega (arith, e, l)

      to_row : (s t : StateValue) → HeldAt new to t → Names new to s → s ≡ t
      to_row s t g (names_dead e f) = let l = row_is_plain new to g.0 mine.shape g.1 g.2 in absurd (omega (arith, e, l))
      to_row s t g (names_held k) = sym (one_state new to g.0 s mine.shape g.1 g.2 k) ∙ sym g.3

      goes_one : (last : Option (ℕ × ℕ)) → is_quit d.quits u ≡ false →
          ((s : StateValue) → HeldAt old id s → last ≡ best_recorded at (after d s u) best) →
          GoesOne d h from new m2 n2 to last
      goes_one last quiet recs = goes_step d h old at id u own row is quiet new to m1 m2 n1 n2 best last mine step.kept step.step step.noted
          step.same step.free
          step.determinized step.inserted recs step.adds

      stops_one : (s t : StateValue) (b : Bool) → after d s u ≡ t → (earliest && not (is_empty t.matches)) ≡ b →
          stops_after (reader d) earliest h at s 0 ≡ b
      stops_one s t b e f = ap (λ (x : StateValue). earliest && not (is_empty x.matches)) (state_behind_one d h at u is s ∙ e) ∙ f

      abbrev Seeing : ℕ → Option (ℕ × ℕ) → Turn → Type 0
      Seeing x o t = IsSeen d earliest h u from new m2 n2 x o t

      seen_dead : (last : Option (ℕ × ℕ)) → to ≡ dead_id new.stride → last ≡ best → Seeing to last Ends
      seen_dead last e b =
          let quiet = quiet_if (λ q. omega (arith, e, q, mine.shape.narrow)) in
          let dies : (s : StateValue) → HeldAt old id s → after d s u ≡ dead =
          λ s g. to_dead (after d s u) e ((step.step s g).goes quiet) in (
            goes_one last quiet (λ s g. b ∙ (unmatched dead at best refl
                ∙ ap (λ (x : StateValue). best_recorded at x best) (sym (dies s g)))),
            tells_same new m2 n2 (Ok to) step,
            λ s g. inr (ap is_dead (state_behind_one d h at u is s ∙ dies s g)),
          )

      seen_quit : (x : ℕ) (last : Option (ℕ × ℕ)) → to ≡ quit_id new.stride → Seeing x last Quits
      seen_quit x last e = (
        leaves_one new m2 n2 (Ok to) step,
        stays_running new m2 n2 (Ok to) step,
        quit_byte d.quits u (⊎_elim
            (λ (q : is_quit d.quits u ≡ true). q)
            (λ (q : is_quit d.quits u ≡ false). absurd (no_quit_named (after d (state_at old row.0) u) e (leads.goes q)))
            (cases_Bool (is_quit d.quits u))),
        tells_same new m2 n2 (Ok to) step,
      )

      module _ (t : StateValue) (g : HeldAt new to t) (last : Option (ℕ × ℕ)) (b : last ≡ best_recorded at t best) where
        row_quiet : is_quit d.quits u ≡ false
        row_quiet = let l = row_is_plain new to g.0 mine.shape g.1 g.2 in quiet_if (λ q. omega (arith, l, q))

        becomes : (s : StateValue) → HeldAt old id s → after d s u ≡ t
        becomes s k = to_row (after d s u) t g ((step.step s k).goes row_quiet)

        goes_there : GoesOne d h from new m2 n2 to last
        goes_there = goes_one last row_quiet (λ s k. b ∙ ap (λ (x : StateValue). best_recorded at x best) (sym (becomes s k)))

        seen_end : (earliest && not (is_empty t.matches)) ≡ true → Seeing to last Ends
        seen_end e = (goes_there, tells_same new m2 n2 (Ok to) step, λ s k. inl (stops_one s t true (becomes s k) e))

        seen_on : (earliest && not (is_empty t.matches)) ≡ false → Seeing to last GoesOn
        seen_on e = (goes_there, tells_same new m2 n2 (Ok to) step, (g.0, g.1, g.2), λ s k. stops_one s t false (becomes s k) e)

      -- what was seen, under its own names
      named_so : (seen : Seen) (t : Turn) → seen.id ≡ to → seen.turn ≡ t → Seeing to (pair_of seen.best) t →
          Seeing seen.id (pair_of seen.best) seen.turn
      named_so seen t e f x =
          subst (λ (y : Turn). Seeing seen.id (pair_of seen.best) y) (sym f) (subst (λ (y : ℕ). Seeing y (pair_of seen.best) t) (sym e) x)

      pub turn_made : (seen : Seen) → Sees new to at best earliest seen → Seeing seen.id (pair_of seen.best) seen.turn
      turn_made seen (sees_dead e same ends b) = named_so seen Ends same ends (seen_dead (pair_of seen.best) e b)
      turn_made seen (sees_quit e quits) =
          subst (λ (y : Turn). Seeing seen.id (pair_of seen.best) y) (sym quits) (seen_quit seen.id (pair_of seen.best) e)
      turn_made seen (sees_end s g same ends b x) = named_so seen Ends same ends (seen_end s g (pair_of seen.best) b x)
      turn_made seen (sees_on s g same goes b x) = named_so seen GoesOn same goes (seen_on s g (pair_of seen.best) b x)
