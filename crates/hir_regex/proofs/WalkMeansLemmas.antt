-- An overlapping search over trees reports what is to be reported of them, and nothing else. If it comes to no error, it reports all of it,
-- each once, in reading order.
use Rattle.std.proofs.Common.{◌≡◌, ◌↔◌, ℕ, ◌<◌, ◌≤◌, Bool, true, false, ◌&&◌, ◌==◌, List, [], ◌∷◌, ◌++◌, length, slice_get, Option, Some}
use Rattle.std.proofs.Common.{None, refl, sym, ap, ◌∙◌, subst, inl, inr, ⊎_elim, arith}
use Rattle.std.proofs.lemmas.Bool.{cases_lt}
use Rattle.look_core.specs.declared.look.Look.TheVariants.{Start, End}
use Rattle.look_core.specs.Looks.{holds, holds_ascii, IsWordSet}
use Rattle.look_core.specs.Terminators.{Terminator}
use Rattle.hir_core.specs.Tree.{Tree}
use Rattle.hir_core.specs.Means.{Looks}
use Rattle.hir_core.specs.Facts.{is_utf8_tree}
use Rattle.hir_core.proofs.ForCallers.{empty_span}
use Rattle.search_types.specs.declared.anchored.Anchored.{Anchored}
use Rattle.search_types.specs.declared.anchored.Anchored.TheVariants.{No, Yes, Pattern}
use Rattle.search_types.specs.Inputs.{Search, with_earliest}
use Rattle.search_types.specs.Modes.{allowed, is_supported}
use Rattle.search_types.specs.Places.{counts}
use Rattle.nfa_core.specs.Nfa.{Automaton}
use Rattle.nfa_core.specs.NfaValue.{has_empty}
use Rattle.nfa_core.specs.Places.{same_pair}
use Rattle.nfa_core.specs.Walks.{Has, HasNoneTwice}
use Rattle.nfa_core.specs.Reaches.{read_by}
use Rattle.thompson_nfa.specs.Compilations.{IsPlainText}
use Rattle.nfa_core.specs.Ways.{offset_of, span, ends_from}
use Rattle.nfa_core.proofs.ForCallers.{none_in, option_cases}
use Rattle.lazy_dfa.specs.Dfas.{Dfa, reader}
use Rattle.lazy_dfa.specs.Scans.{start_name}
use Rattle.lazy_dfa.specs.Readers.{Reader}
use Rattle.lazy_dfa.specs.HalfSearches.{first_offset}
use Rattle.lazy_dfa.specs.HalfSearchLaws.{ends_of, HasNoQuitNear}
use Rattle.lazy_dfa.specs.Overlapping.{Rest, whole_rest}
use Rattle.lazy_dfa.specs.OverlappingLaws.{IsBegun, IsInReadingOrder}
use Rattle.lazy_dfa.proofs.ForCallers.{rest_in_span, rest_exactly, rest_once, rest_ordered, rest_done, rest_of_no_pattern, quiet_goes}
use Rattle.lazy_dfa.proofs.ForCallers.{start_is_state}
use Rattle.hir_regex.specs.Choices.{Query}
use Rattle.hir_regex.specs.Regexes.{IsSearchOf, query_of}
use Rattle.hir_regex.specs.OverlappingTrees.{IsOverlappingDfa, IsReportedOf, IsReportedAscii, IsReportedWith}
use Rattle.hir_regex.proofs.EndLemmas.{listed_has}
use Rattle.hir_regex.proofs.FirstEndLemmas.{no_start_no_tree, start_has_tree}
use Rattle.hir_regex.proofs.LooseEndLemmas.{allowed_named}
use Rattle.hir_regex.proofs.RefusedWalkLemmas.{told_of_runs}
use Rattle.hir_regex.proofs.TreeToldLemmas.{told_counts, told_findable, progress_begun, Meets, told_met, met_told, counted_met, told_alike}
use Rattle.hir_regex.proofs.TreeWalkLemmas.{begins_zero, met}
use Rattle.hir_regex.proofs.WalkLookLemmas.{runs_with_words}
use Rattle.hir_regex.proofs.WalkToldLemmas.{told_agree}

first_within : (b : Bool) (s e : ℕ) → s ≤ e → (s ≤ first_offset b s e) × (first_offset b s e ≤ e)
first_within false s e l = (omega arith, l)
first_within true s e l = (l, omega arith)

nothing_first : (b : Bool) (ends : List (ℕ × ℕ)) → ends ≡ [] → IsInReadingOrder b ends
nothing_first b ends e [] behind x y at there = let never : [] ≡ x ∷ behind = sym e ∙ at in cc
nothing_first b ends e (z ∷ before) behind x y at there = let never : [] ≡ z ∷ (before ++ (x ∷ behind)) = sym e ∙ at in cc

-- a pattern that may be found and has a tree has a start
no_start_no_pattern : (xs : List Tree) (b utf8 : Bool) (t : Terminator) (d : Dfa) → IsOverlappingDfa xs b utf8 t d → (mode : Anchored) →
    start_name d.nfa.automaton mode ≡ None → (p : ℕ) (x : Tree) → allowed mode (length xs) p ≡ true → slice_get xs p ≡ Some x → ⊥
no_start_no_pattern xs b utf8 t d w No none p x may listed = cc
no_start_no_pattern xs b utf8 t d w Yes none p x may listed = cc
no_start_no_pattern xs b utf8 t d w (Pattern k) none p x may listed =
    no_start_no_tree w.options xs d.nfa w.compiled k none x (ap (slice_get xs) (sym (allowed_named k (length xs) p may)) ∙ listed)

module _ (xs : List Tree) (b utf8 : Bool) (t : Terminator) (d : Dfa) (w : IsOverlappingDfa xs b utf8 t d) (q : Search) where
  abbrev r : Reader
  r = reader d

  abbrev a : Automaton
  a = d.nfa.automaton

  abbrev rest : Rest
  rest = whole_rest r q

  -- an overlapping search is done, or has no start, and reports nothing; or it begins
  data Courses : Type 0 where
    is_done : q.end < q.start → rest.ends ≡ [] → Courses
    has_no_start : start_name a q.anchored ≡ None → rest.ends ≡ [] → Courses
    begins : q.start ≤ q.end → (name : ℕ) → start_name a q.anchored ≡ Some name → Courses

  courses : Courses
  courses = elim (cases_lt q.end q.start) [
    | inl past ↦ is_done past (ap (λ (z : Rest). z.ends) (rest_done r q past))
    | inr l ↦ ⊎_elim
        (λ (none : start_name a q.anchored ≡ None). has_no_start none (rest_of_no_pattern r q none))
        (λ (some : (name : ℕ) × (start_name a q.anchored ≡ Some name)). begins l some.0 some.1)
        (option_cases (start_name a q.anchored))
  ]

  module _ (asked : IsSearchOf xs utf8 (with_earliest false q)) where
    is_begun : (name : ℕ) → q.start ≤ q.end → start_name a q.anchored ≡ Some name → IsBegun r q name
    is_begun name l named = record {
      formed = w.dfa.sound.named;
      begun = l;
      within = asked.within;
      start = named;
      inside = start_is_state a q.anchored name w.dfa.sound named;
    }

    -- if looks are read so, the runs find the same
    abbrev FindsWith : Looks → Type 0
    FindsWith looks = (name : ℕ) → q.start ≤ q.end → start_name a q.anchored ≡ Some name → (x : ℕ × ℕ) →
        Has same_pair x (ends_of r q name 0) ↔
        Has same_pair x (ends_from a (read_by looks q.haystack q.start q.end) (first_offset b q.start q.end, name))

    module _ (looks : Looks) (at_start : (i : ℕ) → looks Start i ≡ (i == 0)) (at_end : (i : ℕ) → looks End i ≡ (i == length q.haystack))
        (finds : FindsWith looks) where
      abbrev asks : Query
      asks = query_of xs utf8 looks q

      abbrev ProgressValue : ℕ × ℕ → Type 0
      ProgressValue x = IsReportedOf b asks q.start x

      read : IsPlainText (read_by looks q.haystack q.start q.end)
      read = record { within = asked.within; bytes = asked.bytes; at_start = at_start; at_end = at_end }

      counted_same : (l : q.start ≤ q.end) (x : ℕ × ℕ) → Meets xs utf8 looks q l asked.within b x →
          counts r.between_characters q.haystack x.0 ≡ counts utf8 q.haystack x.0
      counted_same l x m =
          ap (λ (u : Bool). counts (u && has_empty a) q.haystack x.0) (w.compiled.utf8 ∙ w.mode)
          ∙ counted_met xs utf8 looks q l asked.within (has_empty a) asked.valid
          (λ p y listed on. listed_has (λ z. is_utf8_tree z ≡ true) xs (asked.utf8_trees on) p y listed)
          (λ p i j y listed e means. w.compiled.empty.1 (p, y, listed, empty_span looks q.haystack y i j e means))
          b x m

      found_met : (l : q.start ≤ q.end) (name : ℕ) → start_name a q.anchored ≡ Some name → (x : ℕ × ℕ) →
          Has same_pair x (ends_of r q name 0) ↔ Meets xs utf8 looks q l asked.within b x
      found_met l name named x =
          let at = first_within b q.start q.end l in
          let f = finds name l named x in
          let m = met xs b utf8 t d w looks q.haystack q.start q.end read q.anchored name (first_offset b q.start q.end) x named at.0 at.1
          in
          (λ there. m.0 (f.0 there), λ meets. f.1 (m.1 meets))

      is_reported : (x : ℕ × ℕ) → Courses → Has same_pair x rest.ends → ProgressValue x
      is_reported x (is_done past e) there = none_in same_pair x _ (subst (λ (z : List (ℕ × ℕ)). Has same_pair x z) e there)
      is_reported x (has_no_start never e) there = none_in same_pair x _ (subst (λ (z : List (ℕ × ℕ)). Has same_pair x z) e there)
      is_reported x (begins l name named) there =
          let m = (found_met l name named x).0 (told_of_runs r q name (is_begun name l named) w.finds_all x there) in
          told_met xs utf8 looks q l asked.within b x (sym (counted_same l x m) ∙ (rest_in_span r q x there).2) m

      told_is : rest.rejection ≡ None → (x : ℕ × ℕ) → Courses → ProgressValue x → Has same_pair x rest.ends
      told_is none x (is_done past e) reported = let l = progress_begun b asks q.start x reported in absurd (omega (arith, past, l))
      told_is none x (has_no_start never e) reported =
          let f = told_findable b asks q.start x reported in
          let c = f.1.1 in
          absurd (no_start_no_pattern xs b utf8 t d w q.anchored never x.1 c.span.tree c.may c.span.listed)
      told_is none x (begins l name named) reported =
          let m = met_told xs utf8 looks q l asked.within b x reported in
          rest_exactly r q name (is_begun name l named) w.finds_all x none (counted_same l x m ∙ told_counts b asks q.start x reported)
          ∙ (found_met l name named x).1 m

      exactly : rest.rejection ≡ None → (x : ℕ × ℕ) → Has same_pair x rest.ends ↔ ProgressValue x
      exactly none x = (λ there. is_reported x courses there, λ reported. told_is none x courses reported)

    -- ---- by ASCII bytes, and with words

    first_same : offset_of a.reverse (first_offset a.reverse q.start q.end) 0 ≡ first_offset b q.start q.end
    first_same = begins_zero a.reverse b q.start q.end (w.compiled.reverse ∙ w.reads)

    ends_lines : d.nfa.terminator ≡ t
    ends_lines = w.compiled.terminator ∙ w.terminator

    finds_ascii : FindsWith (holds_ascii t q.haystack)
    finds_ascii name l named x =
        let same : ends_of r q name 0 ≡ ends_from a (span t q.haystack q.start q.end) (first_offset b q.start q.end, name) =
        ap (λ (k : ℕ). ends_from a (span d.nfa.terminator q.haystack q.start q.end) (k, name)) first_same
        ∙ ap (λ (z : Terminator). ends_from a (span z q.haystack q.start q.end) (first_offset b q.start q.end, name)) ends_lines in (
          λ there. subst (λ (z : List (ℕ × ℕ)). Has same_pair x z) same there,
          λ there. subst (λ (z : List (ℕ × ℕ)). Has same_pair x z) (sym same) there,
        )

    pub tells_meant : (x : ℕ × ℕ) → Has same_pair x rest.ends → IsReportedAscii xs b utf8 t q x
    tells_meant x there = is_reported (holds_ascii t q.haystack) (λ i. refl) (λ i. refl) finds_ascii x courses there

    meant_with : (words : ℕ → Bool) → IsWordSet words → (x : ℕ × ℕ) → Courses → Has same_pair x rest.ends →
        IsReportedWith words xs b utf8 t q x
    meant_with words set x (is_done past e) there = none_in same_pair x _ (subst (λ (z : List (ℕ × ℕ)). Has same_pair x z) e there)
    meant_with words set x (has_no_start never e) there = none_in same_pair x _ (subst (λ (z : List (ℕ × ℕ)). Has same_pair x z) e there)
    meant_with words set x (begins l name named) there =
        told_alike xs utf8 q asked.within (holds_ascii t q.haystack) (holds words t q.haystack) b x
        (told_agree xs b utf8 t d w q asked.bytes asked.within name (is_begun name l named) words set x there) (tells_meant x there)

    pub tells_meant_with : (words : ℕ → Bool) → IsWordSet words → (x : ℕ × ℕ) → Has same_pair x rest.ends →
        IsReportedWith words xs b utf8 t q x
    tells_meant_with words set x there = meant_with words set x courses there

    module _ (none : rest.rejection ≡ None) where
      finds_words : (words : ℕ → Bool) → IsWordSet words → FindsWith (holds words t q.haystack)
      finds_words words set name l named x =
          let place = first_offset a.reverse q.start q.end in
          let zero_place : offset_of a.reverse place 0 ≡ place = begins_zero a.reverse a.reverse q.start q.end refl in
          let from : ends_of r q name 0 ≡ ends_from a (span d.nfa.terminator q.haystack q.start q.end) (place, name) =
          ap (λ (k : ℕ). ends_from a (span d.nfa.terminator q.haystack q.start q.end) (k, name)) zero_place in
          let to : ends_from a (read_by (holds words d.nfa.terminator q.haystack) q.haystack q.start q.end) (place, name) ≡
          ends_from a (read_by (holds words t q.haystack) q.haystack q.start q.end) (first_offset b q.start q.end, name) =
          ap (λ (k : ℕ). ends_from a (read_by (holds words d.nfa.terminator q.haystack) q.haystack q.start q.end) (k, name))
          (sym zero_place ∙ first_same)
          ∙ ap (λ (z : Terminator). ends_from a (read_by (holds words z q.haystack) q.haystack q.start q.end)
          (first_offset b q.start q.end, name)) ends_lines in
          let runs = runs_with_words d w.dfa w.finds_all q asked.bytes name (is_begun name l named) none words set x in (
            λ there. subst (λ (z : List (ℕ × ℕ)). Has same_pair x z) to
                (runs.0 (subst (λ (z : List (ℕ × ℕ)). Has same_pair x z) from there)),
            λ there. subst (λ (z : List (ℕ × ℕ)). Has same_pair x z) (sym from)
                (runs.1 (subst (λ (z : List (ℕ × ℕ)). Has same_pair x z) (sym to) there)),
          )

      pub tells_ascii : (x : ℕ × ℕ) → Has same_pair x rest.ends ↔ IsReportedAscii xs b utf8 t q x
      tells_ascii x = exactly (holds_ascii t q.haystack) (λ i. refl) (λ i. refl) finds_ascii none x

      pub tells_words : (words : ℕ → Bool) → IsWordSet words → (x : ℕ × ℕ) →
          Has same_pair x rest.ends ↔ IsReportedWith words xs b utf8 t q x
      tells_words words set x = exactly (holds words t q.haystack) (λ i. refl) (λ i. refl) (finds_words words set) none x

      -- ---- each once, in reading order

      once_in : Courses → HasNoneTwice same_pair rest.ends
      once_in (is_done past e) = subst (λ (z : List (ℕ × ℕ)). HasNoneTwice same_pair z) (sym e) tt
      once_in (has_no_start never e) = subst (λ (z : List (ℕ × ℕ)). HasNoneTwice same_pair z) (sym e) tt
      once_in (begins l name named) = rest_once r q name (is_begun name l named) w.finds_all none

      ordered_in : Courses → IsInReadingOrder b rest.ends
      ordered_in (is_done past e) = nothing_first b rest.ends e
      ordered_in (has_no_start never e) = nothing_first b rest.ends e
      ordered_in (begins l name named) =
          subst (λ (c : Bool). IsInReadingOrder c rest.ends) (w.compiled.reverse ∙ w.reads)
          (rest_ordered r q name (is_begun name l named) w.finds_all none)

      pub tells_once : HasNoneTwice same_pair rest.ends
      tells_once = once_in courses

      pub tells_in_order : IsInReadingOrder b rest.ends
      tells_in_order = ordered_in courses

    pub tells_quiet : is_supported r.starts_for_each_pattern q.anchored ≡ true → HasNoQuitNear r q.haystack q.start q.end →
        (words : ℕ → Bool) → IsWordSet words → (x : ℕ × ℕ) → Has same_pair x rest.ends ↔ IsReportedWith words xs b utf8 t q x
    tells_quiet fit quiet words set x = tells_words (quiet_goes r q fit quiet) words set x

  -- over a done span, and of a pattern that has no tree, nothing is reported, with an error or without one
  pub done_tells_none : q.end < q.start → rest.ends ≡ []
  done_tells_none past = ap (λ (z : Rest). z.ends) (rest_done r q past)

  start_of_missing : (p : ℕ) (o : Option ℕ) → slice_get a.start_pattern p ≡ o → slice_get xs p ≡ None → o ≡ None
  start_of_missing p None is missing = refl
  start_of_missing p (Some name) is missing = let listed = start_has_tree w.options xs d.nfa w.compiled p name is in cc

  pub no_tree_tells_none : (p : ℕ) → q.anchored ≡ Pattern p → slice_get xs p ≡ None → rest.ends ≡ []
  no_tree_tells_none p mode missing =
      rest_of_no_pattern r q
      (ap (start_name a) mode ∙ start_of_missing p (slice_get a.start_pattern p) refl missing)
