-- What a search without automata finds is what the toolchain's matcher finds.
use Rattle.std.proofs.Common.{◌≡◌, ℕ, suc, ◌+◌, ◌-◌, ◌<◌, ◌≤◌, Bool, true, false, nat_le, List, [], ◌∷◌, ◌++◌, length, map, All}
use Rattle.std.proofs.Common.{Option, Some, None, option_map, refl, sym, ap, subst, ◌∙◌, arith, inl, inr, le-leb, if◌then◌else◌}
use Rattle.std.specs.List.{filter}
use Rattle.std.proofs.lemmas.Bool.{and_from}
use Rattle.regex_hir.specs.Re.{Re}
use Rattle.regex_hir.specs.Meaning.{alt_all}
use Rattle.regex_syntax.specs.declared.Config.{Config}
use Rattle.search_core.specs.Utf8.{IsValidText, is_boundary}
use Rattle.hir_core.specs.Tree.{Tree}
use Rattle.hir_core.specs.Means.{Means}
use Rattle.hir_core.specs.PreferredEnds.{Has, preferred_ends}
use Rattle.hir_core.proofs.ForCallers.{preferred_ends_sound, span_end_bounded, span_start_bounded}
use Rattle.literal_search.specs.Searches.{IsNextStart}
use Rattle.search_types.specs.Found.{Found}
use Rattle.search_types.specs.LeftmostAnswer.{first_choice, leftmost}
use Rattle.search_types.specs.Places.{counts}
use Rattle.hir_regex.specs.Choices.{Query, answer_from, choices_at, may_end}
use Rattle.hir_regex.specs.LooseAnswers.{IsLooseAnswer}
use Rattle.hir_regex.specs.Regexes.{IsSearchOf}
use Rattle.pattern_text.specs.SameEnds.{pattern_looks}
use Rattle.pattern_search.specs.Searches.{IsOfFirstPattern, found_from, span_of_found, span_of_match, whole_query, whole_search}
use Rattle.pattern_search.specs.Written.{FindsWhatIsWritten}
use Rattle.pattern_search.proofs.ForCallers.{answer_is_loose, finds_what_is_written, same_patterns}
use Rattle.meta_regex.specs.declared.runs.NextRun.{NextRun}
use Rattle.meta_regex.specs.declared.runs.NextRun.TheVariants.{Found as FoundRun, Missing, From}
use Rattle.meta_regex.specs.Regexes.{HasFoundSpan, HasFoundStart, row_of}
use Rattle.meta_regex.specs.Runs.{IsNextRun, PrefersEnd}
use Rattle.meta_regex.specs.Starts.{AreTreesOf, HasSoughtSpan, IsSought, sought_of}
use Rattle.meta_regex.specs.Ways.{IsNextOf}
use Rattle.meta_regex.specs.Wordless.{MayBeginAt}
use Rattle.meta_regex.proofs.AnchoredLemmas.{if_true, or_first}
use Rattle.meta_regex.proofs.StartLemmas.{begins_at_start, found_later, only_next, span_later}

-- ---- the first choice
first_kept : (kept : ℕ → Bool) (j : ℕ) (others : List ℕ) → kept j ≡ true → filter kept (j ∷ others) ≡ j ∷ filter kept others
first_kept kept j others is = by_test (kept j) is
  where
    by_test : (b : Bool) → b ≡ true → (if b then j ∷ filter kept others else filter kept others) ≡ j ∷ filter kept others
    by_test true is = refl
    by_test false is = cc

first_pair : (i : ℕ) (kept : ℕ → Bool) (ends : List ℕ) (j : ℕ) (others : List ℕ) → ends ≡ j ∷ others → kept j ≡ true →
    first_choice i (map (λ (e : ℕ). (0, e)) (filter kept ends) ++ []) ≡ Some (record { pattern = 0; start = i; end = j })
first_pair i kept ends j others is on =
    ap (λ (l : List ℕ). first_choice i (map (λ (e : ℕ). (0, e)) l ++ [])) (ap (filter kept) is ∙ first_kept kept j others on)

choices_if : (b : Bool) (cs : List (ℕ × ℕ)) → b ≡ true → (if b then cs else []) ≡ cs
choices_if true cs is = refl
choices_if false cs is = cc

counts_if : (utf8 : Bool) (h : List ℕ) (j : ℕ) → (utf8 ≡ true → is_boundary h j ≡ true) → counts utf8 h j ≡ true
counts_if true h j bounded = bounded refl
counts_if false h j bounded = refl

module _ (utf8 : Bool) (x : Tree) (h : List ℕ) (i j : ℕ) (others : List ℕ) (order : i < j) (high : j ≤ length h)
    (start : counts utf8 h i ≡ true) (end : counts utf8 h j ≡ true)
    (first : preferred_ends (pattern_looks h) h x i ≡ j ∷ others) where
  abbrev free : Query
  free = whole_query utf8 (x ∷ []) h

  first_here : first_choice i (choices_at free i) ≡ Some (record { pattern = 0; start = i; end = j })
  first_here =
      ap (first_choice i) (choices_if (counts utf8 h i) (map (λ (e : ℕ). (0, e)) (filter (may_end free) (preferred_ends (pattern_looks h) h x i)) ++ []) start)
      ∙ first_pair i (may_end free) (preferred_ends (pattern_looks h) h x i) j others first (and_from _ _ (le-leb j (length h) high) end)

  answer_here : answer_from free i ≡ Some (record { pattern = 0; start = i; end = j })
  answer_here =
      let within : i ≤ length h = omega (arith, order, high) in
      let some : length h + 1 - i ≡ suc (length h - i) = omega (arith, within) in
      if_true (nat_le i (length h)) (leftmost (choices_at free) (length h + 1 - i) i) None (le-leb i (length h) within)
      ∙ ap (λ (n : ℕ). leftmost (choices_at free) n i) some
      ∙ or_first (first_choice i (choices_at free i)) (leftmost (choices_at free) (length h - i) (i + 1)) (record { pattern = 0; start = i; end = j }) first_here

-- ---- what the matcher finds
module _ (config : Config) (texts : List (List ℕ)) (loops : Bool) (x : Tree) (trees : AreTreesOf config texts loops (x ∷ []))
    (h : List ℕ) (bytes : All (λ b. b < 256) h) (valid : config.utf8 ≡ true → IsValidText h) (at : ℕ) where
  begins : (o : Option ℕ) → IsNextStart x h at o → MayBeginAt config texts h at o
  begins o next = begins_at_start config texts (x ∷ []) trees.mean h at o bytes (only_next x h at o next)

  module _ (i j : ℕ) (next : IsNextStart x h at (Some i)) (order : i < j) (high : j ≤ length h) (first : PrefersEnd x h i j) where
    written : FindsWhatIsWritten config texts (x ∷ [])
    written = finds_what_is_written config texts (x ∷ []) trees.mean

    means : Means (pattern_looks h) h x i j
    means = preferred_ends_sound (pattern_looks h) h x i j (subst (λ (l : List ℕ). Has l j) (sym (first.first (pattern_looks h))) (inl refl))

    abbrev f : Found
    f = record { pattern = 0; start = i; end = j }

    answer : answer_from (whole_query config.utf8 (x ∷ []) h) i ≡ Some f
    answer =
        answer_here config.utf8 x h i j (first.others (pattern_looks h)) order high
        (counts_if config.utf8 h i (λ on. span_start_bounded (pattern_looks h) h x i j (valid on) (trees.utf8 on 0 x (omega arith)) means order high))
        (counts_if config.utf8 h j (λ on. span_end_bounded (pattern_looks h) h x i j (valid on) (trees.utf8 on 0 x (omega arith)) means order high))
        (first.first (pattern_looks h))

    searched : IsSearchOf (x ∷ []) config.utf8 (whole_search h i)
    searched = record { within = omega arith; whole = refl; bytes = bytes; valid = valid; utf8_trees = trees.utf8 }

    loose : IsLooseAnswer (whole_query config.utf8 (x ∷ []) h) i (Some f)
    loose = subst (λ (o : Option Found). IsLooseAnswer (whole_query config.utf8 (x ∷ []) h) i o) answer
        (answer_is_loose (whole_query config.utf8 (x ∷ []) h) i)

    found_start : HasFoundStart config texts h i (Some (row_of f))
    found_start = record {
      start = λ res read.
          subst (λ (rs : List Re). option_map (λ m. m.start) (found_from config.utf8 (alt_all rs) h i) ≡ Some i)
          (same_patterns config texts written.patterns res written.are_read read)
          ((written.starts config.utf8).loose h i searched (Some f) loose);
      pattern = λ res read.
          subst (λ (rs : List Re). IsOfFirstPattern rs h f) (same_patterns config texts written.patterns res written.are_read read)
          ((written.starts config.utf8).pattern h i searched f loose);
    }

    found_span : loops ≡ true → HasFoundSpan config texts h i (Some (row_of f))
    found_span on res read =
        subst (λ (rs : List Re). option_map span_of_match (found_from config.utf8 (alt_all rs) h i) ≡ Some (span_of_found f))
        (same_patterns config texts written.patterns res written.are_read read)
        (written.finds (trees.loops_read on) config.utf8 h i searched ∙ ap (option_map span_of_found) answer)

  is_sought : (next : NextRun) → IsNextRun x h at next → IsSought config texts h at (sought_of next)
  is_sought (FoundRun i j) it =
      found_later config texts h at i (Some (record { pattern = 0; start = i; end = j })) (begins (Some i) it.0) (found_start i j it.0 it.1 it.2 it.3)
  is_sought Missing it = begins None it
  is_sought (From s) it = begins (Some s) it

  has_sought_span : (next : NextRun) → loops ≡ true → IsNextRun x h at next → HasSoughtSpan config texts h at (sought_of next)
  has_sought_span (FoundRun i j) on it =
      span_later config texts h at i (Some (record { pattern = 0; start = i; end = j })) (begins (Some i) it.0) (found_span i j it.0 it.1 it.2 it.3 on)
  has_sought_span Missing on it = tt
  has_sought_span (From s) on it = tt

-- a search may begin where it begins
begins_here : (config : Config) (texts : List (List ℕ)) (h : List ℕ) (at : ℕ) → at ≤ length h → MayBeginAt config texts h at (Some at)
begins_here config texts h at within = (within, λ res read. refl)

-- ---- of the only pattern
module _ (config : Config) (texts : List (List ℕ)) (loops : Bool) (xs : List Tree) (trees : AreTreesOf config texts loops xs)
    (h : List ℕ) (bytes : All (λ b. b < 256) h) (valid : config.utf8 ≡ true → IsValidText h) (at : ℕ) (within : at ≤ length h)
    (next : NextRun) where
  one : (x : Tree) → xs ≡ x ∷ [] → AreTreesOf config texts loops (x ∷ [])
  one x only = subst (λ (l : List Tree). AreTreesOf config texts loops l) only trees

  pub way_sought : IsNextOf xs h at next → IsSought config texts h at (sought_of next)
  way_sought (inl none) = subst (λ (n : NextRun). IsSought config texts h at (sought_of n)) (sym none) (begins_here config texts h at within)
  way_sought (inr it) = is_sought config texts loops it.tree (one it.tree it.only) h bytes valid at next it.found

  pub way_sought_span : loops ≡ true → IsNextOf xs h at next → HasSoughtSpan config texts h at (sought_of next)
  way_sought_span on (inl none) = subst (λ (n : NextRun). HasSoughtSpan config texts h at (sought_of n)) (sym none) tt
  way_sought_span on (inr it) = has_sought_span config texts loops it.tree (one it.tree it.only) h bytes valid at next on it.found
