-- The toolchain's matcher finds nothing before the least start of a match without looks at words.
use Rattle.std.proofs.Common.{◌≡◌, ◌↔◌, ◌⊎◌, ◌&&◌, ℕ, zero, suc, ◌<◌, ◌≤◌, Bool, true, false, List, ◌∷◌, length, map, All, Option, Some, None, option_map, []}
use Rattle.std.proofs.Common.{refl, sym, ap, ap₂, ◌∙◌, subst, arith, inl, inr, is_some, lt-ltb, true≢false, replicate, slice_get}
use Rattle.std.proofs.lemmas.List.{length-map}
use Rattle.std.proofs.lemmas.Option.{slice_get-map, slice_get_within}
use Rattle.regex_class.specs.Ranges.{in_ranges}
use Rattle.regex_hir.specs.Re.{Re, Trace, accept}
use Rattle.regex_hir.specs.Meaning.{alt_all}
use Rattle.regex_hir.specs.Matches.{Matches}
use Rattle.regex_hir.proofs.AttemptLemmas.{attempt_sound, cond_some}
use Rattle.regex_hir.specs.Find.{Match, first_between}
use Rattle.regex_hir.proofs.FindLemmas.{first_between_none, first_between_skip, IsFirst-of_first_between}
use Rattle.regex_hir.proofs.OptionLemmas.{none_of_no_value}
use Rattle.regex_syntax.specs.declared.Config.{Config}
use Rattle.look_core.specs.Terminators.{Terminator, one_of}
use Rattle.look_core.specs.Looks.{holds}
use Rattle.ucd_perl.specs.Perl.{is_word_char}
use Rattle.hir_core.specs.Means.{Means}
use Rattle.hir_core.specs.Tree.{Tree}
use Rattle.hir_core.proofs.ForCallers.{span_within}
use Rattle.line_trees.specs.WordlessTrees.{wordless_tree}
use Rattle.search_types.specs.declared.anchored.Anchored.TheVariants.{No}
use Rattle.search_types.specs.Found.{Found}
use Rattle.search_types.specs.Modes.{may_start}
use Rattle.search_types.proofs.ForCallers.{starts_at, may_start_at}
use Rattle.hir_regex.specs.declared.settings.Settings.{Settings}
use Rattle.hir_regex.specs.Headline.{query_by}
use Rattle.hir_regex.specs.LooseAnswers.{IsCounted, IsLooseAnswer, MeansSpan}
use Rattle.hir_regex.specs.OverlappingTrees.{IsReportedEnd, IsReportedWith}
use Rattle.hir_regex.specs.Regexes.{IsSearchOf, query_of}
use Rattle.pattern_text.specs.SameEnds.{pattern_looks}
use Rattle.search_core.specs.ByteSets.{has}
use Rattle.pattern_search.specs.Searches.{found_from, whole_query, whole_search, which_match, IsMatchOf}
use Rattle.pattern_search.specs.Texts.{AllMean}
use Rattle.pattern_search.specs.Written.{FindsWhatIsWritten}
use Rattle.pattern_search.proofs.ForCallers.{finds_what_is_written, same_patterns, tried, found_is, may_begin}
use Rattle.meta_regex.specs.Wordless.{MayBeginAt, MayMatch, both_true}
use Rattle.meta_regex.proofs.FoundLemmas.{read_as_many}

-- the alternation matches what one of the patterns does
pub one_of_patterns : (h : List ℕ) (i j : ℕ) (res : List Re) → Matches h (alt_all res) i j → (p : ℕ) × IsMatchOf res h p i j
unfolding in_ranges
one_of_patterns h i j [] m = absurd (true≢false (sym m.2))
one_of_patterns h i j (a ∷ res) (inl m) = (0, record { pattern = a; listed = refl; matches = m })
one_of_patterns h i j (a ∷ res) (inr m) =
    let rest = one_of_patterns h i j res m in
    (suc rest.0, record { pattern = rest.1.pattern; listed = rest.1.listed; matches = rest.1.matches })

-- a search of any bytes
pub any_search : (xs : List Tree) (s : Settings) → s.utf8 ≡ false → (h : List ℕ) → All (λ b. b < 256) h → (at : ℕ) →
    IsSearchOf xs s.utf8 (whole_search h at)
any_search xs s any h bytes at = record {
  within = omega arith;
  whole = refl;
  bytes = bytes;
  valid = λ on. absurd (true≢false (sym on ∙ any));
  utf8_trees = λ on. absurd (true≢false (sym on ∙ any));
}

-- tests that are true of each pattern that matches
both_by : (n b : Bool) → (b ≡ true → n ≡ true) → (n && b) ≡ b
both_by true b on = refl
both_by false true on = on refl
both_by false false on = refl

both_kept : (f : Re → Bool) (res : List Re) (new : List Bool) → length new ≡ length res →
    ((p : ℕ) (a : Re) → slice_get res p ≡ Some a → f a ≡ true → has new p ≡ true) → both_true new (map f res) ≡ map f res
both_kept f [] [] e each = refl
both_kept f [] (n ∷ new) e each = absurd (omega (arith, e))
both_kept f (a ∷ res) [] e each = absurd (omega (arith, e))
both_kept f (a ∷ res) (n ∷ new) e each =
    ap₂ (λ (b : Bool) (bs : List Bool). b ∷ bs) (both_by n (f a) (each 0 a refl))
    (both_kept f res new (omega (arith, e)) (λ p b is on. each (suc p) b is on))

module _ (config : Config) (texts : List (List ℕ)) (xs : List Tree) (mean : AllMean config texts xs) (h : List ℕ)
    (bytes : All (λ b. b < 256) h)
    (more : (x : Tree) (i j : ℕ) → Means (pattern_looks h) h x i j → Means (pattern_looks h) h (wordless_tree x) i j) where
  written : FindsWhatIsWritten config texts xs
  written = finds_what_is_written config texts xs mean

  abbrev re : Re
  re = alt_all written.patterns

  wordless_span : (p i j : ℕ) → MeansSpan (whole_query false xs h) p i j → MeansSpan (whole_query false (map wordless_tree xs) h) p i j
  wordless_span p i j s = record {
    tree = wordless_tree s.tree;
    listed = slice_get-map wordless_tree xs p ∙ ap (option_map wordless_tree) s.listed;
    means = more s.tree i j s.means;
  }

  counted : (p i j : ℕ) → i ≤ length h → MeansSpan (whole_query false (map wordless_tree xs) h) p i j →
      IsCounted (whole_query false (map wordless_tree xs) h) i p j
  counted p i j within s = record {
    findable = record {
      may = lt-ltb p (length (map wordless_tree xs)) (slice_get_within (map wordless_tree xs) p s.tree s.listed);
      span = s;
      within = span_within (pattern_looks h) h s.tree i j within s.means;
    };
    start_counts = refl;
    end_counts = refl;
  }

  -- where the matcher finds a match, one without looks at words starts
  counted_of : (i : ℕ) (t : Trace) → i ≤ length h → tried config.utf8 h re i ≡ Some t →
      (p : ℕ) × (j : ℕ) × IsCounted (whole_query false (map wordless_tree xs) h) i p j
  counted_of i t within found =
      let way = attempt_sound h re accept i t (cond_some (may_begin config.utf8 h i) _ t found).1 in
      let one = one_of_patterns h i way.at written.patterns way.leads in
      let span = (written.spans h bytes false one.0 i way.at within).0 one.1 in
      (one.0, way.at, counted one.0 i way.at within (wordless_span one.0 i way.at span))

  may_be : (at i : ℕ) → at ≤ i → i ≤ length h → may_start No at (length h) i ≡ true
  may_be at i low high = may_start_at No at (length h) i (omega (arith, low, high)) low high

  -- where the matcher tries nothing: no match without looks at words starts there
  tried_none : (at i : ℕ) → i ≤ length h → ((p j : ℕ) → IsCounted (whole_query false (map wordless_tree xs) h) i p j → ⊥) →
      tried config.utf8 h re i ≡ None
  tried_none at i within none = none_of_no_value (tried config.utf8 h re i) (λ t found.
      let c = counted_of i t within found in none c.0 c.1 c.2)

  pub begins_at : (at : ℕ) (o : Option Found) → IsLooseAnswer (whole_query false (map wordless_tree xs) h) at o →
      MayBeginAt config texts h at (option_map (λ f. f.start) o)
  begins_at at None loose = λ res read.
      subst (λ (rs : List Re). found_from config.utf8 (alt_all rs) h at ≡ None)
      (same_patterns config texts written.patterns res written.are_read read)
      (found_is config.utf8 re h at ∙ first_between_none (tried config.utf8 h re) at (length h)
      (λ i low high. tried_none at i high (λ p j c. loose i p j (may_be at i low high) c)))
  begins_at at (Some f) loose =
      let place = starts_at No at (length h) f.start loose.starts in (
        place.to_last,
        λ res read.
            subst (λ (rs : List Re). found_from config.utf8 (alt_all rs) h at ≡ found_from config.utf8 (alt_all rs) h f.start)
            (same_patterns config texts written.patterns res written.are_read read)
            (found_is config.utf8 re h at
            ∙ first_between_skip (tried config.utf8 h re) at f.start (length h) place.from_s
            (λ i low below. let inside : i ≤ length h = omega (arith, below, place.to_last) in
            tried_none at i inside (λ p j c. loose.none_before i p j (may_be at i low inside) below c))
            ∙ sym (found_is config.utf8 re h f.start)),
      )

  pub wordless_begins : (s : Settings) → s.utf8 ≡ false → s.line_terminator ≡ one_of 10 → (at : ℕ) (o : Option Found) →
      IsLooseAnswer (query_by is_word_char (map wordless_tree xs) s (whole_search h at)) at o →
      MayBeginAt config texts h at (option_map (λ f. f.start) o)
  wordless_begins s any lines at o loose =
      begins_at at o
      (subst (λ (u : Bool). IsLooseAnswer (query_of (map wordless_tree xs) u (pattern_looks h) (whole_search h at)) at o) any
      (subst (λ (t : Terminator). IsLooseAnswer (query_of (map wordless_tree xs) s.utf8 (holds is_word_char t h) (whole_search h at)) at o)
      lines loose))

  -- ---- which patterns may match
  module _ (new : List Bool) (long : length new ≡ length texts)
      (told : (p j : ℕ) → p < length xs → IsReportedEnd (whole_query false (map wordless_tree xs) h) 0 j p → has new p ≡ true) where
    told_of : (p : ℕ) (a : Re) → slice_get written.patterns p ≡ Some a → (o : Option Match) →
        first_between (tried config.utf8 h a) 0 (length h) ≡ o → is_some o ≡ true → has new p ≡ true
    told_of p a listed None is some = absurd (true≢false (sym some))
    told_of p a listed (Some m) is some =
        let first = IsFirst-of_first_between (tried config.utf8 h a) 0 (length h) m is in
        let way = attempt_sound h a accept m.start m.trace (cond_some (may_begin config.utf8 h m.start) _ m.trace first.here).1 in
        let span = (written.spans h bytes false p m.start way.at first.to).0
        (record { pattern = a; listed = listed; matches = way.leads }) in
        told p way.at (slice_get_within xs p span.tree span.listed) (record {
          start = m.start;
          starts = may_be 0 m.start (omega arith) first.to;
          findable = (counted p m.start way.at first.to (wordless_span p m.start way.at span)).findable;
          counted = refl;
        })

    pub may_match : MayMatch config texts h new
    may_match res read =
        subst (λ (rs : List Re). both_true new (which_match config.utf8 rs h) ≡ which_match config.utf8 rs h)
        (same_patterns config texts written.patterns res written.are_read read)
        (both_kept (λ a. is_some (found_from config.utf8 a h 0)) written.patterns new
        (long ∙ sym (read_as_many config texts written.patterns written.are_read))
        (λ p a listed some. told_of p a listed (first_between (tried config.utf8 h a) 0 (length h)) refl
        (sym (ap is_some (found_is config.utf8 a h 0)) ∙ some)))

  -- what is added to an empty set
  pub may_reported : (s : Settings) → s.utf8 ≡ false → s.line_terminator ≡ one_of 10 → (old new : List Bool) →
      old ≡ replicate (length texts) false → length new ≡ length texts →
      ((p : ℕ) → (has new p ≡ true) ↔ ((has old p ≡ true) ⊎
      ((p < length old) × ((j : ℕ) × IsReportedWith is_word_char (map wordless_tree xs) false s.utf8 s.line_terminator
      (whole_search h 0) (j, p))))) →
      MayMatch config texts h new
  may_reported s any lines old new empty long adds =
      may_match new long (λ p j below told.
      (adds p).1 (inr (
        omega (arith, below, ap length empty, room_for (length texts), many texts xs mean),
        (
          j,
          subst (λ (t : Terminator). IsReportedWith is_word_char (map wordless_tree xs) false s.utf8 t (whole_search h 0) (j, p)) (sym lines)
              (subst (λ (u : Bool). IsReportedWith is_word_char (map wordless_tree xs) false u (one_of 10) (whole_search h 0) (j, p))
              (sym any) told),
        ),
      )))
    where
      room_for : (n : ℕ) → length (replicate n false) ≡ n
      room_for zero = refl
      room_for (suc n) = ap suc (room_for n)

      many : (ts : List (List ℕ)) (ys : List Tree) → AllMean config ts ys → length ys ≡ length ts
      many [] [] m = refl
      many [] (y ∷ ys) m = absurd m
      many (t ∷ ts) [] m = absurd m
      many (t ∷ ts) (y ∷ ys) m = ap suc (many ts ys m.1)

-- if each may match, those match that do
all_both : (bs : List Bool) → both_true (replicate (length bs) true) bs ≡ bs
all_both [] = refl
all_both (b ∷ bs) = ap (λ (cs : List Bool). b ∷ cs) (all_both bs)

pub all_may : (config : Config) (texts : List (List ℕ)) (h : List ℕ) (may : List Bool) → may ≡ replicate (length texts) true →
    MayMatch config texts h may
all_may config texts h may is res read =
    let many : length (which_match config.utf8 res h) ≡ length texts =
    length-map res (λ re. is_some (found_from config.utf8 re h 0)) ∙ read_as_many config texts res read in
    ap (λ (bs : List Bool). both_true bs (which_match config.utf8 res h)) (is ∙ ap (λ (n : ℕ). replicate n true) (sym many))
    ∙ all_both (which_match config.utf8 res h)
