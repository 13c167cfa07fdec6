-- The toolchain's matcher finds nothing before the next offset at which a match may start by its literals.
use Rattle.std.proofs.Common.{◌≡◌, ◌+◌, ◌-◌, ℕ, zero, suc, ◌<◌, ◌≤◌, false, List, [], ◌∷◌, length, All, Option, Some, None, option_map, slice_get}
use Rattle.std.proofs.Common.{sym, ap, ◌∙◌, subst, arith, inl, inr}
use Rattle.std.proofs.Common.{Bool}
use Rattle.std.specs.Prelude.{IfSome}
use Rattle.std.proofs.lemmas.Bool.{cases_lt}
use Rattle.std.proofs.lemmas.Option.{none-some, same_Some}
use Rattle.regex_hir.specs.Re.{Re, Trace, accept}
use Rattle.regex_hir.specs.Meaning.{alt_all}
use Rattle.regex_hir.specs.Find.{Match}
use Rattle.regex_hir.proofs.AttemptLemmas.{attempt_sound, cond_some}
use Rattle.regex_hir.proofs.FindLemmas.{first_between_none, first_between_past, first_between_skip}
use Rattle.regex_hir.proofs.OptionLemmas.{none_of_no_value}
use Rattle.regex_syntax.specs.declared.Config.{Config}
use Rattle.hir_core.specs.Means.{Looks, Means}
use Rattle.hir_core.specs.Tree.{Tree, alternation}
use Rattle.line_trees.specs.LineTrees.{HasNoFeedFrom}
use Rattle.literal_search.specs.Searches.{EndsFrom, IsNextEnd, IsNextStart, StartsFrom}
use Rattle.pattern_text.specs.SameEnds.{pattern_looks}
use Rattle.pattern_search.specs.Searches.{found_from, span_of_match}
use Rattle.pattern_search.specs.Texts.{AllMean}
use Rattle.pattern_search.specs.Written.{FindsWhatIsWritten}
use Rattle.pattern_search.proofs.ForCallers.{finds_what_is_written, same_patterns, tried, found_is, may_begin}
use Rattle.meta_regex.specs.declared.anchored.Sought.{Sought}
use Rattle.meta_regex.specs.declared.anchored.Sought.TheVariants.{Found, Missing, From}
use Rattle.meta_regex.specs.declared.anchored.Step.{Step}
use Rattle.meta_regex.specs.declared.anchored.Step.TheVariants.{Done, Next}
use Rattle.meta_regex.specs.declared.found_match.FoundMatch.{FoundMatch}
use Rattle.meta_regex.specs.Regexes.{HasFoundStart, HasFoundSpan}
use Rattle.meta_regex.specs.Starts.{HasSoughtSpan, HasStepSpan, IsSought, IsStep, NoneStartsAt, StepsFrom}
use Rattle.meta_regex.specs.Wordless.{MayBeginAt}
use Rattle.meta_regex.proofs.WordlessLemmas.{one_of_patterns}

-- what one of the trees means, their alternation means
in_alternation : (looks : Looks) (h : List ℕ) (xs : List Tree) (p : ℕ) (x : Tree) (i j : ℕ) → slice_get xs p ≡ Some x →
    Means looks h x i j → Means looks h (alternation xs) i j
in_alternation looks h [] p x i j listed m = absurd (none-some x listed)
in_alternation looks h (y ∷ ys) zero x i j listed m =
    inl (subst (λ (t : Tree). Means looks h t i j) (sym (same_Some y x listed)) m)
in_alternation looks h (y ∷ ys) (suc p) x i j listed m = inr (in_alternation looks h ys p x i j listed m)

module _ (config : Config) (texts : List (List ℕ)) (xs : List Tree) (mean : AllMean config texts xs) (h : List ℕ)
    (bytes : All (λ b. b < 256) h)
  where
    written : FindsWhatIsWritten config texts xs
    written = finds_what_is_written config texts xs mean

    abbrev re : Re
    re = alt_all written.patterns

    -- where the matcher finds a match, the alternation of the trees has a span
    span_of : (i : ℕ) (t : Trace) → i ≤ length h → tried config.utf8 h re i ≡ Some t →
        (j : ℕ) × Means (pattern_looks h) h (alternation xs) i j
    span_of i t within found =
        let way = attempt_sound h re accept i t (cond_some (may_begin config.utf8 h i) _ t found).1 in
        let one = one_of_patterns h i way.at written.patterns way.leads in
        let span = (written.spans h bytes false one.0 i way.at within).0 one.1 in
        (way.at, in_alternation (pattern_looks h) h xs one.0 span.tree i way.at span.listed span.means)

    none_tried : (i : ℕ) → i ≤ length h → ((j : ℕ) → Means (pattern_looks h) h (alternation xs) i j → ⊥) →
        tried config.utf8 h re i ≡ None
    none_tried i within none =
        none_of_no_value (tried config.utf8 h re i) (λ t found. let s = span_of i t within found in none s.0 s.1)

    begins_by : (at : ℕ) (o : Option ℕ) → IsNextStart (alternation xs) h at o → MayBeginAt config texts h at o
    begins_by at None none = λ res read.
        subst (λ (rs : List Re). found_from config.utf8 (alt_all rs) h at ≡ None)
        (same_patterns config texts written.patterns res written.are_read read)
        (found_is config.utf8 re h at
        ∙ first_between_none (tried config.utf8 h re) at (length h)
        (λ i low high. none_tried i high (λ j m. none.none (pattern_looks h) i j low high m)))
    begins_by at (Some k) next = (
      next.1,
      λ res read.
          subst (λ (rs : List Re). found_from config.utf8 (alt_all rs) h at ≡ found_from config.utf8 (alt_all rs) h k)
          (same_patterns config texts written.patterns res written.are_read read)
          (found_is config.utf8 re h at
          ∙ first_between_skip (tried config.utf8 h re) at k (length h) next.0
          (λ i low below. let inside : i ≤ length h = omega (arith, below, next.1) in
          none_tried i inside (λ j m. absurd (omega (arith, below, next.2.starts (pattern_looks h) i j low inside m))))
          ∙ sym (found_is config.utf8 re h k)),
    )

-- a search may begin at the next offset at which a span of the trees may start
pub begins_at_start : (config : Config) (texts : List (List ℕ)) (xs : List Tree) → AllMean config texts xs → (h : List ℕ) (at : ℕ) (o : Option ℕ) →
    All (λ b. b < 256) h → IsNextStart (alternation xs) h at o → MayBeginAt config texts h at o
begins_at_start config texts xs mean h at o bytes next = begins_by config texts xs mean h bytes at o next

pub starts_after : (x : Tree) (h : List ℕ) (at : ℕ) (o : Option ℕ) → IsNextStart x h at o → IfSome o (λ s. at ≤ s)
starts_after x h at None next = tt
starts_after x h at (Some s) next = next.0

-- ---- lines
-- no span without a line feed that ends at k or after it starts before the line of k
pub starts_in_line : (x : Tree) (h : List ℕ) (at k s : ℕ) →
    ((looks : Looks) (i e : ℕ) → Means looks h x i e → HasNoFeedFrom h i e) → EndsFrom x h at k → (at < s → s ≤ k) →
    (at < s → slice_get h (s - 1) ≡ Some 10) → StartsFrom x h at s
starts_in_line x h at k s one_line from before feed = record {
  starts = λ looks i e low within m. elim (cases_lt i s) [
    | inl less ↦ absurd (one_line looks i e m (s - 1) (omega (arith, less)) (omega (arith, less, before (omega (arith, less, low)), from.ends looks i e low within m))
        (feed (omega (arith, less, low))))
    | inr above ↦ above
  ];
}

-- what one tree of a list without others means
only_tree : (looks : Looks) (h : List ℕ) (x : Tree) (i j : ℕ) → Means looks h (alternation (x ∷ [])) i j → Means looks h x i j
only_tree looks h x i j (inl m) = m
only_tree looks h x i j (inr m) = absurd m

-- the next start of one tree of a list without others
pub only_next : (x : Tree) (h : List ℕ) (at : ℕ) (o : Option ℕ) → IsNextStart x h at o → IsNextStart (alternation (x ∷ [])) h at o
only_next x h at None next = record { none = λ looks i e low within m. next.none looks i e low within (only_tree looks h x i e m) }
only_next x h at (Some k) next = (
  next.0,
  next.1,
  record { starts = λ looks i e low within m. next.2.starts looks i e low within (only_tree looks h x i e m) },
)

pub next_in_line : (x : Tree) (h : List ℕ) (at k s : ℕ) →
    ((looks : Looks) (i e : ℕ) → Means looks h x i e → HasNoFeedFrom h i e) → IsNextEnd x h at (Some k) → at ≤ s → s ≤ length h →
    (at < s → s ≤ k) → (at < s → slice_get h (s - 1) ≡ Some 10) → IsNextStart x h at (Some s)
next_in_line x h at k s one_line next from within before feed =
    (from, within, starts_in_line x h at k s one_line next.2 before feed)

-- ---- one step after the other
pub then_begins : (config : Config) (texts : List (List ℕ)) (h : List ℕ) (a b : ℕ) (o : Option ℕ) → MayBeginAt config texts h a (Some b) →
    MayBeginAt config texts h b o → MayBeginAt config texts h a o
then_begins config texts h a b None first second = λ res read. first.1 res read ∙ second res read
then_begins config texts h a b (Some c) first second = (second.0, λ res read. first.1 res read ∙ second.1 res read)

pub found_later : (config : Config) (texts : List (List ℕ)) (h : List ℕ) (a b : ℕ) (o : Option FoundMatch) →
    MayBeginAt config texts h a (Some b) → HasFoundStart config texts h b o → HasFoundStart config texts h a o
found_later config texts h a b o first found = record {
  start = λ res read. ap (λ (o : Option Match). option_map (λ m. m.start) o) (first.1 res read) ∙ found.start res read;
  pattern = found.pattern;
}

pub span_later : (config : Config) (texts : List (List ℕ)) (h : List ℕ) (a b : ℕ) (o : Option FoundMatch) →
    MayBeginAt config texts h a (Some b) → HasFoundSpan config texts h b o → HasFoundSpan config texts h a o
span_later config texts h a b o first found res read = ap (λ (o : Option Match). option_map span_of_match o) (first.1 res read) ∙ found res read

pub none_at_end : (config : Config) (texts : List (List ℕ)) (h : List ℕ) (at : ℕ) → at ≡ length h → NoneStartsAt config texts h at →
    MayBeginAt config texts h at None
none_at_end config texts h at end none res read =
    none res read ∙ found_is config.utf8 (alt_all res) h (at + 1)
    ∙ first_between_past (tried config.utf8 h (alt_all res)) (at + 1) (length h) (omega (arith, end))

-- what is found after some offsets were skipped is found from the first of them on
pub sought_later : (config : Config) (texts : List (List ℕ)) (h : List ℕ) (a b : ℕ) (o : Sought) → MayBeginAt config texts h a (Some b) →
    IsSought config texts h b o → IsSought config texts h a o
sought_later config texts h a b (Found f) first it = found_later config texts h a b (Some f) first it
sought_later config texts h a b Missing first it = then_begins config texts h a b None first it
sought_later config texts h a b (From s) first it = then_begins config texts h a b (Some s) first it

pub sought_span_later : (config : Config) (texts : List (List ℕ)) (h : List ℕ) (a b : ℕ) (o : Sought) →
    MayBeginAt config texts h a (Some b) → HasSoughtSpan config texts h b o → HasSoughtSpan config texts h a o
sought_span_later config texts h a b (Found f) first it = span_later config texts h a b (Some f) first it
sought_span_later config texts h a b Missing first it = tt
sought_span_later config texts h a b (From s) first it = tt

step_later : (config : Config) (texts : List (List ℕ)) (h : List ℕ) (a b : ℕ) (o : Step) → a ≤ b → MayBeginAt config texts h a (Some b) →
    IsStep config texts h b o → IsStep config texts h a o
step_later config texts h a b (Done o) order first it = sought_later config texts h a b o first it
step_later config texts h a b (Next s) order first it = (omega (arith, order, it.0), then_begins config texts h a b (Some s) first it.1)

step_span_later : (config : Config) (texts : List (List ℕ)) (h : List ℕ) (a b : ℕ) (o : Step) → MayBeginAt config texts h a (Some b) →
    HasStepSpan config texts h b o → HasStepSpan config texts h a o
step_span_later config texts h a b (Done o) first it = sought_span_later config texts h a b o first it
step_span_later config texts h a b (Next s) first it = tt

pub steps_later : (config : Config) (texts : List (List ℕ)) (loops : Bool) (h : List ℕ) (a b : ℕ) (o : Step) → a ≤ b →
    MayBeginAt config texts h a (Some b) → StepsFrom config texts loops h b o → StepsFrom config texts loops h a o
steps_later config texts loops h a b o order first it = record {
  step = step_later config texts h a b o order first it.step;
  preferred = λ on. step_span_later config texts h a b o first (it.preferred on);
}
