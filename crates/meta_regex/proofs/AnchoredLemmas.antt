-- What a search that may start at one offset alone says of the toolchain's matcher.
use Rattle.std.proofs.Common.{◌≡◌, ℕ, suc, ◌+◌, ◌-◌, ◌<◌, ◌≤◌, Bool, true, false, List, length, All, Option, Some, None, option_map}
use Rattle.std.proofs.Common.{refl, sym, ap, ◌∙◌, subst, arith, le-leb, nat_le, if◌then◌else◌}
use Rattle.std.specs.Option.{option_or}
use Rattle.std.proofs.lemmas.Option.{none-some, same_Some}
use Rattle.ucd_perl.specs.Perl.{is_word_char}
use Rattle.regex_hir.specs.Re.{Re, Trace}
use Rattle.regex_hir.specs.Meaning.{alt_all}
use Rattle.regex_hir.specs.Find.{Match}
use Rattle.regex_hir.proofs.FindLemmas.{first_between_here, first_between_next}
use Rattle.regex_hir.proofs.OptionLemmas.{none_of_no_value}
use Rattle.regex_syntax.specs.declared.Config.{Config}
use Rattle.search_core.specs.Utf8.{IsValidText}
use Rattle.look_core.specs.Terminators.{Terminator}
use Rattle.look_core.specs.Looks.{holds}
use Rattle.hir_core.specs.Facts.{LoopsRead}
use Rattle.search_types.specs.declared.anchored.Anchored.TheVariants.{No, Yes}
use Rattle.search_types.specs.declared.match_kind.MatchKind.TheVariants.{LeftmostFirst}
use Rattle.search_types.specs.Found.{Found}
use Rattle.search_types.specs.LeftmostAnswer.{first_choice, leftmost}
use Rattle.search_types.proofs.ForCallers.{starts_at, may_start_at}
use Rattle.hir_regex.specs.Choices.{Query, answer_from, choices_at}
use Rattle.hir_regex.specs.Headline.{answer_to, query_by}
use Rattle.hir_regex.specs.LooseAnswers.{IsCounted, IsLoose, IsLooseAnswer}
use Rattle.hir_regex.specs.Regexes.{IsSearchOf, query_of}
use Rattle.pattern_text.specs.SameEnds.{pattern_looks}
use Rattle.regex_pair.specs.Pairs.{Pair}
use Rattle.pattern_search.specs.Searches.{found_from, whole_query, whole_search, span_of_match, span_of_found, IsOfFirstPattern}
use Rattle.pattern_search.specs.Written.{FindsWhatIsWritten}
use Rattle.pattern_search.proofs.ForCallers.{answer_is_loose, finds_what_is_written, same_patterns, tried, found_is}
use Rattle.meta_regex.specs.Regexes.{AreBuiltOf, HasFoundStart, HasFoundSpan, row_of}
use Rattle.meta_regex.specs.Starts.{HasTriedSpan, IsTried, NoneStartsAt, anchored_search, tried_of}
use Rattle.meta_regex.proofs.FoundLemmas.{is_search}

-- ---- the first choice at the first offset
or_none : (a : Option Found) (f : Found) → option_or a None ≡ Some f → a ≡ Some f
or_none None f is = is
or_none (Some g) f is = is

pub or_first : (a b : Option Found) (f : Found) → a ≡ Some f → option_or a b ≡ Some f
or_first None b f is = absurd (none-some f is)
or_first (Some g) b f is = is

leftmost_here : (choices : ℕ → List (ℕ × ℕ)) (s n m : ℕ) (f : Found) → n ≡ 1 → leftmost choices n s ≡ Some f →
    leftmost choices (suc m) s ≡ Some f
leftmost_here choices s n m f one is =
    or_first (first_choice s (choices s)) (leftmost choices m (s + 1)) f
    (or_none (first_choice s (choices s)) f (sym (ap (λ (k : ℕ). leftmost choices k s) one) ∙ is))

pub if_true : (b : Bool) (o p : Option Found) → b ≡ true → (if b then o else p) ≡ o
if_true true o p is = refl
if_true false o p is = cc

module _ (config : Config) (texts : List (List ℕ)) (p : Pair) (it : AreBuiltOf config texts LeftmostFirst p) (h : List ℕ)
    (bytes : All (λ b. b < 256) h) (valid : config.utf8 ≡ true → IsValidText h) (at : ℕ) (within : at ≤ length h) where
  written : FindsWhatIsWritten config texts it.trees
  written = finds_what_is_written config texts it.trees it.mean

  abbrev re : Re
  re = alt_all written.patterns

  abbrev utf8 : Bool
  utf8 = it.settings.utf8

  searched : IsSearchOf it.trees it.settings.utf8 (whole_search h at)
  searched = is_search config texts LeftmostFirst p it h bytes valid at

  pub anchored : IsSearchOf it.trees it.settings.utf8 (anchored_search h at)
  anchored = record {
    within = searched.within;
    whole = refl;
    bytes = searched.bytes;
    valid = searched.valid;
    utf8_trees = searched.utf8_trees;
  }

  -- the search that may start anywhere, and the one that may start at the offset alone
  abbrev free : Query
  free = whole_query utf8 it.trees h

  abbrev tied : Query
  tied = query_of it.trees utf8 (pattern_looks h) (anchored_search h at)

  freed : (i n j : ℕ) → IsCounted tied i n j → IsCounted free i n j
  freed i n j c = record {
    findable = record {
      may = c.findable.may;
      span = record { tree = c.findable.span.tree; listed = c.findable.span.listed; means = c.findable.span.means };
      within = c.findable.within;
    };
    start_counts = c.start_counts;
    end_counts = c.end_counts;
  }

  bound : (i n j : ℕ) → IsCounted free i n j → IsCounted tied i n j
  bound i n j c = record {
    findable = record {
      may = c.findable.may;
      span = record { tree = c.findable.span.tree; listed = c.findable.span.listed; means = c.findable.span.means };
      within = c.findable.within;
    };
    start_counts = c.start_counts;
    end_counts = c.end_counts;
  }

  -- looks as the grammar reads them
  by_looks : (o : Option Found) → IsLooseAnswer (query_by is_word_char it.trees it.settings (anchored_search h at)) at o →
      IsLooseAnswer tied at o
  by_looks o loose =
      subst (λ (t : Terminator). IsLooseAnswer (query_of it.trees utf8 (holds is_word_char t h) (anchored_search h at)) at o) it.lines loose

  -- ---- a match
  module _ (f : Found) (found : IsLooseAnswer (query_by is_word_char it.trees it.settings (anchored_search h at)) at (Some f)) where
    loose : IsLoose tied at f
    loose = by_looks (Some f) found

    anywhere : IsLooseAnswer free at (Some f)
    anywhere =
        let place = starts_at Yes at (length h) f.start loose.starts in
        record {
          starts = may_start_at No at (length h) f.start within place.from_s (omega (arith, place.to_last, within));
          counted = freed f.start f.pattern f.end loose.counted;
          none_before = λ i n j may less c.
              absurd (omega (arith, less, place.to_last, (starts_at No at (length h) i may).from_s));
          first_pattern = λ n j less c. loose.first_pattern n j less (bound f.start n j c);
        }

    pub found_there : HasFoundStart config texts h at (Some (row_of f))
    found_there = record {
      start = λ res read.
          subst (λ (rs : List Re). option_map (λ m. m.start) (found_from config.utf8 (alt_all rs) h at) ≡ Some f.start)
          (same_patterns config texts written.patterns res written.are_read read)
          (subst (λ (u : Bool). option_map (λ m. m.start) (found_from u re h at) ≡ Some f.start) it.mode
          ((written.starts utf8).loose h at searched (Some f) anywhere));
      pattern = λ res read.
          subst (λ (rs : List Re). IsOfFirstPattern rs h f) (same_patterns config texts written.patterns res written.are_read read)
          ((written.starts utf8).pattern h at searched f anywhere);
    }

  -- the preferred match there is the one that is preferred of all
  answer_anywhere : (f : Found) → answer_from tied at ≡ Some f → answer_from free at ≡ Some f
  answer_anywhere f is =
      let one : at + 1 - at ≡ 1 = omega arith in
      let some : length h + 1 - at ≡ suc (length h - at) = omega (arith, within) in
      if_true (nat_le at (length h)) (leftmost (choices_at free) (length h + 1 - at) at) None (le-leb at (length h) within)
      ∙ ap (λ (k : ℕ). leftmost (choices_at free) k at) some
      ∙ leftmost_here (choices_at free) at (at + 1 - at) (length h - at) f one
      (sym (if_true (nat_le at (length h)) (leftmost (choices_at tied) (at + 1 - at) at) None (le-leb at (length h) within)) ∙ is)

  pub found_span : (f : Found) → All LoopsRead it.trees →
      Some f ≡ answer_to is_word_char it.trees it.settings (anchored_search h at) →
      HasFoundSpan config texts h at (Some (row_of f))
  found_span f loops is res read =
      subst (λ (rs : List Re). option_map span_of_match (found_from config.utf8 (alt_all rs) h at) ≡ Some (span_of_found f))
      (same_patterns config texts written.patterns res written.are_read read)
      (subst (λ (u : Bool). option_map span_of_match (found_from u re h at) ≡ Some (span_of_found f)) it.mode
      (written.finds loops utf8 h at searched
      ∙ ap (option_map span_of_found) (answer_anywhere f
      (sym (subst (λ (t : Terminator). Some f ≡ answer_from (query_of it.trees utf8 (holds is_word_char t h) (anchored_search h at)) at)
      it.lines is)))))

  -- ---- no match
  module _ (none : IsLooseAnswer (query_by is_word_char it.trees it.settings (anchored_search h at)) at None) where
    not_here : (o : Option Found) → IsLooseAnswer free at o → option_map (λ f. f.start) o ≡ Some at → ⊥
    not_here None loose is = none-some at is
    not_here (Some f) loose is =
        let here : f.start ≡ at = same_Some f.start at is in
        by_looks None none at f.pattern f.end (may_start_at Yes at (length h) at within (omega arith) (omega arith))
        (bound at f.pattern f.end (subst (λ (i : ℕ). IsCounted free i f.pattern f.end) here loose.counted))

    none_tried : tried utf8 h re at ≡ None
    none_tried = none_of_no_value (tried utf8 h re at) (λ (t : Trace) found.
        not_here (answer_from free at) (answer_is_loose free at)
        (sym ((written.starts utf8).preferred h at searched)
        ∙ ap (λ (o : Option Match). option_map (λ m. m.start) o) (found_is utf8 re h at ∙ first_between_here (tried utf8 h re) at (length h) t within found)))

    pub none_there : NoneStartsAt config texts h at
    none_there res read =
        subst (λ (rs : List Re). found_from config.utf8 (alt_all rs) h at ≡ found_from config.utf8 (alt_all rs) h (at + 1))
        (same_patterns config texts written.patterns res written.are_read read)
        (subst (λ (u : Bool). found_from u re h at ≡ found_from u re h (at + 1)) it.mode
        (found_is utf8 re h at ∙ first_between_next (tried utf8 h re) at (length h) none_tried ∙ sym (found_is utf8 re h (at + 1))))

  -- ---- either
  pub is_tried : (o : Option Found) → IsLooseAnswer (query_by is_word_char it.trees it.settings (anchored_search h at)) at o →
      IsTried config texts h at (tried_of o)
  is_tried None none = none_there none
  is_tried (Some f) found = found_there f found

  pub has_tried_span : (o : Option Found) → All LoopsRead it.trees →
      o ≡ answer_to is_word_char it.trees it.settings (anchored_search h at) → HasTriedSpan config texts h at (tried_of o)
  has_tried_span None loops is = tt
  has_tried_span (Some f) loops is = found_span f loops is
