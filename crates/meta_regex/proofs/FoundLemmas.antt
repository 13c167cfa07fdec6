-- What is reported of a haystack, by what searches promise.
use Rattle.std.proofs.Common.{◌≡◌, ◌<◌, ℕ, suc, Bool, true, false, List, [], ◌∷◌, All, length, map, replicate, Option, Some, None, Ok}
use Rattle.std.proofs.Common.{ap, sym, subst, ◌∙◌, refl, arith}
use Rattle.std.specs.Prelude.{is_some, option_map, IfSome}
use Rattle.std.proofs.lemmas.List.{length-map}
use Rattle.regex_hir.specs.Re.{Re}
use Rattle.regex_hir.specs.Meaning.{alt_all}
use Rattle.regex_syntax.specs.declared.Config.{Config}
use Rattle.regex_syntax.specs.Grammar.{read}
use Rattle.search_core.specs.Utf8.{IsValidText}
use Rattle.look_core.specs.Terminators.{one_of}
use Rattle.hir_core.specs.Facts.{LoopsRead}
use Rattle.hir_core.specs.Tree.{Tree}
use Rattle.search_types.specs.declared.match_kind.MatchKind.{MatchKind}
use Rattle.search_types.specs.declared.match_kind.MatchKind.TheVariants.{LeftmostFirst, All as AllMatches}
use Rattle.search_types.specs.Found.{Found}
use Rattle.lazy_dfa.specs.Caches.{CacheValue}
use Rattle.lazy_dfa.specs.ConfigValue.{kind_of}
use Rattle.lazy_dfa.specs.OverlappingAnswers.{AnswersWhich}
use Rattle.regex_pair.specs.Pairs.{Pair, PairCache}
use Rattle.regex_pair.specs.PairAnswers.{AnswersPair}
use Rattle.hir_regex.specs.declared.settings.Settings.{Settings}
use Rattle.hir_regex.specs.Built.{IsBuilt, FindsFirst}
use Rattle.hir_regex.specs.Regexes.{IsSearchOf}
use Rattle.pattern_search.specs.Searches.{whole_search, found_from, which_match, span_of_match, span_of_found, IsOfFirstPattern}
use Rattle.pattern_search.specs.Texts.{AreReadAs, AllMean}
use Rattle.pattern_search.specs.Written.{AnswersWhatIsWritten}
use Rattle.pattern_search.proofs.ForCallers.{alike_some, same_patterns}
use Rattle.meta_regex.specs.declared.found_match.FoundMatch.{FoundMatch}
use Rattle.meta_regex.specs.Regexes.{AreBuiltOf, AreMarked, AreWhich, HasFoundStart, HasFoundSpan, IsReported, as_found, hits, mark, overlaid}
use Rattle.meta_regex.specs.Regexes.{span_of_row}
use Rattle.meta_regex.specs.Regexes.{row_of}
use Rattle.meta_regex.proofs.ListLemmas.{whole_laid}

-- a match as a row
row_start : (o : Option Found) → option_map (λ f. f.start) o ≡ option_map (λ r. FoundMatch.start r) (option_map row_of o)
row_start None = refl
row_start (Some f) = refl

row_span : (o : Option Found) → option_map span_of_found o ≡ option_map span_of_row (option_map row_of o)
row_span None = refl
row_span (Some f) = refl

row_pattern : (res : List Re) (h : List ℕ) (o : Option Found) → ((f : Found) → o ≡ Some f → IsOfFirstPattern res h f) →
    IfSome (option_map row_of o) (λ r. IsOfFirstPattern res h (as_found r))
row_pattern res h None each = tt
row_pattern res h (Some f) each = each f refl

-- what the laws of searches say of regexes of patterns
abbrev pub Law : Config → List (List ℕ) → Pair → Type 0
Law config texts p =
    (xs : List Tree) → AllMean config texts xs → (s : Settings) → IsBuilt xs s p → FindsFirst s → s.line_terminator ≡ one_of 10 →
    AnswersWhatIsWritten config texts xs s p

-- a search of a whole haystack is one of the laws'
pub is_search : (config : Config) (texts : List (List ℕ)) (kind : MatchKind) (p : Pair) (it : AreBuiltOf config texts kind p)
    (h : List ℕ) → All (λ b. b < 256) h → (config.utf8 ≡ true → IsValidText h) → (at : ℕ) →
    IsSearchOf it.trees it.settings.utf8 (whole_search h at)
is_search config texts kind p it h bytes valid at = record {
  within = omega arith;
  whole = refl;
  bytes = bytes;
  valid = λ on. valid (sym it.mode ∙ on);
  utf8_trees = λ on. it.utf8_trees (sym it.mode ∙ on);
}

module _ (config : Config) (texts : List (List ℕ)) (p : Pair) (law : Law config texts p) (it : AreBuiltOf config texts LeftmostFirst p)
    (h : List ℕ) (bytes : All (λ b. b < 256) h) (valid : config.utf8 ≡ true → IsValidText h)
    (at : ℕ) (c : PairCache) (o : Option Found) (answer : AnswersPair p c (whole_search h at) (Ok o)) where
  written : AnswersWhatIsWritten config texts it.trees it.settings p
  written = law it.trees it.mean it.settings it.built it.kind_is it.lines

  searched : IsSearchOf it.trees it.settings.utf8 (whole_search h at)
  searched = is_search config texts LeftmostFirst p it h bytes valid at

  start_of : (res : List Re) → AreReadAs config texts res →
      option_map (λ m. m.start) (found_from config.utf8 (alt_all res) h at) ≡ option_map (λ f. f.start) o
  start_of res read =
      subst (λ (rs : List Re). option_map (λ m. m.start) (found_from config.utf8 (alt_all rs) h at) ≡ option_map (λ f. f.start) o)
      (same_patterns config texts written.patterns res written.are_read read)
      (subst (λ (u : Bool). option_map (λ m. m.start) (found_from u (alt_all written.patterns) h at) ≡ option_map (λ f. f.start) o) it.mode
      (written.answers.starts h at searched c o answer))

  pattern_of : (res : List Re) → AreReadAs config texts res → (f : Found) → o ≡ Some f → IsOfFirstPattern res h f
  pattern_of res read f is =
      subst (λ (rs : List Re). IsOfFirstPattern rs h f) (same_patterns config texts written.patterns res written.are_read read)
      (written.answers.pattern h at searched c f (subst (λ (p' : Option Found). AnswersPair p c (whole_search h at) (Ok p')) is answer))

  pub row_found : HasFoundStart config texts h at (option_map row_of o)
  row_found = record {
    start = λ res read. start_of res read ∙ row_start o;
    pattern = λ res read. row_pattern res h o (pattern_of res read);
  }

  pub row_preferred : All LoopsRead it.trees → HasFoundSpan config texts h at (option_map row_of o)
  row_preferred loops res read =
      subst (λ (rs : List Re). option_map span_of_match (found_from config.utf8 (alt_all rs) h at) ≡ option_map span_of_found o)
      (same_patterns config texts written.patterns res written.are_read read)
      (subst (λ (u : Bool). option_map span_of_match (found_from u (alt_all written.patterns) h at) ≡ option_map span_of_found o) it.mode
      (written.answers.found loops h at searched c o answer))
      ∙ row_span o

-- whether there is a match
pub progress_of : (config : Config) (texts : List (List ℕ)) (h : List ℕ) (o : Option FoundMatch) → HasFoundStart config texts h 0 o →
    IsReported config texts h (is_some o)
progress_of config texts h o found res read = sym (alike_some _ _ _ _ (found.start res read))

-- ---- which patterns match
texts_as_many : (config : Config) (texts : List (List ℕ)) (xs : List Tree) → AllMean config texts xs → length xs ≡ length texts
texts_as_many config [] [] m = refl
texts_as_many config [] (x ∷ xs) m = absurd m
texts_as_many config (t ∷ ts) [] m = absurd m
texts_as_many config (t ∷ ts) (x ∷ xs) m = ap suc (texts_as_many config ts xs m.1)

pub read_as_many : (config : Config) (texts : List (List ℕ)) (res : List Re) → AreReadAs config texts res → length res ≡ length texts
read_as_many config [] [] m = refl
read_as_many config [] (a ∷ res) m = absurd m
read_as_many config (t ∷ ts) [] m = absurd m
read_as_many config (t ∷ ts) (a ∷ res) m = ap suc (read_as_many config ts res m.1)

-- what the laws of overlapping searches say of regexes of patterns
abbrev pub WalkLaw : Config → List (List ℕ) → Pair → Type 0
WalkLaw config texts p = (xs : List Tree) → AllMean config texts xs → (s : Settings) → IsBuilt xs s p → kind_of s.dfa ≡ AllMatches →
    s.line_terminator ≡ one_of 10 →
    (h : List ℕ) → IsSearchOf xs s.utf8 (whole_search h 0) → (v : CacheValue) (set : List Bool) →
    AnswersWhich p.forward v (whole_search h 0) (replicate (length xs) false) set (Ok tt) →
    (res : List Re) × AreReadAs config texts res × (set ≡ which_match s.utf8 res h)

pub overlapping_progress : (config : Config) (texts : List (List ℕ)) (p : Pair) → WalkLaw config texts p →
    (it : AreBuiltOf config texts AllMatches p) →
    (h : List ℕ) → All (λ b. b < 256) h → (config.utf8 ≡ true → IsValidText h) → (v : CacheValue) (old set : List Bool) →
    old ≡ replicate (length texts) false → AnswersWhich p.forward v (whole_search h 0) old set (Ok tt) → AreWhich config texts h set
overlapping_progress config texts p law it h bytes valid v old set empty answer res read =
    let begins : old ≡ replicate (length it.trees) false =
    empty ∙ ap (λ n. replicate n false) (sym (texts_as_many config texts it.trees it.mean)) in
    let reported =
    law it.trees it.mean it.settings it.built it.kind_is it.lines h (is_search config texts AllMatches p it h bytes valid 0) v set
    (subst (λ (s : List Bool). AnswersWhich p.forward v (whole_search h 0) s set (Ok tt)) begins answer) in
    reported.2
    ∙ ap (λ (u : Bool). which_match u reported.0 h) it.mode
    ∙ ap (λ (rs : List Re). which_match config.utf8 rs h) (same_patterns config texts reported.0 res reported.1 read)

-- the marks of what is reported lie at the indices of the patterns
pub marked_of : (config : Config) (texts : List (List ℕ)) (h : List ℕ) (reported : List Bool) (n : ℕ) (old new : List ℕ) →
    AreWhich config texts h reported →
    length old ≡ length texts → new ≡ overlaid (map mark reported) old → n ≡ hits reported → AreMarked config texts h n new
marked_of config texts h reported n old new which places is counted = record {
  marked = λ res read. is ∙ whole_laid (map mark reported) old (as_many res read) ∙ ap (map mark) (which res read);
  count = λ res read. counted ∙ ap hits (which res read);
}
  where
    as_many : (res : List Re) → AreReadAs config texts res → length (map mark reported) ≡ length old
    as_many res read =
        length-map reported mark ∙ ap length (which res read) ∙ length-map res (λ re. is_some (found_from config.utf8 re h 0))
        ∙ read_as_many config texts res read ∙ sym places
