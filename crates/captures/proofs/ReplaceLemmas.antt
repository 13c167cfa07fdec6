-- Replacing matches, match by match.
use Rattle.std.proofs.Common.{◌≡◌, ◌<◌, ◌≤◌, ◌+◌, ◌-◌, ◌*◌, ◌^◌, ◌==◌, ◌++◌, ℕ, zero, suc, min, not, Bool, true, false, List, ◌∷◌, length, get_or, slice_get, slice_range, drop, Option, Some, None, is_some, option_map, if◌then◌else◌, refl, sym, ap, ◌∙◌, subst, arith, append_assoc, []}
use Rattle.std.proofs.lemmas.List.{take_rest}
use Rattle.std.proofs.lemmas.List.Sums.{prefix_len_is}
use Rattle.std.proofs.lemmas.Option.{none-some, same_Some, slice_get_within, slice_get-get_or, get_or_from_slice_get}
use Rattle.std.specs.Option.{unwrap_or}
use Rattle.regex_hir.specs.Re.{Re, accept, attempt}
use Rattle.regex_hir.specs.Meaning.{alt_all}
use Rattle.regex_hir.specs.Text.{is_some_and}
use Rattle.regex_hir.specs.Find.{Match, matches_from}
use Rattle.regex_hir.proofs.AttemptLemmas.{attempt_complete}
use Rattle.regex_hir.proofs.OptionLemmas.{none_of_no_value, value_of_IsSome}
use Rattle.regex_syntax.specs.declared.Config.{Config}
use Rattle.regex.specs.Replace.{group_bytes, replaced_by}
use Rattle.regex.specs.Search.{first_or_all}
use Rattle.pattern_search.specs.Searches.{found_from, span_of_match, IsOfFirstPattern}
use Rattle.pattern_search.specs.Texts.{AreReadAs}
use Rattle.pattern_search.proofs.ForCallers.{all_from_start}
use Rattle.meta_regex.specs.Regexes.{HasPattern, as_found, span_of_row}
use Rattle.meta_regex.specs.declared.found_match.FoundMatch.{FoundMatch}
use Rattle.group_finder.specs.Slots.{slots_of}
use Rattle.templates.specs.Expansion.{template_text}
use Rattle.templates.specs.Slots.{group_in}
use Rattle.templates.specs.declared.template.Template.{Template}
use Rattle.templates.proofs.ForCallers.{comes, first_matches, group_text_of, no_more, none_left, replacing_ends, replacing_goes_on, IsReplacedSoFar}
use Rattle.captures.specs.declared.replacement.Replacement.{Replacement}
use Rattle.captures.specs.Replacing.{AreTemplatesFor, ComesNext, Continues, IsReplaced, IsReplacementFor, IsTemplateFor, Said, first_found, pattern_at, written_for}
use Rattle.captures.proofs.FoundLemmas.{found_there, matches_of, of_pattern, read_at, spanless, spanned}

-- ---- the pattern of a match
pub pattern_is : (res : List Re) (h : List ℕ) (f : FoundMatch) → IsOfFirstPattern res h (as_found f) → pattern_at res h f.start ≡ f.pattern
unfolding pattern_at
pattern_is res h f first =
    let a = first.matches.pattern in
    let within = slice_get_within res f.pattern a first.matches.listed in
    prefix_len_is (λ x. not (is_some (attempt h x accept f.start))) res f.pattern a (omega (arith, within))
    (λ k below.
    ap (λ o. not (is_some o)) (none_of_no_value (attempt h (get_or res k a) accept f.start)
    (λ t e. first.none_before k t.end below (record {
      pattern = get_or res k a;
      listed = slice_get-get_or res k a (omega (arith, below, within));
      matches = matches_of h (get_or res k a) f.start t e;
    }))))
    (λ _.
    let here : get_or res f.pattern a ≡ a = get_or_from_slice_get res f.pattern a a first.matches.listed in
    let some = value_of_IsSome (attempt h a accept f.start) (attempt_complete h a accept f.start f.end first.matches.matches refl) in
    ap (λ (x : Re). not (is_some (attempt h x accept f.start))) here ∙ ap (λ o. not (is_some o)) some.1)

-- ---- what is written for a match
template_for : (config : Config) (said : Said) (groups : ℕ) (xs : List (List ℕ)) (ts : List Template) (k : ℕ) (x : List ℕ) (t : Template) →
    AreTemplatesFor config said groups xs ts → slice_get xs k ≡ Some x → slice_get ts k ≡ Some t → IsTemplateFor config said groups x t
template_for config said groups [] [] k x t all is listed = absurd (none-some x is)
template_for config said groups [] (u ∷ ts) k x t all is listed = absurd all
template_for config said groups (y ∷ xs) [] k x t all is listed = absurd all
template_for config said groups (y ∷ xs) (u ∷ ts) zero x t all is listed =
    subst (λ z. IsTemplateFor config said groups z t) (same_Some y x is)
    (subst (IsTemplateFor config said groups y) (same_Some u t listed) all.0)
template_for config said groups (y ∷ xs) (u ∷ ts) (suc k) x t all is listed = template_for config said groups xs ts k x t all.1 is listed

pub as_many_templates : (config : Config) (said : Said) (groups : ℕ) (xs : List (List ℕ)) (ts : List Template) →
    AreTemplatesFor config said groups xs ts → length ts ≡ length xs
as_many_templates config said groups [] [] all = refl
as_many_templates config said groups [] (u ∷ ts) all = absurd all
as_many_templates config said groups (y ∷ xs) [] all = absurd all
as_many_templates config said groups (y ∷ xs) (u ∷ ts) all = ap suc (as_many_templates config said groups xs ts all.1)

module _ (config : Config) (texts : List (List ℕ)) (h : List ℕ) (said : Said) (res : List Re) (read : AreReadAs config texts res)
    (f : FoundMatch) (first : IsOfFirstPattern res h (as_found f)) (m : Match) (span : span_of_match m ≡ span_of_row f)
    (inside : m.start ≤ length h) (there : attempt h (alt_all res) accept m.start ≡ Some m.trace) where
  -- the template of the pattern of the match writes what is said of the match
  pub template_writes : (groups : ℕ) (ts : List Template) (t : Template) → AreTemplatesFor config said groups texts ts →
      slice_get ts f.pattern ≡ Some t → length h < 2 ^ 63 → (slots : List ℕ) → slots ≡ slots_of m (2 * groups) →
      template_text (group_in h slots) t ≡ written_for texts res h said m
  template_writes groups ts t all listed short slots slots_are =
      let same : m.start ≡ f.start = ap (λ (s : ℕ × ℕ). s.0) span in
      let it = read_at config texts res f.pattern first.matches.pattern read first.matches.listed in
      let own : attempt h first.matches.pattern accept m.start ≡ Some m.trace =
      ap (attempt h first.matches.pattern accept) same ∙ sym (of_pattern h res f first)
      ∙ ap (attempt h (alt_all res) accept) (sym same) ∙ there in
      let is = template_for config said groups texts ts f.pattern it.0 t all it.1 listed in
      let number : pattern_at res h m.start ≡ f.pattern = ap (pattern_at res h) same ∙ pattern_is res h f first in
      let text : it.0 ≡ get_or texts (pattern_at res h m.start) [] =
      sym (ap (λ k. get_or texts k []) number ∙ get_or_from_slice_get texts f.pattern it.0 [] it.1) in
      is.reads (group_in h slots) (group_bytes h m)
      (λ n known. ap (λ xs. group_in h xs n) slots_are
      ∙ group_text_of config it.0 first.matches.pattern it.2 h m groups n own inside short known)
      ∙ is.writes (group_bytes h m)
      ∙ ap (λ x. said x (group_bytes h m)) text

  -- there is a template for it
  pub no_template : {A : Type 0} (groups : ℕ) (ts : List Template) → AreTemplatesFor config said groups texts ts → length ts ≤ f.pattern → A
  no_template groups ts all above =
      let it = read_at config texts res f.pattern first.matches.pattern read first.matches.listed in
      absurd (omega (arith, above, as_many_templates config said groups texts ts all, slice_get_within texts f.pattern it.0 it.1))

-- ---- the match that comes next
module _ (config : Config) (texts : List (List ℕ)) (h : List ℕ) (res : List Re) (read : AreReadAs config texts res) where
  abbrev from : ℕ → Option Match
  from = found_from config.utf8 (alt_all res) h

  next_spans : (last : Option ℕ) (o : Option FoundMatch) → ComesNext config texts h last o →
      option_map span_of_match (comes from last) ≡ option_map span_of_row o
  next_spans None o next = next res read
  next_spans (Some end) o next = next res read

  pub none_comes : (last : Option ℕ) → ComesNext config texts h last None → comes from last ≡ None
  none_comes last next = spanless (comes from last) (next_spans last None next)

  pub one_comes : (last : Option ℕ) (f : FoundMatch) → ComesNext config texts h last (Some f) →
      (m : Match) × (comes from last ≡ Some m) × (span_of_match m ≡ span_of_row f)
  one_comes last f next = spanned (comes from last) f (next_spans last (Some f) next)

  abbrev IsThere : Match → Type 0
  IsThere m = (m.start ≤ length h) × (attempt h (alt_all res) accept m.start ≡ Some m.trace)

  either_there : (b : Bool) (end : ℕ) (m : Match) → (if b then from (end + 1) else from end) ≡ Some m → IsThere m
  either_there true end m e = found_there config.utf8 (alt_all res) h (end + 1) m e
  either_there false end m e = found_there config.utf8 (alt_all res) h end m e

  pub comes_there : (last : Option ℕ) (m : Match) → comes from last ≡ Some m → IsThere m
  comes_there None m e = found_there config.utf8 (alt_all res) h 0 m e
  comes_there (Some end) m e = either_there (is_some_and (from end) (λ x. x.trace.end == end)) end m e

  -- as many of all matches as there may be
  pub limited : (limit : ℕ) → first_found config res h limit
      ≡ matches_from from (if limit == 0 then length h + 1 else min limit (length h + 1)) (from 0)
  limited limit =
      ap (first_or_all limit) (all_from_start config.utf8 (alt_all res) h) ∙ first_matches from limit (length h + 1) (from 0)

-- ---- all matches, one after the other
-- `count` of `total` matches were replaced, if the replacement is for these patterns
abbrev pub IsReplacedUpTo : Config → List (List ℕ) → List ℕ → Replacement → ℕ → List ℕ → List ℕ → ℕ → Option ℕ → Type 0
IsReplacedUpTo config texts h r total old out count last = (said : Said) → IsReplacementFor config texts said r →
    (res : List Re) → AreReadAs config texts res →
    IsReplacedSoFar (found_from config.utf8 (alt_all res) h) (written_for texts res h said) h total old out count last

module _ (config : Config) (texts : List (List ℕ)) (h : List ℕ) (r : Replacement) (total : ℕ) (old : List ℕ) where
  pub up_to_goes_on : (out mid new : List ℕ) (count : ℕ) (last : Option ℕ) (f : FoundMatch) →
      IsReplacedUpTo config texts h r total old out count last → count < total → ComesNext config texts h last (Some f) →
      HasPattern config texts h (Some f) → mid ≡ out ++ slice_range h (unwrap_or last 0) f.start →
      ((said : Said) → IsReplacementFor config texts said r → (res : List Re) → AreReadAs config texts res →
      IsOfFirstPattern res h (as_found f) → (m : Match) → span_of_match m ≡ span_of_row f → m.start ≤ length h →
      attempt h (alt_all res) accept m.start ≡ Some m.trace → new ≡ mid ++ written_for texts res h said m) →
      IsReplacedUpTo config texts h r total old new (count + 1) (Some f.end)
  up_to_goes_on out mid new count last f so lt next pattern gap appended said it res read =
      let find = found_from config.utf8 (alt_all res) h in
      let one = one_comes config texts h res read last f next in
      let m = one.0 in
      let start : f.start ≡ m.start = ap (λ (s : ℕ × ℕ). s.0) (sym one.2) in
      let end : m.trace.end ≡ f.end = ap (λ (s : ℕ × ℕ). s.1) one.2 in
      let there = comes_there config texts h res read last m one.1 in
      subst (λ (e : ℕ). IsReplacedSoFar find (written_for texts res h said) h total old new (count + 1) (Some e)) end
      (replacing_goes_on find (written_for texts res h said) h total old out new count last m (so said it res read) lt one.1
      (appended said it res read (pattern res read) m one.2 there.0 there.1
      ∙ ap (λ xs. xs ++ written_for texts res h said m) (gap ∙ ap (λ i. out ++ slice_range h (unwrap_or last 0) i) start)))

rest_is : (h : List ℕ) (at : ℕ) → slice_range h at (length h) ≡ drop at h
rest_is h at = take_rest h at

module _ (config : Config) (texts : List (List ℕ)) (h : List ℕ) (r : Replacement) (limit total : ℕ) (old : List ℕ)
    (bound : total ≡ (if limit == 0 then length h + 1 else min limit (length h + 1))) where
  ends : (out new : List ℕ) (count : ℕ) (last : Option ℕ) → IsReplacedUpTo config texts h r total old out count last →
      new ≡ out ++ slice_range h (unwrap_or last 0) (length h) →
      ((res : List Re) → AreReadAs config texts res →
      matches_from (found_from config.utf8 (alt_all res) h) (total - count) (comes (found_from config.utf8 (alt_all res) h) last) ≡ []) →
      (said : Said) → IsReplacementFor config texts said r → IsReplaced config texts h said limit old new count
  ends out new count last so is none said it = record {
    output = λ res read. (both res read).0 ∙ ap (λ ms. old ++ replaced_by (written_for texts res h said) h 0 ms) (all res read);
    counted = λ res read. (both res read).1 ∙ ap length (all res read);
  }
    where
      all : (res : List Re) → AreReadAs config texts res →
          matches_from (found_from config.utf8 (alt_all res) h) total (found_from config.utf8 (alt_all res) h 0) ≡ first_found config res h limit
      all res read =
          ap (λ n. matches_from (found_from config.utf8 (alt_all res) h) n (found_from config.utf8 (alt_all res) h 0)) bound
          ∙ sym (limited config texts h res read limit)

      both : (res : List Re) → AreReadAs config texts res →
          (new ≡ old ++ replaced_by (written_for texts res h said) h 0
          (matches_from (found_from config.utf8 (alt_all res) h) total (found_from config.utf8 (alt_all res) h 0)))
          × (count ≡ length (matches_from (found_from config.utf8 (alt_all res) h) total (found_from config.utf8 (alt_all res) h 0)))
      both res read =
          replacing_ends (found_from config.utf8 (alt_all res) h) (written_for texts res h said) h total old out new count last
          (so said it res read) (none res read) (is ∙ ap (λ xs. out ++ xs) (rest_is h (unwrap_or last 0)))

  pub ends_without_match : (out new : List ℕ) (count : ℕ) (last : Option ℕ) → IsReplacedUpTo config texts h r total old out count last →
      new ≡ out ++ slice_range h (unwrap_or last 0) (length h) → ComesNext config texts h last None →
      (said : Said) → IsReplacementFor config texts said r → IsReplaced config texts h said limit old new count
  ends_without_match out new count last so is next =
      ends out new count last so is
      (λ res read. no_more (found_from config.utf8 (alt_all res) h) (total - count) _ (none_comes config texts h res read last next))

  pub ends_at_the_limit : (out new : List ℕ) (count : ℕ) (last : Option ℕ) → IsReplacedUpTo config texts h r total old out count last →
      new ≡ out ++ slice_range h (unwrap_or last 0) (length h) → total ≤ count →
      (said : Said) → IsReplacementFor config texts said r → IsReplaced config texts h said limit old new count
  ends_at_the_limit out new count last so is le =
      ends out new count last so is
      (λ res read. none_left (found_from config.utf8 (alt_all res) h) total count _ le)

-- ---- what is appended

pub continues_on : (old mid new more : List ℕ) → Continues old mid → new ≡ mid ++ more → Continues old new
continues_on old mid new more first is =
    (first.0 ++ more, is ∙ ap (λ xs. xs ++ more) first.1 ∙ append_assoc old first.0 more)

pub continues_with : (old mid new : List ℕ) → Continues old mid → Continues mid new → Continues old new
continues_with old mid new first second = continues_on old mid new second.0 first second.1
