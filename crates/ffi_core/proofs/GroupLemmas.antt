-- Groups of a compiled regex.
use Rattle.std.proofs.Common.{◌≡◌, ℕ, Bool, List, [], length, replicate, slice_get, Option, Some, None, option_map, refl, sym, ap, ◌∙◌}
use Rattle.std.specs.Prelude.{IfErr, Result, Ok, Err}
use Rattle.std.proofs.lemmas.Option.{none-some, same_Some}
use Rattle.regex_hir.specs.Find.{Match}
use Rattle.regex_syntax.specs.Grammar.{Names}
use Rattle.regex_syntax.specs.declared.Config.{Config}
use Rattle.pattern_search.specs.Searches.{span_of_match}
use Rattle.meta_regex.specs.declared.found_match.FoundMatch.{FoundMatch}
use Rattle.meta_regex.specs.Regexes.{overlaid}
use Rattle.meta_regex.proofs.ForCallers.{none_laid}
use Rattle.group_finder.specs.Patterns.{IsNamedBy, name_at}
use Rattle.group_finder.specs.Slots.{no_offset}
use Rattle.captures.specs.Captures.{HasCaptures, slots_of_found}
use Rattle.ffi_core.specs.Compiled.{Regexed, config_by}
use Rattle.captures.specs.Errors.{IsCapturesError}
use Rattle.captures.specs.declared.errors.CapturesError.{CapturesError}
use Rattle.captures.specs.declared.errors.CapturesError.TheVariants.{Search, NoMemory, TooLarge}
use Rattle.ffi_core.specs.Groups.{IsGroupCount, IsGroupName, IsGroupSearchError, bytes_of_name}
use Rattle.ffi_core.specs.Options.{options_of}

-- ---- numbers and names
module _ (v : Regexed) (p : ℕ) where
  pub count_known : (o : Option ℕ) (n : ℕ) → o ≡ Some n →
      ((t : List ℕ) (names : Names) → slice_get v.texts p ≡ Some t → IsNamedBy (config_by v) t names → o ≡ Some (length names)) →
      (slice_get v.texts p ≡ None → o ≡ None) → IsGroupCount v p n
  count_known o n is counted none = record {
    counted = λ t names there named. same_Some n (length names) (sym is ∙ counted t names there named);
    none = λ absent. absurd (none-some n (sym (sym is ∙ none absent)));
  }

  pub count_none : (o : Option ℕ) → o ≡ None →
      ((t : List ℕ) (names : Names) → slice_get v.texts p ≡ Some t → IsNamedBy (config_by v) t names → o ≡ Some (length names)) →
      IsGroupCount v p 0
  count_none o is counted = record {
    counted = λ t names there named. absurd (none-some (length names) (sym is ∙ counted t names there named));
    none = λ absent. refl;
  }

  pub name_known : (g : ℕ) (o : Option (List ℕ)) (old new : List ℕ) (n : ℕ) → n ≡ length (bytes_of_name o) →
      new ≡ overlaid (bytes_of_name o) old →
      ((t : List ℕ) (names : Names) → slice_get v.texts p ≡ Some t → IsNamedBy (config_by v) t names → o ≡ name_at names g) →
      (slice_get v.texts p ≡ None → o ≡ None) → IsGroupName v p g old new n
  name_known g o old new n counted written named none = record {
    counted = λ t names there known. counted ∙ ap (λ x. length (bytes_of_name x)) (named t names there known);
    written = λ t names there known. written ∙ ap (λ x. overlaid (bytes_of_name x) old) (named t names there known);
    none = λ absent. counted ∙ ap (λ x. length (bytes_of_name x)) (none absent);
    kept = λ absent. written ∙ ap (λ x. overlaid (bytes_of_name x) old) (none absent) ∙ none_laid old;
  }

-- ---- no match
spanless : (o : Option Match) → option_map span_of_match o ≡ None → o ≡ None
spanless None e = refl
spanless (Some m) e = absurd (none-some (span_of_match m) (sym e))

-- without a match no slot holds an offset
pub none_cleared : (config : Config) (ts : List (List ℕ)) (h : List ℕ) (at n : ℕ) (slots cleared : List ℕ) →
    cleared ≡ replicate n no_offset → HasCaptures config ts h at n None slots → HasCaptures config ts h at n None cleared
none_cleared config ts h at n slots cleared is found res read = record {
  span = (found res read).span;
  pattern = (found res read).pattern;
  slots_are = is ∙ ap (λ (o : Option Match). slots_of_found o n) (sym (spanless _ (found res read).span));
}

-- ---- errors
one_error : (v : Regexed) (h : List ℕ) (e : CapturesError) → IsCapturesError (options_of v.options) h e → IsGroupSearchError v h e
one_error v h (Search e) is = is
one_error v h NoMemory is = is
one_error v h (TooLarge n) is = is

pub group_search_error : {A : Type 0} (v : Regexed) (h : List ℕ) (r : Result A CapturesError) →
    IfErr r (IsCapturesError (options_of v.options) h) → IfErr r (IsGroupSearchError v h)
group_search_error v h (Ok a) is = tt
group_search_error v h (Err e) is = one_error v h e is
