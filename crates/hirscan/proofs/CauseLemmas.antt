-- What is searched if nothing is rejected, and which causes the code reports.
use Rattle.std.proofs.Common.{◌≡◌, ℕ, ◌+◌, ◌<◌, ◌≤◌, Bool, true, false, not, List, [], ◌∷◌, All, length}
use Rattle.std.proofs.Common.{Option, Some, None, option_map, nat_le, true≢false, refl, sym, codes, decimal}
use Rattle.std.proofs.Common.{◌++◌, ◌∙◌, ap, leb-true}
use Rattle.std.proofs.lemmas.Bool.{and_parts, not-false}
use Rattle.search_core.specs.Utf8.{IsValidText}
use Rattle.hir_core.specs.Tree.{Tree}
use Rattle.hir_core.specs.Facts.{LoopsRead, is_utf8_tree}
use Rattle.hirscan.specs.declared.line.Setup.{Setup}
use Rattle.hirscan.specs.Asks.{asked_search}
use Rattle.hir_regex.specs.BrokenText.{first_broken}
use Rattle.hir_regex.specs.Loops.{first_empty_loop}
use Rattle.hirscan.specs.Rejections.{first_cause, cause_if, of_pattern, where_utf8, first_not_utf8, span_of, is_span}
use Rattle.hirscan.specs.Rejections.{pattern_causes, haystack_causes, rejection}
use Rattle.hir_regex.specs.Regexes.{IsSearchOf}
use Rattle.hir_regex.proofs.ForCallers.{none_at, all_of_none, text_of_none}

-- ---- causes that don't apply
first_none : (a : Option (List ℕ)) (rest : List (Option (List ℕ))) → first_cause (a ∷ rest) ≡ None → (a ≡ None) × (first_cause rest ≡ None)
first_none None rest e = (refl, e)
first_none (Some c) rest e = absurd cc

no_cause : (b : Bool) (c : List ℕ) → cause_if b c ≡ None → b ≡ false
no_cause true c e = absurd cc
no_cause false c e = refl

unmapped : (f : ℕ → List ℕ) (o : Option ℕ) → option_map f o ≡ None → o ≡ None
unmapped f None e = refl
unmapped f (Some n) e = absurd cc

asked_utf8 : (on : Bool) (o : Option ℕ) → where_utf8 on o ≡ None → on ≡ true → o ≡ None
asked_utf8 true o none on = none
asked_utf8 false o none on = absurd (true≢false (sym on))

-- If there is no cause to reject it, the body of every unbounded repetition of its patterns consumes at least one byte, and it is a search
-- of a haystack of bytes within it.
module _ (setup : Setup) (xs : List Tree) (h : List ℕ) (none : rejection setup xs h ≡ None) where
  patterns_pass : pattern_causes setup.settings.utf8 xs ≡ None
  patterns_pass = (first_none (pattern_causes setup.settings.utf8 xs) (haystack_causes setup.settings.utf8 setup.span h ∷ []) none).0

  haystack_passes : haystack_causes setup.settings.utf8 setup.span h ≡ None
  haystack_passes =
      let rest = (first_none (pattern_causes setup.settings.utf8 xs) (haystack_causes setup.settings.utf8 setup.span h ∷ []) none).1 in
      (first_none (haystack_causes setup.settings.utf8 setup.span h) [] rest).0

  abbrev loop_cause : Option (List ℕ)
  loop_cause = option_map (of_pattern (codes ": unbounded body may be empty")) (first_empty_loop xs)

  abbrev tree_cause : Option (List ℕ)
  tree_cause = option_map (of_pattern (codes ": not UTF-8")) (where_utf8 setup.settings.utf8 (first_not_utf8 xs))

  abbrev text_cause : Option (List ℕ)
  text_cause = option_map (λ b. codes "haystack not UTF-8 at " ++ decimal b) (where_utf8 setup.settings.utf8 (first_broken h))

  abbrev span_cause : Option (List ℕ)
  span_cause = cause_if (not (is_span (span_of setup.span h) h)) (codes "span")

  pub loops_all_read : All LoopsRead xs
  loops_all_read = all_of_none xs (unmapped _ (first_empty_loop xs) (first_none loop_cause (tree_cause ∷ []) patterns_pass).0)

  utf8_trees : setup.settings.utf8 ≡ true → All (λ x. is_utf8_tree x ≡ true) xs
  utf8_trees on =
      let rest = (first_none loop_cause (tree_cause ∷ []) patterns_pass).1 in
      let found = unmapped _ (where_utf8 setup.settings.utf8 (first_not_utf8 xs)) (first_none tree_cause [] rest).0 in
      none_at is_utf8_tree xs (asked_utf8 setup.settings.utf8 (first_not_utf8 xs) found on)

  valid_haystack : setup.settings.utf8 ≡ true → IsValidText h
  valid_haystack on =
      let found = unmapped _ (where_utf8 setup.settings.utf8 (first_broken h))
      (first_none text_cause (span_cause ∷ []) haystack_passes).0 in
      text_of_none h (asked_utf8 setup.settings.utf8 (first_broken h) found on)

  -- what is searched fits the haystack
  pub span_fits : is_span (span_of setup.span h) h ≡ true
  span_fits =
      let rest = (first_none text_cause (span_cause ∷ []) haystack_passes).1 in
      not-false (is_span (span_of setup.span h) h) (no_cause (not (is_span (span_of setup.span h) h)) (codes "span")
      (first_none span_cause [] rest).0)

  pub span_ends : (span_of setup.span h).end ≤ length h
  span_ends = leb-true (span_of setup.span h).end (length h)
      (and_parts (nat_le (span_of setup.span h).end (length h)) (nat_le (span_of setup.span h).start ((span_of setup.span h).end + 1))
      span_fits).0

  pub span_starts : (asked_search setup h).start ≤ (asked_search setup h).end + 1
  span_starts = leb-true (span_of setup.span h).start ((span_of setup.span h).end + 1)
      (and_parts (nat_le (span_of setup.span h).end (length h)) (nat_le (span_of setup.span h).start ((span_of setup.span h).end + 1))
      span_fits).1

  pub is_search : All (λ byte. byte < 256) h → IsSearchOf xs setup.settings.utf8 (asked_search setup h)
  is_search bytes = record { within = span_ends; whole = refl; bytes = bytes; valid = valid_haystack; utf8_trees = utf8_trees }

-- ---- causes that the code reports

pub cause_of_loops : (utf8 : Bool) (xs : List Tree) (k : ℕ) (text : List ℕ) → Some k ≡ first_empty_loop xs
    → text ≡ of_pattern (codes ": unbounded body may be empty") k → Some text ≡ pattern_causes utf8 xs
cause_of_loops utf8 xs k text found e =
    ap Some e
    ∙ ap (λ (loop : Option ℕ). first_cause (option_map (of_pattern (codes ": unbounded body may be empty")) loop
    ∷ option_map (of_pattern (codes ": not UTF-8")) (where_utf8 utf8 (first_not_utf8 xs))
    ∷ [])) found

pub cause_of_utf8 : (utf8 : Bool) (xs : List Tree) (k : ℕ) (text : List ℕ) → None ≡ first_empty_loop xs → utf8 ≡ true
    → Some k ≡ first_not_utf8 xs → text ≡ of_pattern (codes ": not UTF-8") k → Some text ≡ pattern_causes utf8 xs
cause_of_utf8 utf8 xs k text no_loop on found e =
    ap Some e
    ∙ ap (λ (which : Option ℕ). first_cause (option_map (of_pattern (codes ": not UTF-8")) which ∷ []))
    (found ∙ ap (λ (b : Bool). where_utf8 b (first_not_utf8 xs)) (sym on))
    ∙ ap (λ (loop : Option ℕ). first_cause (option_map (of_pattern (codes ": unbounded body may be empty")) loop
    ∷ option_map (of_pattern (codes ": not UTF-8")) (where_utf8 utf8 (first_not_utf8 xs))
    ∷ [])) no_loop
