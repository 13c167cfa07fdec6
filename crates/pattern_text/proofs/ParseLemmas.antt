-- From what the toolchain's parser returns to what is said of trees and errors.
use Rattle.std.proofs.Common.{◌≡◌, ◌≢◌, ℕ, ◌≤◌, ◌+◌, ◌*◌, arith, List, length, chars, Option, Some, None, IsSomeAnd, ap, sym, ◌∙◌, subst}
use Rattle.std.proofs.Common.{option_map, ⊎_elim, refl, Bool, true, false, IsTrue, true≢false}
use Rattle.regex_hir.specs.Re.{Re, attempt}
use Rattle.regex_hir.specs.Meaning.{meaning}
use Rattle.regex_hir.specs.declared.hir.Hir.{Hir}
use Rattle.regex_syntax.specs.declared.Config.{Config}
use Rattle.regex_syntax.specs.declared.error.ErrorKind.{ErrorKind}
use Rattle.regex_syntax.specs.declared.error.ErrorKind.TheVariants.{OutOfMemory}
use Rattle.regex_syntax.specs.Brackets.{Nested}
use Rattle.regex_syntax.specs.Captures.{outcome, SameCaptures}
use Rattle.regex_syntax.specs.Grammar.{Names, read, group_count}
use Rattle.regex_syntax.specs.Verdict.{Reads, Refuses}
use Rattle.regex_syntax.specs.WellFormed.{IsWellFormed, depth}
use Rattle.hir_core.specs.Tree.{Tree}
use Rattle.hir_core.specs.Facts.{is_utf8_tree, height}
use Rattle.pattern_text.specs.Translated.{translated}
use Rattle.pattern_text.specs.SameEnds.{trace_end, SameEnds, SameSpans, HasNames}
use Rattle.pattern_text.specs.Patterns.{MeansText, IsTextRefused}
use Rattle.pattern_text.proofs.SpanLemmas.{spans_of_captures}
use Rattle.pattern_text.proofs.TranslatedLemmas.{same_ends, same_spans, keeps_names, is_text, height_at_most}

pub refused_for : (config : Config) (text : List ℕ) (kind : ErrorKind) → kind ≢ OutOfMemory → Refuses config text kind →
    IsTextRefused config text kind
unfolding Refuses IsTextRefused
refused_for config text kind other refuses = ⊎_elim (λ memory. absurd (other memory)) (λ reported. reported) refuses

outcome_ends : (o : Option _) → option_map (λ (p : ℕ × (ℕ → Option ℕ)). p.0) (outcome o) ≡ trace_end o
unfolding outcome
outcome_ends None = refl
outcome_ends (Some t) = refl

-- patterns of which a caller sees the same prefer the same ends
ends_of_captures : (a b : Re) (x : Tree) → SameCaptures a b → SameEnds a x → SameEnds b x
ends_of_captures a b x same s = record {
  at = λ h bytes loops k i within.
      sym (outcome_ends (attempt h b k i)) ∙ ap (option_map (λ (p : ℕ × (ℕ → Option ℕ)). p.0)) (sym (same.at h bytes k i))
      ∙ outcome_ends (attempt h a k i) ∙ s.at h bytes loops k i within;
}

carried : (config : Config) (hir : Hir) (names : Names) (r : Option (Nested Re × Names)) →
    IsSomeAnd r (λ (re, found). (re.depth ≤ config.nest_limit) × SameCaptures (meaning hir) re.value × (names ≡ found) ×
    (group_count (meaning hir) ≤ length names)) →
    IsSomeAnd r (λ (re, found). (re.depth ≤ config.nest_limit) × SameEnds re.value (translated names hir) ×
    SameSpans re.value (translated names hir)
    × HasNames found (translated names hir))
carried config hir names None r = absurd r
carried config hir names (Some (re, found)) r = (
  r.0,
  ends_of_captures (meaning hir) re.value (translated names hir) r.1 (same_ends names hir),
  spans_of_captures (meaning hir) re.value (translated names hir) r.1 (same_spans names hir),
  subst (λ (ns : Names). HasNames ns (translated names hir)) r.2 (keeps_names names hir),
)

-- what the grammar reads, the tree of what the parser made means
pub means_text : (config : Config) (text : List ℕ) (hir : Hir) (names : Names) (x : Tree) → Reads config text hir names →
    x ≡ translated names hir →
    MeansText config text x
unfolding Reads MeansText
means_text config text hir names x reads is =
    subst (MeansText config text) (sym is) (carried config hir names (read config (chars text)) reads)

-- if the option is on, the tree is seen to be UTF-8
pub utf8_tree : (utf8 : Bool) (hir : Hir) (names : Names) (x : Tree) → IsTrue utf8 → IsWellFormed utf8 hir → x ≡ translated names hir →
    IsTrue (is_utf8_tree x)
utf8_tree true hir names x on formed is = subst (λ (t : Tree). IsTrue (is_utf8_tree t)) (sym is) (is_text names hir formed)
utf8_tree false hir names x on formed is = absurd (true≢false (sym on))

-- the tree is at most as high as the parsed pattern is deep, and one
pub low_tree : (limit : ℕ) (hir : Hir) (names : Names) (x : Tree) → depth hir ≤ 5 * limit + 4 → x ≡ translated names hir →
    height x ≤ 5 * limit + 5
low_tree limit hir names x low is = subst (λ (t : Tree). height t ≤ 5 * limit + 5) (sym is) (omega (arith, low, height_at_most names hir))
