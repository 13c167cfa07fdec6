-- What the toolchain's trees mean is what the patterns are parsed as.
use Rattle.std.proofs.Common.{ℕ, Bool, true, false, List, [], ◌∷◌, map}
use Rattle.regex_hir.specs.Meaning.{meaning}
use Rattle.regex_hir.specs.Re.{Re}
use Rattle.regex_hir.specs.declared.hir.Hir.{Hir}
use Rattle.regex_syntax.specs.Captures.{SameCaptures}
use Rattle.regex_syntax.proofs.CapturesLemmas.{alike_refl, alike_cat}
use Rattle.pattern_fallback.specs.Fallbacks.{AreParsedOf}
use Rattle.line_search.specs.Bounded.{bounded}
use Rattle.line_search.specs.Fallbacks.{AreBoundedOf}
use Rattle.line_search.specs.Meant.{line_config}
use Rattle.line_search.specs.declared.patterns.PatternOptions.{PatternOptions}

-- two patterns with the same captures also have the same captures with the same bounds around them
same_bounded : (how : PatternOptions) (a b : Re) → SameCaptures a b → SameCaptures (bounded how a) (bounded how b)
same_bounded how a b same = by how.lines how.words
  where
    by : (lines words : Bool) → SameCaptures (bounded (record how { lines = lines; words = words }) a)
        (bounded (record how { lines = lines; words = words }) b)
    by true words = alike_cat (alike_refl _) (alike_cat same (alike_refl _))
    by false true = alike_cat (alike_refl _) (alike_cat same (alike_refl _))
    by false false = same

-- the trees of patterns, bounded, have the captures of what these are parsed as
pub bounded_alike : (how : PatternOptions) (texts : List (List ℕ)) (plain : List Hir) → AreParsedOf (line_config how) texts plain →
    AreBoundedOf how texts (map (λ hir. bounded how (meaning hir)) plain)
bounded_alike how [] [] p [] q = tt
bounded_alike how [] [] p (a ∷ res) q = absurd q
bounded_alike how [] (x ∷ plain) p res q = absurd p
bounded_alike how (t ∷ ts) [] p res q = absurd p
bounded_alike how (t ∷ ts) (x ∷ plain) p [] q = absurd q
bounded_alike how (t ∷ ts) (x ∷ plain) p (a ∷ res) q =
    (same_bounded how (meaning x) a (p.0 a q.0), bounded_alike how ts plain p.1 res q.1)
