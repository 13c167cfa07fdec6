-- What the toolchain's search finds, for a tree.
use Rattle.std.proofs.Common.{◌≡◌, ℕ, ◌<◌, ◌≤◌, List, [], ◌∷◌, length, All, Some, None, slice_get, refl, sym, ap, ◌∙◌, arith}
use Rattle.std.proofs.lemmas.Option.{none-some}
use Rattle.regex_hir.specs.Re.{Re, accept, attempt}
use Rattle.regex_hir.specs.Find.{Match, find}
use Rattle.regex_hir.proofs.FindLemmas.{IsFirst-of_first_between, none_of_first_between}
use Rattle.hir_core.specs.Tree.{Tree}
use Rattle.hir_core.specs.Facts.{LoopsRead}
use Rattle.hir_core.specs.PreferredEnds.{preferred_ends}
use Rattle.pattern_text.specs.SameEnds.{pattern_looks, trace_end, first_that_goes_on, SameEnds}
use Rattle.pattern_text.specs.FirstSpan.{IsFirstSpan}

-- if nothing follows, the first end is taken
first_taken : (ends : List ℕ) → first_that_goes_on (λ j. trace_end (accept j)) ends ≡ slice_get ends 0
first_taken [] = refl
first_taken (j ∷ ends) = refl

none_taken : (ends : List ℕ) → first_that_goes_on (λ j. trace_end (accept j)) ends ≡ None → ends ≡ []
none_taken [] e = refl
none_taken (j ∷ ends) e = absurd (none-some j (sym e))

module _ (re : Re) (x : Tree) (same : SameEnds re x) (h : List ℕ) (bytes : All (λ b. b < 256) h) (loops : LoopsRead x) where
  no_end : (k : ℕ) → k ≤ length h → attempt h re accept k ≡ None → preferred_ends (pattern_looks h) h x k ≡ []
  no_end k within e = none_taken (preferred_ends (pattern_looks h) h x k) (sym (same.at h bytes loops accept k within) ∙ ap trace_end e)

  pub found_first : (s : ℕ) (m : Match) → find re h s ≡ Some m → IsFirstSpan h x s m.start m.trace.end
  unfolding find
  found_first s m e =
      let first = IsFirst-of_first_between (attempt h re accept) s (length h) m e in
      record {
        from = first.from;
        within = first.to;
        preferred = sym (first_taken (preferred_ends (pattern_looks h) h x m.start)) ∙ sym (same.at h bytes loops accept m.start first.to)
            ∙ ap trace_end first.here;
        before = λ k from to. no_end k (omega (arith, to, first.to)) (first.before k from to);
      }

  pub found_none : (s : ℕ) → find re h s ≡ None → (k : ℕ) → s ≤ k → k ≤ length h → preferred_ends (pattern_looks h) h x k ≡ []
  unfolding find
  found_none s e k from within = no_end k within (none_of_first_between (attempt h re accept) s (length h) e k from within)
