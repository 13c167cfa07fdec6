-- Why ends are the same only if the body of every unbounded repetition consumes at least one byte: a row in which the toolchain's loops and
-- those of trees differ.
use Rattle.std.proofs.Common.{◌≡◌, true, false, [], ◌∷◌, Some, None, nat_eq, refl, if◌then◌else◌}
use Rattle.regex_hir.specs.Text.{has_bytes_at}
use Rattle.regex_hir.specs.Re.{Re, Rest, attempt, accept, rounds}
use Rattle.regex_hir.specs.Re as re
use Rattle.regex_hir.specs.Meaning as meaning
use Rattle.hir_core.specs.Tree as tree
use Rattle.hir_core.specs.PreferredEnds.{preferred_ends}
use Rattle.pattern_text.specs.SameEnds.{trace_end, first_that_goes_on}

-- `(?:|a)*` on "aa", if what follows doesn't accept 0: the pattern goes on from 2
abbrev loop : Re
loop = meaning.at_least true 0 (re.alt re.empty (re.literal (97 ∷ [])))

abbrev past_start : Rest
past_start j = if nat_eq j 0 then None else accept j

pattern_prefers_two : trace_end (attempt (97 ∷ 97 ∷ []) loop past_start 0) ≡ Some 2
unfolding attempt rounds has_bytes_at
pattern_prefers_two = refl

tree_prefers_one : first_that_goes_on (λ j. trace_end (past_start j)) (preferred_ends (λ l i. false) (97 ∷ 97 ∷ [])
    (tree.repetition 0 None true (tree.alt tree.empty (tree.literal (97 ∷ [])))) 0) ≡ Some 1
tree_prefers_one = refl
