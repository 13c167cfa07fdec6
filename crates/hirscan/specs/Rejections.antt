-- Why a query that was read is rejected together with the haystack after it: tests in the order of the errors.
use Rattle.std.specs.Prelude.{ℕ, ◌+◌, ◌&&◌, Bool, true, false, not, nat_le, List, [], ◌∷◌, ◌++◌, length, Option, Some, None, codes}
use Rattle.std.specs.Prelude.{decimal, option_map}
use Rattle.std.specs.List.{position}
use Rattle.search_types.specs.declared.span.Span.{Span}
use Rattle.hir_core.specs.Tree.{Tree}
use Rattle.hir_core.specs.Facts.{is_utf8_tree}
use Rattle.hir_regex.specs.BrokenText.{first_broken}
use Rattle.hirscan.specs.declared.line.Setup.{Setup}
use Rattle.hir_regex.specs.Loops.{first_empty_loop}

-- the first cause that applies
abbrev pub first_cause : List (Option (List ℕ)) → Option (List ℕ)
first_cause [] = None
first_cause (None ∷ causes) = first_cause causes
first_cause (Some cause ∷ causes) = Some cause

-- the number of the first pattern whose spans aren't known to be UTF-8
abbrev pub first_not_utf8 : List Tree → Option ℕ
first_not_utf8 xs = position (λ x. not (is_utf8_tree x)) xs

-- what the test finds, if UTF-8 mode is on
abbrev pub where_utf8 : Bool → Option ℕ → Option ℕ
where_utf8 true found = found
where_utf8 false found = None

-- the span that is searched
abbrev pub span_of : Option Span → List ℕ → Span
span_of None h = record { start = 0; end = length h }
span_of (Some span) h = span

-- whether the span is in the haystack; its start may be one above its end, and then nothing is searched
abbrev pub is_span : Span → List ℕ → Bool
is_span span h = nat_le span.end (length h) && nat_le span.start (span.end + 1)

-- a cause, if the test says so
abbrev pub cause_if : Bool → List ℕ → Option (List ℕ)
cause_if true cause = Some cause
cause_if false cause = None

-- a cause that names the pattern
abbrev pub of_pattern : List ℕ → ℕ → List ℕ
of_pattern what p = codes "pattern " ++ (decimal p ++ what)

-- why the patterns are rejected
abbrev pub pattern_causes : Bool → List Tree → Option (List ℕ)
pattern_causes utf8 xs = first_cause
    (option_map (of_pattern (codes ": unbounded body may be empty")) (first_empty_loop xs)
    ∷ option_map (of_pattern (codes ": not UTF-8")) (where_utf8 utf8 (first_not_utf8 xs))
    ∷ [])

-- why the haystack is rejected, or its span
abbrev pub haystack_causes : Bool → Option Span → List ℕ → Option (List ℕ)
haystack_causes utf8 span h = first_cause
    (option_map (λ b. codes "haystack not UTF-8 at " ++ decimal b) (where_utf8 utf8 (first_broken h))
    ∷ cause_if (not (is_span (span_of span h) h)) (codes "span")
    ∷ [])

-- why these patterns are rejected with this haystack; None if they are searched, provided that they have room
abbrev pub rejection : Setup → List Tree → List ℕ → Option (List ℕ)
rejection setup xs h = first_cause
    (pattern_causes setup.settings.utf8 xs
    ∷ haystack_causes setup.settings.utf8 setup.span h
    ∷ [])
