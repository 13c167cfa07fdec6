-- What programs of the toolchain for parsed patterns find.
use Rattle.std.specs.Prelude.{◌≡◌, ◌≤◌, ℕ, zero, suc, ◌+◌, ◌==◌, Bool, not, List, [], ◌∷◌, Option, Some, None, option_map, is_some, length, map}
use Rattle.std.specs.Prelude.{Box, IsSomeAnd, ⊤, chars, if◌then◌else◌}
use Rattle.std.specs.List.{prefix_len}
use Rattle.std.specs.declared.alloc.Global.{Global}
use Rattle.regex.specs.Search.{leftmost_in}
use Rattle.regex_hir.specs.Find.{find}
use Rattle.regex_hir.specs.Meaning.{meaning}
use Rattle.regex_hir.specs.Re.{Re, accept, attempt}
use Rattle.regex_hir.specs.Text.{is_some_and}
use Rattle.regex_hir.specs.declared.hir.Hir.{Hir}
use Rattle.regex_meta.specs.Programs.{pattern_of}
use Rattle.regex_meta.specs.declared.program.Program.{Program}
use Rattle.regex_syntax.specs.Captures.{SameCaptures}
use Rattle.regex_syntax.specs.Grammar.{read}
use Rattle.regex_syntax.specs.declared.Config.{Config}
use Rattle.regex_vm.specs.Found.{span}
use Rattle.search_types.specs.declared.span.Span.{Span}

abbrev pub span_pair : Span → ℕ × ℕ
span_pair s = (s.start, s.end)

-- The span of the match from an offset on, which may start at any byte.
abbrev pub found_at : Re → List ℕ → ℕ → Option (ℕ × ℕ)
found_at a h start = option_map span (find a h start)

-- The span of the match from an offset on. In UTF-8 mode it doesn't start inside a character.
abbrev pub found_in : Bool → Re → List ℕ → ℕ → Option (ℕ × ℕ)
found_in utf8 a h start = option_map span (leftmost_in utf8 a h start)

-- The next span after one that ended at this offset. An empty span there is skipped.
abbrev pub next_after : (ℕ → Option (ℕ × ℕ)) → ℕ → Option (ℕ × ℕ)
next_after at end = if is_some_and (at end) (λ s. s.1 == end) then at (end + 1) else at end

-- Up to this many spans, one after the other.
abbrev pub spans_following : (ℕ → Option (ℕ × ℕ)) → ℕ → Option (ℕ × ℕ) → List (ℕ × ℕ)
spans_following at zero next = []
spans_following at (suc n) None = []
spans_following at (suc n) (Some s) = s ∷ spans_following at n (next_after at s.1)

-- The toolchain's tree means what the pattern is parsed as.
abbrev pub IsParsedOf : Config → List ℕ → Hir → Type 0
IsParsedOf config text hir = (re : Re) →
    IsSomeAnd (read config (chars text)) (λ (found, names). (found.depth ≤ config.nest_limit) × (found.value ≡ re)) →
    SameCaptures (meaning hir) re

-- Each tree means what the pattern at its index is parsed as.
abbrev pub AreParsedOf : Config → List (List ℕ) → List Hir → Type 0
AreParsedOf config [] [] = ⊤
AreParsedOf config (t ∷ ts) (x ∷ xs) = IsParsedOf config t x × AreParsedOf config ts xs
AreParsedOf config _ _ = ⊥

-- The patterns at the same indices have the same captures.
abbrev pub AreAlike : List Re → List Re → Type 0
AreAlike [] [] = ⊤
AreAlike (a ∷ xs) (b ∷ ys) = SameCaptures a b × AreAlike xs ys
AreAlike _ _ = ⊥

-- Each program searches for the pattern at its index.
abbrev pub AreProgramsFor : List Re → List (Box Program Global) → Type 0
AreProgramsFor res ps = AreAlike (map (λ p. pattern_of p.value) ps) res

-- There is a program of each pattern, or there are none of no more than one pattern.
abbrev pub AreProgramsOfEach : List Re → List (Box Program Global) → Type 0
AreProgramsOfEach res [] = length res ≤ 1
AreProgramsOfEach res (p ∷ ps) = AreProgramsFor res (p ∷ ps)

-- The number of the first pattern that has a match at an offset, or the number of patterns if none has one.
unfoldable pub first_at : List Re → List ℕ → ℕ → ℕ
first_at res h i = prefix_len (λ a. not (is_some (attempt h a accept i))) res
