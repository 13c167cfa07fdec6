-- Which tree a pattern as text has, and which ones are rejected.
use Rattle.std.specs.Prelude.{◌≡◌, ◌≢◌, ◌⊎◌, ℕ, ◌<◌, ◌≤◌, List, None, chars, IsSomeAnd, IfSome, IsCharBoundary, ⊤}
use Rattle.regex_syntax.specs.declared.Config.{Config}
use Rattle.regex_syntax.specs.declared.error.Span.{Span}
use Rattle.regex_syntax.specs.declared.error.ErrorKind.{ErrorKind}
use Rattle.regex_syntax.specs.declared.error.ErrorKind.TheVariants.{OutOfMemory, NestLimitExceeded}
use Rattle.regex_syntax.specs.Grammar.{read}
use Rattle.hir_core.specs.Tree.{Tree}
use Rattle.pattern_text.specs.declared.parse_error.ParseError.{ParseError}
use Rattle.pattern_text.specs.declared.parse_error.ParseError.TheVariants.{NoMemory, Refused}
use Rattle.pattern_text.specs.SameEnds.{SameEnds, SameSpans, HasNames}

-- The grammar reads the text as a pattern within the limit on nesting. The tree prefers the ends that this pattern does,
-- has the same spans, and its groups have the names that the text gives them.
unfoldable pub MeansText : Config → List ℕ → Tree → Type 0
MeansText config text x = IsSomeAnd (read config (chars text)) (λ (re, names).
    (re.depth ≤ config.nest_limit) × SameEnds re.value x × SameSpans re.value x × HasNames names x)

-- the grammar reads no pattern from the text, or one that nests too deep, and then the cause says so
unfoldable pub IsTextRefused : Config → List ℕ → ErrorKind → Type 0
IsTextRefused config text kind =
    (read config (chars text) ≡ None)
    ⊎ ((kind ≡ NestLimitExceeded) × IfSome (read config (chars text)) (λ (re, _). config.nest_limit < re.depth))

-- the span is a part of the text, from one character boundary to another
abbrev pub LiesIn : List ℕ → Span → Type 0
LiesIn text place = (place.start ≤ place.end) × IsCharBoundary text place.start × IsCharBoundary text place.end

-- an error is one of the grammar, for a cause in the text, with its span; out of memory says nothing about the text
abbrev pub IsFault : Config → List ℕ → ParseError → Type 0
IsFault config text NoMemory = ⊤
IsFault config text (Refused kind place) = (kind ≢ OutOfMemory) × IsTextRefused config text kind × LiesIn text place
