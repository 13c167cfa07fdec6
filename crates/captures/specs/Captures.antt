-- What searches with groups return.
use Rattle.std.specs.Prelude.{◌≡◌, ◌⊎◌, ◌++◌, ℕ, List, Option, Some, None, IfSome, option_map, replicate, take}
use Rattle.std.specs.List.{flat_map}
use Rattle.regex_hir.specs.Re.{Re}
use Rattle.regex_hir.specs.Meaning.{alt_all}
use Rattle.regex_hir.specs.Find.{Match}
use Rattle.regex_syntax.specs.declared.Config.{Config}
use Rattle.pattern_search.specs.Searches.{all_found, found_from, span_of_match, IsOfFirstPattern}
use Rattle.pattern_search.specs.Texts.{AreReadAs}
use Rattle.meta_regex.specs.declared.found_match.FoundMatch.{FoundMatch}
use Rattle.meta_regex.specs.Regexes.{as_found, overlaid, span_of_row}
use Rattle.group_finder.specs.Slots.{no_offset, slots_of}

-- The first n slots of a match. If there is none, they hold no offset.
abbrev pub slots_of_found : Option Match → ℕ → List ℕ
slots_of_found None n = replicate n no_offset
slots_of_found (Some m) n = slots_of m n

-- This is the match, or there is none. It has the match's span, it is of the first pattern that matches from its start, and these are its
-- slots, of which there are n.
pub record IsCaptured (res : List Re) (h : List ℕ) (m : Option Match) (o : Option FoundMatch) (n : ℕ) (slots : List ℕ) : Type 0 where
  pub span : option_map span_of_match m ≡ option_map span_of_row o
  pub pattern : IfSome o (λ f. IsOfFirstPattern res h (as_found f))
  pub slots_are : slots ≡ slots_of_found m n

-- The result of a search from an offset on: the match that the toolchain's matcher finds for what the patterns are parsed as, whatever
-- loops consume.
abbrev pub HasCaptures : Config → List (List ℕ) → List ℕ → ℕ → ℕ → Option FoundMatch → List ℕ → Type 0
HasCaptures config texts h at n o slots = (res : List Re) → AreReadAs config texts res →
    IsCaptured res h (found_from config.utf8 (alt_all res) h at) o n slots

-- ---- all matches

-- The slots of matches, one match after the other, of each as many as a row is wide.
abbrev pub rows_of : ℕ → List Match → List ℕ
rows_of width ms = flat_map (λ m. slots_of m width) ms

-- The slots hold those of all matches that the matcher finds, as far as there is room. The slots after them are unchanged.
abbrev pub AreCaptured : Config → List (List ℕ) → List ℕ → ℕ → List ℕ → List ℕ → Type 0
AreCaptured config texts h width old new = (res : List Re) → AreReadAs config texts res →
    new ≡ overlaid (rows_of width (all_found config.utf8 (alt_all res) h)) old

-- The slots hold those of the first n matches that the matcher finds, as far as there is room. The slots after them are unchanged, or the
-- next row holds no offset, as far as there is room for it.
abbrev pub AreFirstCaptured : Config → List (List ℕ) → List ℕ → ℕ → ℕ → List ℕ → List ℕ → Type 0
AreFirstCaptured config texts h width n old new = (res : List Re) → AreReadAs config texts res →
    (new ≡ overlaid (rows_of width (take n (all_found config.utf8 (alt_all res) h))) old)
    ⊎ (new ≡ overlaid (rows_of width (take n (all_found config.utf8 (alt_all res) h)) ++ replicate width no_offset) old)
