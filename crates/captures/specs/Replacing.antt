-- What replacing matches writes, and what splitting at matches returns.
use Rattle.std.specs.Prelude.{◌≡◌, ◌≤◌, ◌<◌, ◌+◌, ◌-◌, ◌==◌, ◌++◌, ◌⊎◌, min, not, ℕ, List, [], ◌∷◌, Option, Some, None, if◌then◌else◌, is_some, length, slice_index_or, take, ⊤}
use Rattle.std.specs.List.{prefix_len}
use Rattle.regex_hir.specs.Re.{Re, accept, attempt}
use Rattle.regex_hir.specs.Meaning.{alt_all}
use Rattle.regex_hir.specs.Find.{Match}
use Rattle.regex_syntax.specs.declared.Config.{Config}
use Rattle.regex.specs.Replace.{group_bytes, replaced_by}
use Rattle.regex.specs.Search.{first_or_all, gaps}
use Rattle.regex.specs.Templates.{written_after}
use Rattle.pattern_search.specs.Searches.{all_found}
use Rattle.pattern_search.specs.Texts.{AreReadAs}
use Rattle.meta_regex.specs.Regexes.{HasFoundSpan, IsNext, overlaid}
use Rattle.meta_regex.specs.declared.found_match.FoundMatch.{FoundMatch}
use Rattle.templates.specs.Expansion.{names_in, template_text}
use Rattle.templates.specs.declared.template.Template.{Template}
use Rattle.captures.specs.declared.replacement.Replacement.{Replacement}

-- ---- what is written for a match
-- The number of the first pattern that matches from an offset.
unfoldable pub pattern_at : List Re → List ℕ → ℕ → ℕ
pattern_at res h i = prefix_len (λ a. not (is_some (attempt h a accept i))) res

-- What a replacement says: what is written for a match of a pattern, by the bytes of the pattern and the text of each group of the match.
abbrev pub Said : Type 0
Said = List ℕ → (ℕ → List ℕ) → List ℕ

-- A template: the toolchain's definition of what it writes, with the names of the pattern's groups.
abbrev pub by_template : Config → List ℕ → Said
by_template config replacement text group_text = written_after (names_in config text) group_text replacement 0

-- Bytes that are written as they are.
abbrev pub as_literal : List ℕ → Said
as_literal bytes text group_text = bytes

-- What is written for a match of the alternation of patterns. It is one of the first pattern that matches from its start.
abbrev pub written_for : List (List ℕ) → List Re → List ℕ → Said → Match → List ℕ
written_for texts res h said m = said (slice_index_or texts (pattern_at res h m.start) []) (group_bytes h m)

-- The first of all matches that the toolchain's matcher finds: as many as the limit, or all if that is 0.
abbrev pub first_found : Config → List Re → List ℕ → ℕ → List Match
first_found config res h limit = first_or_all limit (all_found config.utf8 (alt_all res) h)

-- So many matches were replaced: the output continues by the haystack, in which what the replacement says is written for each of the first
-- matches, up to the limit.
pub record IsReplaced (config : Config) (texts : List (List ℕ)) (h : List ℕ) (said : Said) (limit : ℕ) (old new : List ℕ) (count : ℕ) : Type 0 where
  pub output : (res : List Re) → AreReadAs config texts res →
      new ≡ old ++ replaced_by (written_for texts res h said) h 0 (first_found config res h limit)
  pub counted : (res : List Re) → AreReadAs config texts res → count ≡ length (first_found config res h limit)

-- ---- replacements that are read
-- A template writes what the replacement says of a pattern. Of the groups that the pattern has, it reads those below `groups` alone.
pub record IsTemplateFor (config : Config) (said : Said) (groups : ℕ) (text : List ℕ) (t : Template) : Type 0 where
  pub writes : (group_text : ℕ → List ℕ) → template_text group_text t ≡ said text group_text
  pub reads : (a b : ℕ → List ℕ) → ((n : ℕ) → (n < groups) ⊎ (length (names_in config text) ≤ n) → a n ≡ b n) →
      template_text a t ≡ template_text b t

-- Each template is for the pattern with its number.
abbrev pub AreTemplatesFor : Config → Said → ℕ → List (List ℕ) → List Template → Type 0
AreTemplatesFor config said groups [] [] = ⊤
AreTemplatesFor config said groups (x ∷ xs) (t ∷ ts) = IsTemplateFor config said groups x t × AreTemplatesFor config said groups xs ts
AreTemplatesFor config said groups _ _ = ⊥

-- A replacement was made for these patterns, and says this.
abbrev pub IsReplacementFor : Config → List (List ℕ) → Said → Replacement → Type 0
IsReplacementFor config texts said r = AreTemplatesFor config said r.groups texts r.templates.items

-- ---- pieces between matches
-- The spans of the pieces of a haystack between matches, and after the last of these. If there is a limit, only so many first matches count
-- that there are no more pieces.
abbrev pub pieces_of : Config → List Re → List ℕ → Option ℕ → List (ℕ × ℕ)
pieces_of config res h None = gaps (length h) 0 (all_found config.utf8 (alt_all res) h)
pieces_of config res h (Some limit) =
    if limit == 0 then [] else gaps (length h) 0 (take (limit - 1) (all_found config.utf8 (alt_all res) h))

-- How many matches at most a haystack of this length is split at.
abbrev pub most_cuts : Option ℕ → ℕ → ℕ
most_cuts None len = len + 1
most_cuts (Some limit) len = min (limit - 1) (len + 1)

-- So many pieces are there, and the first of them are in the rows, as far as these have room. Rows after them are unchanged.
pub record AreAllPieces (config : Config) (texts : List (List ℕ)) (h : List ℕ) (limit : Option ℕ) (count : ℕ) (old new : List (ℕ × ℕ)) : Type 0 where
  pub rows : (res : List Re) → AreReadAs config texts res → new ≡ overlaid (pieces_of config res h limit) old
  pub counted : (res : List Re) → AreReadAs config texts res → count ≡ length (pieces_of config res h limit)

-- There are more than so many pieces, and these are in the rows, as far as these have room. Rows after them are unchanged.
pub record AreFirstPieces (config : Config) (texts : List (List ℕ)) (h : List ℕ) (limit : Option ℕ) (count : ℕ) (old new : List (ℕ × ℕ)) : Type 0 where
  pub rows : (res : List Re) → AreReadAs config texts res → new ≡ overlaid (take count (pieces_of config res h limit)) old
  pub counted : (res : List Re) → AreReadAs config texts res → (count ≡ 0) ⊎ (count < length (pieces_of config res h limit))

-- ---- the next match
-- The result of a search for the first match, or for the one that follows a match with this end.
abbrev pub ComesNext : Config → List (List ℕ) → List ℕ → Option ℕ → Option FoundMatch → Type 0
ComesNext config texts h None o = HasFoundSpan config texts h 0 o
ComesNext config texts h (Some end) o = IsNext config texts h end o

-- A list continues another one.
abbrev pub Continues : List ℕ → List ℕ → Type 0
Continues old new = (more : List ℕ) × (new ≡ old ++ more)
