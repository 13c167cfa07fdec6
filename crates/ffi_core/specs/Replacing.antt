-- Replacing matches into a caller's buffer.
use Rattle.std.specs.Prelude.{◌≡◌, ℕ, Bool, true, false, List, length}
use Rattle.regex_hir.specs.Re.{Re}
use Rattle.regex_syntax.specs.declared.Config.{Config}
use Rattle.regex.specs.Replace.{replaced_by}
use Rattle.pattern_search.specs.Texts.{AreReadAs}
use Rattle.meta_regex.specs.Regexes.{overlaid}
use Rattle.captures.specs.Replacing.{Said, as_literal, by_template, first_found, written_for}

-- What a replacement says of a match: its bytes as they are, or what they write as a template.
abbrev pub said_by : Config → Bool → List ℕ → Said
said_by config true bytes = as_literal bytes
said_by config false bytes = by_template config bytes

-- The haystack, in which what the replacement says is written for each of the first matches, up to the limit.
abbrev pub replaced_text : Config → List (List ℕ) → List Re → List ℕ → Said → ℕ → List ℕ
replaced_text config texts res h said limit = replaced_by (written_for texts res h said) h 0 (first_found config res h limit)

-- `count` matches were replaced, and what comes of it has `len` bytes. The first of them are written over the old bytes, as far as these have
-- room, and the old bytes after them are unchanged.
pub record IsReplacedInto (config : Config) (texts : List (List ℕ)) (h : List ℕ) (said : Said) (limit : ℕ) (old new : List ℕ) (len count : ℕ)
    : Type 0 where
  pub written : (res : List Re) → AreReadAs config texts res → new ≡ overlaid (replaced_text config texts res h said limit) old
  pub long : (res : List Re) → AreReadAs config texts res → len ≡ length (replaced_text config texts res h said limit)
  pub counted : (res : List Re) → AreReadAs config texts res → count ≡ length (first_found config res h limit)
