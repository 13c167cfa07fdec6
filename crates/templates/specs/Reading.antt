-- How a replacement text is read, step by step.
use Rattle.std.specs.Prelude.{◌≡◌, ℕ, ◌<◌, ◌≤◌, ◌++◌, Bool, List, Option, drop, length, nat_eq}
use Rattle.std.specs.List.{position_from}
use lib.Pointwise.{pointwise}
use Rattle.regex_hir.specs.Text.{is_some_and}
use Rattle.regex_syntax.specs.Grammar.{Names}
use Rattle.regex.specs.Templates.{written_after}
use Rattle.group_finder.specs.Patterns.{name_at}
use Rattle.templates.specs.declared.template.Piece.{Piece}
use Rattle.templates.specs.Expansion.{pieces_text, text_or_none}

-- The group with this number has this name.
abbrev pub is_called : Names → List ℕ → ℕ → Bool
is_called names name n = is_some_and (name_at names n) (pointwise nat_eq name)

-- The number of the first group with this name.
abbrev pub first_called : Names → List ℕ → Option ℕ
first_called names name = position_from (λ other. is_some_and other (pointwise nat_eq name)) 0 names

-- From this offset on, a replacement text writes these bytes, then the text of this group if there is one, and then what it writes from the
-- next offset on.
pub record IsStep (names : Names) (replacement : List ℕ) (at : ℕ) (literal : List ℕ) (group : Option ℕ) (next : ℕ) : Type 0 where
  pub after : at < next
  pub within : next ≤ length replacement
  pub writes : (group_text : ℕ → List ℕ) → written_after names group_text (drop at replacement) 0
      ≡ (literal ++ text_or_none group_text group) ++ written_after names group_text (drop next replacement) 0

-- These pieces write what a replacement text writes.
abbrev pub AreReadFrom : Names → List ℕ → List Piece → Type 0
AreReadFrom names replacement pieces =
    (group_text : ℕ → List ℕ) → pieces_text group_text pieces ≡ written_after names group_text replacement 0
