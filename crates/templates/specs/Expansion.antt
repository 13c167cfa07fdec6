-- What a template writes.
use Rattle.std.specs.Prelude.{◌≡◌, ℕ, [], ◌∷◌, List, Option, Some, None, chars, flat_map, max}
use Rattle.regex_hir.specs.Re.{Re}
use Rattle.regex_syntax.specs.Brackets.{Nested}
use Rattle.regex_syntax.specs.Grammar.{Names, read}
use Rattle.regex_syntax.specs.declared.Config.{Config}
use Rattle.regex.specs.Templates.{written_after}
use Rattle.templates.specs.declared.template.Piece.{Piece}
use Rattle.templates.specs.declared.template.Piece.TheVariants.{Literal, Group}
use Rattle.templates.specs.declared.template.Template.{Template}

abbrev pub names_of_read : Option (Nested Re × Names) → Names
names_of_read None = []
names_of_read (Some found) = found.1

-- The names of the groups that the grammar reads in a pattern, parsed under these options. There are none in what is no pattern.
abbrev pub names_in : Config → List ℕ → Names
names_in config text = names_of_read (read config (chars text))

-- What a piece writes if each group has the text that `group_text` gives for its number.
abbrev pub piece_text : (ℕ → List ℕ) → Piece → List ℕ
piece_text group_text (Literal bytes) = bytes.items
piece_text group_text (Group n) = group_text n

abbrev pub pieces_text : (ℕ → List ℕ) → List Piece → List ℕ
pieces_text group_text pieces = flat_map (piece_text group_text) pieces

-- What a template writes if each group has the text that `group_text` gives for its number.
abbrev pub template_text : (ℕ → List ℕ) → Template → List ℕ
template_text group_text t = pieces_text group_text t.pieces.items

-- A template was read in a replacement text, for a pattern whose groups have these names: it writes what the toolchain's definition says that
-- the replacement text writes, whatever the groups have matched.
abbrev pub IsReadFrom : Names → List ℕ → Template → Type 0
IsReadFrom names replacement t =
    (group_text : ℕ → List ℕ) → template_text group_text t ≡ written_after names group_text replacement 0

-- A template writes these bytes, whatever the groups have matched.
abbrev pub IsLiteral : List ℕ → Template → Type 0
IsLiteral bytes t = (group_text : ℕ → List ℕ) → template_text group_text t ≡ bytes

-- The text of a group, or nothing if there is no group.
abbrev pub text_or_none : (ℕ → List ℕ) → Option ℕ → List ℕ
text_or_none group_text None = []
text_or_none group_text (Some n) = group_text n

-- The greater of two numbers, if there is a first one.
abbrev pub greater : Option ℕ → ℕ → Option ℕ
greater None n = Some n
greater (Some k) n = Some (max k n)

-- The greatest number of a group that the pieces write, if they write any.
abbrev pub greatest_group : List Piece → Option ℕ
greatest_group [] = None
greatest_group (Literal bytes ∷ pieces) = greatest_group pieces
greatest_group (Group n ∷ pieces) = greater (greatest_group pieces) n
