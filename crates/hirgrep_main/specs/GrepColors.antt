-- The colours that GREP_COLORS sets, as in GNU grep.
use Rattle.std.specs.Prelude.{ℕ, ◌==◌, Bool, true, false, not, ◌&&◌, ◌||◌, nat_lt, List, [], ◌∷◌, codes, length, Option, Some, None, if◌then◌else◌}
use Rattle.std.specs.List.{after_first, before_first, list_all, list_any, slice_split}
use Rattle.std.specs.Str.{bytes_eq}
use Rattle.grep_core.specs.declared.colors.Colors.{Colors}

-- The text that sets the colour of each part, whether selected and context lines swap theirs, and whether lines of the terminal are erased.
pub record Codes : Type 0 where
  pub names : List ℕ
  pub numbers : List ℕ
  pub offsets : List ℕ
  pub separators : List ℕ
  pub selected_lines : List ℕ
  pub context_lines : List ℕ
  pub selected_matches : List ℕ
  pub context_matches : List ℕ
  pub swaps : Bool
  pub erases : Bool

abbrev pub codes_of : Colors → Codes
codes_of c = record {
  names = c.names.now;
  numbers = c.numbers.now;
  offsets = c.offsets.now;
  separators = c.separators.now;
  selected_lines = c.selected_lines.now;
  context_lines = c.context_lines.now;
  selected_matches = c.selected_matches.now;
  context_matches = c.context_matches.now;
  swaps = c.swaps;
  erases = c.erases;
}

abbrev pub standard : Codes
standard = record {
  names = codes "35";
  numbers = codes "32";
  offsets = codes "32";
  separators = codes "36";
  selected_lines = [];
  context_lines = [];
  selected_matches = codes "01;31";
  context_matches = codes "01;31";
  swaps = false;
  erases = true;
}

-- Digits and semicolons set a colour.
abbrev pub is_code : ℕ → Bool
is_code b = nat_lt 47 b && nat_lt b 58 || b == 59

-- The value of an item follows its first equals sign, and its name precedes that.
abbrev pub is_sign : ℕ → Bool
is_sign b = b == 61

abbrev pub has_value : List ℕ → Bool
has_value item = list_any is_sign item

-- An item has no name before its equals sign, or another byte in its value.
abbrev pub is_broken : List ℕ → Bool
is_broken item =
    has_value item && (not (nat_lt 0 (length (before_first is_sign item))) || not (list_all is_code (after_first is_sign item)))

-- An item with a value sets the colour of the part that it names. Unknown names are ignored.
abbrev pub colors_after_value : Codes → List ℕ → List ℕ → Codes
colors_after_value c name value =
    if bytes_eq name (codes "mt") then record c { selected_matches = value }
    else if bytes_eq name (codes "ms") then record c { selected_matches = value }
    else if bytes_eq name (codes "mc") then record c { context_matches = value }
    else if bytes_eq name (codes "sl") then record c { selected_lines = value }
    else if bytes_eq name (codes "cx") then record c { context_lines = value }
    else if bytes_eq name (codes "fn") then record c { names = value }
    else if bytes_eq name (codes "ln") then record c { numbers = value }
    else if bytes_eq name (codes "bn") then record c { offsets = value }
    else if bytes_eq name (codes "se") then record c { separators = value }
    else c

-- Some names have a meaning with a value and without one. `mt` sets the colour of matches in all lines.
abbrev pub colors_after_name : Codes → List ℕ → Codes
colors_after_name c name =
    if bytes_eq name (codes "mt") then record c { context_matches = c.selected_matches }
    else if bytes_eq name (codes "rv") then record c { swaps = true }
    else if bytes_eq name (codes "ne") then record c { erases = false }
    else c

abbrev pub colors_after_item : Codes → List ℕ → Codes
colors_after_item c item =
    if has_value item
    then colors_after_name (colors_after_value c (before_first is_sign item) (after_first is_sign item)) (before_first is_sign item)
    else colors_after_name c item

-- The items take effect one after the other, up to the first broken one.
abbrev pub after_items : Codes → List (List ℕ) → Codes
after_items c [] = c
after_items c (item ∷ items) = if is_broken item then c else after_items (colors_after_item c item) items

-- What the text of GREP_COLORS makes of these colours: its items are separated by colons.
abbrev pub colors_by : Codes → List ℕ → Codes
colors_by c text = after_items c (slice_split (λ b. b == 58) text)

-- The older variable GREP_COLOR sets the colour of matches.
abbrev pub is_color : List ℕ → Bool
is_color text = nat_lt 0 (length text) && list_all is_code text

abbrev pub with_matches : Codes → List ℕ → Codes
with_matches c text = if is_color text then record c { selected_matches = text; context_matches = text } else c

-- The colours by the older and by the newer variable, as far as they are set.
abbrev pub older : Option (List ℕ) → Codes
older None = standard
older (Some text) = with_matches standard text

abbrev pub colors_given : Option (List ℕ) → Option (List ℕ) → Codes
colors_given old None = older old
colors_given old (Some text) = colors_by (older old) text
