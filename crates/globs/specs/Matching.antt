-- What a glob matches: names, as lists of characters.
use Rattle.std.specs.Prelude.{◌≡◌, ℕ, ◌==◌, Bool, true, false, ◌&&◌, ◌||◌, not, nat_le, List, [], ◌∷◌, ◌++◌, map, if◌then◌else◌}
use Rattle.std.specs.Char.{to_ascii_lowercase, to_ascii_uppercase}
use Rattle.std.specs.List.{list_any}
use Rattle.std.specs.declared.alloc.Global.{Global}
use Rattle.std.specs.declared.vec.Vec.{Vec}
use Rattle.globs.specs.declared.item.Class.{Class as TheClass}
use Rattle.globs.specs.declared.item.Item.{Item as TheItem}
use Rattle.globs.specs.declared.item.Item.TheVariants.{One as TheOne, Set as TheSet, Star as TheStar, Anything as TheAnything, Folders as TheFolders}

-- ---- the parts of a glob

-- A set of characters: those in one of the ranges, or, if it is negated, the others. If `slash` is false, a slash isn't in it. If `folds`, a
-- letter of ASCII is in a range if it is in the other case.
pub record Class : Type 0 where
  pub negated : Bool
  pub slash : Bool
  pub folds : Bool
  pub ranges : List (ℕ × ℕ)

pub data Item : Type 0 where
  -- this character
  One : ℕ → Item
  -- one character of a set
  Set : Class → Item
  -- any number of characters but slashes
  Star : Item
  -- any number of characters
  Anything : Item
  -- nothing, or characters of which the last one is a slash
  Folders : Item

-- A glob is a list of sections that match one after the other, a section is a list of alternatives, and an alternative is a list of items.
abbrev pub Sections : Type 0
Sections = List (List (List Item))

-- ---- what they match

-- a slash
abbrev pub is_slash : ℕ → Bool
is_slash c = c == 47

abbrev pub is_within : ℕ → ℕ × ℕ → Bool
is_within c range = nat_le range.0 c && nat_le c range.1

abbrev pub is_within_any : List (ℕ × ℕ) → ℕ → Bool
is_within_any ranges c = list_any (is_within c) ranges

abbrev pub is_folded_within : List (ℕ × ℕ) → ℕ → Bool
is_folded_within ranges c = is_within_any ranges (to_ascii_lowercase c) || is_within_any ranges (to_ascii_uppercase c)

abbrev pub is_in_any_range : Class → ℕ → Bool
is_in_any_range class c = is_within_any class.ranges c || (class.folds && is_folded_within class.ranges c)

abbrev pub is_in : Class → ℕ → Bool
is_in class c = (class.slash || not (is_slash c)) && (if class.negated then not (is_in_any_range class c) else is_in_any_range class c)

-- Whether the item takes this character. The last kind takes characters by another rule.
abbrev pub takes : Item → ℕ → Bool
takes (One x) c = c == x
takes (Set class) c = is_in class c
takes Star c = not (is_slash c)
takes Anything c = true
takes Folders c = false

-- one character, and then what follows
abbrev pub one : (ℕ → Bool) → (List ℕ → Bool) → List ℕ → Bool
one is rest [] = false
one is rest (c ∷ cs) = is c && rest cs

-- any number of characters, and then what follows
abbrev pub many : (ℕ → Bool) → (List ℕ → Bool) → List ℕ → Bool
many is rest [] = rest []
many is rest (c ∷ cs) = rest (c ∷ cs) || (is c && many is rest cs)

-- What follows matches all that is after one of the slashes.
abbrev pub after_slash : (List ℕ → Bool) → List ℕ → Bool
after_slash rest [] = false
after_slash rest (c ∷ cs) = (is_slash c && rest cs) || after_slash rest cs

abbrev pub folders : (List ℕ → Bool) → List ℕ → Bool
folders rest name = rest name || after_slash rest name

-- Whether an item and then what follows match all of a name.
abbrev pub item_then : Item → (List ℕ → Bool) → List ℕ → Bool
item_then (One x) rest = one (takes (One x)) rest
item_then (Set class) rest = one (takes (Set class)) rest
item_then Star rest = many (takes Star) rest
item_then Anything rest = many (takes Anything) rest
item_then Folders rest = folders rest

abbrev pub items_then : List Item → (List ℕ → Bool) → List ℕ → Bool
items_then [] rest = rest
items_then (item ∷ items) rest = item_then item (items_then items rest)

-- one of the alternatives, and then what follows
abbrev pub either_then : List (List Item) → (List ℕ → Bool) → List ℕ → Bool
either_then [] rest name = false
either_then (items ∷ others) rest name = items_then items rest name || either_then others rest name

abbrev pub sections_then : Sections → (List ℕ → Bool) → List ℕ → Bool
sections_then [] rest = rest
sections_then (section ∷ sections) rest = either_then section (sections_then sections rest)

abbrev pub is_end : List ℕ → Bool
is_end [] = true
is_end (c ∷ cs) = false

-- Whether a glob matches all of a name.
abbrev pub matches : Sections → List ℕ → Bool
matches glob = sections_then glob is_end

-- Whether a glob matches all of a name, or all that is after one of its slashes.
abbrev pub matches_part : Sections → List ℕ → Bool
matches_part glob = folders (matches glob)

-- ---- what can't be matched

-- Whether an item may match something that ends in this character.
abbrev pub may_take : Item → ℕ → Bool
may_take (One x) c = c == x
may_take (Set class) c = is_in class c
may_take Star c = true
may_take Anything c = true
may_take Folders c = true

-- Neither nothing nor what ends in this character is matched.
abbrev pub Fails : ℕ → (List ℕ → Bool) → Type 0
Fails c rest = (rest [] ≡ false) × ((before : List ℕ) → rest (before ++ c ∷ []) ≡ false)

-- ---- the parts as the code has them

abbrev pub class_of : TheClass → Class
class_of c = record { negated = c.negated; slash = c.slash; folds = c.folds; ranges = c.ranges.items }

abbrev pub item_of : TheItem → Item
item_of (TheOne c) = One c
item_of (TheSet class) = Set (class_of class)
item_of TheStar = Star
item_of TheAnything = Anything
item_of TheFolders = Folders

abbrev pub section_of : List (Vec TheItem Global) → List (List Item)
section_of section = map (λ items. map item_of items.items) section

abbrev pub sections_of : List (Vec (Vec TheItem Global) Global) → Sections
sections_of sections = map (λ section. section_of section.items) sections

-- ---- what follows, for each end of a name

-- whether it matches each end of the name, the shortest end first
abbrev pub at_ends : (List ℕ → Bool) → List ℕ → List Bool
at_ends rest [] = rest [] ∷ []
at_ends rest (c ∷ cs) = at_ends rest cs ++ rest (c ∷ cs) ∷ []
