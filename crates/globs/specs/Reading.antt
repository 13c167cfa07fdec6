-- What a glob means as it is written: a machine that reads it character by character.
use Rattle.std.specs.Prelude.{ℕ, ◌+◌, ◌==◌, Bool, true, false, ◌&&◌, ◌||◌, not, nat_le, nat_lt, List, [], ◌∷◌, ◌++◌, Option, Some, None, is_some, map, if◌then◌else◌}
use Rattle.std.specs.List.{list_any}
use Rattle.globs.specs.ClassNames.{named_ranges}
use Rattle.globs.specs.Matching.{Anything, Class, Folders, Item, One, Sections, Set, Star, is_slash, section_of, sections_of, item_of}
use Rattle.globs.specs.declared.reading.Fault.{Fault}
use Rattle.globs.specs.declared.reading.FaultKind.{FaultKind}
use Rattle.globs.specs.declared.reading.FaultKind.TheVariants.{UnclosedSet, ReversedRange, DanglingEscape, NestedGroup, UnopenedGroup, UnclosedGroup}
use Rattle.globs.specs.declared.reading.Reader.{Reader}
use Rattle.globs.specs.declared.reading.Syntax.{Syntax}
use Rattle.globs.specs.declared.reading.Syntax.TheVariants.{Fnmatch, Globset, Folded, Gitignore}
use Rattle.globs.specs.declared.sets.SetReader.{SetReader}

-- ---- the syntaxes

-- In GNU grep's, a star and a set may match slashes, a set has escapes, and braces are plain. In that of `globset` a star doesn't match
-- slashes, two stars may stand for folders, braces group, and each fault is an error; letters of ASCII may match in either case. In git's a
-- star doesn't match slashes, nor does a set, which has escapes; two stars or more may stand for folders, and braces are plain.
abbrev pub is_globset : Syntax → Bool
is_globset Fnmatch = false
is_globset Globset = true
is_globset Folded = true
is_globset Gitignore = false

abbrev pub is_fnmatch : Syntax → Bool
is_fnmatch Fnmatch = true
is_fnmatch Globset = false
is_fnmatch Folded = false
is_fnmatch Gitignore = false

abbrev pub is_gitignore : Syntax → Bool
is_gitignore Fnmatch = false
is_gitignore Globset = false
is_gitignore Folded = false
is_gitignore Gitignore = true

abbrev pub folds_case : Syntax → Bool
folds_case Fnmatch = false
folds_case Globset = false
folds_case Folded = true
folds_case Gitignore = false

-- ---- sets in brackets

pub record SetReading : Type 0 where
  pub negated : Bool
  pub ranges : List (ℕ × ℕ)
  -- a character that may begin a range
  pub low : Option ℕ
  -- a dash follows that character
  pub dash : Bool
  -- no character was read
  pub fresh : Bool
  -- the next character is plain
  pub escaped : Bool
  -- all that was read, but for what may be the name of a class
  pub raw : List ℕ
  -- how much of such a name was read: nothing, its bracket, its bracket and colon, or all but its last bracket
  pub phase : ℕ
  pub name : List ℕ
  -- a name wasn't known
  pub unknown : Bool

abbrev pub no_set : SetReading
no_set = record { negated = false; ranges = []; low = None; dash = false; fresh = true; escaped = false; raw = []; phase = 0; name = []; unknown = false }

-- the ranges, if no other character ends the last one
abbrev pub with_single : List (ℕ × ℕ) → Option ℕ → List (ℕ × ℕ)
with_single ranges None = ranges
with_single ranges (Some c) = ranges ++ (c, c) ∷ []

abbrev pub with_dash : Bool → List (ℕ × ℕ) → List (ℕ × ℕ)
with_dash false ranges = ranges
with_dash true ranges = ranges ++ (45, 45) ∷ []

-- A set with a name that isn't known has no member.
abbrev pub all_ranges : SetReading → List (ℕ × ℕ)
all_ranges s = if s.unknown then [] else with_dash s.dash (with_single s.ranges s.low)

-- a character that is the end of a range, or may begin one
abbrev pub range_to : List (ℕ × ℕ) → Option ℕ → ℕ → List (ℕ × ℕ)
range_to ranges None c = ranges
range_to ranges (Some low) c = ranges ++ (low, c) ∷ []

abbrev pub add_member : SetReading → ℕ → SetReading
add_member s c =
    if s.dash then record s { ranges = range_to s.ranges s.low c; low = None; dash = false; fresh = false; escaped = false; raw = s.raw ++ c ∷ [] }
    else record s { ranges = with_single s.ranges s.low; low = Some c; fresh = false; escaped = false; raw = s.raw ++ c ∷ [] }

-- `!` or `^` at the beginning
abbrev pub negates : SetReading → ℕ → Bool
negates s c = (s.fresh && not s.negated) && (c == 33 || c == 94)

-- a backslash, but not in the syntax of `globset`
abbrev pub escapes : Syntax → ℕ → Bool
escapes syntax c = not (is_globset syntax) && c == 92

-- a dash after a character that may begin a range
abbrev pub begins_range : SetReading → ℕ → Bool
begins_range s c = (is_some s.low && not s.dash) && c == 45

-- a bracket that may begin the name of a class, but not in the syntax of `globset`
abbrev pub begins_name : Syntax → SetReading → ℕ → Bool
begins_name syntax s c = (not (is_globset syntax) && not s.dash) && c == 91

abbrev pub begin_name : SetReading → SetReading
begin_name s = record s { phase = 1; fresh = false }

-- a character that is read outside of names
abbrev pub add_outside : Syntax → SetReading → ℕ → SetReading
add_outside syntax s c =
    if s.escaped then add_member s c
    else if escapes syntax c then record s { escaped = true; fresh = false; raw = s.raw ++ c ∷ [] }
    else if negates s c then record s { negated = true; raw = s.raw ++ c ∷ [] }
    else if begins_range s c then record s { dash = true; raw = s.raw ++ c ∷ [] }
    else if begins_name syntax s c then begin_name s
    else add_member s c

-- ---- names of classes in sets, as `[:alpha:]`

abbrev pub add_members : SetReading → List ℕ → SetReading
add_members s [] = s
add_members s (c ∷ cs) = add_members (add_member s c) cs

abbrev pub is_colon : ℕ → Bool
is_colon c = c == 58

abbrev pub with_colon : Bool → List ℕ → List ℕ
with_colon false cs = cs
with_colon true cs = cs ++ 58 ∷ []

-- what was read of a name
abbrev pub name_text : ℕ → List ℕ → List ℕ
name_text phase name = if phase == 1 then 91 ∷ [] else 91 ∷ 58 ∷ with_colon (phase == 3) name

-- What was read turned out not to be a name: its characters are members.
abbrev pub give_up : SetReading → SetReading
give_up s = record (add_members s (name_text s.phase s.name)) { phase = 0; name = [] }

abbrev pub without_name : SetReading → SetReading
without_name s = if s.phase == 0 then s else give_up s

-- Names have letters up to `y`.
abbrev pub is_of_name : ℕ → Bool
is_of_name c = nat_le 97 c && nat_le c 121

abbrev pub goes_on : SetReading → ℕ → Bool
goes_on s c = (s.phase == 1 && is_colon c) || (s.phase == 2 && (is_colon c || is_of_name c))

abbrev pub go_on : SetReading → ℕ → SetReading
go_on s c =
    if s.phase == 1 then record s { phase = 2 }
    else if is_colon c then record s { phase = 3 }
    else record s { name = s.name ++ c ∷ [] }

abbrev pub names_none : List (ℕ × ℕ) → Bool
names_none [] = true
names_none (r ∷ rs) = false

-- the characters of a class are members
abbrev pub end_name : SetReading → SetReading
end_name s = record s {
  ranges = with_single s.ranges s.low ++ named_ranges s.name;
  low = None;
  raw = s.raw ++ name_text 3 s.name ++ 93 ∷ [];
  phase = 0;
  name = [];
  unknown = s.unknown || names_none (named_ranges s.name);
}

abbrev pub ends_name : SetReading → ℕ → Bool
ends_name s c = s.phase == 3 && c == 93

abbrev pub add_to_name : Syntax → SetReading → ℕ → SetReading
add_to_name syntax s c =
    if ends_name s c then end_name s
    else if goes_on s c then go_on s c
    else add_outside syntax (give_up s) c

abbrev pub add_to_set : Syntax → SetReading → ℕ → SetReading
add_to_set syntax s c = if s.phase == 0 then add_outside syntax s c else add_to_name syntax s c

-- a bracket that ends the set
abbrev pub closes : SetReading → ℕ → Bool
closes s c = ((not s.fresh && not s.escaped) && not (s.phase == 3)) && c == 93

-- the set, in which all syntaxes but git's have slashes
abbrev pub class_by : Syntax → SetReading → Class
class_by syntax s = record {
  negated = s.negated && not s.unknown;
  slash = not (is_gitignore syntax);
  folds = folds_case syntax;
  ranges = all_ranges s;
}

abbrev pub set_of : SetReader → SetReading
set_of s = record {
  negated = s.negated;
  ranges = s.ranges.items;
  low = s.low;
  dash = s.dash;
  fresh = s.fresh;
  escaped = s.escaped;
  raw = s.raw.items;
  phase = s.phase;
  name = s.name.items;
  unknown = s.unknown;
}

-- ---- globs

pub record Reading : Type 0 where
  pub sections : Sections
  -- the alternatives of the open group, and the items of the open alternative
  pub alternatives : List (List Item)
  pub items : List Item
  pub in_group : Bool
  -- how many stars were read last, and whether nothing or a slash comes before them
  pub stars : ℕ
  pub bounded : Bool
  -- nothing or a slash comes before what is next
  pub at_start : Bool
  -- the next character is plain
  pub escaped : Bool
  pub in_set : Bool
  pub set : SetReading
  -- brackets begin sets
  pub has_sets : Bool
  -- where the open set or group began
  pub opened : ℕ
  pub fault : Option Fault

abbrev pub no_reading : Reading
no_reading = record {
  sections = [];
  alternatives = [];
  items = [];
  in_group = false;
  stars = 0;
  bounded = false;
  at_start = true;
  escaped = false;
  in_set = false;
  set = no_set;
  has_sets = true;
  opened = 0;
  fault = None;
}

-- the first fault counts
abbrev pub first_fault : Option Fault → Fault → Option Fault
first_fault None fault = Some fault
first_fault (Some earlier) fault = Some earlier

abbrev pub with_fault : FaultKind → ℕ → Reading → Reading
with_fault kind at s = record s { fault = first_fault s.fault (record { kind = kind; at = at }) }

-- one more item, after which comes no beginning
abbrev pub with_item : Item → Reading → Reading
with_item item s = record s { items = s.items ++ item ∷ []; at_start = false }

-- any character, but a slash only in GNU grep's syntax
abbrev pub any_of : Syntax → Class
any_of syntax = record { negated = true; slash = is_fnmatch syntax; folds = false; ranges = [] }

-- ---- stars

-- Two stars, and more in git's syntax.
abbrev pub are_two : Syntax → ℕ → Bool
are_two syntax stars = stars == 2 || (is_gitignore syntax && stars == 3)

-- Two stars stand for folders, and a slash after them is part of it.
abbrev pub are_folders : Syntax → Reading → Bool
are_folders syntax s = not (is_fnmatch syntax) && (s.bounded && are_two syntax s.stars)

-- what stars stand for that no slash follows; `at_end`: nothing follows in the glob or in the alternative
abbrev pub stars_item : Syntax → Reading → Bool → Item
stars_item syntax s at_end = if is_fnmatch syntax || (at_end && are_folders syntax s) then Anything else Star

abbrev pub end_stars : Syntax → Bool → Reading → Reading
end_stars syntax at_end s = if s.stars == 0 then s else record (with_item (stars_item syntax s at_end) s) { stars = 0 }

-- the number of stars, of which more than two are all the same
abbrev pub more_stars : ℕ → ℕ
more_stars n = if nat_lt n 2 then n + 1 else 3

abbrev pub add_star : Reading → Reading
add_star s = if s.stars == 0 then record s { stars = 1; bounded = s.at_start } else record s { stars = more_stars s.stars }

abbrev pub end_folders : Reading → Reading
end_folders s = record s { items = s.items ++ Folders ∷ []; at_start = true; stars = 0 }

-- ---- sets

abbrev pub begin_set : ℕ → Reading → Reading
begin_set at s = record s { in_set = true; set = no_set; opened = at }

abbrev pub has_reversed : List (ℕ × ℕ) → Bool
has_reversed = list_any (λ r. nat_lt r.1 r.0)

abbrev pub check_set : Syntax → ℕ → Reading → Reading
check_set syntax at s = if is_globset syntax && has_reversed (all_ranges s.set) then with_fault ReversedRange at s else s

abbrev pub end_set : Syntax → ℕ → Reading → Reading
end_set syntax at s = record (check_set syntax at (with_item (Set (class_by syntax s.set)) s)) { in_set = false; set = no_set }

abbrev pub add_in_set : Syntax → Reading → ℕ → ℕ → Reading
add_in_set syntax s at c =
    if closes s.set c then end_set syntax at (record s { set = without_name s.set })
    else record s { set = add_to_set syntax s.set c }

-- ---- groups

abbrev pub with_alternative : List (List Item) → List Item → List (List Item)
with_alternative alternatives [] = alternatives
with_alternative alternatives (x ∷ xs) = alternatives ++ (x ∷ xs) ∷ []

-- an alternative without items is left out
abbrev pub end_alternative : Reading → Reading
end_alternative s = record s { alternatives = with_alternative s.alternatives s.items; items = []; at_start = true }

abbrev pub with_section : Sections → List (List Item) → Sections
with_section sections [] = sections
with_section sections (x ∷ xs) = sections ++ (x ∷ xs) ∷ []

-- the items up to here are a section of one alternative
abbrev pub end_section : Reading → Reading
end_section s = record s { sections = s.sections ++ (s.items ∷ []) ∷ []; items = [] }

abbrev pub begin_group : ℕ → Reading → Reading
begin_group at s = if s.in_group then with_fault NestedGroup at s else record (end_section s) { in_group = true; opened = at; at_start = true }

-- a group whose alternatives are all empty matches nothing more
abbrev pub close_group : Reading → Reading
close_group s = record s { sections = with_section s.sections s.alternatives; alternatives = []; in_group = false; at_start = false }

abbrev pub end_group : ℕ → Reading → Reading
end_group at s = if s.in_group then close_group (end_alternative s) else with_fault UnopenedGroup at s

-- ---- characters

-- a character that means itself
abbrev pub plain_item : Syntax → ℕ → Item
plain_item syntax c = if folds_case syntax then Set (record { negated = false; slash = true; folds = true; ranges = (c, c) ∷ [] }) else One c

abbrev pub add_plain : Syntax → ℕ → Reading → Reading
add_plain syntax c s = record (with_item (plain_item syntax c) s) { at_start = is_slash c }

-- a character of groups, or one that means itself
abbrev pub add_grouping : Syntax → ℕ → ℕ → Reading → Reading
add_grouping syntax at c s =
    if is_globset syntax && c == 123 then begin_group at s
    else if is_globset syntax && c == 125 then end_group at s
    else if s.in_group && c == 44 then end_alternative s
    else add_plain syntax c s

-- a character that isn't a star, after the stars before it
abbrev pub add_other : Syntax → ℕ → ℕ → Reading → Reading
add_other syntax at c s =
    if c == 63 then with_item (Set (any_of syntax)) s
    else if s.has_sets && c == 91 then begin_set at s
    else if c == 92 then record s { escaped = true; opened = at }
    else add_grouping syntax at c s

-- nothing follows in the glob or in the alternative
abbrev pub ends_here : Reading → ℕ → Bool
ends_here s c = s.in_group && (c == 44 || c == 125)

abbrev pub add_unescaped : Syntax → ℕ → ℕ → Reading → Reading
add_unescaped syntax at c s =
    if c == 42 then add_star s
    else if are_folders syntax s && is_slash c then end_folders s
    else add_other syntax at c (end_stars syntax (ends_here s c) s)

abbrev pub add : Syntax → ℕ → Reading → ℕ → Reading
add syntax at s c =
    if s.in_set then add_in_set syntax s at c
    else if s.escaped then record (add_plain syntax c s) { escaped = false }
    else add_unescaped syntax at c s

abbrev pub add_all : Syntax → ℕ → Reading → List ℕ → Reading
add_all syntax at s [] = s
add_all syntax at s (c ∷ cs) = add_all syntax (at + 1) (add syntax at s c) cs

-- ---- the end

-- What was read of an open set is read once more, after a bracket that means itself, and no bracket begins a set.
abbrev pub add_raw : Syntax → Reading → Reading
add_raw syntax s =
    add_all syntax 0 (record (add_plain syntax 91 s) { in_set = false; has_sets = false; set = no_set }) (without_name s.set).raw

-- A bracket that no bracket closes means itself in GNU grep's syntax, and so do those after it.
abbrev pub end_open_set : Syntax → Reading → Reading
end_open_set syntax s =
    if not s.in_set then s
    else if not (is_fnmatch syntax) then with_fault UnclosedSet s.opened s
    else add_raw syntax s

-- a backslash at the end means itself in GNU grep's syntax
abbrev pub end_escape : Syntax → Reading → Reading
end_escape syntax s =
    if not s.escaped then s
    else if not (is_fnmatch syntax) then with_fault DanglingEscape s.opened s
    else record (add_plain syntax 92 s) { escaped = false }

abbrev pub end_open_group : Reading → Reading
end_open_group s = if s.in_group then with_fault UnclosedGroup s.opened s else s

abbrev pub end_all : Syntax → Reading → Reading
end_all syntax s = end_section (end_open_group (end_stars syntax true (end_escape syntax (end_open_set syntax s))))

-- what was read of a whole glob
unfoldable pub read : Syntax → List ℕ → Reading
read syntax glob = end_all syntax (add_all syntax 0 no_reading glob)

-- ---- what the code holds

abbrev pub reading_of : Reader → Reading
reading_of r = record {
  sections = sections_of r.sections.items;
  alternatives = section_of r.alternatives.items;
  items = map item_of r.items.items;
  in_group = r.in_group;
  stars = r.stars;
  bounded = r.bounded;
  at_start = r.at_start;
  escaped = r.escaped;
  in_set = r.in_set;
  set = set_of r.set;
  has_sets = r.has_sets;
  opened = r.opened;
  fault = r.fault;
}
