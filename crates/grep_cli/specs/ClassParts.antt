-- The parts in which a pattern is read for names of classes.
use Rattle.std.specs.Prelude.{◌≡◌, ◌<◌, ◌≤◌, ℕ, ◌+◌, Bool, true, false, List, drop, Some}
use Rattle.globs.specs.Rules.{begins, without_first}
use Rattle.grep_cli.specs.ClassNames.{Other, fault_from}
use Rattle.grep_cli.specs.declared.class_names.Misnamed.TheVariants.{Outside, Unknown}
use Rattle.grep_cli.specs.declared.class_names.Part.{Part}
use Rattle.grep_cli.specs.declared.class_names.Part.TheVariants.{Read, Unbracketed, Unnamed}

-- 1 if the test is true, and otherwise 0
abbrev pub one_if : Bool → ℕ
one_if true = 1
one_if false = 0

-- How many bytes after a bracket belong to the beginning of a class: a caret, and a closing bracket that is its first character.
abbrev pub opening_len : List ℕ → ℕ
opening_len rest = one_if (begins 94 rest) + one_if (begins 93 (without_first 94 rest))

-- What a part that the pattern begins with says of its first fault. `depth` classes are open before it, and `now` after it.
abbrev pub Reads : Part → ℕ → List ℕ → Type 0
Reads (Read n now) depth text = (0 < n) × ((now ≤ depth + 1)
    × ((at : ℕ) → fault_from Other depth at text ≡ fault_from Other now (at + n) (drop n text)))
Reads Unbracketed depth text = (at : ℕ) → fault_from Other depth at text ≡ Some Outside
Reads Unnamed depth text = (at : ℕ) → fault_from Other depth at text ≡ Some (Unknown at)
