-- What the grammar reads in a pattern.
use Rattle.std.specs.Prelude.{◌≡◌, ℕ, ◌≤◌, List, chars, slice_get, Option, option_and_then, IsSomeAnd}
use Rattle.regex_hir.specs.Re.{Re}
use Rattle.regex_syntax.specs.declared.Config.{Config}
use Rattle.regex_syntax.specs.Grammar.{Names, read}

-- A pattern is parsed as this under these options.
abbrev pub IsParsedAs : Config → List ℕ → Re → Type 0
IsParsedAs config text a = IsSomeAnd (read config (chars text)) (λ (re, names). (re.depth ≤ config.nest_limit) × (re.value ≡ a))

-- A pattern that the grammar reads under these options, within the limit on nesting.
abbrev pub IsPattern : Config → List ℕ → Type 0
IsPattern config text = IsSomeAnd (read config (chars text)) (λ (re, names). re.depth ≤ config.nest_limit)

-- A pattern has groups with these names, from group 0 on.
abbrev pub IsNamedBy : Config → List ℕ → Names → Type 0
IsNamedBy config text names = IsSomeAnd (read config (chars text)) (λ (re, found). names ≡ found)

-- The name of the group with this number, if there is such a group and it has a name.
abbrev pub name_at : Names → ℕ → Option (List ℕ)
name_at names n = option_and_then (λ name. name) (slice_get names n)
