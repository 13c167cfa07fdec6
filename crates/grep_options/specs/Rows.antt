-- The option for which a row of a table stands.
use Rattle.std.specs.Prelude.{ℕ, zero, suc, false, List, [], ◌∷◌, ◌++◌, map, codes, Option, Some, None}
use Rattle.std.specs.Borrow.{Bor}
use Rattle.clap.specs.declared.builder.action.ArgAction.{ArgAction}
use Rattle.clap.specs.declared.builder.action.ArgAction.TheVariants.{Append, Help as PrintHelp, Set, SetTrue, Version as PrintVersion}
use Rattle.grep_options.specs.CommandLine.{OptionRow}
use Rattle.grep_options.specs.declared.option_rows.Kind.{Kind}
use Rattle.grep_options.specs.declared.option_rows.Kind.TheVariants.{Flag, Letter, Hidden, Help, Version, List as Several, Operands, Text, Word, Color, Number, Integer}
use Rattle.grep_options.specs.declared.option_rows.Row.{Row}

-- the letter that a row gives; zero gives none, and leaves those that were there
abbrev pub letter_or : List ℕ → ℕ → List ℕ
letter_or old zero = old
letter_or old (suc c) = suc c ∷ []

-- a long name, but for the two kinds without one
abbrev pub long_or : Option (List ℕ) → Kind → List ℕ → Option (List ℕ)
long_or old Flag name = Some name
long_or old Letter name = old
long_or old Hidden name = Some name
long_or old Help name = Some name
long_or old Version name = Some name
long_or old Several name = Some name
long_or old Operands name = old
long_or old Text name = Some name
long_or old Word name = Some name
long_or old Color name = Some name
long_or old Number name = Some name
long_or old Integer name = Some name

abbrev pub action_of : Kind → ArgAction
action_of Flag = SetTrue
action_of Letter = SetTrue
action_of Hidden = SetTrue
action_of Help = PrintHelp
action_of Version = PrintVersion
action_of Several = Append
action_of Operands = Append
action_of Text = Set
action_of Word = Set
action_of Color = Set
action_of Number = Set
action_of Integer = Set

-- the value of a use without one
abbrev pub missing_or : List (List ℕ) → Kind → List (List ℕ)
missing_or old Flag = old
missing_or old Letter = old
missing_or old Hidden = old
missing_or old Help = old
missing_or old Version = old
missing_or old Several = old
missing_or old Operands = old
missing_or old Text = old
missing_or old Word = old
missing_or old Color = codes "auto" ∷ []
missing_or old Number = old
missing_or old Integer = old

abbrev pub texts_in : List (Bor (List ℕ)) → List (List ℕ)
texts_in = map (λ s. s.now)

-- an option with more names, more that it turns off and more with which it is an error
abbrev pub related : OptionRow → List (Bor (List ℕ)) → List (Bor (List ℕ)) → List (Bor (List ℕ)) → OptionRow
related row names over without = record row {
  aliases = row.aliases ++ texts_in names;
  turns_off = row.turns_off ++ texts_in over;
  excludes = row.excludes ++ texts_in without;
}

abbrev pub row_of : Row → OptionRow
row_of r = record {
  name = r.id.now;
  letter = letter_or [] r.letter;
  other_letters = letter_or [] r.other_letter;
  long = long_or None r.kind r.id.now;
  aliases = texts_in r.aliases.now;
  action = Some (action_of r.kind);
  missing = missing_or [] r.kind;
  turns_off = texts_in r.over.now;
  excludes = texts_in r.without.now;
  is_global = false;
}
