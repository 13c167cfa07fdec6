-- What the code reads on one side of an offset, in terms of the definitions of looks.
use Rattle.std.specs.Prelude.{ℕ, Bool, Option, Some, None, Result, Ok, Err}
use Rattle.look_core.specs.Looks.{Side as SideRead, word_if}
use Rattle.look_core.specs.Looks.Side.{word, no_word, broken}
use Rattle.look_core.specs.declared.side.Side.{Side}
use Rattle.look_core.specs.declared.side.Side.TheVariants.{Word, NoWord, Broken}

abbrev pub side_of : Side → SideRead
side_of Word = word
side_of NoWord = no_word
side_of Broken = broken

-- what a side is, by what was decoded there: no byte, a character, or a byte of none
abbrev pub decoded_side : (ℕ → Bool) → Option (Result ℕ ℕ) → SideRead
decoded_side words None = no_word
decoded_side words (Some (Err b)) = broken
decoded_side words (Some (Ok c)) = word_if (words c)
