-- The message of an error.
use Rattle.std.specs.Prelude.{ℕ, List, codes}

-- the error that rejects Unicode's word boundaries
abbrev pub word_boundary_text : List ℕ
word_boundary_text = codes "the table of word characters, which \\b and \\B need for Unicode text, was left out"
