-- Which characters are words.
use Rattle.std.specs.Prelude.{ℕ, Bool}
use Rattle.search_core.specs.Utf8.{is_word_byte}

-- the digits, letters and the underscore of ASCII
abbrev pub ascii_words : ℕ → Bool
ascii_words c = is_word_byte c
