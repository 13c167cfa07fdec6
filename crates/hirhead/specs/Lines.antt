-- The lines that are printed for trees, in the notation that `hirscan` reads. A line is a list of words.
use Rattle.std.specs.Prelude.{ℕ, suc, ◌/◌, ◌%◌, Bool, true, false, List, [], ◌∷◌, ◌++◌, map, Option, Some, None, decimal, codes}
use Rattle.std.specs.List.{flat_map}
use Rattle.std.specs.Fmt.{digits, digit_glyph}
use Rattle.hex.specs.Hex.{encode_lower}
use Rattle.hir_core.specs.Tree.{Tree, empty, literal, byte_class, char_class, look, repetition, capture, nothing, cat, never, alt}
use Rattle.hirscan.specs.Words.{look_name}

abbrev pub Line : Type 0
Line = List (List ℕ)

-- the byte as two hexadecimal digits
abbrev pub two_digits : ℕ → List ℕ
two_digits b = digit_glyph true (b / 16) ∷ digit_glyph true (b % 16) ∷ []

-- a range of bytes, and one of scalars, with 45, the sign, between the ends
abbrev pub byte_item : ℕ × ℕ → List ℕ
byte_item r = two_digits r.0 ++ 45 ∷ two_digits r.1

abbrev pub scalar_item : ℕ × ℕ → List ℕ
scalar_item r = digits 16 true r.0 ++ 45 ∷ digits 16 true r.1

abbrev pub bound_word : Option ℕ → List ℕ
bound_word None = codes "inf"
bound_word (Some n) = decimal n

abbrev pub order_word : Bool → List ℕ
order_word true = codes "greedy"
order_word false = codes "lazy"

abbrev pub rounds_line : ℕ → Option ℕ → Bool → Line
rounds_line min most greedy = codes "rep" ∷ decimal min ∷ bound_word most ∷ order_word greedy ∷ []

-- The lines of a tree. Those of the rest of a concatenation or alternation come after the lines of its first n parts, and end
-- with the line that joins all parts. n is 0 for a whole tree.
abbrev pub lines_after : ℕ → Tree → List Line
lines_after n empty = (codes "empty" ∷ []) ∷ []
lines_after n (literal []) = (codes "empty" ∷ []) ∷ []
lines_after n (literal (b ∷ bytes)) = (codes "lit" ∷ encode_lower (b ∷ bytes) ∷ []) ∷ []
lines_after n (byte_class []) = (codes "alt" ∷ decimal 0 ∷ []) ∷ []
lines_after n (byte_class (r ∷ ranges)) = (codes "bytes" ∷ map byte_item (r ∷ ranges)) ∷ []
lines_after n (char_class []) = (codes "alt" ∷ decimal 0 ∷ []) ∷ []
lines_after n (char_class (r ∷ ranges)) = (codes "chars" ∷ map scalar_item (r ∷ ranges)) ∷ []
lines_after n (look l) = (codes "look" ∷ look_name l ∷ []) ∷ []
lines_after n (repetition min most greedy x) =
    lines_after 0 x ++ rounds_line min most greedy ∷ []
lines_after n (capture index name x) = lines_after 0 x
lines_after n nothing = (codes "cat" ∷ decimal n ∷ []) ∷ []
lines_after n (cat x y) = lines_after 0 x ++ lines_after (suc n) y
lines_after n never = (codes "alt" ∷ decimal n ∷ []) ∷ []
lines_after n (alt x y) = lines_after 0 x ++ lines_after (suc n) y

abbrev pub lines_of : Tree → List Line
lines_of x = lines_after 0 x

-- the lines of each pattern, and after them the line that takes it
abbrev pub pattern_lines : List Tree → List Line
pattern_lines [] = []
pattern_lines (x ∷ xs) = lines_of x ++ (codes "pattern" ∷ []) ∷ pattern_lines xs

-- UTF-8 mode is on if no line says otherwise
abbrev pub setting_lines : Bool → List Line
setting_lines true = []
setting_lines false = (codes "utf8" ∷ codes "off" ∷ []) ∷ []

-- the lines of a query of these patterns
abbrev pub query_lines : Bool → List Tree → List Line
query_lines utf8 xs = setting_lines utf8 ++ (pattern_lines xs ++ (codes "find" ∷ []) ∷ [])

-- the words with a space, 32, between each two, and a line feed, 10, at the end
abbrev pub after_word : Line → List ℕ
after_word [] = 10 ∷ []
after_word (w ∷ ws) = 32 ∷ (w ++ after_word ws)

abbrev pub line_text : Line → List ℕ
line_text [] = 10 ∷ []
line_text (w ∷ ws) = w ++ after_word ws

abbrev pub lines_text : List Line → List ℕ
lines_text lines = flat_map line_text lines

-- the text of the query of these patterns
abbrev pub query_text : Bool → List Tree → List ℕ
query_text utf8 xs = lines_text (query_lines utf8 xs)
