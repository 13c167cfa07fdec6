-- Values of options in which escapes stand for bytes, as in ripgrep.
use Rattle.std.specs.Prelude.{ℕ, ◌+◌, ◌*◌, ◌==◌, Bool, ◌&&◌, nat_lt, List, [], ◌∷◌, ◌++◌, if◌then◌else◌}
use Rattle.std.specs.Char.{digit_value}
use Rattle.grep_options.specs.declared.escapes.Escape.{Escape}
use Rattle.grep_options.specs.declared.escapes.Escape.TheVariants.{Nothing, Backslash, Hex, Digit}

abbrev pub is_hex : ℕ → Bool
is_hex b = nat_lt (digit_value b) 16

-- What a backslash, 92, and this byte stand for: `\n`, `\r`, `\t`, `\\`. Others stand for themselves.
abbrev pub escaped : ℕ → List ℕ
escaped b =
    if b == 110 then 10 ∷ []
    else if b == 114 then 13 ∷ []
    else if b == 116 then 9 ∷ []
    else if b == 92 then 92 ∷ []
    else 92 ∷ b ∷ []

-- What `\x` and these two bytes stand for.
abbrev pub hex_byte : ℕ → ℕ → List ℕ
hex_byte d b = if is_hex d && is_hex b then (16 * digit_value d + digit_value b) ∷ [] else 92 ∷ 120 ∷ d ∷ b ∷ []

-- An escape that isn't whole stands for itself.
abbrev pub unread : Escape → List ℕ
unread Nothing = []
unread Backslash = 92 ∷ []
unread Hex = 92 ∷ 120 ∷ []
unread (Digit d) = 92 ∷ 120 ∷ d ∷ []

-- What a text stands for after so much of an escape.
abbrev pub unescaped_from : Escape → List ℕ → List ℕ
unescaped_from e [] = unread e
unescaped_from Nothing (b ∷ text) = if b == 92 then unescaped_from Backslash text else b ∷ unescaped_from Nothing text
unescaped_from Backslash (b ∷ text) = if b == 120 then unescaped_from Hex text else escaped b ++ unescaped_from Nothing text
unescaped_from Hex (b ∷ text) =
    if is_hex b then unescaped_from (Digit b) text else 92 ∷ 120 ∷ b ∷ unescaped_from Nothing text
unescaped_from (Digit d) (b ∷ text) = hex_byte d b ++ unescaped_from Nothing text

abbrev pub unescaped : List ℕ → List ℕ
unescaped text = unescaped_from Nothing text
