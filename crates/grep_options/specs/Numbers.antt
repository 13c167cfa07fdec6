-- Numbers given as options of their own, as -5, which is -C5. Letters of options and digits may stand in one word, as in -n5.
use Rattle.std.specs.Prelude.{ℕ, ◌==◌, Bool, true, false, ◌&&◌, ◌||◌, not, nat_lt, List, [], ◌∷◌, ◌++◌, length, codes, if◌then◌else◌}
use Rattle.std.specs.List.{list_any}
use Rattle.std.specs.Str.{bytes_eq}
use Rattle.grep_options.specs.declared.numbers.Cluster.{Cluster}
use Rattle.grep_options.specs.declared.numbers.Next.{Next}
use Rattle.grep_options.specs.declared.numbers.Next.TheVariants.{AnyWord, Value, Operands}

-- ---- the letters of a word

-- the option with this letter takes a value
abbrev pub takes_value : ℕ → Bool
takes_value b = list_any (λ c. b == c) (codes "efmABCdDgtM")

abbrev pub is_digit : ℕ → Bool
is_digit b = nat_lt 47 b && nat_lt b 58

-- What was read of a word of letters, without its dash.
pub record Letters : Type 0 where
  -- the letters without the digits that are numbers, and a value that follows them
  pub letters : List ℕ
  -- the last digits that are a number: in -1n2 they are 2
  pub number : List ℕ
  -- the last byte was a digit of the number
  pub in_number : Bool
  -- a letter takes what follows it as its value
  pub has_value : Bool
  -- nothing follows that letter, so that the next word is its value
  pub awaits : Bool

abbrev pub no_letters : Letters
no_letters = record { letters = []; number = []; in_number = false; has_value = false; awaits = false }

-- a digit of a number, which continues the number before it
abbrev pub with_digit : Letters → ℕ → Letters
with_digit s b = record s { number = (if s.in_number then s.number else []) ++ b ∷ []; in_number = true }

abbrev pub with_letter : Letters → ℕ → Letters
with_letter s b = record s {
  letters = s.letters ++ b ∷ [];
  in_number = false;
  has_value = takes_value b;
  awaits = takes_value b;
}

-- one more byte
abbrev pub add_byte : Letters → ℕ → Letters
add_byte s b =
    if s.has_value then record s { letters = s.letters ++ b ∷ []; awaits = false }
    else if is_digit b then with_digit s b
    else with_letter s b

abbrev pub add_bytes : Letters → List ℕ → Letters
add_bytes s [] = s
add_bytes s (b ∷ bs) = add_bytes (add_byte s b) bs

-- the part of the code that holds this
abbrev pub letters_of : Cluster → Letters
letters_of c = record {
  letters = c.letters.items;
  number = c.number.items;
  in_number = c.in_number;
  has_value = c.has_value;
  awaits = c.awaits;
}

abbrev pub is_none : List ℕ → Bool
is_none bs = length bs == 0

-- the words that stand for letters with a number, or the word as it was if there is no number
abbrev pub option_words : List ℕ → Letters → List (List ℕ)
option_words word s =
    if is_none s.number then word ∷ []
    else if is_none s.letters then (codes "-C" ++ s.number) ∷ []
    else (codes "-C" ++ s.number) ∷ (codes "-" ++ s.letters) ∷ []

-- ---- words

-- one of the options that choose files, or limit what is read of them, and that GNU grep doesn't have
abbrev pub is_awaiting_choice : List ℕ → Bool
is_awaiting_choice w =
    bytes_eq w (codes "--iglob") || (bytes_eq w (codes "--ignore-file") || (bytes_eq w (codes "--max-filesize")
    || (bytes_eq w (codes "--max-size") || (bytes_eq w (codes "--type-add") || bytes_eq w (codes "--type-clear")))))

-- one of the options that choose files
abbrev pub is_awaiting_file : List ℕ → Bool
is_awaiting_file w =
    bytes_eq w (codes "--include") || (bytes_eq w (codes "--exclude") || (bytes_eq w (codes "--exclude-from")
    || (bytes_eq w (codes "--exclude-dir") || (bytes_eq w (codes "--glob") || (bytes_eq w (codes "--max-depth") || (bytes_eq w (codes "--sort")
    || (bytes_eq w (codes "--type") || (bytes_eq w (codes "--type-not") || is_awaiting_choice w))))))))

-- one of the options on separators
abbrev pub is_awaiting_separator : List ℕ → Bool
is_awaiting_separator w =
    bytes_eq w (codes "--group-separator") || (bytes_eq w (codes "--field-match-separator")
    || (bytes_eq w (codes "--field-context-separator") || bytes_eq w (codes "--path-separator")))

-- one of the options on the format of what is printed, or on what is printed of files with zero bytes
abbrev pub is_awaiting_format : List ℕ → Bool
is_awaiting_format w =
    is_awaiting_separator w
    || (bytes_eq w (codes "--max-columns") || (bytes_eq w (codes "--replace") || (bytes_eq w (codes "--binary-files") || bytes_eq w (codes "--encoding"))))

-- a long option whose value is the next word
abbrev pub is_awaiting : List ℕ → Bool
is_awaiting w =
    bytes_eq w (codes "--regexp") || (bytes_eq w (codes "--file") || (bytes_eq w (codes "--directory")
    || (bytes_eq w (codes "--max-count") || (bytes_eq w (codes "--after-context") || (bytes_eq w (codes "--before-context")
    || (bytes_eq w (codes "--context") || (bytes_eq w (codes "--label") || (bytes_eq w (codes "--directories")
    || (bytes_eq w (codes "--devices") || (is_awaiting_format w || is_awaiting_file w))))))))))

-- what may follow a word of letters
abbrev pub after_letters : Letters → Next
after_letters s = if s.awaits then Value else AnyWord

-- a dash, and then something else than a dash
abbrev pub has_letters : List ℕ → Bool
has_letters [] = false
has_letters (a ∷ []) = false
has_letters (a ∷ b ∷ bs) = a == 45 && not (b == 45)

-- the word without its dash
abbrev pub letters_in : List ℕ → List ℕ
letters_in [] = []
letters_in (a ∷ bs) = bs

-- what may follow a word that isn't one of letters
abbrev pub after_other : List ℕ → Next
after_other w =
    if bytes_eq w (codes "--") then Operands
    else if is_awaiting w then Value
    else AnyWord

-- the words that stand for a word, and what may follow
abbrev pub words_for : Next → List ℕ → List (List ℕ)
words_for AnyWord w = if has_letters w then option_words w (add_bytes no_letters (letters_in w)) else w ∷ []
words_for Value w = w ∷ []
words_for Operands w = w ∷ []

abbrev pub next_word : Next → List ℕ → Next
next_word AnyWord w = if has_letters w then after_letters (add_bytes no_letters (letters_in w)) else after_other w
next_word Value w = AnyWord
next_word Operands w = Operands

-- all words, with -C before each number that is an option of its own
abbrev pub with_numbers : Next → List (List ℕ) → List (List ℕ)
with_numbers next [] = []
with_numbers next (w ∷ ws) = words_for next w ++ with_numbers (next_word next w) ws
