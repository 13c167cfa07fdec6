-- The values of several options that choose files, in the order in which they were given.
use Rattle.std.specs.Prelude.{ℕ, ◌+◌, nat_lt, List, [], ◌∷◌, ◌++◌, codes, take, drop, slice_index, unwrap_or, option_map, if◌then◌else◌}
use Rattle.clap.specs.Words.{matched_of}
use Rattle.clap.specs.declared.parser.matches.Found.{Found}
use Rattle.grep_options.specs.Options.{values_given}
use Rattle.grep_options.specs.declared.files.FileOption.{FileOption}
use Rattle.grep_options.specs.declared.files.FileOption.TheVariants.{Include, Exclude, ExcludeFrom}
use Rattle.grep_options.specs.declared.files.FileValue.{FileValue}

-- ---- the values of several options in their order

-- a value, the option that it is of, and its position among the words
pub record Given : Type 0 where
  pub index : ℕ
  pub option : FileOption
  pub text : List ℕ

abbrev pub given_of : FileValue → Given
given_of v = record { index = v.index; option = v.option; text = v.text.now }

-- how many of the values come before this position
abbrev pub earlier : ℕ → List Given → ℕ
earlier index [] = 0
earlier index (v ∷ vs) = if nat_lt v.index index then 1 + earlier index vs else 0

-- one more value, in its position
abbrev pub with_value : Given → List Given → List Given
with_value v vs = take (earlier v.index vs) vs ++ v ∷ drop (earlier v.index vs) vs

-- the values of an option, with their positions from the offset `at` on
abbrev pub with_values : FileOption → List ℕ → ℕ → List (List ℕ) → List Given → List Given
with_values option indices at [] vs = vs
with_values option indices at (text ∷ texts) vs =
    with_values option indices (at + 1) texts (with_value (record { index = slice_index indices at; option = option; text = text }) vs)

-- the positions of the values of an option
abbrev pub indices_given : Found → List ℕ → List ℕ
indices_given f name = unwrap_or (option_map (λ a. a.indices.items) (matched_of f name)) []

abbrev pub with_option : Found → FileOption → List ℕ → List Given → List Given
with_option f option name vs = with_values option (indices_given f name) 0 (values_given f name) vs

-- the values of --include, --exclude and --exclude-from, in the order in which they were given
abbrev pub file_values : Found → List Given
file_values f =
    with_option f ExcludeFrom (codes "exclude-from") (with_option f Exclude (codes "exclude") (with_option f Include (codes "include") []))
