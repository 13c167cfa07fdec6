-- The names of files as they are printed, and the separators that options give.
use Rattle.std.specs.Prelude.{◌≡◌, ℕ, ◌==◌, List, [], ◌∷◌, ◌++◌, encode_utf8, if◌then◌else◌, Option, option_map, string_bytes}
use Rattle.std.specs.List.{slice_split}
use Rattle.clap.specs.Words.{first_value}
use Rattle.clap.specs.declared.parser.matches.Found.{Found}
use Rattle.grep_options.specs.Escapes.{unescaped}
use Rattle.grep_core.specs.declared.output_options.Print.{Print}
use Rattle.hirgrep_main.specs.Decisions.{prints_nothing}
use Rattle.hirgrep_main.specs.GrepColors.{codes_of, colors_given}
use Rattle.hirgrep_main.specs.declared.options.asked.Texts.{Texts}
use Rattle.hirgrep_main.specs.declared.options.texts.GivenTexts.{GivenTexts}

-- The parts of a name, with this text between each two.
abbrev pub joined_parts : List ℕ → List (List ℕ) → List ℕ
joined_parts separator [] = []
joined_parts separator (part ∷ []) = part
joined_parts separator (part ∷ next ∷ parts) = part ++ (separator ++ joined_parts separator (next ∷ parts))

-- --path-separator: a name with this text instead of each slash, 47.
abbrev pub separated_name : List ℕ → List ℕ → List ℕ
separated_name separator name = joined_parts separator (slice_split (λ b. b == 47) name)

-- --files: what is printed for a file with this name, which this character ends.
abbrev pub listed_name : Print → List ℕ → ℕ → List ℕ
listed_name print name end = if prints_nothing print then [] else name ++ encode_utf8 end

-- --field-match-separator, --field-context-separator: a text in which escapes stand for bytes.
abbrev pub separator_given : Found → List ℕ → Option (List ℕ)
separator_given f name = option_map unescaped (first_value f name)

-- What is borrowed is what the command line and the environment hold.
pub record AreTexts (given : GivenTexts) (texts : Texts) : Type 0 where
  pub colors : codes_of texts.colors ≡ colors_given (option_map string_bytes given.old_colors) (option_map string_bytes given.colors)
  pub match_separator : option_map (λ t. t.now) texts.match_separator ≡ option_map (λ v. v.items) given.match_separator
  pub context_separator : option_map (λ t. t.now) texts.context_separator ≡ option_map (λ v. v.items) given.context_separator
