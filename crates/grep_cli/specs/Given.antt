-- The patterns and the files that a command line gives.
use Rattle.std.specs.Prelude.{◌≡◌, ℕ, ◌==◌, Bool, ◌||◌, List, [], ◌∷◌, ◌++◌, drop, length, codes, is_some, Option, Some, None, if◌then◌else◌}
use Rattle.std.specs.List.{flat_map, slice_split}
use Rattle.std.specs.Str.Lines.{lines}
use Rattle.clap.specs.Words.{matched_of}
use Rattle.clap.specs.declared.parser.matches.Found.{Found}
use Rattle.grep_options.specs.Options.{values_given}

-- The patterns in a text, one on each line.
abbrev pub lines_as_patterns : List ℕ → List (List ℕ)
lines_as_patterns text = slice_split (λ b. b == 10) text

abbrev pub without_last_feed : List ℕ → List ℕ
without_last_feed [] = []
without_last_feed (b ∷ []) = if b == 10 then [] else b ∷ []
without_last_feed (b ∷ c ∷ more) = b ∷ without_last_feed (c ∷ more)

-- The lines of a file. Its last line feed begins no line, and an empty file has no lines.
abbrev pub file_lines : List ℕ → List (List ℕ)
file_lines [] = []
file_lines (b ∷ more) = lines_as_patterns (without_last_feed (b ∷ more))

-- The patterns in a file. With `crlf`, one carriage return right before a line feed belongs to the end of the line.
abbrev pub patterns_of_file : Bool → List ℕ → List (List ℕ)
patterns_of_file crlf text = if crlf then lines text else file_lines text

-- Whether -e or -f was given, so that all operands are files.
abbrev pub gives_patterns : Found → Bool
gives_patterns f = is_some (matched_of f (codes "regexp")) || is_some (matched_of f (codes "file"))

-- The patterns of -e, followed by those in the contents of files. There are as many contents as files were given with -f.
abbrev pub ArePatterns : Bool → Found → List (List ℕ) → Type 0
ArePatterns crlf f patterns = (texts : List (List ℕ)) × (length texts ≡ length (values_given f (codes "file")))
    × (patterns ≡ flat_map lines_as_patterns (values_given f (codes "regexp")) ++ flat_map (patterns_of_file crlf) texts)

-- The patterns in the first operand, one on each line, if there is an operand.
abbrev pub operand_patterns : List (List ℕ) → Option (List (List ℕ))
operand_patterns [] = None
operand_patterns (word ∷ words) = Some (lines_as_patterns word)

-- The operands that name files. Without -e and -f the first operand is a pattern, unless files are listed.
abbrev pub files_named : Found → Bool → List (List ℕ)
files_named f lists =
    if lists || gives_patterns f then values_given f (codes "words") else drop 1 (values_given f (codes "words"))
