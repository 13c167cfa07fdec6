-- The definitions of starts and of what is known by them: values worked out by hand from their tables.
use Rattle.std.proofs.Common.{◌≡◌, ℕ, Bool, true, false, List, [], ◌∷◌, map, Some, None, refl}
use Rattle.look_core.specs.LookSets.{full_set}
use Rattle.look_core.specs.Terminators.{Terminator, one_of, two_of}
use Rattle.determinize_core.specs.Starts.{start_of}
use Rattle.determinize_core.specs.LookBehind.{families_of, look_behind}
use Rattle.determinize_core.specs.declared.lookbehind.LookBehind.{LookBehind}
use Rattle.determinize_core.specs.declared.start.Start.{Start}
use Rattle.determinize_core.specs.declared.start.Start.TheVariants.{NonWordByte, WordByte, Text, LineLF, LineCR, CustomLineTerminator}
use Rattle.determinize_core.specs.declared.start.Start.TheVariants.{CustomWordLineTerminator}

-- no byte, and those of the line feed, the carriage return, `;`, `a` and the space
abbrev starts : Terminator → List Start
starts t = map (start_of t) (None ∷ Some 0x0A ∷ Some 0x0D ∷ Some 0x3B ∷ Some 0x61 ∷ Some 0x20 ∷ [])

starts_at_line_feeds : starts (one_of 0x0A) ≡ Text ∷ LineLF ∷ LineCR ∷ NonWordByte ∷ WordByte ∷ NonWordByte ∷ []
starts_at_line_feeds = refl

starts_at_semicolons : starts (one_of 0x3B) ≡ Text ∷ LineLF ∷ LineCR ∷ CustomLineTerminator ∷ WordByte ∷ NonWordByte ∷ []
starts_at_semicolons = refl

starts_at_two_bytes : starts (two_of 0x61 0x0D) ≡ Text ∷ LineLF ∷ LineCR ∷ NonWordByte ∷ CustomWordLineTerminator ∷ NonWordByte ∷ []
starts_at_two_bytes = refl

starts_at_words_and_others : starts (two_of 0x61 0x3B) ≡ Text ∷ LineLF ∷ LineCR ∷ CustomLineTerminator ∷ CustomWordLineTerminator ∷
    NonWordByte ∷ []
starts_at_words_and_others = refl

-- what is known by each start, by the order of their numbers
abbrev known : ℕ → Bool → Terminator → List LookBehind
known looks reverse t =
    map (look_behind looks reverse t) (NonWordByte ∷ WordByte ∷ Text ∷ LineLF ∷ LineCR ∷ CustomLineTerminator ∷ CustomWordLineTerminator ∷
    [])

-- looks alone, those next to a word byte, and those next to the first half of a carriage return and a line feed
abbrev have : ℕ → LookBehind
have looks = record { is_from_word = false; is_half_crlf = false; look_have = looks }

abbrev word : ℕ → LookBehind
word looks = record { is_from_word = true; is_half_crlf = false; look_have = looks }

abbrev half : ℕ → LookBehind
half looks = record { is_from_word = false; is_half_crlf = true; look_have = looks }

-- `Start` is 1, `StartLF` 4, `StartCRLF` 16, and the half starts of words are 16384 and 65536
forward_at_line_feeds : known full_set false (one_of 0x0A)
    ≡ have 81920 ∷ word 0 ∷ have 81941 ∷ have 81940 ∷ half 81920 ∷ have 81924 ∷ word 4 ∷ []
unfolding families_of
forward_at_line_feeds = refl

reverse_at_line_feeds : known full_set true (one_of 0x0A)
    ≡ have 81920 ∷ word 0 ∷ have 81941 ∷ half 81924 ∷ have 81936 ∷ have 81924 ∷ word 4 ∷ []
unfolding families_of
reverse_at_line_feeds = refl

forward_at_two_bytes : known full_set false (two_of 0x61 0x0D)
    ≡ have 81920 ∷ word 0 ∷ have 81941 ∷ have 81936 ∷ half 81924 ∷ have 81924 ∷ word 4 ∷ []
unfolding families_of
forward_at_two_bytes = refl

reverse_at_two_bytes : known full_set true (two_of 0x61 0x0D)
    ≡ have 81920 ∷ word 0 ∷ have 81941 ∷ half 81920 ∷ have 81940 ∷ have 81924 ∷ word 4 ∷ []
unfolding families_of
reverse_at_two_bytes = refl

-- an automaton of no looks, one of `End` and `EndCRLF`, and one of `EndLF` and `WordEndAscii`
no_looks : known 0 false (one_of 0x0A) ≡ have 0 ∷ have 0 ∷ have 0 ∷ have 0 ∷ have 0 ∷ have 0 ∷ have 0 ∷ []
unfolding families_of
no_looks = refl

edges_and_crlf : known 34 false (one_of 0x0A) ≡ have 0 ∷ have 0 ∷ have 17 ∷ have 16 ∷ half 0 ∷ have 0 ∷ have 0 ∷ []
unfolding families_of
edges_and_crlf = refl

lines_and_words : known 2056 true (one_of 0x0D) ≡ have 81920 ∷ word 0 ∷ have 81924 ∷ have 81920 ∷ have 81924 ∷ have 81924 ∷ word 4 ∷ []
unfolding families_of
lines_and_words = refl
