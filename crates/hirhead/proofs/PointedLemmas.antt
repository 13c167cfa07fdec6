-- The line of an offset, by what std says of the first and the last line feed.
use Rattle.std.proofs.Common.{◌≡◌, ℕ, List, ◌∷◌, ◌++◌, take, drop, sym, ap, ◌∙◌, arith}
use Rattle.std.proofs.Common.{take-append-drop}
use Rattle.std.specs.Str.Pattern.{FindsChar, RFindsChar, HasCharAt, SplitsAroundMatch}
use Rattle.std.proofs.lemmas.Str.Pattern.{drop_at_char}
use Rattle.hirhead.specs.Pointed.{IsLastLine, behind_feed, IsFirstLine, before_feed}

parted : (text : List ℕ) (i j : ℕ) → HasCharAt 10 text i j → text ≡ take i text ++ 10 ∷ drop j text
parted text i j h = sym (take-append-drop i text) ∙ ap (λ (t : List ℕ). take i text ++ t) (drop_at_char 10 text i j h (omega arith))

pub last_of_match : (text front back : List ℕ) → SplitsAroundMatch (RFindsChar 10) text front back → IsLastLine text back
last_of_match text front back m =
    let found = m.2 in
    let back_is = m.4 in
    behind_feed (take m.0 text) (parted text m.0 m.1 found.1 ∙ ap (λ (t : List ℕ). take m.0 text ++ 10 ∷ t) (sym back_is))
    (rw back_is found.0)

pub first_of_match : (text front back : List ℕ) → SplitsAroundMatch (FindsChar 10) text front back → IsFirstLine text front
first_of_match text front back m =
    let found = m.2 in
    let front_is = m.3 in
    before_feed (drop m.1 text) (parted text m.0 m.1 found.1 ∙ ap (λ (t : List ℕ). t ++ 10 ∷ drop m.1 text) (sym front_is))
    (rw front_is found.0)
