-- Lists of matches, whatever the loops of the patterns consume: what each row says, in terms of one search after the other.
use Rattle.std.specs.Prelude.{◌≡◌, ◌≢◌, ℕ, ◌+◌, Bool, true, List, [], ◌∷◌, Option, Some, None, IfSome, length, option_map, ⊤}
use Rattle.std.specs.Prelude.{Result, IfErr, IfOk}
use Rattle.regex_hir.specs.Re.{Re}
use Rattle.regex_hir.specs.Meaning.{alt_all}
use Rattle.regex_syntax.specs.declared.Config.{Config}
use Rattle.pattern_search.specs.Searches.{found_from, IsOfFirstPattern}
use Rattle.pattern_search.specs.Texts.{AreReadAs}
use Rattle.meta_regex.specs.declared.found_match.FoundMatch.{FoundMatch}
use Rattle.meta_regex.specs.declared.errors.SearchError.{SearchError}
use Rattle.meta_regex.specs.Regexes.{AreAll, AreFirstOfAll, IsSearchError, as_found, overlaid}

-- A search from this offset finds this: it starts where the toolchain's matcher finds the leftmost match, and is a match of the first
-- pattern that matches there. Which of that pattern's ends it has is left open.
pub record IsFoundFrom (utf8 : Bool) (res : List Re) (h : List ℕ) (at : ℕ) (o : Option FoundMatch) : Type 0 where
  pub start : option_map (λ m. m.start) (found_from utf8 (alt_all res) h at) ≡ option_map (λ f. f.start) o
  pub pattern : IfSome o (λ f. IsOfFirstPattern res h (as_found f))

-- The match that follows one with this end, or none: what a search from there finds, unless that is an empty match right there. Then
-- the empty match is skipped, and it is what a search from the next offset finds.
pub data IsNextMatch (utf8 : Bool) (res : List Re) (h : List ℕ) (end : ℕ) (o : Option FoundMatch) : Type 0 where
  found_there : IsFoundFrom utf8 res h end o → IfSome o (λ f. f.end ≢ end) → IsNextMatch utf8 res h end o
  found_later : (skipped : FoundMatch) → skipped.end ≡ end → IsFoundFrom utf8 res h end (Some skipped) →
      IsFoundFrom utf8 res h (end + 1) o → IsNextMatch utf8 res h end o

-- The match that follows one with this end, or none, for what the patterns are parsed as.
abbrev pub IsNextListed : Config → List (List ℕ) → List ℕ → ℕ → Option FoundMatch → Type 0
IsNextListed config texts h end o = (res : List Re) → AreReadAs config texts res → IsNextMatch config.utf8 res h end o

-- the first match, or the one that follows a match with this end
abbrev pub ComesNext : Bool → List Re → List ℕ → Option ℕ → Option FoundMatch → Type 0
ComesNext utf8 res h None o = IsFoundFrom utf8 res h 0 o
ComesNext utf8 res h (Some end) o = IsNextMatch utf8 res h end o

-- each of these matches comes next after the one before it
abbrev pub AreInOrder : Bool → List Re → List ℕ → Option ℕ → List FoundMatch → Type 0
AreInOrder utf8 res h last [] = ⊤
AreInOrder utf8 res h last (f ∷ fs) = ComesNext utf8 res h last (Some f) × AreInOrder utf8 res h (Some f.end) fs

-- the end of the last of these matches, where there is one
abbrev pub end_of_last : Option ℕ → List FoundMatch → Option ℕ
end_of_last last [] = last
end_of_last last (f ∷ fs) = end_of_last (Some f.end) fs

-- `n` matches are in order from the first one on. They are in the rows as far as these have room, and the rows after them are unchanged.
pub record AreFirstListed (config : Config) (texts : List (List ℕ)) (h : List ℕ) (n : ℕ) (old new : List FoundMatch) : Type 0 where
  pub matches : List FoundMatch
  pub count : n ≡ length matches
  pub rows : new ≡ overlaid matches old
  pub in_order : (res : List Re) → AreReadAs config texts res → AreInOrder config.utf8 res h None matches

-- In addition, no match follows the last of them.
pub record AreListed (config : Config) (texts : List (List ℕ)) (h : List ℕ) (n : ℕ) (old new : List FoundMatch) : Type 0 where
  pub first : AreFirstListed config texts h n old new
  pub none_left : (res : List Re) → AreReadAs config texts res → ComesNext config.utf8 res h (end_of_last None first.matches) None

-- What a call returns that lists all matches: how many there are, and whether a search failed. The first of them are in the rows. If a search
-- fails, these are the matches before it.
pub record ListsAll (config : Config) (texts : List (List ℕ)) (loops : Bool) (h : List ℕ) (old new : List FoundMatch)
    (result : ℕ × Result ⊤ SearchError) : Type 0 where
  pub all : loops ≡ true → IfOk result.1 (λ _. AreAll config texts h result.0 old new)
  pub first : loops ≡ true → IfErr result.1 (λ _. AreFirstOfAll config texts h result.0 old new)
  pub listed : IfOk result.1 (λ _. AreListed config texts h result.0 old new)
  pub begun : IfErr result.1 (λ _. AreFirstListed config texts h result.0 old new)
  pub refused : IfErr result.1 (IsSearchError config h)
