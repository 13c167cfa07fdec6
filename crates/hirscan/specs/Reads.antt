-- What a query reads as, and where the first fault of a text is.
use Rattle.std.specs.Prelude.{◌≡◌, ◌≢◌, ℕ, ◌+◌, List, ◌∷◌, ◌++◌, length, Some, All}
use Rattle.hirscan.specs.declared.fault.FaultKind.{FaultKind}
use Rattle.hirscan.specs.declared.fault.FaultKind.TheVariants.{NoFindLine}
use Rattle.hirscan.specs.Words.{words}
use Rattle.hirscan.specs.Takes.{QueryValue, Takes, EndsQuery}
use Rattle.hirscan.specs.LineFault.{fault}

-- no byte is a line feed
abbrev pub IsOneLine : List ℕ → Type 0
IsOneLine bytes = All (λ b. b ≢ 10) bytes

-- From this state of the query on, the first n bytes of the text are lines, each ended by a line feed. The last one is
-- a `find` line, which meets the state `found`.
pub data Reads : List ℕ → QueryValue → QueryValue → ℕ → Type 0 where
  reads_find : (text line rest : List ℕ) (at found : QueryValue) (n : ℕ) →
      text ≡ line ++ 10 ∷ rest → IsOneLine line → EndsQuery (words line) at → found ≡ at → n ≡ length line + 1 →
      Reads text at found n
  reads_line : (text line rest : List ℕ) (at after found : QueryValue) (n m : ℕ) →
      text ≡ line ++ 10 ∷ rest → IsOneLine line → Takes (words line) at after → Reads rest after found m → n ≡ length line + 1 + m →
      Reads text at found n

-- From this state of the query on, line k of the text, counted from 1, is the first faulty one, and its fault has this
-- kind.
pub data IsFaultAt : List ℕ → QueryValue → ℕ → FaultKind → Type 0 where
  no_line_feed : (text : List ℕ) (at : QueryValue) (k : ℕ) (kind : FaultKind) →
      IsOneLine text → k ≡ 1 → kind ≡ NoFindLine → IsFaultAt text at k kind
  faulty_line : (text line rest : List ℕ) (at : QueryValue) (k : ℕ) (kind : FaultKind) →
      text ≡ line ++ 10 ∷ rest → IsOneLine line → fault (words line) at ≡ Some kind → k ≡ 1 → IsFaultAt text at k kind
  faulty_later : (text line rest : List ℕ) (at after : QueryValue) (k m : ℕ) (kind : FaultKind) →
      text ≡ line ++ 10 ∷ rest → IsOneLine line → Takes (words line) at after → IsFaultAt rest after m kind → k ≡ m + 1 →
      IsFaultAt text at k kind
