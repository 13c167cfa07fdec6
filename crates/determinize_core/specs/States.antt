-- What contracts see of a powerset state: the states of an NFA that a search is in, in order of preference, with what is known of the
-- offset. Its bytes are laid out by `encoded`.
use Rattle.std.specs.Prelude.{ℕ, ◌≤◌, Bool, false, List, [], ◌∷◌, All, nat_eq}
use Rattle.std.specs.List.{IsDistinct}
use Rattle.search_core.specs.Index.{greatest_index}
use Rattle.look_core.specs.LookSets.{IsLookSet}

pub record StateValue : Type 0 where
  pub is_from_word : Bool  -- whether the byte before the offset is a word byte
  pub is_half_crlf : Bool  -- whether it is the half of a CRLF whose other half may follow
  pub look_have : ℕ  -- the looks that are known to hold at the offset
  pub look_need : ℕ  -- the looks of its states
  pub matches : List ℕ  -- the patterns that match, the preferred one first
  pub ids : List ℕ  -- the states of the NFA, the preferred ones first

-- no flags, looks, patterns and states
abbrev pub dead : StateValue
dead = record { is_from_word = false; is_half_crlf = false; look_have = 0; look_need = 0; matches = []; ids = [] }

-- what holds of every state
pub record IsState (v : StateValue) : Type 0 where
  pub have : IsLookSet v.look_have
  pub need : IsLookSet v.look_need
  pub patterns : All (λ p. p ≤ greatest_index) v.matches
  pub once : IsDistinct nat_eq v.matches
  pub states : All (λ q. q ≤ greatest_index) v.ids

-- the last one of states, or 0 (`before`) if there is none
abbrev pub last_id : ℕ → List ℕ → ℕ
last_id before [] = before
last_id before (q ∷ qs) = last_id q qs
