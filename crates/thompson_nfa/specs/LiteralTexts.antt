-- The states of a text.
use Rattle.std.specs.Prelude.{◌≡◌, ◌⊎◌, ℕ, ◌+◌, ◌*◌, ◌≤◌, ◌<◌, Bool, true, List, length, None}
use Rattle.search_core.specs.Index.{greatest_index}
use Rattle.nfa_core.specs.BuilderStates.{Assembly, draft_at}
use Rattle.nfa_core.specs.Drafted.{Table}
use Rattle.nfa_core.specs.Renaming.{stands_for}
use Rattle.thompson_nfa.specs.Compiled.{Grows, AllTame, Weighs, sum_of_bytes}
use Rattle.thompson_nfa.specs.Denotes.{Denotes}
use Rattle.thompson_nfa.specs.LiteralStates.{literals}
use Rattle.thompson_nfa.specs.LiteralStems.{after_prefix}

-- A state was added for each byte of the text. Suppose that from the state `next` on the table does what some strings mean. Then
-- from the first added state on it does what these strings mean after the text.
pub record AddsText (old new : Assembly) (next : ℕ) (text : List ℕ) (id : ℕ) : Type 0 where
  pub grows : Grows old new
  pub groups : new.groups ≡ old.groups
  pub states : length new.drafts ≡ length old.drafts + length text
  pub bytes : sum_of_bytes new + 4096 * length old.drafts ≤ sum_of_bytes old + 4096 * length new.drafts
  pub weighs : Weighs old new (24 * length text)
  pub numbered : length old.drafts ≤ greatest_index + 1 → length new.drafts ≤ greatest_index + 1
  pub tame : AllTame true (length old.drafts) new
  pub stands : (q : ℕ) → length old.drafts ≤ q → q < length new.drafts → stands_for (draft_at new.drafts q) ≡ None
  pub there : (id ≡ next) ⊎ ((length old.drafts ≤ id) × (id < length new.drafts))
  pub denotes : (back : Bool) (table : Table) → ((q : ℕ) → length old.drafts ≤ q → q < length new.drafts →
      table q ≡ draft_at new.drafts q) → (end : ℕ) (strings : List (List ℕ)) →
      Denotes back table next end (literals back strings) → Denotes back table id end (literals back (after_prefix text strings))
