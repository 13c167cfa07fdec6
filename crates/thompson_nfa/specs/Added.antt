-- What one step of a compile does to a builder: a state is added, or one is led on.
use Rattle.std.specs.Prelude.{◌≡◌, ◌≢◌, ℕ, ◌+◌, ◌≤◌, length}
use Rattle.search_core.specs.Index.{greatest_index}
use Rattle.search_types.specs.Groups.{Groups}
use Rattle.nfa_core.specs.BuilderStates.{DraftNode, Assembly, draft_at, patched, draft_bytes}
use Rattle.thompson_nfa.specs.Compiled.{Grows, sum_of_bytes, way_at}

-- the state comes last, and the groups are these
pub record AddsDraft (old new : Assembly) (id : ℕ) (draft : DraftNode) (groups : Groups) : Type 0 where
  pub is : id ≡ length old.drafts
  pub size : length new.drafts ≡ length old.drafts + 1
  pub grows : Grows old new
  pub here : draft_at new.drafts id ≡ draft
  pub bytes : sum_of_bytes new ≡ sum_of_bytes old + draft_bytes draft
  pub numbered : length new.drafts ≤ greatest_index + 1
  pub groups_are : new.groups ≡ groups

-- the state `from` has one more way, to `to`
pub record Led (old new : Assembly) (from to : ℕ) : Type 0 where
  pub settings : new ≡ record old { drafts = new.drafts }
  pub size : length new.drafts ≡ length old.drafts
  pub here : draft_at new.drafts from ≡ patched to (draft_at old.drafts from)
  pub same : (q : ℕ) → q ≢ from → draft_at new.drafts q ≡ draft_at old.drafts q
  pub bytes : sum_of_bytes new ≤ sum_of_bytes old + 4
  pub takes : sum_of_bytes new ≡ sum_of_bytes old + way_at old from
  pub ways : (q : ℕ) → way_at new q ≡ way_at old q
