-- The unanchored prefix, which precedes the patterns: a state that goes on at each offset, past any bytes.
use Rattle.std.specs.Prelude.{◌≡◌, ℕ, ◌+◌, ◌<◌, ◌≤◌, [], ◌∷◌, length}
use Rattle.nfa_core.specs.BuilderStates.{Assembly, empty_draft, sparse_draft, union_reverse_draft, draft_at}
use Rattle.thompson_nfa.specs.Compiled.{sum_of_bytes}

-- Three states were added. The first, `u`, reads any byte and comes back; it is led on later, to what is preferred.
pub record HasPrefix (old new : Assembly) (u : ℕ) : Type 0 where
  pub settings : new ≡ record old { drafts = new.drafts }
  pub is : u ≡ length old.drafts
  pub size : length new.drafts ≡ length old.drafts + 3
  pub same : (q : ℕ) → q < length old.drafts → draft_at new.drafts q ≡ draft_at old.drafts q
  pub loop : draft_at new.drafts u ≡ union_reverse_draft ((u + 2) ∷ [])
  pub back : draft_at new.drafts (u + 1) ≡ empty_draft u
  pub any : draft_at new.drafts (u + 2) ≡ sparse_draft ((0, 255, u + 1) ∷ [])
  pub bytes : sum_of_bytes new ≤ sum_of_bytes old + 88
