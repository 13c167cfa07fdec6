-- Where steps and fragments put their states, as orders of numbers alone: `omega` can use these directly.
use Rattle.std.proofs.Common.{◌≡◌, ℕ, ◌+◌, ◌<◌, ◌≤◌, length}
use Rattle.search_types.specs.Groups.{Groups}
use Rattle.nfa_core.specs.BuilderStates.{DraftNode, Assembly}
use Rattle.thompson_nfa.specs.Compiled.{Makes}
use Rattle.thompson_nfa.specs.Added.{AddsDraft}

abbrev pub AddedAt : Assembly → Assembly → ℕ → Type 0
AddedAt a b id = (id ≡ length a.drafts) × (length b.drafts ≡ length a.drafts + 1)

pub added_at : {a b : Assembly} {id : ℕ} {draft : DraftNode} {groups : Groups} → AddsDraft a b id draft groups → AddedAt a b id
added_at x = (x.is, x.size)

abbrev pub MadeAt : Assembly → Assembly → ℕ → ℕ → Type 0
MadeAt a b s e = (length a.drafts ≤ length b.drafts) × (length a.drafts ≤ s) × (s < length b.drafts) × (length a.drafts ≤ e) ×
    (e < length b.drafts)

pub made_at : {a b : Assembly} {s e n : ℕ} → Makes a b s e n → MadeAt a b s e
made_at m = let f = m.fragment in (f.grows.longer, f.start_new, f.start_there, f.end_new, f.end_there)

-- a state is led on
abbrev pub LedAt : Assembly → Assembly → Type 0
LedAt a b = length b.drafts ≡ length a.drafts
