-- What comes before the patterns, as its states are added one after the other.
use Rattle.std.proofs.Common.{◌≡◌, ℕ, ap, ◌∙◌}
use Rattle.nfa_core.specs.BuilderStates.{DraftNode, Assembly}
use Rattle.thompson_nfa.specs.Added.{AddsDraft}

pub settings_added : (old new : Assembly) (id : ℕ) (draft : DraftNode) → AddsDraft old new id draft old.groups →
    new ≡ record old { drafts = new.drafts }
settings_added old new id draft a = a.grows.settings ∙ ap (λ gs. record old { drafts = new.drafts; groups = gs }) a.groups_are
