use Rattle.std.proofs.Common.{map, ap, ◌∙◌, List, subst, rules}
use Rattle.std.specs.Prelude.{Decides}
use Rattle.nfa_core.specs.BuilderStates.{Assembly, DraftNode}
use Rattle.nfa_core.specs.Drafts.{draft_of}
use Rattle.nfa_core.specs.Renaming.{HasNoLoop}
use Rattle.nfa_core.proofs.CheckLemmas.{checked_can, can_checked}
use Rattle.nfa_core.proofs.builder.Builder.can_build.Goals as goal

pub returns-then-has_all-clause-can : goal.returns-then-has_all-clause-can
returns-then-has_all-clause-can c =
    let seen = ap (map draft_of) c.deref.ensures.value ∙ ap (λ (b : Assembly). b.drafts) c.self.view_is in
    let free : Decides c.has_no_loop.result (HasNoLoop c.args.self.now.drafts) =
    subst (λ (drafts : List DraftNode). Decides c.has_no_loop.result (HasNoLoop drafts)) seen c.has_no_loop.ensures in
    λ e. checked_can c.args.self.now c.args.start_anchored c.args.start_unanchored (search rules) (free.0 e)

pub returns-then-has_all-clause-only : goal.returns-then-has_all-clause-only
returns-then-has_all-clause-only c =
    let seen = ap (map draft_of) c.deref.ensures.value ∙ ap (λ (b : Assembly). b.drafts) c.self.view_is in
    let free : Decides c.has_no_loop.result (HasNoLoop c.args.self.now.drafts) =
    subst (λ (drafts : List DraftNode). Decides c.has_no_loop.result (HasNoLoop drafts)) seen c.has_no_loop.ensures in
    λ can. free.1 can.no_loop

pub returns-else-has_all-clause-only : goal.returns-else-has_all-clause-only
returns-else-has_all-clause-only c = λ can. c.has_all.ensures ∙ can_checked c.args.self.now c.args.start_anchored c.args.start_unanchored
    can
