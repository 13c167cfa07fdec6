use Rattle.std.proofs.Common.{ℕ, ◌∷◌, [], ◌≡◌, ◌≤◌, length, ap, sym, subst, refl, ◌∙◌, map}
use Rattle.std.proofs.lemmas.List.{map-append, length-map}
use Rattle.search_core.specs.Index.{greatest_index}
use Rattle.nfa_core.specs.BuilderFaults.{limit_fault, ReportsFaultOf}
use Rattle.nfa_core.specs.BuilderStates.{bytes_of_drafts, Assembly}
use Rattle.nfa_core.specs.Drafts.{draft_of}
use Rattle.nfa_core.specs.InOrder.{patterns_of}
use Rattle.nfa_core.proofs.OrderLemmas.{order_added}
use Rattle.nfa_core.proofs.AddedLemmas.{refused, no_name, bytes_added, fault_in_room, drafts_kept, drafts_added}
use Rattle.nfa_core.specs.declared.build_error.BuildError.TheVariants.{NoMemory}
use Rattle.nfa_core.proofs.builder.Builder.add.Goals as goal

pub returns-in_default : goal.returns-in_default
returns-in_default c =
    let drafts = c.self.inside.drafts.items in (
      refl,
      no_name c.args.self.now (draft_of c.args.draft) c.len.result
          (c.len.ensures ∙ c.self.inside.drafts.ok.0 ∙ sym (length-map drafts draft_of)
          ∙ ap (λ (b : Assembly). length b.drafts) c.self.view_is)
          c.in_default.ensures.0,
    )

pub returns-in_err-check_limit : goal.returns-in_err-check_limit
returns-in_err-check_limit c =
    let drafts = c.self.inside.drafts.items in
    let bytes =
    bytes_added draft_of drafts (draft_of c.args.draft) c.self.inside.memory c.memory_usage.result c.saturating_add-memory.result
    c.saturating_add-memory.ensures c.self.invariant.0 c.memory_usage.ensures in
    let fault =
    fault_in_room draft_of drafts (draft_of c.args.draft) c.args.self.now c.self.inside.size_limit c.saturating_add-memory.result
    (ap (λ (b : Assembly). b.drafts) c.self.view_is) (ap (λ (b : Assembly). b.size_limit) c.self.view_is)
    (subst (λ (n : ℕ). n ≤ greatest_index) (c.len.ensures ∙ c.self.inside.drafts.ok.0) c.in-Ok.ensures.0) bytes in
    refused _ _ c.from_residual.result c.in_err-check_limit.field-0.0 c.from_residual.ensures.1
    (refl, subst (ReportsFaultOf c.in_err-check_limit.field-0.0) (sym fault) c.in_err-check_limit.ensures.0)

pub invariant_of-self : goal.invariant_of-self
invariant_of-self c = rw c.in_err-push.ensures.items c.self.invariant

pub returns-in_err-push : goal.returns-in_err-push
returns-in_err-push c =
    let drafts = c.self.inside.drafts.items in
    let bytes =
    bytes_added draft_of drafts (draft_of c.args.draft) c.self.inside.memory c.memory_usage.result c.saturating_add-memory.result
    c.saturating_add-memory.ensures c.self.invariant.0 c.memory_usage.ensures in
    let fault =
    fault_in_room draft_of drafts (draft_of c.args.draft) c.args.self.now c.self.inside.size_limit c.saturating_add-memory.result
    (ap (λ (b : Assembly). b.drafts) c.self.view_is) (ap (λ (b : Assembly). b.size_limit) c.self.view_is)
    (subst (λ (n : ℕ). n ≤ greatest_index) (c.len.ensures ∙ c.self.inside.drafts.ok.0) c.in-Ok.ensures.0) bytes in
    refused _ _ c.from_residual-in_err-push.result NoMemory c.from_residual-in_err-push.ensures.1
    (drafts_kept _ _ _ c.self.view_is (ap (map draft_of) c.in_err-push.ensures.items), fault ∙ c.in_ok-check_limit.ensures)

pub invariant_of-self-2 : goal.invariant_of-self-2
invariant_of-self-2 c =
    let own = c.self.invariant in
    let drafts = c.self.inside.drafts.items in
    let pushed = c.in_ok-push.ensures.items in
    let bytes =
    bytes_added draft_of drafts (draft_of c.args.draft) c.self.inside.memory c.memory_usage.result c.saturating_add-memory.result
    c.saturating_add-memory.ensures own.0 c.memory_usage.ensures in (
      bytes ∙ sym (ap bytes_of_drafts (ap (map draft_of) pushed ∙ map-append draft_of drafts (c.args.draft ∷ []))),
      own.1,
      order_added draft_of drafts c.push.new.self.items c.args.draft
          (patterns_of c.self.inside.is_open c.self.inside.starts.items) c.self.inside.size_limit pushed own.2
          (rw (← c.self.view_is) at c.requires)
          (subst (λ (n : ℕ). n ≤ greatest_index) (c.len.ensures ∙ c.self.inside.drafts.ok.0) c.in-Ok.ensures.0)
          (sym (ap (limit_fault c.self.inside.size_limit) bytes) ∙ c.in_ok-check_limit.ensures),
    )

pub returns : goal.returns
returns c =
    let drafts = c.self.inside.drafts.items in
    let bytes =
    bytes_added draft_of drafts (draft_of c.args.draft) c.self.inside.memory c.memory_usage.result c.saturating_add-memory.result
    c.saturating_add-memory.ensures c.self.invariant.0 c.memory_usage.ensures in
    let seen : map draft_of drafts ≡ c.args.self.now.drafts = ap (λ (b : Assembly). b.drafts) c.self.view_is in
    let fault =
    fault_in_room draft_of drafts (draft_of c.args.draft) c.args.self.now c.self.inside.size_limit c.saturating_add-memory.result
    seen (ap (λ (b : Assembly). b.size_limit) c.self.view_is)
    (subst (λ (n : ℕ). n ≤ greatest_index) (c.len.ensures ∙ c.self.inside.drafts.ok.0) c.in-Ok.ensures.0) bytes in (
      c.in-Ok.ensures.1 ∙ (c.len.ensures ∙ c.self.inside.drafts.ok.0 ∙ sym (length-map drafts draft_of) ∙ ap length seen),
      drafts_added _ _ _ (draft_of c.args.draft) c.self.view_is
          (ap (map draft_of) c.in_ok-push.ensures.items ∙ map-append draft_of drafts (c.args.draft ∷ [])),
      fault ∙ c.in_ok-check_limit.ensures,
    )
