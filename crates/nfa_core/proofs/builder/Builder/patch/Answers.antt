use Rattle.std.proofs.Common.{ℕ, ◌<◌, List, length, map, ap, sym, subst, refl, ◌∙◌}
use Rattle.std.proofs.lemmas.List.{length-map}
use Rattle.nfa_core.specs.BuilderFaults.{limit_fault, ReportsFaultOf, patch_fault}
use Rattle.nfa_core.specs.BuilderStates.{Assembly, DraftNode, draft_at, way_bytes, bytes_of_drafts}
use Rattle.nfa_core.specs.Drafts.{draft_of}
use Rattle.nfa_core.specs.InOrder.{patterns_of, IsInOrder}
use Rattle.nfa_core.specs.declared.build_error.BuildError.TheVariants.{the_data as BuildError}
use Rattle.nfa_core.specs.declared.building.draft.Draft.TheVariants.{the_data as Draft}
use Rattle.nfa_core.proofs.OrderLemmas.{order_patched}
use Rattle.nfa_core.proofs.AddedLemmas.{refused, way_added, way_fault, free_way, never, drafts_kept, drafts_patched}
use Rattle.nfa_core.proofs.builder.Builder.patch.Goals as goal

pub returns-in_err-check_limit-clause-value : goal.returns-in_err-check_limit-clause-value
returns-in_err-check_limit-clause-value c =
    let drafts = map draft_of c.self.inside.drafts.items in
    let inside : c.args.from < length drafts =
    subst (λ (b : Assembly). c.args.from < length b.drafts) (sym c.self.view_is) c.requires.from in
    let bytes = way_added drafts c.args.from c.args.to c.self.inside.memory c.way_memory.result c.saturating_add-memory.result inside
    c.saturating_add-memory.ensures c.self.invariant.0
    (c.way_memory.ensures ∙ ap (λ (l : List Draft). way_bytes (draft_at (map draft_of l) c.args.from)) c.deref.ensures.value) in
    let fault = way_fault _ _ c.args.from c.args.to c.saturating_add-memory.result c.self.view_is bytes in
    refused _ _ c.from_residual.result c.in_err-check_limit.field-0.0 c.from_residual.ensures.1
    (refl, subst (ReportsFaultOf c.in_err-check_limit.field-0.0) (sym fault) c.in_err-check_limit.ensures.0)

pub returns-in_err-check_limit-clause-free : goal.returns-in_err-check_limit-clause-free
returns-in_err-check_limit-clause-free c free =
    let none =
    c.way_memory.ensures
    ∙ ap (λ (l : List Draft). way_bytes (draft_at (map draft_of l) c.args.from)) c.deref.ensures.value
    ∙ ap (λ (b : Assembly). way_bytes (draft_at b.drafts c.args.from)) c.self.view_is ∙ free in
    absurd (c.in_err-check_limit.ensures.1
    (free_way (map draft_of c.self.inside.drafts.items) c.self.inside.size_limit c.self.inside.memory c.way_memory.result
    c.saturating_add-memory.result c.saturating_add-memory.ensures c.self.invariant.0 none c.self.invariant.2.within))

pub patch-requires : goal.patch-requires
patch-requires c =
    subst (λ (n : ℕ). c.args.from < n)
    (ap (λ (b : Assembly). length b.drafts) (sym c.self.view_is) ∙ length-map c.self.inside.drafts.items draft_of) c.requires.from

pub invariant_of-self : goal.invariant_of-self
invariant_of-self c = (
  c.self.invariant.0 ∙ ap bytes_of_drafts (sym c.in_err-patch.ensures.value.0),
  c.self.invariant.1,
  subst (λ (l : List DraftNode). IsInOrder l (patterns_of c.self.inside.is_open c.self.inside.starts.items) c.self.inside.size_limit)
      (sym c.in_err-patch.ensures.value.0) c.self.invariant.2,
)

pub returns-in_err-patch-clause-value : goal.returns-in_err-patch-clause-value
returns-in_err-patch-clause-value c =
    let drafts = map draft_of c.self.inside.drafts.items in
    let inside : c.args.from < length drafts =
    subst (λ (b : Assembly). c.args.from < length b.drafts) (sym c.self.view_is) c.requires.from in
    let bytes = way_added drafts c.args.from c.args.to c.self.inside.memory c.way_memory.result c.saturating_add-memory.result inside
    c.saturating_add-memory.ensures c.self.invariant.0
    (c.way_memory.ensures ∙ ap (λ (l : List Draft). way_bytes (draft_at (map draft_of l) c.args.from)) c.deref.ensures.value) in
    let fault = way_fault _ _ c.args.from c.args.to c.saturating_add-memory.result c.self.view_is bytes in
    refused _ _ c.from_residual-in_err-patch.result c.in_err-patch.field-0.0 c.from_residual-in_err-patch.ensures.1 (
      drafts_kept _ _ _ c.self.view_is c.in_err-patch.ensures.value.0,
      subst (λ (e : BuildError). ReportsFaultOf e (patch_fault c.args.self.now c.args.from c.args.to)) (sym c.in_err-patch.ensures.value.1)
          (fault ∙ c.in_ok-check_limit.ensures),
    )

pub returns-in_err-patch-clause-free : goal.returns-in_err-patch-clause-free
returns-in_err-patch-clause-free c free =
    absurd (never
    (c.in_err-patch.ensures.free (ap (λ (b : Assembly). way_bytes (draft_at b.drafts c.args.from)) c.self.view_is ∙ free)))

pub invariant_of-self-2 : goal.invariant_of-self-2
invariant_of-self-2 c =
    let drafts = map draft_of c.self.inside.drafts.items in
    let inside : c.args.from < length drafts =
    subst (λ (b : Assembly). c.args.from < length b.drafts) (sym c.self.view_is) c.requires.from in
    let bytes = way_added drafts c.args.from c.args.to c.self.inside.memory c.way_memory.result c.saturating_add-memory.result inside
    c.saturating_add-memory.ensures c.self.invariant.0
    (c.way_memory.ensures ∙ ap (λ (l : List Draft). way_bytes (draft_at (map draft_of l) c.args.from)) c.deref.ensures.value) in (
      bytes ∙ ap bytes_of_drafts (sym c.in_ok-patch.ensures.value),
      c.self.invariant.1,
      order_patched drafts (map draft_of c.patch.new.drafts.items) c.args.from c.args.to
          (patterns_of c.self.inside.is_open c.self.inside.starts.items) c.self.inside.size_limit c.in_ok-patch.ensures.value inside
          c.self.invariant.2 (ap (limit_fault c.self.inside.size_limit) (sym bytes) ∙ c.in_ok-check_limit.ensures),
    )

pub returns-clause-value : goal.returns-clause-value
returns-clause-value c =
    let drafts = map draft_of c.self.inside.drafts.items in
    let inside : c.args.from < length drafts =
    subst (λ (b : Assembly). c.args.from < length b.drafts) (sym c.self.view_is) c.requires.from in
    let bytes = way_added drafts c.args.from c.args.to c.self.inside.memory c.way_memory.result c.saturating_add-memory.result inside
    c.saturating_add-memory.ensures c.self.invariant.0
    (c.way_memory.ensures ∙ ap (λ (l : List Draft). way_bytes (draft_at (map draft_of l) c.args.from)) c.deref.ensures.value) in
    let fault = way_fault _ _ c.args.from c.args.to c.saturating_add-memory.result c.self.view_is bytes in (
      drafts_patched _ _ _ c.args.from c.args.to c.self.view_is c.in_ok-patch.ensures.value,
      fault ∙ c.in_ok-check_limit.ensures,
    )

pub returns-clause-free : goal.returns-clause-free
returns-clause-free c free = refl
