use Rattle.std.proofs.Common.{ℕ, ◌≤◌, sym, ap, ◌∙◌}
use Rattle.std.proofs.lemmas.List.Elements.{All-head, All-same, All-rest}
use Rattle.search_core.specs.Marks.{recorded}
use Rattle.search_core.proofs.ByteSetLemmas.{ranges_forward}
use Rattle.search_core.proofs.class_set.ByteClassSet.add_set.Goals as goal

abbrev IsForward : ℕ × ℕ → Type 0
IsForward r = r.0 ≤ r.1

pub loop-start-init : goal.loop-start-init
loop-start-init c = record {
  left = ap (recorded c.args.self.now) (c.into_iter-start-iterator.ensures.into_iter_gives ∙ c.iter_ranges-start-items.ensures);
  forward = All-same IsForward _ _ (c.into_iter-start-iterator.ensures.into_iter_gives
      ∙ c.iter_ranges-start-items.ensures) (ranges_forward c.args.set.now 0);
}

pub set_range-requires : goal.set_range-requires
set_range-requires c = All-head IsForward _ _ (All-same IsForward _ _ (sym c.in-Some.ensures.steps) c.loop-start.invariant.forward)

pub loop-start-preserved : goal.loop-start-preserved
loop-start-preserved c = record {
  left = ap (λ m. recorded m c.next.new.self) c.set_range.ensures ∙ sym (ap (recorded c.loop-start.self) c.in-Some.ensures.steps)
      ∙ c.loop-start.invariant.left;
  forward = All-rest IsForward _ _ _ c.in-Some.ensures.steps c.loop-start.invariant.forward;
}

pub returns : goal.returns
returns c = sym (ap (recorded c.loop-start.self) c.in-None.ensures.steps.0) ∙ c.loop-start.invariant.left
