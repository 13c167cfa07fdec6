use Rattle.std.proofs.Common.{refl, ap, ◌∙◌}
use Rattle.search_types.specs.CapturesValue.{CapturesValue}
use Rattle.search_types.specs.CapturesLends.{with_slots}
use Rattle.search_types.proofs.CapturesLemmas.{slots_written}
use Rattle.search_types.proofs.captures.Captures.slots_mut.Goals as goal

pub returns : goal.returns
returns c =
    let s = c.self.inside in (
      (refl, λ w. slots_written s.group_info s.pid s.slots.items w s.slots.len s.slots.ok.0 ∙ ap (λ v. with_slots v w) c.self.view_is),
      record { writes_back = tt; value = c.as_mut_slice.ensures.value ∙ ap (λ (v : CapturesValue). v.slots) c.self.view_is },
    )
