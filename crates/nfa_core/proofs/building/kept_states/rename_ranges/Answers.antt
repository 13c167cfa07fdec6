use Rattle.std.proofs.Common.{ℕ, ◌<◌, List, length, map, ap, ◌∙◌}
use Rattle.std.proofs.lemmas.List.{take_all}
use Rattle.nfa_core.specs.Pasts.{name_in}
use Rattle.nfa_core.specs.Transitions.{range_of}
use Rattle.nfa_core.specs.declared.transition.Transition.{Transition}
use Rattle.nfa_core.proofs.AddedLemmas.{seen_more, holds_of_item}
use Rattle.nfa_core.proofs.building.kept_states.rename_ranges.Goals as goal

pub loop-trans-init : goal.loop-trans-init
loop-trans-init c = ap (map range_of) c.new-renamed.ensures.items

pub rename_range-requires : goal.rename_range-requires
rename_range-requires c =
    holds_of_item (λ (t : Transition). t.next < length c.args.names.now) c.args.list.now c.loop-trans.trans-index c.trans-item.result
    c.trans-item.is (c.requires c.loop-trans.trans-index c.trans-item.result c.loop-trans-test.true)

pub loop-trans-preserved : goal.loop-trans-preserved
loop-trans-preserved c =
    seen_more range_of range_of (λ (r : ℕ × ℕ × ℕ). (r.0, r.1, name_in c.args.names.now r.2)) c.loop-trans.renamed.items
    c.push.new.self.items c.args.list.now c.loop-trans.trans-index c.trans-item.result c.rename_range.result c.loop-trans-test.true
    c.trans-item.is c.rename_range.ensures c.loop-trans.invariant c.in_ok-push.ensures.items

pub returns : goal.returns
returns c =
    c.loop-trans.invariant
    ∙ ap (λ (l : List Transition). map (λ (r : ℕ × ℕ × ℕ). (r.0, r.1, name_in c.args.names.now r.2)) (map range_of l))
    (take_all c.loop-trans.trans-index c.args.list.now c.loop-trans-test.false)
