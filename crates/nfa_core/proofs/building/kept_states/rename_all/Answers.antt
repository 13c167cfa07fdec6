use Rattle.std.proofs.Common.{ℕ, ◌<◌, length, map, ap, ◌∙◌}
use Rattle.std.proofs.lemmas.List.{take_all}
use Rattle.nfa_core.specs.Pasts.{name_in}
use Rattle.nfa_core.proofs.AddedLemmas.{mapped_more, holds_of_item}
use Rattle.nfa_core.proofs.building.kept_states.rename_all.Goals as goal

pub rename-requires : goal.rename-requires
rename-requires c =
    holds_of_item (λ (q : ℕ). q < length c.args.names.now) c.args.list.now c.loop-q.q-index c.q-item.result c.q-item.is
    (c.requires c.loop-q.q-index c.q-item.result c.loop-q-test.true)

pub loop-q-preserved : goal.loop-q-preserved
loop-q-preserved c =
    mapped_more (name_in c.args.names.now) c.loop-q.renamed.items c.push.new.self.items c.args.list.now c.loop-q.q-index c.q-item.result
    c.rename.result c.loop-q-test.true c.q-item.is c.rename.ensures c.loop-q.invariant c.in_ok-push.ensures.items

pub returns : goal.returns
returns c =
    c.loop-q.invariant ∙ ap (map (name_in c.args.names.now)) (take_all c.loop-q.q-index c.args.list.now c.loop-q-test.false)
