-- A node emits what its edges do.
use Rattle.std.proofs.Common.{arith}
use Rattle.std.proofs.lemmas.Grind.{common_steps}
use Rattle.thompson_nfa.proofs.Tries.NodeLemmas.{node_count, row_emits, row_inside, row_rises}
use Rattle.thompson_nfa.proofs.range_tries.trie_nodes.Nodes.edges.Goals as goal

pub index-requires : goal.index-requires
index-requires c =
    let count = node_count c.self.inside.rows.items c.args.self.now c.self.view_is in
    grind (arith, common_steps, count)

pub returns-clause-emits : goal.returns-clause-emits
returns-clause-emits c =
    row_emits c.self.inside.rows.items c.args.self.now c.self.view_is c.args.number c.index.result.now c.index.ensures c.deref.result.now
    c.deref.ensures.value c.self.invariant c.requires

pub returns-clause-inside : goal.returns-clause-inside
returns-clause-inside c =
    row_inside c.self.inside.rows.items c.args.self.now c.self.view_is c.args.number c.index.result.now c.index.ensures c.deref.result.now
    c.deref.ensures.value c.self.invariant c.requires

pub returns-clause-rising : goal.returns-clause-rising
returns-clause-rising c =
    row_rises c.self.inside.rows.items c.args.self.now c.self.view_is c.args.number c.index.result.now c.index.ensures c.deref.result.now
    c.deref.ensures.value c.self.invariant c.requires
