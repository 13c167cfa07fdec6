use Rattle.std.proofs.Common.{arith}
use Rattle.std.proofs.lemmas.Grind.{common_steps}
use Rattle.thompson_nfa.proofs.Tries.NodeLemmas.{node_count}
use Rattle.thompson_nfa.proofs.range_tries.trie_nodes.Nodes.len.Goals as goal

pub returns : goal.returns
returns c =
    let count = node_count c.self.inside.rows.items c.args.self.now c.self.view_is in
    grind (arith, common_steps, count)
