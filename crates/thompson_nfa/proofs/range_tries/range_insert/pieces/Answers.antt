-- A node's edges are divided.
use Rattle.std.proofs.Common.{◌<◌, length, IfOk, arith, subst, sym, ◌+◌}
use Rattle.thompson_nfa.specs.declared.range_tries.trie_nodes.Next.{Next}
use Rattle.thompson_nfa.specs.TrieNodes.{IsInside}
use Rattle.thompson_nfa.specs.TrieSteps.{IsCover}
use Rattle.std.proofs.lemmas.Result.{IfOk-weaker}
use Rattle.thompson_nfa.proofs.Tries.InsertLemmas.{cover_of_node}
use Rattle.thompson_nfa.proofs.range_tries.range_insert.pieces.Goals as goal

pub returns-in-Node : goal.returns-in-Node
returns-in-Node c =
    let inside : c.in-Node.number < length c.args.nodes.now = subst (λ (n : Next). IsInside (length c.args.nodes.now) n) c.in-Node.is
    c.requires.inside in
    subst (λ (n : Next). IfOk c.cover-in-Node.result (λ v. IsCover c.args.nodes.now n c.args.range.start (c.args.range.end + 1) v.items))
    (sym c.in-Node.is) (IfOk-weaker c.cover-in-Node.result _ _
    (λ v e. cover_of_node c.args.nodes.now c.args.range.start c.args.range.end c.requires.ordered v.items c.in-Node.number
    c.edges.result.now e c.edges.ensures.emits c.edges.ensures.inside (omega (arith, inside)) c.edges.ensures.rising)
    c.cover-in-Node.ensures)
