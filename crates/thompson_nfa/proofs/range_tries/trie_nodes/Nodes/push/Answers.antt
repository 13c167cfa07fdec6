-- A node that is added emits what its edges do.
use Rattle.std.proofs.Common.{◌≡◌, ℕ, [], length, sym, ap, ◌∙◌, subst, arith}
use Rattle.std.proofs.lemmas.Grind.{common_steps}
use Rattle.std.proofs.lemmas.List.{map-append}
use Rattle.thompson_nfa.specs.TrieNodes.{AreInside}
use Rattle.thompson_nfa.specs.declared.range_tries.trie_nodes.Next.TheVariants.{Node}
use Rattle.thompson_nfa.proofs.Tries.NodeLemmas.{nodes_push, emitted_push, length_emitted, rows_of, node_count}
use Rattle.thompson_nfa.proofs.range_tries.trie_nodes.Nodes.push.Goals as goal

pub invariant_of-self-2 : goal.invariant_of-self-2
invariant_of-self-2 c =
    let inside = subst (λ (k : ℕ). AreInside k c.args.edges.items) (ap length (sym c.self.view_is)
    ∙ length_emitted [] (rows_of c.self.inside.rows.items)) c.requires.inside in
    rw (c.in_ok-push.ensures.items, map-append) (nodes_push 0 (rows_of c.self.inside.rows.items) c.args.edges.items c.self.invariant inside
    c.requires.rising)

pub returns-clause-node : goal.returns-clause-node
returns-clause-node c =
    let count = node_count c.self.inside.rows.items c.args.self.now c.self.view_is in
    let e : c.len-number.result ≡ length c.args.self.now = grind (arith, common_steps, count) in
    ap Node e

pub returns-clause-ok : goal.returns-clause-ok
returns-clause-ok c =
    rw (← c.self.view_is, c.in_ok-push.ensures.items, map-append) (emitted_push [] (rows_of c.self.inside.rows.items) c.args.edges.items)
