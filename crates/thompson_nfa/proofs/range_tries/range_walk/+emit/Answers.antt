-- Each edge leads to an earlier node, and what it emits is next in what is left.
use Rattle.std.proofs.Common.{◌<◌, length, get_or, arith, subst, ap, ◌∙◌}
use Rattle.thompson_nfa.specs.declared.range_tries.trie_nodes.Next.{Next}
use Rattle.thompson_nfa.specs.declared.range_tries.trie_nodes.Next.TheVariants.{Nothing}
use Rattle.thompson_nfa.specs.TrieNodes.{IsInside}
use Rattle.thompson_nfa.specs.RangeCovers.{edge_of}
use Rattle.thompson_nfa.specs.RangeWalks.{paths_of, depth_of}
use Rattle.thompson_nfa.proofs.Tries.NodeLemmas.{inside_more}
use Rattle.thompson_nfa.proofs.Tries.WalkLemmas.{walk_step, edge_inside, depth_falls}
use Rattle.thompson_nfa.proofs.range_tries.range_walk.+emit.Goals as goal

pub emit-requires : goal.emit-requires
emit-requires t c =
    let es = c.edges-edge-items.result.now in
    let i = c.loop-edge.edge-index in
    let inside : IsInside c.in-Node.number (get_or es i (edge_of 0 0 Nothing)).next =
    edge_inside c.args.nodes.now es i (edge_of 0 0 Nothing) c.loop-edge-test.true c.in-Node.number c.edges-edge-items.ensures.inside in
    let falls = depth_falls c.in-Node.number (get_or es i (edge_of 0 0 Nothing)).next inside in
    let here : c.in-Node.number < length c.args.nodes.now = subst (λ (n : Next). IsInside (length c.args.nodes.now) n) c.in-Node.is
    c.requires in
    let depth = ap depth_of c.in-Node.is in (
      omega (arith, falls, depth, c.decreases),
      inside_more c.in-Node.number (length c.args.nodes.now)
          (get_or es i (edge_of 0 0 Nothing)).next (omega arith) inside,
    )

pub loop-edge-preserved : goal.loop-edge-preserved
loop-edge-preserved t c =
    walk_step c.args.nodes.now c.edges-edge-items.result.now c.loop-edge.edge-index
    (edge_of 0 0 Nothing) c.loop-edge-test.true c.args.path.now c.deref.result.now
    (paths_of c.loop-edge.paths.items) (paths_of c.emit.new.paths.items) _ (c.deref.ensures.value
    ∙ c.in_ok-path-in-Node.ensures) c.in_ok-emit-in-Node.ensures c.loop-edge.invariant
