-- Each edge leads to an earlier node, and its copy is next.
use Rattle.std.proofs.Common.{◌<◌, length, get_or, arith, subst, refl, sym, ap, ◌∙◌}
use Rattle.thompson_nfa.specs.declared.range_tries.trie_nodes.Next.{Next}
use Rattle.thompson_nfa.specs.declared.range_tries.trie_nodes.Next.TheVariants.{Nothing}
use Rattle.thompson_nfa.specs.TrieNodes.{following, IsInside}
use Rattle.thompson_nfa.specs.RangeCovers.{edge_of}
use Rattle.thompson_nfa.specs.RangeWalks.{depth_of}
use Rattle.thompson_nfa.proofs.Tries.NodeLemmas.{inside_more}
use Rattle.thompson_nfa.proofs.Tries.WalkLemmas.{edge_inside, depth_falls}
use Rattle.thompson_nfa.proofs.Tries.NodeCopyLemmas.{copy_found, copying_next, copied_rise, copied_later, copied_inside, copied_same}
use Rattle.thompson_nfa.proofs.Tries.NodeCopyLemmas.{copied_names}
use Rattle.thompson_nfa.proofs.range_tries.range_copy.+copy_below.Goals as goal

pub returns-in-Node-index-clause-inside : goal.returns-in-Node-index-clause-inside
returns-in-Node-index-clause-inside t c =
    let here : c.in-Node.number < length c.args.nodes.now = subst (λ (n : Next). IsInside (length c.args.nodes.now) n) c.in-Node.is
    c.requires.inside in
    (copy_found c.args.nodes.now c.args.copy.now c.args.names.now.items c.in-Node.number c.in-Node-index.made c.index.result.now
    c.requires.copies here (sym c.index.ensures ∙ c.in-Node-index.is)).0

pub copy_below-requires : goal.copy_below-requires
copy_below-requires t c =
    let es = c.edges-old.result.now in
    let i = c.loop-edge.edge-index in
    let inside : IsInside c.in-Node.number (get_or es i (edge_of 0 0 Nothing)).next =
    edge_inside c.args.nodes.now es i (edge_of 0 0 Nothing) c.loop-edge-test.true c.in-Node.number c.edges-old.ensures.inside in
    let falls = depth_falls c.in-Node.number (get_or es i (edge_of 0 0 Nothing)).next inside in
    let here : c.in-Node.number < length c.args.nodes.now = subst (λ (n : Next). IsInside (length c.args.nodes.now) n) c.in-Node.is
    c.requires.inside in
    let depth = ap depth_of c.in-Node.is in (
      omega (arith, falls, depth, c.decreases),
      (
        inside_more c.in-Node.number (length c.args.nodes.now)
            (get_or es i (edge_of 0 0 Nothing)).next (omega arith) inside,
        c.loop-edge.invariant.copies,
      ),
    )

pub loop-edge-preserved : goal.loop-edge-preserved
loop-edge-preserved t c =
    copying_next c.args.nodes.now c.args.copy.now c.loop-edge.copy c.copy_below.new.copy c.loop-edge.names.items
    c.copy_below.new.names.items c.edges-old.result.now c.loop-edge.edges.items c.push.new.self.items c.loop-edge.edge-index
    (edge_of 0 0 Nothing) c.in_ok-next.next c.loop-edge-test.true c.loop-edge.invariant c.in_ok-next.ensures.later
    c.in_ok-next.ensures.copies c.in_ok-next.ensures.inside c.in_ok-next.ensures.same c.in_ok-push.ensures.items

pub push-requires-2 : goal.push-requires-2
push-requires-2 t c = record {
  inside = c.loop-edge.invariant.inside;
  rising = copied_rise c.args.nodes.now c.args.copy.now c.loop-edge.copy c.loop-edge.names.items c.edges-old.result.now
      c.loop-edge.edges.items c.loop-edge.edge-index c.loop-edge.invariant c.loop-edge-test.false c.edges-old.ensures.rising;
}

pub returns : goal.returns
returns t c =
    let here : c.in-Node.number < length c.args.nodes.now = subst (λ (n : Next). IsInside (length c.args.nodes.now) n) c.in-Node.is
    c.requires.inside in
    record {
      later = copied_later c.args.nodes.now c.args.copy.now c.loop-edge.copy c.loop-edge.names.items c.edges-old.result.now
          c.loop-edge.edges.items c.loop-edge.edge-index c.loop-edge.invariant c.loop-edge-test.false c.push-2.new.self
          c.in_ok-made.made c.in-Node.number c.in_ok-made.ensures.node c.in_ok-made.ensures.ok c.edges-old.ensures.emits here;
      copies = copied_names c.args.nodes.now c.args.copy.now c.loop-edge.copy c.loop-edge.names.items c.edges-old.result.now
          c.loop-edge.edges.items c.loop-edge.edge-index c.loop-edge.invariant c.loop-edge-test.false c.push-2.new.self
          c.in_ok-made.made c.in-Node.number c.in_ok-made.ensures.node c.in_ok-made.ensures.ok c.edges-old.ensures.emits here _ refl;
      inside = copied_inside c.args.nodes.now c.args.copy.now c.loop-edge.copy c.loop-edge.names.items c.edges-old.result.now
          c.loop-edge.edges.items c.loop-edge.edge-index c.loop-edge.invariant c.loop-edge-test.false c.push-2.new.self
          c.in_ok-made.made c.in-Node.number c.in_ok-made.ensures.node c.in_ok-made.ensures.ok c.edges-old.ensures.emits here;
      same = copied_same c.args.nodes.now c.args.copy.now c.loop-edge.copy c.loop-edge.names.items c.edges-old.result.now
          c.loop-edge.edges.items c.loop-edge.edge-index c.loop-edge.invariant c.loop-edge-test.false c.push-2.new.self
          c.in_ok-made.made c.in-Node.number c.in_ok-made.ensures.node c.in_ok-made.ensures.ok c.edges-old.ensures.emits here
          ∙ ap (λ n. following c.args.nodes.now n) (sym c.in-Node.is);
    }
