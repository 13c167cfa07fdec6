-- What follows is divided, each piece in the first range gains the strings of the others, and a node is made of all.
use Rattle.std.proofs.Common.{◌≡◌, ◌+◌, length, map, List, get_or, arith, refl, sym, subst}
use Rattle.std.proofs.lemmas.Bool.{false≢true}
use Rattle.hir_core.specs.Sequences.{bytes_of}
use Rattle.thompson_nfa.specs.declared.range_tries.trie_nodes.Edge.{Edge}
use Rattle.thompson_nfa.specs.declared.range_tries.trie_nodes.Next.TheVariants.{Nothing}
use Rattle.thompson_nfa.specs.TrieNodes.{following}
use Rattle.thompson_nfa.specs.TrieSteps.{IsCover}
use Rattle.thompson_nfa.specs.RangeCovers.{edge_of}
use Rattle.thompson_nfa.proofs.Tries.NodeLemmas.{inside_more}
use Rattle.thompson_nfa.proofs.Tries.InsertLemmas.{with_none, nil_of_length, read_itself, rest_apart, first_ok, next_kept, next_at}
use Rattle.thompson_nfa.proofs.Tries.InsertLemmas.{later_itself}
use Rattle.thompson_nfa.proofs.Tries.InsertLemmas.{inserting_within, inserting_beside, edges_rise, with_pushed_if}
use Rattle.thompson_nfa.proofs.range_tries.range_insert.+insert_below.Goals as goal
use Rattle.thompson_nfa.proofs.range_tries.range_insert.+insert_below.Goals.{then-is_within+in_ok-next, else-is_within}

pub returns-in_default-clause-more : goal.returns-in_default-clause-more
returns-in_default-clause-more t c =
    with_none (following c.args.nodes.now c.args.next) c.args.ranges.now (nil_of_length c.args.ranges.now c.in_default.ensures.cases)
    c.requires.apart

pub insert_below-requires : goal.insert_below-requires
insert_below-requires t c =
    let ps = c.deref-piece-items.result.now in
    let i = c.loop-piece.piece-index in
    let p : Edge = get_or ps i (edge_of 0 0 Nothing) in
    let at : p ≡ get_or ps i p = read_itself ps i (edge_of 0 0 Nothing) c.loop-piece-test.true in
    let cover = subst (λ (xs : List Edge). IsCover c.args.nodes.now c.args.next c.in-Some.first.now.start (c.in-Some.first.now.end + 1) xs)
    (sym c.deref-piece-items.ensures.value) c.in_ok-pieces.ensures in
    let same = next_kept c.args.nodes.now c.loop-piece.nodes c.loop-piece.nodes c.in-Some.first.now.start (c.in-Some.first.now.end + 1)
    (map bytes_of c.in-Some.rest.now) ps c.loop-piece.edges.items i p p
    c.loop-piece-test.true at c.loop-piece.invariant (later_itself c.loop-piece.nodes) cover.inside in
    let apart = rest_apart c.args.nodes.now c.loop-piece.nodes c.loop-piece.nodes c.args.next c.args.next c.args.ranges.now
    c.in-Some.rest.now c.in-Some.first.now c.in-Some.ensures.cases.0 ps c.loop-piece.edges.items
    cover c.requires.apart c.requires.ordered i p c.loop-piece-test.true at (c.if-is_within.ensures.0 refl) same in
    let ok = first_ok c.args.nodes.now c.loop-piece.nodes c.loop-piece.nodes c.args.next c.args.next c.args.ranges.now c.in-Some.rest.now
    c.in-Some.first.now c.in-Some.ensures.cases.0 ps c.loop-piece.edges.items
    cover c.requires.apart c.requires.ordered in
    let inside = inside_more (length c.args.nodes.now) (length c.loop-piece.nodes) p.next c.loop-piece.invariant.later.len
    (next_at (length c.args.nodes.now) ps i p c.loop-piece-test.true at cover.inside) in
    let shorter : length c.in-Some.rest.now + 1 ≡ length c.args.ranges.now = c.in-Some.ensures.cases.1 in
    (omega (arith, shorter, c.decreases), (inside, (ok.1, apart)))

pub loop-piece-preserved : goal.loop-piece-preserved
loop-piece-preserved t c =
    let ps = c.deref-piece-items.result.now in
    let i = c.loop-piece.piece-index in
    let p : Edge = get_or ps i (edge_of 0 0 Nothing) in
    let at : p ≡ get_or ps i p = read_itself ps i (edge_of 0 0 Nothing) c.loop-piece-test.true in
    let cover = subst (λ (xs : List Edge). IsCover c.args.nodes.now c.args.next c.in-Some.first.now.start (c.in-Some.first.now.end + 1) xs)
    (sym c.deref-piece-items.ensures.value) c.in_ok-pieces.ensures in
    elim c.if-is_within.branch [
      | then-is_within+in_ok-next w ↦
          rw (c.in_ok-push.ensures.items, w.nodes-is, w.next-is)
          (inserting_within c.args.nodes.now c.loop-piece.nodes w.insert_below.new.nodes c.in-Some.first.now.start
          (c.in-Some.first.now.end + 1) (map bytes_of c.in-Some.rest.now) ps c.loop-piece.edges.items i p
          (record { range = p.range; next = w.in_ok-next.next }) c.loop-piece-test.true at c.loop-piece.invariant w.in_ok-next.ensures.later
          cover.inside w.in_ok-next.next refl
          (w.if-is_within.ensures.0 refl) w.in_ok-next.ensures.inside w.in_ok-next.ensures.more)
      | else-is_within w ↦
          rw (c.in_ok-push.ensures.items, w.nodes-is, w.next-is)
          (inserting_beside c.args.nodes.now c.loop-piece.nodes c.loop-piece.nodes c.in-Some.first.now.start (c.in-Some.first.now.end + 1)
          (map bytes_of c.in-Some.rest.now) ps c.loop-piece.edges.items i p
          p c.loop-piece-test.true at c.loop-piece.invariant (later_itself c.loop-piece.nodes) cover.inside refl refl cover.divided
          (λ h. false≢true (w.if-is_within.ensures.1 h)))
    ]

pub push-requires-2-clause-rising : goal.push-requires-2-clause-rising
push-requires-2-clause-rising t c =
    let ps = c.deref-piece-items.result.now in
    let cover = subst (λ (xs : List Edge). IsCover c.args.nodes.now c.args.next c.in-Some.first.now.start (c.in-Some.first.now.end + 1) xs)
    (sym c.deref-piece-items.ensures.value) c.in_ok-pieces.ensures in
    edges_rise c.args.nodes.now c.loop-piece.nodes c.loop-piece.nodes c.args.next c.args.next c.args.ranges.now c.in-Some.rest.now
    c.in-Some.first.now c.in-Some.ensures.cases.0 ps c.loop-piece.edges.items
    cover c.requires.apart c.requires.ordered c.loop-piece.piece-index c.loop-piece.invariant c.loop-piece-test.false

pub returns-clause-more : goal.returns-clause-more
returns-clause-more t c =
    let ps = c.deref-piece-items.result.now in
    let cover = subst (λ (xs : List Edge). IsCover c.args.nodes.now c.args.next c.in-Some.first.now.start (c.in-Some.first.now.end + 1) xs)
    (sym c.deref-piece-items.ensures.value) c.in_ok-pieces.ensures in
    with_pushed_if c.args.nodes.now c.loop-piece.nodes c.push-2.new.self c.args.next c.args.ranges.now c.in-Some.rest.now
    c.in-Some.first.now c.in-Some.ensures.cases.0 ps c.loop-piece.edges.items
    cover c.requires.apart c.requires.ordered c.loop-piece.piece-index c.loop-piece.invariant c.loop-piece-test.false c.push-2.result
    c.push-2.ensures.node c.push-2.ensures.ok
