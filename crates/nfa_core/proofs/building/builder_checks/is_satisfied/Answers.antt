use Rattle.std.proofs.Common.{◌≡◌, ◌+◌, ◌-◌, suc, map, length, arith, sym, ◌∙◌}
use Rattle.nfa_core.specs.Drafts.{draft_of}
use Rattle.nfa_core.proofs.CheckLemmas.{follow_next}
use Rattle.nfa_core.proofs.building.builder_checks.is_satisfied.Goals as goal

pub loop-index-preserved : goal.loop-index-preserved
loop-index-preserved c =
    let left = length c.args.drafts.now - c.loop-index._index in
    let more : left ≡ suc (length c.args.drafts.now - (c.loop-index._index + 1)) = omega (arith, c.loop-index-test.true) in
    follow_next (map draft_of c.args.drafts.now) left (length c.args.drafts.now - (c.loop-index._index + 1)) c.loop-index.at c.in-Some.next
    c.args.q more (sym c.next_of.ensures ∙ c.in-Some.is) c.loop-index.invariant
