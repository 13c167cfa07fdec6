use Rattle.std.proofs.Common.{◌≡◌, ◌<◌, ◌+◌, ◌-◌, suc, map, length, arith, sym, ◌∙◌, None, Some}
use Rattle.std.proofs.lemmas.List.{length-map}
use Rattle.nfa_core.specs.BuilderStates.{draft_at}
use Rattle.nfa_core.specs.Drafts.{draft_of}
use Rattle.nfa_core.specs.Renaming.{stands_for}
use Rattle.nfa_core.proofs.PastLemmas.{settling_start, settling_next, settling_stands}
use Rattle.nfa_core.proofs.building.pasts.Pasts.settle_path.Goals as goal

pub loop-passed-init : goal.loop-passed-init
loop-passed-init g c =
    let len = length-map c.args.drafts.now draft_of in
    let inside : c.args.q < length (map draft_of c.args.drafts.now) = omega (arith, len, c.requires.inside) in record {
      way = settling_start (map draft_of c.args.drafts.now) c.args.self.now.table.items c.args.end c.args.q c.args.len
          (c.args.len - 0) inside c.requires.end c.requires.table c.requires.opened (omega arith);
      moves = omega arith;
    }

pub loop-passed-preserved : goal.loop-passed-preserved
loop-passed-preserved g c =
    let e : stands_for (draft_at (map draft_of c.args.drafts.now) c.loop-passed.at) ≡ Some c.in-Some.next =
    sym c.next_of.ensures.value ∙ c.in-Some.is in
    let more : c.args.len - c.loop-passed.passed ≡ suc (c.args.len - (c.loop-passed.passed + 1)) = omega (arith, c.loop-passed-test.true) in
    record {
      way = settling_next (map draft_of c.args.drafts.now) c.args.self.now.table.items c.loop-passed.self.table.items
          c.settle.new.self.table.items c.args.end c.loop-passed.at c.in-Some.next
          c.loop-passed.passed (c.args.len - c.loop-passed.passed) (c.args.len - (c.loop-passed.passed + 1)) c.requires.reached
          c.settle.ensures e more c.loop-passed.invariant.way;
      moves = omega (arith, c.in-Some.ensures.moves, c.loop-passed.invariant.moves);
    }

pub returns-in_default-clause-count : goal.returns-in_default-clause-count
returns-in_default-clause-count g c =
    let e : stands_for (draft_at (map draft_of c.args.drafts.now) c.loop-passed.at) ≡ None =
    sym c.next_of.ensures.value ∙ c.in_default.is in
    let more : 0 < c.args.len - c.loop-passed.passed = omega (arith, c.loop-passed-test.true) in
    absurd (settling_stands (map draft_of c.args.drafts.now) c.args.self.now.table.items c.loop-passed.self.table.items c.args.end
    c.loop-passed.at c.loop-passed.passed (c.args.len - c.loop-passed.passed)
    c.loop-passed.invariant.way more e)

pub returns-in_default-clause-moves : goal.returns-in_default-clause-moves
returns-in_default-clause-moves g c =
    let e : stands_for (draft_at (map draft_of c.args.drafts.now) c.loop-passed.at) ≡ None =
    sym c.next_of.ensures.value ∙ c.in_default.is in
    let more : 0 < c.args.len - c.loop-passed.passed = omega (arith, c.loop-passed-test.true) in
    absurd (settling_stands (map draft_of c.args.drafts.now) c.args.self.now.table.items c.loop-passed.self.table.items c.args.end
    c.loop-passed.at c.loop-passed.passed (c.args.len - c.loop-passed.passed)
    c.loop-passed.invariant.way more e)
