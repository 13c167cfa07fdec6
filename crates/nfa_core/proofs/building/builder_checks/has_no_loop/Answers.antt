use Rattle.std.proofs.Common.{◌<◌, map, length, arith, rules, refl}
use Rattle.std.proofs.lemmas.List.{length-map}
use Rattle.nfa_core.specs.Drafts.{draft_of}
use Rattle.nfa_core.proofs.CheckLemmas.{followed_free, caught}
use Rattle.nfa_core.proofs.building.builder_checks.has_no_loop.Goals as goal

pub returns-then-not-is_satisfied : goal.returns-then-not-is_satisfied
returns-then-not-is_satisfied c =
    let drafts = map draft_of c.args.drafts.now in
    let inside : c.loop-index.index < length drafts = omega (arith, length-map c.args.drafts.now draft_of, c.loop-index-test.true) in
    (λ e. cc, caught drafts c.loop-index.index inside (search rules))

pub returns : goal.returns
returns c =
    let drafts = map draft_of c.args.drafts.now in (
      λ e. followed_free drafts c.loop-index.index (omega (
        arith,
        length-map c.args.drafts.now draft_of,
        c.loop-index-test.false,
        c.loop-index.auto,
      )) c.loop-index.invariant,
      λ e. refl,
    )
