use Rattle.std.proofs.Common.{arith}
use Rattle.thompson_nfa.proofs.Steps.ErrorLemmas.{handed}
use Rattle.thompson_nfa.proofs.Classes.ScalarBytes.{shared_takes}
use Rattle.thompson_nfa.proofs.LiteralTries.LiteralPartLemmas.{read_next, literals_made, strings_bytes, literals_do, literals_quit}
use Rattle.thompson_nfa.proofs.literals.compile_literals.Goals as goal

pub loop-sub-preserved : goal.loop-sub-preserved
loop-sub-preserved c =
    read_next c.loop-sub.trie _ c.args.builder.now.reverse c.args.subs.now c.loop-sub.sub-index c.sub-item.result
    c.bytes_of_literal.result.now c.loop-sub.invariant c.sub-item.is c.loop-sub-test.true c.bytes_of_literal.ensures
    c.in_ok-add.ensures.ok

pub returns-in_err-all-clause-refused : goal.returns-in_err-all-clause-refused
returns-in_err-all-clause-refused c = handed _ _ c.in_err-all.field-0.0 c.from_residual-in_err-all.ensures.1
    (literals_quit c.loop-sub.trie c.args.subs.now c.loop-sub.sub-index _ _ c.loop-sub.invariant c.loop-sub-test.false c.requires _
    c.in_err-all.ensures.refused)

pub returns-clause-made : goal.returns-clause-made
returns-clause-made c = literals_made c.loop-sub.trie c.args.subs.now c.loop-sub.sub-index _ _ c.loop-sub.invariant c.loop-sub-test.false
    c.requires _ _ c.in_ok-all.ensures.made

pub returns-clause-denotes : goal.returns-clause-denotes
returns-clause-denotes c = literals_do c.loop-sub.trie c.args.subs.now c.loop-sub.sub-index _ _ c.loop-sub.invariant c.loop-sub-test.false
    c.requires _ _ c.in_ok-all.ensures.denotes

pub returns-clause-weighs : goal.returns-clause-weighs
returns-clause-weighs c = shared_takes _ _ _ _ _ _ _ c.in_ok-all.ensures.made c.in_ok-all.ensures.weighs
    (omega (arith, strings_bytes c.loop-sub.trie c.args.subs.now c.loop-sub.sub-index _ c.loop-sub.invariant c.loop-sub-test.false))

pub returns-in_err-all-clause-passed : goal.returns-in_err-all-clause-passed
returns-in_err-all-clause-passed c = handed _ _ c.in_err-all.field-0.0 c.from_residual-in_err-all.ensures.1
    (omega (
      arith,
      strings_bytes c.loop-sub.trie c.args.subs.now c.loop-sub.sub-index _ c.loop-sub.invariant c.loop-sub-test.false,
      c.in_err-all.ensures.passed,
    ))
