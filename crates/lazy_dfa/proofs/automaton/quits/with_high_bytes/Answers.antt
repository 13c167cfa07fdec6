use Rattle.std.proofs.Common.{◌≡◌, ◌∙◌, ◌+◌, sym, subst, arith, List, Bool, ℕ}
use Rattle.lazy_dfa.proofs.Automata.QuitLemmas.{IsSettled, settled_all, settled_none, settled_in, settled_out, wanted_by_set, wanted_high}
use Rattle.lazy_dfa.proofs.Automata.QuitLemmas.{unwanted}
use Rattle.lazy_dfa.proofs.automaton.quits.with_high_bytes.Goals as goal
use Rattle.lazy_dfa.proofs.automaton.quits.with_high_bytes.Goals.{then-contains, then-contains-via-then-contains}
use Rattle.lazy_dfa.proofs.automaton.quits.with_high_bytes.Goals.{then-contains-via-else-contains+then-byte-ge128, else-contains+else-byte-ge128}

pub loop-byte-init : goal.loop-byte-init
loop-byte-init c = settled_none c.args.set.now c.empty-quits.result c.empty-quits.ensures.len c.empty-quits.ensures.none

pub loop-byte-preserved : goal.loop-byte-preserved
loop-byte-preserved c = elim c.if-contains.branch [
  | then-contains w ↦
      subst (λ (s : List Bool). IsSettled c.args.set.now s (c.loop-byte.byte + 1)) (sym (w.quits-is ∙ w.add.ensures))
      (settled_in c.args.set.now c.loop-byte.quits c.loop-byte.byte c.loop-byte-test.true
      (elim w.then-contains.branch [
        | then-contains-via-then-contains v ↦ wanted_by_set c.args.set.now c.loop-byte.byte (sym c.contains.ensures ∙ v.if-contains.true)
        | then-contains-via-else-contains+then-byte-ge128 v ↦ wanted_high c.args.set.now c.loop-byte.byte v.if-byte-ge128.true
      ])
      c.loop-byte.invariant)
  | else-contains+else-byte-ge128 w ↦
      subst (λ (s : List Bool). IsSettled c.args.set.now s (c.loop-byte.byte + 1)) (sym w.quits-is)
      (settled_out c.args.set.now c.loop-byte.quits c.loop-byte.byte c.loop-byte-test.true
      (unwanted c.args.set.now c.loop-byte.byte (sym c.contains.ensures ∙ w.if-contains.false) w.if-byte-ge128.false)
      c.loop-byte.invariant)
]

pub returns : goal.returns
returns c =
    let over : c.loop-byte.byte ≡ 256 = omega (arith, c.loop-byte-test.false, c.loop-byte.auto.byte-end) in
    settled_all c.args.set.now c.loop-byte.quits (subst (λ (n : ℕ). IsSettled c.args.set.now c.loop-byte.quits n) over
    c.loop-byte.invariant)
