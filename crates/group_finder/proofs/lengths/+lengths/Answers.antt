use Rattle.std.proofs.Common.{◌≡◌, ℕ, suc, ◌-◌, ◌<◌, ◌≤◌, List, ◌∷◌, map, length, drop, get_or, sym, ap, ◌∙◌, subst, refl, arith, drop-cons, drop_of_length-le}
use Rattle.regex_hir.specs.Meaning.{meaning, cat_all, alt_all}
use Rattle.regex_hir.specs.declared.hir.Hir.{Hir}
use Rattle.regex_hir.proofs.MeaningLemmas.{meaning-Empty, meaning-Literal, meaning-Bytes, meaning-Chars, meaning-Look, meaning-Repetition}
use Rattle.group_finder.specs.Layouts.{Reads}
use Rattle.group_finder.proofs.ReadsLemmas.{either_reads, literal_reads, may_more, reads_as, reads_byte_in, reads_cat, reads_char_in, reads_empty, reads_look, reads_more, reads_no_byte, repeat_reads, widens_both, widens_none}
use Rattle.group_finder.proofs.lengths.+lengths.Goals as goal

one_more : (subs : List Hir) (i : ℕ) (h : Hir) → 0 < i → i ≤ length subs → h ≡ get_or subs (i - 1) h →
    map meaning (drop (i - 1) subs) ≡ meaning h ∷ map meaning (drop i subs)
one_more subs i h p q e =
    let back : suc (i - 1) ≡ i = omega arith in
    ap (map meaning) (drop-cons subs (i - 1) h (omega arith) ∙ ap (λ x. x ∷ drop (suc (i - 1)) subs) (sym e) ∙ ap (λ n. h ∷ drop n subs) back)

pub lengths_of-returns-in-Empty-clause-reads : goal.lengths_of-returns-in-Empty-clause-reads
lengths_of-returns-in-Empty-clause-reads t c =
    reads_as _ _ _ _ _ (ap meaning c.in-Empty.is ∙ meaning-Empty) c.exactly.ensures (reads_empty _)

pub lengths_of-returns-in-Look-clause-reads : goal.lengths_of-returns-in-Look-clause-reads
lengths_of-returns-in-Look-clause-reads t c =
    reads_as _ _ _ _ _ (ap meaning c.in-Look.is ∙ meaning-Look _) c.exactly-in-Look.ensures (reads_look _ _)

pub lengths_of-returns-in-Literal-clause-reads : goal.lengths_of-returns-in-Literal-clause-reads
lengths_of-returns-in-Literal-clause-reads t c =
    literal_reads _ c.in-Literal.bytes.items c.deref.result.now _ c.len.result _ (ap meaning c.in-Literal.is ∙ meaning-Literal _)
    c.deref.ensures.value (omega (arith, c.len.ensures)) c.exactly-in-Literal.ensures c.add_bytes.ensures.added

pub lengths_of-returns-in-Bytes-clause-reads : goal.lengths_of-returns-in-Bytes-clause-reads
lengths_of-returns-in-Bytes-clause-reads t c =
    reads_as _ _ _ _ _ (ap meaning c.in-Bytes.is ∙ meaning-Bytes _) c.exactly-in-Bytes.ensures
    (reads_byte_in c.in-Bytes.class.ranges.items _ c.add_members.ensures.added)

pub lengths_of-returns-in-Chars-clause-reads : goal.lengths_of-returns-in-Chars-clause-reads
lengths_of-returns-in-Chars-clause-reads t c =
    subst (λ x. Reads x c.add_chars-fixed.new.set (record { least = 1; fixed = c.add_chars-fixed.result }))
    (sym (ap meaning c.in-Chars.is ∙ meaning-Chars _))
    (reads_char_in c.in-Chars.class.ranges.items _ c.add_chars-fixed.result c.add_chars-fixed.ensures.ascii c.add_chars-fixed.ensures.high
    c.add_chars-fixed.ensures.alone)

pub lengths_of-returns-in_ok-each-in-Repetition-clause-reads : goal.lengths_of-returns-in_ok-each-in-Repetition-clause-reads
lengths_of-returns-in_ok-each-in-Repetition-clause-reads t c =
    repeat_reads _ c.in-Repetition.min c.in-Repetition.max c.in-Repetition.greedy (meaning c.in-Repetition.sub.value) _
    c.in_ok-each-in-Repetition.each _ (ap meaning c.in-Repetition.is ∙ meaning-Repetition _ _ _ _)
    (subst (λ x. Reads (meaning x) c.lengths_of.new.set c.in_ok-each-in-Repetition.each) c.deref-in-Repetition.ensures
    c.in_ok-each-in-Repetition.ensures.reads)
    c.repeated.ensures

pub lengths_of_all-loop-i-init : goal.lengths_of_all-loop-i-init
lengths_of_all-loop-i-init t c = (
  widens_none _,
  reads_as _ _ _ _ _ (ap (λ xs. cat_all (map meaning xs)) (drop_of_length-le c.args.subs.now {i = length c.args.subs.now} (omega arith)))
      c.exactly-total.ensures (reads_empty _),
)

pub lengths_of_all-loop-i-preserved : goal.lengths_of_all-loop-i-preserved
lengths_of_all-loop-i-preserved t c =
    let more = one_more c.args.subs.now c.loop-i.i _ c.loop-i-test.true c.loop-i.auto.i c.index-subs-i.is in (
      widens_both _ _ _ c.loop-i.invariant.0 c.lengths_of.ensures.widens,
      reads_as _ _ _ _ _ (ap cat_all more) c.in_ok-total.ensures
          (reads_cat _ _ _ c.in_ok-part.part c.loop-i.total c.in_ok-part.ensures.reads
          (reads_more _ _ _ _ c.lengths_of.ensures.widens c.loop-i.invariant.1)),
    )

pub lengths_of_any-loop-i-init : goal.lengths_of_any-loop-i-init
lengths_of_any-loop-i-init t c = (
  widens_none _,
  rw (drop_of_length-le c.args.subs.now {i = length c.args.subs.now} (omega arith)) (tt, λ n. reads_no_byte _ n),
)

pub lengths_of_any-loop-i-preserved : goal.lengths_of_any-loop-i-preserved
lengths_of_any-loop-i-preserved t c =
    let more = one_more c.args.subs.now c.loop-i.i _ c.loop-i-test.true c.loop-i.auto.i c.index-subs-i.is in (
      widens_both _ _ _ c.loop-i.invariant.0 c.lengths_of.ensures.widens,
      (
        reads_as _ _ _ _ _ (ap alt_all more) refl
            (either_reads _ _ _ c.in_ok-part.part _ c.loop-i.total c.in_ok-part.ensures.reads
            (may_more _ _ _ c.loop-i.total c.lengths_of.ensures.widens c.loop-i.invariant.1) c.either.ensures.alone c.either.ensures.both),
        tt,
      ),
    )
