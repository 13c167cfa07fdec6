use Rattle.std.proofs.Common.{◌≡◌, ◌∙◌, ◌+◌, ◌≤◌, ℕ, Some, length, take, refl, sym, subst, arith, slice_index}
use Rattle.lazy_dfa.specs.Caches.{state_at}
use Rattle.lazy_dfa.specs.Dfas.{after}
use Rattle.streams.specs.Reading.{IsAt, IsPieceRead, IsByteStep, within}
use Rattle.streams.specs.Streams.{ends_before, stream_ends}
use Rattle.streams.specs.declared.reading.Read.{Read}
use Rattle.streams.specs.declared.reading.Step.{Step}
use Rattle.streams.proofs.PieceLemmas.{all_read, at_first, at_more, ends_are, none_first, one_more, quick_at, quick_ends, stop_read}
use Rattle.streams.proofs.ReadLemmas.{appends_more}
use Rattle.streams.proofs.TagLemmas.{held_by_row, row_of, untagged_is}
use Rattle.streams.proofs.reading.read_piece.Goals as goal

pub loop-k-init : goal.loop-k-init
loop-k-init g c = record {
  own = c.requires.own;
  row = c.requires.row;
  len = refl;
  count = omega arith;
  read = λ s h. (
    at_first c.args.dfa.now c.args.cache.now s c.args.offset c.args.first h,
    none_first c.args.dfa.now (within s c.args.offset) c.args.rows.now,
  );
}

pub loop-k-preserved-then-not-is_tagged : goal.loop-k-preserved-then-not-is_tagged
loop-k-preserved-then-not-is_tagged g c =
    let i = c.loop-k.invariant in
    let low = untagged_is c.quick-next.result (sym c.is_tagged.ensures ∙ c.if-not-is_tagged.true) in
    let one = one_more c.args.bytes.now c.loop-k.k c.loop-k-test.true in
    record {
      own = i.own;
      row =
          let first = state_at c.args.cache.now c.requires.row.0 in
          let a = (i.read first (held_by_row c.args.cache.now c.args.first c.requires.row)).0 in
          let next = quick_at c.args.dfa.now c.loop-k.cache first c.args.offset c.loop-k.id (c.args.offset + c.loop-k.k)
          (slice_index c.args.bytes.now c.loop-k.k) (take c.loop-k.k c.args.bytes.now) (take (c.loop-k.k + 1) c.args.bytes.now) one a
          c.quick-next.result i.own low (c.quick-next.ensures low a.state a.held) in
          row_of c.loop-k.cache c.quick-next.result next.state next.held;
      len = i.len;
      count = i.count;
      read = λ s h.
          let a = (i.read s h).0 in
          let led = c.quick-next.ensures low a.state a.held in (
            subst (λ (m : ℕ). IsAt c.args.dfa.now c.loop-k.cache s c.args.offset (take (c.loop-k.k + 1) c.args.bytes.now) c.quick-next.result m)
                (omega arith)
                (quick_at c.args.dfa.now c.loop-k.cache s c.args.offset c.loop-k.id (c.args.offset + c.loop-k.k)
                (slice_index c.args.bytes.now c.loop-k.k) (take c.loop-k.k c.args.bytes.now) (take (c.loop-k.k + 1) c.args.bytes.now) one a
                c.quick-next.result i.own low led),
            quick_ends c.args.dfa.now c.loop-k.cache s c.args.offset c.loop-k.id (c.args.offset + c.loop-k.k)
                (slice_index c.args.bytes.now c.loop-k.k) (take c.loop-k.k c.args.bytes.now) (take (c.loop-k.k + 1) c.args.bytes.now) one a
                c.quick-next.result i.own low led c.args.rows.now c.loop-k.rows c.loop-k.count (i.read s h).1,
          );
    }

pub returns-in-Stop-clause-read : goal.returns-in-Stop-clause-read
returns-in-Stop-clause-read g c = λ s h.
    let i = c.loop-k.invariant in
    let a = (i.read s h).0 in
    let made = subst (λ (x : Step). IsByteStep c.args.dfa.now c.make_step.new.cache a.state (c.args.offset + c.loop-k.k)
    (slice_index c.args.bytes.now c.loop-k.k) c.loop-k.rows c.make_step.new.rows c.loop-k.count x) c.in-Stop.is
    (c.in_ok-to.ensures.step a.state a.held) in
    subst (λ (r : Read). IsPieceRead c.args.dfa.now (within s c.args.offset) c.args.bytes.now c.args.rows.now c.make_step.new.rows r)
    (sym c.stopped.ensures)
    (stop_read c.args.dfa.now c.loop-k.cache s c.args.offset c.loop-k.id c.loop-k.k c.loop-k.count c.args.bytes.now c.args.rows.now c.loop-k.rows
    c.make_step.new.rows c.loop-k-test.true a i.len (i.read s h).1 made.1 i.own c.in-Stop.stop made.0)

pub loop-k-preserved : goal.loop-k-preserved
loop-k-preserved g c =
    let i = c.loop-k.invariant in
    let one = one_more c.args.bytes.now c.loop-k.k c.loop-k-test.true in
    let b = slice_index c.args.bytes.now c.loop-k.k in
    let more = take (c.loop-k.k + 1) c.args.bytes.now in
    record {
      own = c.in_ok-to.ensures.own;
      row =
          let first = state_at c.args.cache.now c.requires.row.0 in
          let a = (i.read first (held_by_row c.args.cache.now c.args.first c.requires.row)).0 in
          let made = subst (λ (x : Step). IsByteStep c.args.dfa.now c.make_step.new.cache a.state (c.args.offset + c.loop-k.k) b c.loop-k.rows
          c.make_step.new.rows c.loop-k.count x) c.in-To.is (c.in_ok-to.ensures.step a.state a.held) in
          row_of c.make_step.new.cache c.in-To.to (after c.args.dfa.now a.state (Some b)) made.0;
      len = c.in_ok-to.ensures.length ∙ i.len;
      count =
          let first = state_at c.args.cache.now c.requires.row.0 in
          let a = (i.read first (held_by_row c.args.cache.now c.args.first c.requires.row)).0 in
          let made = subst (λ (x : Step). IsByteStep c.args.dfa.now c.make_step.new.cache a.state (c.args.offset + c.loop-k.k) b c.loop-k.rows
          c.make_step.new.rows c.loop-k.count x) c.in-To.is (c.in_ok-to.ensures.step a.state a.held) in
          let fits : c.in-To.n ≤ length c.loop-k.rows = made.2.fits in
          let len : length c.make_step.new.rows ≡ length c.loop-k.rows = c.in_ok-to.ensures.length in
          omega (arith, fits, len);
      read = λ s h.
          let a = (i.read s h).0 in
          let made = subst (λ (x : Step). IsByteStep c.args.dfa.now c.make_step.new.cache a.state (c.args.offset + c.loop-k.k) b c.loop-k.rows
          c.make_step.new.rows c.loop-k.count x) c.in-To.is (c.in_ok-to.ensures.step a.state a.held) in (
            subst (λ (m : ℕ). IsAt c.args.dfa.now c.make_step.new.cache s c.args.offset more c.in-To.to m)
                (omega arith)
                (at_more c.args.dfa.now c.loop-k.cache s c.args.offset c.loop-k.id (c.args.offset + c.loop-k.k) b
                (take c.loop-k.k c.args.bytes.now) more one a c.make_step.new.cache c.in-To.to made.0 made.1),
            appends_more c.args.rows.now c.loop-k.rows c.make_step.new.rows c.loop-k.count c.in-To.n
                (stream_ends c.args.dfa.now (within s c.args.offset) (take c.loop-k.k c.args.bytes.now))
                (ends_before c.args.dfa.now a.state (c.args.offset + c.loop-k.k) b) (stream_ends c.args.dfa.now (within s c.args.offset) more) i.len
                (ends_are c.args.dfa.now c.loop-k.cache s c.args.offset c.loop-k.id (c.args.offset + c.loop-k.k) b
                (take c.loop-k.k c.args.bytes.now) more one a)
                (i.read s h).1 made.2,
          );
    }

pub returns-clause-read : goal.returns-clause-read
returns-clause-read g c = λ s h.
    let i = c.loop-k.invariant in
    all_read c.args.dfa.now c.loop-k.cache s c.in_ok-state.state c.args.offset c.loop-k.id c.loop-k.k c.loop-k.count c.args.bytes.now
    c.args.rows.now c.loop-k.rows (omega (arith, c.loop-k-test.false, c.loop-k.auto.k-end)) i.own (i.read s h).0 c.in_ok-state.ensures.state
    c.in_ok-state.ensures.is (i.read s h).1
