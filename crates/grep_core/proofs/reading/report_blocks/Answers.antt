use Rattle.std.proofs.Common.{◌≡◌, ◌++◌, ◌+◌, ◌-◌, ◌∙◌, ◌==◌, ℕ, List, None, length, take, drop, refl, sym, ap, ap₂, subst}
use Rattle.std.proofs.lemmas.List.{take_rest}
use Rattle.std.specs.List.{position}
use Rattle.grep_core.specs.Blocks.{WritesPart, finds_by}
use Rattle.grep_core.proofs.BlockLemmas.{unfed_more, unfed_rest, unfed_same}
use Rattle.grep_core.proofs.PieceLemmas.{block_written, lines_part, pieces_part}
use Rattle.grep_core.proofs.SeenLemmas.{moved_by}
use Rattle.grep_core.proofs.WriteLemmas.{none_part, part_more, reads_more, reads_none, reads_part, reads_same, then_part, then_reads}
use Rattle.grep_core.proofs.reading.report_blocks.Goals as goal

pub loop-blocks-init : goal.loop-blocks-init
loop-blocks-init g c = record {
  same = refl;
  unfed = c.requires.open;
  waits = c.requires.waits;
  reads = λ by text is.
      reads_none c.args.task (finds_by c.args.task by) c.args.progress.now c.args.read.now text (g.R.Read.remaining c.args.reader.now)
      (g.W.Write.contents c.args.writer.now) is;
}

pub returns-in-Err-clause-fault : goal.returns-in-Err-clause-fault
returns-in-Err-clause-fault g c by text is =
    reads_part c.args.task (finds_by c.args.task by) c.args.progress.now c.loop-blocks.progress c.args.read.now c.loop-blocks.read text
    (g.R.Read.remaining c.loop-blocks.reader)
    (g.W.Write.contents c.args.writer.now) (g.W.Write.contents c.loop-blocks.writer) (c.loop-blocks.invariant.reads by text is)

pub returns-then-taken-eq0-clause-open : goal.returns-then-taken-eq0-clause-open
returns-then-taken-eq0-clause-open g c =
    unfed_same c.loop-blocks.read c.in-Ok.ensures.bytes c.read_some.new.self c.in-Ok.taken c.in-Ok.ensures.appended c.in-Ok.ensures.counted
    c.if-taken-eq0.true c.loop-blocks.invariant.unfed

pub returns-then-taken-eq0-clause-reads : goal.returns-then-taken-eq0-clause-reads
returns-then-taken-eq0-clause-reads g c by text is =
    let a = c.loop-blocks.invariant.reads by text is in
    then_reads c.args.task (finds_by c.args.task by) c.args.progress.now c.loop-blocks.progress c.loop-blocks.progress c.args.read.now
    c.loop-blocks.read c.read_some.new.self text
    (g.R.Read.remaining c.loop-blocks.reader) (g.R.Read.remaining c.read_some.new.reader) (g.W.Write.contents c.args.writer.now)
    (g.W.Write.contents c.loop-blocks.writer) (g.W.Write.contents c.loop-blocks.writer) a
    (reads_same c.args.task (finds_by c.args.task by) c.loop-blocks.progress c.loop-blocks.read c.read_some.new.self a.rest
    c.in-Ok.ensures.bytes (g.R.Read.remaining c.loop-blocks.reader) (g.R.Read.remaining c.read_some.new.reader)
    (g.W.Write.contents c.loop-blocks.writer) a.is_left c.in-Ok.ensures.taken c.in-Ok.ensures.appended)

pub returns-then-bytes-gt-LONGEST-clause-fault : goal.returns-then-bytes-gt-LONGEST-clause-fault
returns-then-bytes-gt-LONGEST-clause-fault g c by text is =
    reads_part c.args.task (finds_by c.args.task by) c.args.progress.now c.loop-blocks.progress c.args.read.now c.loop-blocks.read text
    (g.R.Read.remaining c.loop-blocks.reader)
    (g.W.Write.contents c.args.writer.now) (g.W.Write.contents c.loop-blocks.writer) (c.loop-blocks.invariant.reads by text is)

pub loop-blocks-preserved-in-None : goal.loop-blocks-preserved-in-None
loop-blocks-preserved-in-None g c = record {
  same = c.loop-blocks.invariant.same;
  unfed =
      let before : ℕ = length c.bytes-before.result.now in
      let bytes : List ℕ = c.bytes-bytes.result.now in
      let new : drop (length c.loop-blocks.read) c.read_some.new.self ≡ take (length bytes - before) (drop before bytes) =
      ap₂ (λ n (l : List ℕ). drop n l) (ap length (sym c.bytes-before.ensures)) (sym c.bytes-bytes.ensures) ∙ sym (take_rest bytes before) in
      unfed_more c.loop-blocks.read c.in-Ok.ensures.bytes c.read_some.new.self c.in-Ok.ensures.appended c.loop-blocks.invariant.unfed
      (ap (position (λ b. b == 10)) new ∙ sym c.feed_at.ensures ∙ c.in-None.is);
  waits = c.loop-blocks.invariant.waits;
  reads = λ by text is.
      let a = c.loop-blocks.invariant.reads by text is in
      then_reads c.args.task (finds_by c.args.task by) c.args.progress.now c.loop-blocks.progress c.loop-blocks.progress c.args.read.now
      c.loop-blocks.read c.read_some.new.self text
      (g.R.Read.remaining c.loop-blocks.reader) (g.R.Read.remaining c.read_some.new.reader) (g.W.Write.contents c.args.writer.now)
      (g.W.Write.contents c.loop-blocks.writer) (g.W.Write.contents c.loop-blocks.writer) a
      (reads_same c.args.task (finds_by c.args.task by) c.loop-blocks.progress c.loop-blocks.read c.read_some.new.self a.rest
      c.in-Ok.ensures.bytes (g.R.Read.remaining c.loop-blocks.reader) (g.R.Read.remaining c.read_some.new.reader)
      (g.W.Write.contents c.loop-blocks.writer) a.is_left c.in-Ok.ensures.taken c.in-Ok.ensures.appended);
}

pub returns-in-Err-write_beginning-clause-fault : goal.returns-in-Err-write_beginning-clause-fault
returns-in-Err-write_beginning-clause-fault g c by text is =
    let a = c.loop-blocks.invariant.reads by text is in
    then_part c.args.task (finds_by c.args.task by) c.args.progress.now c.loop-blocks.progress (c.args.read.now ++ text)
    (c.loop-blocks.read ++ a.rest)
    (g.W.Write.contents c.args.writer.now) (g.W.Write.contents c.loop-blocks.writer) (g.W.Write.contents c.write_beginning.new.writer)
    a.writes
    (part_more c.args.task (finds_by c.args.task by) c.loop-blocks.progress c.loop-blocks.read c.read_some.new.self a.rest
    c.in-Ok.ensures.bytes (g.R.Read.remaining c.loop-blocks.reader) (g.R.Read.remaining c.read_some.new.reader)
    (g.W.Write.contents c.loop-blocks.writer) (g.W.Write.contents c.write_beginning.new.writer) a.is_left c.in-Ok.ensures.taken
    c.in-Ok.ensures.appended
    (λ more. subst (λ (l : List ℕ). WritesPart c.args.task (finds_by c.args.task by) c.loop-blocks.progress (l ++ more)
    (g.W.Write.contents c.loop-blocks.writer) (g.W.Write.contents c.write_beginning.new.writer)) c.bytes-bytes.ensures
    (c.in-Err-write_beginning.ensures.fault (moved_by c.loop-blocks.invariant.same by) more)))

pub returns-in-Err-report_block-clause-fault : goal.returns-in-Err-report_block-clause-fault
returns-in-Err-report_block-clause-fault g c by text is =
    let a = c.loop-blocks.invariant.reads by text is in
    let bytes : List ℕ = c.bytes-bytes.result.now in
    let first : ℕ = c.in-Ok-write_beginning.first in
    let lines : List ℕ = take (length bytes - first) (drop first bytes) in
    then_part c.args.task (finds_by c.args.task by) c.args.progress.now c.loop-blocks.progress (c.args.read.now ++ text)
    (c.loop-blocks.read ++ a.rest)
    (g.W.Write.contents c.args.writer.now) (g.W.Write.contents c.loop-blocks.writer) (g.W.Write.contents c.write_beginning.new.writer)
    a.writes
    (part_more c.args.task (finds_by c.args.task by) c.loop-blocks.progress c.loop-blocks.read c.read_some.new.self a.rest
    c.in-Ok.ensures.bytes (g.R.Read.remaining c.loop-blocks.reader) (g.R.Read.remaining c.read_some.new.reader)
    (g.W.Write.contents c.loop-blocks.writer) (g.W.Write.contents c.write_beginning.new.writer) a.is_left c.in-Ok.ensures.taken
    c.in-Ok.ensures.appended
    (λ more. subst (λ (l : List ℕ). WritesPart c.args.task (finds_by c.args.task by) c.loop-blocks.progress (l ++ more)
    (g.W.Write.contents c.loop-blocks.writer) (g.W.Write.contents c.write_beginning.new.writer)) c.bytes-bytes.ensures
    (pieces_part c.args.task (finds_by c.args.task by) c.loop-blocks.progress c.write_beginning.new.progress bytes more lines first
    (g.W.Write.contents c.loop-blocks.writer) (g.W.Write.contents c.write_beginning.new.writer)
    (g.W.Write.contents c.write_beginning.new.writer) (take_rest bytes first)
    (c.in-Ok-write_beginning.ensures.writes (moved_by c.loop-blocks.invariant.same by) more)
    (none_part c.args.task (finds_by c.args.task by) c.write_beginning.new.progress (lines ++ more)
    (g.W.Write.contents c.write_beginning.new.writer)))))

pub returns-in-Err-write_out-clause-fault : goal.returns-in-Err-write_out-clause-fault
returns-in-Err-write_out-clause-fault g c by text is =
    let a = c.loop-blocks.invariant.reads by text is in
    let bytes : List ℕ = c.bytes-bytes.result.now in
    let first : ℕ = c.in-Ok-write_beginning.first in
    let lines : List ℕ = take (length bytes - first) (drop first bytes) in
    then_part c.args.task (finds_by c.args.task by) c.args.progress.now c.loop-blocks.progress (c.args.read.now ++ text)
    (c.loop-blocks.read ++ a.rest)
    (g.W.Write.contents c.args.writer.now) (g.W.Write.contents c.loop-blocks.writer) (g.W.Write.contents c.write_out.new.writer)
    a.writes
    (part_more c.args.task (finds_by c.args.task by) c.loop-blocks.progress c.loop-blocks.read c.read_some.new.self a.rest
    c.in-Ok.ensures.bytes (g.R.Read.remaining c.loop-blocks.reader) (g.R.Read.remaining c.read_some.new.reader)
    (g.W.Write.contents c.loop-blocks.writer) (g.W.Write.contents c.write_out.new.writer) a.is_left c.in-Ok.ensures.taken
    c.in-Ok.ensures.appended
    (λ more. subst (λ (l : List ℕ). WritesPart c.args.task (finds_by c.args.task by) c.loop-blocks.progress (l ++ more)
    (g.W.Write.contents c.loop-blocks.writer) (g.W.Write.contents c.write_out.new.writer)) c.bytes-bytes.ensures
    (lines_part c.args.task (finds_by c.args.task by) c.loop-blocks.progress c.write_beginning.new.progress c.report_block.new.progress
    bytes more lines c.new-out.result.items c.report_block.new.out.items c.deref.result.now first c.in-Ok-report_block.done
    (g.W.Write.contents c.loop-blocks.writer) (g.W.Write.contents c.write_beginning.new.writer)
    (g.W.Write.contents c.write_out.new.writer) (take_rest bytes first) c.new-out.ensures.items c.deref.ensures.value
    (c.in-Ok-write_beginning.ensures.writes (moved_by c.loop-blocks.invariant.same by) more)
    (c.in-Ok-report_block.ensures.reports.goes_on
    (moved_by (c.in-Ok-write_beginning.ensures.same ∙ c.loop-blocks.invariant.same) by) more) c.in-Err-write_out.ensures.part)))

pub returns-then-is_task_over-clause-open : goal.returns-then-is_task_over-clause-open
returns-then-is_task_over-clause-open g c =
    let bytes : List ℕ = c.bytes-bytes.result.now in
    let first : ℕ = c.in-Ok-write_beginning.first in
    unfed_rest c.read_some.new.self bytes (take (length bytes - first) (drop first bytes)) c.forget.new.self first
    c.in-Ok-report_block.done c.bytes-bytes.ensures (take_rest bytes first) c.forget.ensures c.in-Ok-report_block.ensures.all

pub returns-then-is_task_over-clause-reads : goal.returns-then-is_task_over-clause-reads
returns-then-is_task_over-clause-reads g c by text is =
    let a = c.loop-blocks.invariant.reads by text is in
    let bytes : List ℕ = c.bytes-bytes.result.now in
    let first : ℕ = c.in-Ok-write_beginning.first in
    let lines : List ℕ = take (length bytes - first) (drop first bytes) in
    then_reads c.args.task (finds_by c.args.task by) c.args.progress.now c.loop-blocks.progress c.report_block.new.progress
    c.args.read.now c.loop-blocks.read c.forget.new.self text
    (g.R.Read.remaining c.loop-blocks.reader) (g.R.Read.remaining c.read_some.new.reader) (g.W.Write.contents c.args.writer.now)
    (g.W.Write.contents c.loop-blocks.writer) (g.W.Write.contents c.write_out.new.writer) a
    (reads_more c.args.task (finds_by c.args.task by) c.loop-blocks.progress c.report_block.new.progress c.loop-blocks.read
    c.read_some.new.self c.forget.new.self a.rest c.in-Ok.ensures.bytes
    (g.R.Read.remaining c.loop-blocks.reader) (g.R.Read.remaining c.read_some.new.reader)
    (g.W.Write.contents c.loop-blocks.writer) (g.W.Write.contents c.write_out.new.writer) a.is_left c.in-Ok.ensures.taken
    c.in-Ok.ensures.appended
    (λ more. block_written c.args.task (finds_by c.args.task by) c.loop-blocks.progress c.write_beginning.new.progress
    c.report_block.new.progress c.read_some.new.self bytes lines c.forget.new.self more c.new-out.result.items
    c.report_block.new.out.items c.deref.result.now first c.in-Ok-report_block.done
    (g.W.Write.contents c.loop-blocks.writer) (g.W.Write.contents c.write_beginning.new.writer)
    (g.W.Write.contents c.write_out.new.writer) c.bytes-bytes.ensures (take_rest bytes first) c.forget.ensures
    c.new-out.ensures.items c.deref.ensures.value
    (c.in-Ok-write_beginning.ensures.writes (moved_by c.loop-blocks.invariant.same by) more)
    (c.in-Ok-report_block.ensures.reports.goes_on
    (moved_by (c.in-Ok-write_beginning.ensures.same ∙ c.loop-blocks.invariant.same) by) more)
    (c.in-Ok-report_block.ensures.reports.counts
    (moved_by (c.in-Ok-write_beginning.ensures.same ∙ c.loop-blocks.invariant.same) by) more)
    c.in-Ok-write_out.ensures.ok))

pub loop-blocks-preserved : goal.loop-blocks-preserved
loop-blocks-preserved g c = record {
  same = c.in-Ok-report_block.ensures.keeps.same ∙ (c.in-Ok-write_beginning.ensures.same ∙ c.loop-blocks.invariant.same);
  unfed =
      let bytes : List ℕ = c.bytes-bytes.result.now in
      let first : ℕ = c.in-Ok-write_beginning.first in
      unfed_rest c.read_some.new.self bytes (take (length bytes - first) (drop first bytes)) c.forget.new.self first
      c.in-Ok-report_block.done c.bytes-bytes.ensures (take_rest bytes first) c.forget.ensures c.in-Ok-report_block.ensures.all;
  waits = c.in-Ok-report_block.ensures.keeps.waits;
  reads = λ by text is.
      let a = c.loop-blocks.invariant.reads by text is in
      let bytes : List ℕ = c.bytes-bytes.result.now in
      let first : ℕ = c.in-Ok-write_beginning.first in
      let lines : List ℕ = take (length bytes - first) (drop first bytes) in
      then_reads c.args.task (finds_by c.args.task by) c.args.progress.now c.loop-blocks.progress c.report_block.new.progress
      c.args.read.now c.loop-blocks.read c.forget.new.self text
      (g.R.Read.remaining c.loop-blocks.reader) (g.R.Read.remaining c.read_some.new.reader) (g.W.Write.contents c.args.writer.now)
      (g.W.Write.contents c.loop-blocks.writer) (g.W.Write.contents c.write_out.new.writer) a
      (reads_more c.args.task (finds_by c.args.task by) c.loop-blocks.progress c.report_block.new.progress c.loop-blocks.read
      c.read_some.new.self c.forget.new.self a.rest c.in-Ok.ensures.bytes
      (g.R.Read.remaining c.loop-blocks.reader) (g.R.Read.remaining c.read_some.new.reader)
      (g.W.Write.contents c.loop-blocks.writer) (g.W.Write.contents c.write_out.new.writer) a.is_left c.in-Ok.ensures.taken
      c.in-Ok.ensures.appended
      (λ more. block_written c.args.task (finds_by c.args.task by) c.loop-blocks.progress c.write_beginning.new.progress
      c.report_block.new.progress c.read_some.new.self bytes lines c.forget.new.self more c.new-out.result.items
      c.report_block.new.out.items c.deref.result.now first c.in-Ok-report_block.done
      (g.W.Write.contents c.loop-blocks.writer) (g.W.Write.contents c.write_beginning.new.writer)
      (g.W.Write.contents c.write_out.new.writer) c.bytes-bytes.ensures (take_rest bytes first) c.forget.ensures
      c.new-out.ensures.items c.deref.ensures.value
      (c.in-Ok-write_beginning.ensures.writes (moved_by c.loop-blocks.invariant.same by) more)
      (c.in-Ok-report_block.ensures.reports.goes_on
      (moved_by (c.in-Ok-write_beginning.ensures.same ∙ c.loop-blocks.invariant.same) by) more)
      (c.in-Ok-report_block.ensures.reports.counts
      (moved_by (c.in-Ok-write_beginning.ensures.same ∙ c.loop-blocks.invariant.same) by) more)
      c.in-Ok-write_out.ensures.ok));
}

pub returns-clause-fault : goal.returns-clause-fault
returns-clause-fault g c by text is =
    reads_part c.args.task (finds_by c.args.task by) c.args.progress.now c.loop-blocks.progress c.args.read.now c.loop-blocks.read text
    (g.R.Read.remaining c.loop-blocks.reader)
    (g.W.Write.contents c.args.writer.now) (g.W.Write.contents c.loop-blocks.writer) (c.loop-blocks.invariant.reads by text is)
