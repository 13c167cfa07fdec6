use Rattle.std.proofs.Common.{◌≡◌, ◌+◌, ◌-◌, ◌∙◌, ◌==◌, ℕ, List, Some, length, take, drop, sym, ap, ap₂, refl, arith}
use Rattle.std.proofs.lemmas.List.{take_rest}
use Rattle.std.specs.List.{position}
use Rattle.std.specs.Prelude.{slice_range}
use Rattle.grep_core.specs.Blocks.{finds_by, reported_bytes, counts_lines}
use Rattle.grep_core.specs.Reporting.{needs_spans}
use Rattle.line_search.proofs.ForCallers.{starts_behind}
use Rattle.grep_core.proofs.JoinLemmas.{here_counted, here_told, moves_past, passed_counted, passed_told, starts_all, whole_range}
use Rattle.grep_core.proofs.SeenLemmas.{none_by}
use Rattle.grep_core.proofs.blocks.report_reached.Goals as goal

pub skip_lines-requires-clause-whole : goal.skip_lines-requires-clause-whole
skip_lines-requires-clause-whole c =
    whole_range c.args.block.now c.args.at c.args.reached.start c.requires.next.from
    (starts_all c.args.block.now c.args.reached.start c.requires.whole c.requires.next.within c.requires.next.starts)

pub returns-then-not-reached-clause-starts : goal.returns-then-not-reached-clause-starts
returns-then-not-reached-clause-starts c =
    starts_all c.args.block.now c.args.reached.start c.requires.whole c.requires.next.within c.requires.next.starts

pub returns-then-not-reached-clause-reports : goal.returns-then-not-reached-clause-reports
returns-then-not-reached-clause-reports c = record {
  goes_on = λ by more.
      passed_told (reported_bytes c.args.task (finds_by c.args.task by)) c.args.progress.now c.skip_lines.new.progress
      c.args.block.now more c.args.out.now.items c.skip_lines.new.out.items c.args.at c.args.reached.start c.requires.next.from
      (c.in-Ok.ensures.goes_on c.args.finder.now by
      (none_by c.args.finder.now (needs_spans c.args.task.what.now) by
      (slice_range c.args.block.now c.args.at c.args.reached.start) c.requires.next.passed));
  counts = λ by more.
      passed_counted (counts_lines c.args.task (finds_by c.args.task by)) c.args.progress.now c.skip_lines.new.progress
      c.args.block.now more c.args.at c.args.reached.start c.requires.next.from
      (c.in-Ok.ensures.counts c.args.finder.now by
      (none_by c.args.finder.now (needs_spans c.args.task.what.now) by
      (slice_range c.args.block.now c.args.at c.args.reached.start) c.requires.next.passed));
}

pub returns-in-None-clause-on : goal.returns-in-None-clause-on
returns-in-None-clause-on c =
    moves_past c.args.block.now c.args.at c.args.reached.start c.args.reached.start c.requires.whole c.requires.below
    c.requires.next.from (omega arith)
    (λ some. absurd (some (ap (position (λ b. b == 10)) (sym (take_rest c.args.block.now c.args.reached.start)) ∙ (sym c.feed_at.ensures ∙ c.in-None.is))))

pub returns-in-None-clause-starts : goal.returns-in-None-clause-starts
returns-in-None-clause-starts c =
    starts_all c.args.block.now c.args.reached.start c.requires.whole c.requires.next.within c.requires.next.starts

pub returns-in-None-clause-reports : goal.returns-in-None-clause-reports
returns-in-None-clause-reports c = record {
  goes_on = λ by more.
      passed_told (reported_bytes c.args.task (finds_by c.args.task by)) c.args.progress.now c.skip_lines.new.progress
      c.args.block.now more c.args.out.now.items c.skip_lines.new.out.items c.args.at c.args.reached.start c.requires.next.from
      (c.in-Ok.ensures.goes_on c.args.finder.now by
      (none_by c.args.finder.now (needs_spans c.args.task.what.now) by
      (slice_range c.args.block.now c.args.at c.args.reached.start) c.requires.next.passed));
  counts = λ by more.
      passed_counted (counts_lines c.args.task (finds_by c.args.task by)) c.args.progress.now c.skip_lines.new.progress
      c.args.block.now more c.args.at c.args.reached.start c.requires.next.from
      (c.in-Ok.ensures.counts c.args.finder.now by
      (none_by c.args.finder.now (needs_spans c.args.task.what.now) by
      (slice_range c.args.block.now c.args.at c.args.reached.start) c.requires.next.passed));
}

pub returns-in-Ok-report_one-clause-on : goal.returns-in-Ok-report_one-clause-on
returns-in-Ok-report_one-clause-on c = let from = c.requires.next.from in omega (arith, from)

pub returns-in-Ok-report_one-clause-starts : goal.returns-in-Ok-report_one-clause-starts
returns-in-Ok-report_one-clause-starts c =
    let block : List ℕ = c.args.block.now in
    let at : ℕ = c.args.reached.start in
    let len : ℕ = c.in-Some.len in
    let text : List ℕ = take (length block - at) (drop at block) in
    let found : position (λ b. b == 10) text ≡ Some len = sym c.feed_at.ensures ∙ c.in-Some.is in
    let is : at + len + 1 ≡ at + (len + 1) = omega arith in
    starts_behind block text at len (at + len + 1) (take_rest block at) found is

pub returns-in-Ok-report_one-clause-reports : goal.returns-in-Ok-report_one-clause-reports
returns-in-Ok-report_one-clause-reports c =
    let block : List ℕ = c.args.block.now in
    let at : ℕ = c.args.reached.start in
    let len : ℕ = c.in-Some.len in
    let text : List ℕ = take (length block - at) (drop at block) in
    let rest : text ≡ drop at block = take_rest block at in
    let found : position (λ b. b == 10) text ≡ Some len = sym c.feed_at.ensures ∙ c.in-Some.is in
    let short : at + len - at ≡ len = omega arith in
    let piece : List ℕ = take (at + len - at) (drop at block) in
    let cut : piece ≡ take len text = ap₂ (λ k (t : List ℕ). take k t) short (sym rest) in
    let is : at + len + 1 ≡ at + (len + 1) = omega arith in
    record {
      goes_on = λ by more.
          passed_told (reported_bytes c.args.task (finds_by c.args.task by)) c.args.progress.now c.skip_lines.new.progress
          block more c.args.out.now.items c.skip_lines.new.out.items c.args.at at c.requires.next.from
          (c.in-Ok.ensures.goes_on c.args.finder.now by
          (none_by c.args.finder.now (needs_spans c.args.task.what.now) by (slice_range block c.args.at at) c.requires.next.passed))
          ∙ here_told (reported_bytes c.args.task (finds_by c.args.task by)) c.skip_lines.new.progress c.report_one.new.progress block more
          text piece c.skip_lines.new.out.items c.report_one.new.out.items at len (at + len + 1) rest found cut is
          (c.in-Ok-report_one.ensures.goes_on by);
      counts = λ by more.
          here_counted (counts_lines c.args.task (finds_by c.args.task by)) c.skip_lines.new.progress c.report_one.new.progress block more
          text piece at len (at + len + 1) rest found cut is (c.in-Ok-report_one.ensures.counts by)
          ∙ passed_counted (counts_lines c.args.task (finds_by c.args.task by)) c.args.progress.now c.skip_lines.new.progress
          block more c.args.at at c.requires.next.from
          (c.in-Ok.ensures.counts c.args.finder.now by
          (none_by c.args.finder.now (needs_spans c.args.task.what.now) by (slice_range block c.args.at at) c.requires.next.passed));
    }
