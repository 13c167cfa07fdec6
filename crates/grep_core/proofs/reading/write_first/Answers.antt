use Rattle.std.proofs.Common.{◌++◌, ◌+◌, ◌≤◌, drop, length, refl, rules, sym, ◌∙◌}
use Rattle.grep_core.specs.Blocks.{finds_by}
use Rattle.line_search.specs.Lines.{split_lines}
use Rattle.grep_core.proofs.LongLineLemmas.{first_begun, first_written}
use Rattle.grep_core.proofs.PieceLemmas.{first_failed, first_none, first_written_to}
use Rattle.grep_core.proofs.reading.write_first.Goals as goal

pub returns-then-not-begins_long : goal.returns-then-not-begins_long
returns-then-not-begins_long g c = first_none c.requires

pub returns-in_default : goal.returns-in_default
returns-in_default g c = first_none c.requires

pub returns-in-Err : goal.returns-in-Err
returns-in-Err g c = first_failed c.in-Err.ensures.same
    (λ by more. first_begun c.args.task (finds_by c.args.task by) c.args.progress.now c.args.read.now _ more c.in-Some.len
    (g.W.Write.contents c.args.writer.now) (g.W.Write.contents c.write_line.new.writer) (sym c.feed_at.ensures ∙ c.in-Some.is) refl
    (c.in-Err.ensures.fault by (split_lines (drop (c.in-Some.len + 1) c.args.read.now ++ more))))

pub returns : goal.returns
returns g c =
    let within : c.in-Some.len + 1 ≤ length c.args.read.now = search rules in
    first_written_to c.in-Ok.ensures.same c.in-Ok.ensures.waits within
    (λ by more. first_written c.args.task (finds_by c.args.task by) c.args.progress.now c.write_line.new.progress c.args.read.now _ more
    c.in-Some.len (g.W.Write.contents c.args.writer.now) (g.W.Write.contents c.write_line.new.writer)
    (sym c.feed_at.ensures ∙ c.in-Some.is) refl
    (c.in-Ok.ensures.writes by (split_lines (drop (c.in-Some.len + 1) c.args.read.now ++ more))))
