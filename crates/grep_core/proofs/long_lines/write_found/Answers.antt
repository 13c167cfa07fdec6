use Rattle.std.proofs.Common.{Bool, List, ◌+◌, ◌∙◌, ◌∷◌, ap, length, subst, sym}
use Rattle.grep_core.specs.Blocks.{SearchesBy, finds_by, reported_bytes}
use Rattle.grep_core.specs.ContextPrinting.{Waits}
use Rattle.grep_core.specs.declared.reporter.Reporter.{Reporter}
use Rattle.line_search.specs.Lines.{SplitLine, numbered, searched}
use Rattle.grep_core.specs.LongLines.{Sends}
use Rattle.line_search.specs.Patterns.{spans_in}
use Rattle.grep_core.proofs.LongLineLemmas.{all_begun, found_in, line_failed, on_err, on_ok, passed_counted, passed_lines, read_by, seen_by, some_by}
use Rattle.grep_core.proofs.long_lines.write_found.Goals as goal

pub returns-in-Err : goal.returns-in-Err
returns-in-Err g c =
    let line : SplitLine = record { bytes = c.args.bytes.now; is_ended = c.args.is_ended } in
    line_failed c.in-Err.ensures.same (λ by lines.
    c.in-Err.ensures.fault (finds_by c.args.task by) by.patterns (read_by c.args.task c.args.finder.now by)
    (seen_by c.args.task c.args.finder.now by line c.requires.known)
    (ap (spans_in c.args.finder.now.how by.patterns)
    (c.searched-text.ensures ∙ ap (λ (b : Bool). searched b line) c.crlf.ensures)
    ∙ found_in c.args.task c.args.finder.now by line c.requires.may.by_match)
    (some_by c.args.task c.args.finder.now by line c.requires.may.by_match c.requires.known)
    (numbered (c.args.progress.now.number + 1) (c.args.progress.now.place + length c.args.bytes.now + 1) lines))

pub returns : goal.returns
returns g c =
    let line : SplitLine = record { bytes = c.args.bytes.now; is_ended = c.args.is_ended } in
    let next = λ (lines : List SplitLine). numbered (c.args.progress.now.number + 1)
    (c.args.progress.now.place + length c.args.bytes.now + 1) lines in
    let sent = λ (by : SearchesBy c.args.task c.args.finder.now) (lines : List SplitLine).
    c.in-Ok.ensures.writes (finds_by c.args.task by) by.patterns (read_by c.args.task c.args.finder.now by)
    (seen_by c.args.task c.args.finder.now by line c.requires.known)
    (ap (spans_in c.args.finder.now.how by.patterns)
    (c.searched-text.ensures ∙ ap (λ (b : Bool). searched b line) c.crlf.ensures)
    ∙ found_in c.args.task c.args.finder.now by line c.requires.may.by_match)
    (some_by c.args.task c.args.finder.now by line c.requires.may.by_match c.requires.known) (next lines) in
    record {
      same = c.in-Ok.ensures.same;
      waits = on_ok c.pass.result (λ passed. subst (λ (it : Reporter). Waits c.args.task.what.now it.course) (sym passed.telling)
          c.in-Ok.ensures.waits) c.pass.ensures;
      writes = on_ok c.pass.result (λ passed by lines. record {
        sends = subst (Sends (g.W.Write.contents c.args.writer.now) (g.W.Write.contents c.write_selected.new.writer)
            (reported_bytes c.args.task (finds_by c.args.task by) c.args.progress.now (line ∷ lines)))
            (passed_lines c.args.task (finds_by c.args.task by) c.args.progress.now c.pass.new.progress c.write_selected.new.telling
            (length c.args.bytes.now) lines passed) (sent by lines);
        counted = passed_counted c.args.task (finds_by c.args.task by) c.args.progress.now c.pass.new.progress
            c.write_selected.new.telling (length c.args.bytes.now) lines passed
            ∙ c.in-Ok.ensures.counts (finds_by c.args.task by)
            (record { number = c.args.progress.now.number; place = c.args.progress.now.place; content = line })
            (seen_by c.args.task c.args.finder.now by line c.requires.known) (next lines);
      }) c.pass.ensures;
      fault = on_err c.pass.result (λ by lines. all_begun _ _ (g.W.Write.contents c.args.writer.now)
          (g.W.Write.contents c.write_selected.new.writer) (sent by lines));
    }
