use Rattle.std.proofs.Common.{◌∙◌, ℕ, List, ap, subst, take}
use Rattle.std.specs.Io.KnownBytes.{Appends}
use Rattle.grep_core.specs.Report.{counted_as}
use Rattle.text_report.specs.Touching.{AreBefore}
use Rattle.text_report.specs.declared.reporting.TextProgress.{TextProgress}
use Rattle.text_report.specs.declared.text_lines.TextPosition.{TextPosition}
use Rattle.text_report.proofs.ReportLemmas.{counted_all, ends_part, ends_written, starts_count, starts_text}
use Rattle.text_report.proofs.SeenLemmas.{none_before_first}
use Rattle.text_report.proofs.reporting.report_found.Goals as goal

pub write_lines-requires-clause-waits : goal.write_lines-requires-clause-waits
write_lines-requires-clause-waits g c = c.new.ensures.waits c.args.task.what.now

pub returns-in-Err-clause-fault : goal.returns-in-Err-clause-fault
returns-in-Err-clause-fault g c order =
    let t = c.args.task in
    let p : TextProgress = record { at = c.first_position.result; telling = c.new.result } in
    let place = c.first_position.ensures in
    let before : AreBefore t.found.now p.at.first p.at.place =
    none_before_first t.found.now p.at.first p.at.place (ap (λ (q : TextPosition). q.first) place) in
    let part = c.in-Err.ensures.fault order before in (
      part.0,
      subst (λ (l : List ℕ). Appends (g.W.Write.contents c.args.writer.now) (g.W.Write.contents c.write_lines.new.writer) (take part.0 l))
          (starts_text t c.args.known p (ap (λ (q : TextPosition). q.number) place) (ap (λ (q : TextPosition). q.place) place)
          c.new.ensures.count c.new.ensures.matches (c.new.ensures.prints t.what.now c.first_of.ensures)) part.1,
    )

pub returns-in-Ok-write_end-clause-reported : goal.returns-in-Ok-write_end-clause-reported
returns-in-Ok-write_end-clause-reported g c order =
    let t = c.args.task in
    let p : TextProgress = record { at = c.first_position.result; telling = c.new.result } in
    let place = c.first_position.ensures in
    let before : AreBefore t.found.now p.at.first p.at.place =
    none_before_first t.found.now p.at.first p.at.place (ap (λ (q : TextPosition). q.first) place) in
    subst (Appends (g.W.Write.contents c.args.writer.now) (g.W.Write.contents c.write_end.new.writer))
    (starts_text t c.args.known p (ap (λ (q : TextPosition). q.number) place) (ap (λ (q : TextPosition). q.place) place)
    c.new.ensures.count c.new.ensures.matches (c.new.ensures.prints t.what.now c.first_of.ensures))
    (ends_written t p c.write_lines.new.progress (g.W.Write.contents c.args.writer.now) (g.W.Write.contents c.write_lines.new.writer)
    (g.W.Write.contents c.write_end.new.writer) (c.in-Ok.ensures.writes order before) c.in-Ok.ensures.end c.in-Ok-write_end.ensures.written)

pub returns-in-Ok-write_end-clause-selected : goal.returns-in-Ok-write_end-clause-selected
returns-in-Ok-write_end-clause-selected g c order =
    let t = c.args.task in
    let p : TextProgress = record { at = c.first_position.result; telling = c.new.result } in
    let place = c.first_position.ensures in
    let before : AreBefore t.found.now p.at.first p.at.place =
    none_before_first t.found.now p.at.first p.at.place (ap (λ (q : TextPosition). q.first) place) in
    c.counted_as.ensures
    ∙ ap (counted_as t.what.now.print)
    (counted_all t p c.write_lines.new.progress (g.W.Write.contents c.args.writer.now) (g.W.Write.contents c.write_lines.new.writer)
    (c.in-Ok.ensures.writes order before) c.in-Ok.ensures.end
    ∙ starts_count t c.args.known p (ap (λ (q : TextPosition). q.number) place) (ap (λ (q : TextPosition). q.place) place)
    c.new.ensures.count c.new.ensures.matches (c.new.ensures.prints t.what.now c.first_of.ensures))

pub returns-clause-fault : goal.returns-clause-fault
returns-clause-fault g c order =
    let t = c.args.task in
    let p : TextProgress = record { at = c.first_position.result; telling = c.new.result } in
    let place = c.first_position.ensures in
    let before : AreBefore t.found.now p.at.first p.at.place =
    none_before_first t.found.now p.at.first p.at.place (ap (λ (q : TextPosition). q.first) place) in
    let part =
    ends_part t p c.write_lines.new.progress (g.W.Write.contents c.args.writer.now) (g.W.Write.contents c.write_lines.new.writer)
    (g.W.Write.contents c.write_end.new.writer) (c.in-Ok.ensures.writes order before) c.in-Ok.ensures.end c.in-Err-write_end.ensures.fault in (
      part.0,
      subst (λ (l : List ℕ). Appends (g.W.Write.contents c.args.writer.now) (g.W.Write.contents c.write_end.new.writer) (take part.0 l))
          (starts_text t c.args.known p (ap (λ (q : TextPosition). q.number) place) (ap (λ (q : TextPosition). q.place) place)
          c.new.ensures.count c.new.ensures.matches (c.new.ensures.prints t.what.now c.first_of.ensures)) part.1,
    )
