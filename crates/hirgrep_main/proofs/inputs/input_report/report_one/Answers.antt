use Rattle.std.proofs.Common.{◌∙◌, false, sym}
use Rattle.hirgrep_main.specs.Decisions.{is_headed}
use Rattle.hirgrep_main.specs.Tasks.{body_count, options_in, report_by, whole_report_by}
use Rattle.grep_cli.specs.PrintedNames.{printed_name}
use Rattle.hirgrep_main.proofs.ReportLemmas.{if_any, input_reported, is_plainly, lines_reported, nothing_written}
use Rattle.hirgrep_main.proofs.inputs.input_report.report_one.Goals as goal

pub returns-in_default-clause-reported : goal.returns-in_default-clause-reported
returns-in_default-clause-reported g c = λ by.
    if_any _ (λ text. record { written = _; counted = _; part = nothing_written _ _ }) (g.R.Read.remaining c.args.reader.now)

pub returns-in-Err-clause-reported : goal.returns-in-Err-clause-reported
returns-in-Err-clause-reported g c = λ by.
    if_any _ (λ text. record { written = _; counted = _; part = nothing_written _ _ }) (g.R.Read.remaining c.args.reader.now)

pub returns-then-not-is_plain-clause-reported : goal.returns-then-not-is_plain-clause-reported
returns-then-not-is_plain-clause-reported g c =
    let r = c.args.task.asked.now.reading in
    input_reported c.args.finder.now c.args.task.asked.now.reading c.args.task.asked.now.binary (options_in c.args.task) c.options_for-what.result
    (g.R.Read.remaining c.args.reader.now) (g.R.Read.remaining c.read_ahead.new.reader) _
    (g.W.Write.contents c.args.writer.now.writer) (g.W.Write.contents c.report_otherwise-reported.new.writer.writer) c.noticed.result c.report_otherwise-reported.result
    c.in-Ok-read_ahead.ahead.items c.as_slice-first.result.now c.new-input.result.binary c.has_zero-zero.result c.new-input.result.zero
    (printed_name c.args.task.hides_controls c.args.name.now) c.as_bytes-bytes.result.now
    (λ name v m text. report_by r (is_headed c.args.task.asked.now.heading v.print) c.args.task v c.args.outcome m name text)
    (λ name v m text. whole_report_by r (is_headed c.args.task.asked.now.heading v.print) c.args.task v c.args.outcome m name text)
    (λ name v m text. body_count r v m name text)
    c.noticed.ensures c.options_for-what.ensures (c.as_bytes-bytes.ensures.value ∙ (c.as_str-name.ensures ∙ c.in-Ok.ensures))
    c.new-input.ensures.binary c.new-input.ensures.zero c.has_zero-zero.ensures (search) c.in-Ok-read_ahead.ensures.read c.in-Ok-read_ahead.ensures.first
    (rw c.new-input.ensures.reader c.chain.ensures.bytes)
    (c.report_otherwise-reported.ensures.reported (sym c.is_plain.ensures ∙ c.if-not-is_plain.true))

pub returns-clause-reported : goal.returns-clause-reported
returns-clause-reported g c =
    let r = c.args.task.asked.now.reading in
    let plain = is_plainly _ _ (sym c.is_plain.ensures ∙ c.if-not-is_plain.false) in
    input_reported c.args.finder.now c.args.task.asked.now.reading c.args.task.asked.now.binary (options_in c.args.task) c.options_for-what.result
    (g.R.Read.remaining c.args.reader.now) (g.R.Read.remaining c.read_ahead.new.reader) _
    (g.W.Write.contents c.args.writer.now.writer) (g.W.Write.contents c.report_input-reported.new.writer) c.noticed-2.result c.report_input-reported.result
    c.in-Ok-read_ahead.ahead.items c.as_slice-first.result.now c.new-input.result.binary c.has_zero-zero.result c.new-input.result.zero
    (printed_name c.args.task.hides_controls c.args.name.now) c.as_bytes-bytes.result.now
    (λ name v m text. report_by r (is_headed c.args.task.asked.now.heading v.print) c.args.task v c.args.outcome m name text)
    (λ name v m text. whole_report_by r (is_headed c.args.task.asked.now.heading v.print) c.args.task v c.args.outcome m name text)
    (λ name v m text. body_count r v m name text)
    c.noticed-2.ensures c.options_for-what.ensures (c.as_bytes-bytes.ensures.value ∙ (c.as_str-name.ensures ∙ c.in-Ok.ensures))
    c.new-input.ensures.binary c.new-input.ensures.zero c.has_zero-zero.ensures (search) c.in-Ok-read_ahead.ensures.read c.in-Ok-read_ahead.ensures.first
    (rw c.new-input.ensures.reader c.chain.ensures.bytes)
    (lines_reported c.args.finder.now c.options_for-what.result r (is_headed c.args.task.asked.now.heading c.options_for-what.result.print) false _
    (g.W.Write.contents c.args.writer.now.writer) (g.W.Write.contents c.report_input-reported.new.writer) c.report_input-reported.result
    (λ r h m text. report_by r h c.args.task c.options_for-what.result c.args.outcome m c.as_bytes-bytes.result.now text)
    (λ r h m text. whole_report_by r h c.args.task c.options_for-what.result c.args.outcome m c.as_bytes-bytes.result.now text)
    (λ r m text. body_count r c.options_for-what.result m c.as_bytes-bytes.result.now text) plain.0 plain.1
    (rw (sym c.known-known.ensures) c.report_input-reported.ensures.reported) c.report_input-reported.ensures.selected
    (rw (sym c.known-known.ensures) c.report_input-reported.ensures.fault))
