use Rattle.std.proofs.Common.{◌≡◌, ℕ, subst, sym, take}
use Rattle.std.specs.Prelude.{IfErr, IfOk, OnOk}
use Rattle.std.specs.Io.KnownBytes.{Appends}
use Rattle.line_search.specs.Searchers.{SearchesFor}
use Rattle.hirgrep_main.specs.Readings.{lists_in}
use Rattle.hirgrep_main.specs.Tasks.{body, body_count, patterns_by}
use Rattle.grep_cli.specs.declared.inputs.reading.Reading.{Reading}
use Rattle.hirgrep_main.proofs.inputs.whole_report.report_body.Goals as goal

pub returns-in-Text-clause-written : goal.returns-in-Text-clause-written
returns-in-Text-clause-written g c =
    subst (λ (r : Reading). OnOk c.report_text.result ((by : SearchesFor c.args.finder.now (lists_in r c.args.what.now)) → Appends (g.W.Write.contents c.args.writer.now) (g.W.Write.contents c.report_text.new.writer)
    (body r c.args.what.now (patterns_by by) c.args.name.now c.args.with_name c.args.known c.args.text.now))) (sym c.in-Text.is) c.report_text.ensures.reported

pub returns-in-Text-clause-counted : goal.returns-in-Text-clause-counted
returns-in-Text-clause-counted g c =
    subst (λ (r : Reading). IfOk c.report_text.result (λ n. (by : SearchesFor c.args.finder.now (lists_in r c.args.what.now)) → n ≡ body_count r c.args.what.now (patterns_by by) c.args.name.now c.args.text.now))
    (sym c.in-Text.is) c.report_text.ensures.selected

pub returns-in-Text-clause-part : goal.returns-in-Text-clause-part
returns-in-Text-clause-part g c =
    subst (λ (r : Reading). IfErr c.report_text.result (λ _. (by : SearchesFor c.args.finder.now (lists_in r c.args.what.now)) → (n : ℕ) × Appends (g.W.Write.contents c.args.writer.now) (g.W.Write.contents c.report_text.new.writer)
    (take n (body r c.args.what.now (patterns_by by) c.args.name.now c.args.with_name c.args.known c.args.text.now)))) (sym c.in-Text.is) c.report_text.ensures.fault

pub returns-in-Events-clause-written : goal.returns-in-Events-clause-written
returns-in-Events-clause-written g c =
    subst (λ (r : Reading). OnOk c.report_json.result ((by : SearchesFor c.args.finder.now (lists_in r c.args.what.now)) → Appends (g.W.Write.contents c.args.writer.now) (g.W.Write.contents c.report_json.new.writer)
    (body r c.args.what.now (patterns_by by) c.args.name.now c.args.with_name c.args.known c.args.text.now))) (sym c.in-Events.is) c.report_json.ensures.written

pub returns-in-Events-clause-counted : goal.returns-in-Events-clause-counted
returns-in-Events-clause-counted g c =
    subst (λ (r : Reading). IfOk c.report_json.result (λ n. (by : SearchesFor c.args.finder.now (lists_in r c.args.what.now)) → n ≡ body_count r c.args.what.now (patterns_by by) c.args.name.now c.args.text.now))
    (sym c.in-Events.is) c.report_json.ensures.counted

pub returns-in-Events-clause-part : goal.returns-in-Events-clause-part
returns-in-Events-clause-part g c =
    subst (λ (r : Reading). IfErr c.report_json.result (λ _. (by : SearchesFor c.args.finder.now (lists_in r c.args.what.now)) → (n : ℕ) × Appends (g.W.Write.contents c.args.writer.now) (g.W.Write.contents c.report_json.new.writer)
    (take n (body r c.args.what.now (patterns_by by) c.args.name.now c.args.with_name c.args.known c.args.text.now)))) (sym c.in-Events.is) c.report_json.ensures.part

pub returns-in-TextEvents-clause-written : goal.returns-in-TextEvents-clause-written
returns-in-TextEvents-clause-written g c =
    subst (λ (r : Reading). OnOk c.report_text_json.result ((by : SearchesFor c.args.finder.now (lists_in r c.args.what.now)) → Appends (g.W.Write.contents c.args.writer.now) (g.W.Write.contents c.report_text_json.new.writer)
    (body r c.args.what.now (patterns_by by) c.args.name.now c.args.with_name c.args.known c.args.text.now))) (sym c.in-TextEvents.is) c.report_text_json.ensures.written

pub returns-in-TextEvents-clause-counted : goal.returns-in-TextEvents-clause-counted
returns-in-TextEvents-clause-counted g c =
    subst (λ (r : Reading). IfOk c.report_text_json.result (λ n. (by : SearchesFor c.args.finder.now (lists_in r c.args.what.now)) → n ≡ body_count r c.args.what.now (patterns_by by) c.args.name.now c.args.text.now))
    (sym c.in-TextEvents.is) c.report_text_json.ensures.counted

pub returns-in-TextEvents-clause-part : goal.returns-in-TextEvents-clause-part
returns-in-TextEvents-clause-part g c =
    subst (λ (r : Reading). IfErr c.report_text_json.result (λ _. (by : SearchesFor c.args.finder.now (lists_in r c.args.what.now)) → (n : ℕ) × Appends (g.W.Write.contents c.args.writer.now) (g.W.Write.contents c.report_text_json.new.writer)
    (take n (body r c.args.what.now (patterns_by by) c.args.name.now c.args.with_name c.args.known c.args.text.now)))) (sym c.in-TextEvents.is) c.report_text_json.ensures.part

pub returns-in-Records-clause-written : goal.returns-in-Records-clause-written
returns-in-Records-clause-written g c =
    subst (λ (r : Reading). OnOk c.report_records.result ((by : SearchesFor c.args.finder.now (lists_in r c.args.what.now)) → Appends (g.W.Write.contents c.args.writer.now) (g.W.Write.contents c.report_records.new.writer)
    (body r c.args.what.now (patterns_by by) c.args.name.now c.args.with_name c.args.known c.args.text.now))) (sym c.in-Records.is) c.report_records.ensures.reported

pub returns-in-Records-clause-counted : goal.returns-in-Records-clause-counted
returns-in-Records-clause-counted g c =
    subst (λ (r : Reading). IfOk c.report_records.result (λ n. (by : SearchesFor c.args.finder.now (lists_in r c.args.what.now)) → n ≡ body_count r c.args.what.now (patterns_by by) c.args.name.now c.args.text.now))
    (sym c.in-Records.is) c.report_records.ensures.selected

pub returns-in-Records-clause-part : goal.returns-in-Records-clause-part
returns-in-Records-clause-part g c =
    subst (λ (r : Reading). IfErr c.report_records.result (λ _. (by : SearchesFor c.args.finder.now (lists_in r c.args.what.now)) → (n : ℕ) × Appends (g.W.Write.contents c.args.writer.now) (g.W.Write.contents c.report_records.new.writer)
    (take n (body r c.args.what.now (patterns_by by) c.args.name.now c.args.with_name c.args.known c.args.text.now)))) (sym c.in-Records.is) c.report_records.ensures.fault

pub returns-in-Lines-clause-written : goal.returns-in-Lines-clause-written
returns-in-Lines-clause-written g c =
    subst (λ (r : Reading). OnOk c.report_input.result ((by : SearchesFor c.args.finder.now (lists_in r c.args.what.now)) → Appends (g.W.Write.contents c.args.writer.now) (g.W.Write.contents c.report_input.new.writer)
    (body r c.args.what.now (patterns_by by) c.args.name.now c.args.with_name c.args.known c.args.text.now))) (sym c.in-Lines.is) c.report_input.ensures.reported

pub returns-in-Lines-clause-counted : goal.returns-in-Lines-clause-counted
returns-in-Lines-clause-counted g c =
    subst (λ (r : Reading). IfOk c.report_input.result (λ n. (by : SearchesFor c.args.finder.now (lists_in r c.args.what.now)) → n ≡ body_count r c.args.what.now (patterns_by by) c.args.name.now c.args.text.now))
    (sym c.in-Lines.is) c.report_input.ensures.selected

pub returns-in-Lines-clause-part : goal.returns-in-Lines-clause-part
returns-in-Lines-clause-part g c =
    subst (λ (r : Reading). IfErr c.report_input.result (λ _. (by : SearchesFor c.args.finder.now (lists_in r c.args.what.now)) → (n : ℕ) × Appends (g.W.Write.contents c.args.writer.now) (g.W.Write.contents c.report_input.new.writer)
    (take n (body r c.args.what.now (patterns_by by) c.args.name.now c.args.with_name c.args.known c.args.text.now)))) (sym c.in-Lines.is) c.report_input.ensures.fault
