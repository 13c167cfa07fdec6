use Rattle.std.proofs.Common.{ℕ, subst, take}
use Rattle.std.specs.Io.KnownBytes.{Appends}
use Rattle.line_search.specs.Searchers.{found_by}
use Rattle.json_events.specs.declared.elapsed.Elapsed.{Elapsed}
use Rattle.text_report.specs.Events.{json_report}
use Rattle.hirgrep_main.proofs.inputs.whole_report.report_json.Goals as goal

pub returns-in-Err-clause-part : goal.returns-in-Err-clause-part
returns-in-Err-clause-part g c by =
    subst (λ (t : Elapsed). (n : ℕ) × Appends (g.W.Write.contents c.args.writer.now) (g.W.Write.contents c.report_events.new.writer)
    (take n (json_report c.args.what.now (found_by by) c.args.name.now t c.args.text.now))) c.no_time.ensures (c.in-Err.ensures.fault by)
