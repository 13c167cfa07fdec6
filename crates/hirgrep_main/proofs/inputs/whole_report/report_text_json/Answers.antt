use Rattle.std.proofs.Common.{◌∙◌, ℕ, ap, subst, take}
use Rattle.std.specs.Io.KnownBytes.{Appends}
use Rattle.json_events.specs.declared.elapsed.Elapsed.{Elapsed}
use Rattle.json_events.specs.declared.stats.Stats.{Stats}
use Rattle.text_report.specs.TextEvents.{json_of_text, json_text_stats}
use Rattle.hirgrep_main.specs.Totals.{summed}
use Rattle.hirgrep_main.proofs.inputs.whole_report.report_text_json.Goals as goal

pub returns-clause-written : goal.returns-clause-written
returns-clause-written g c by =
    subst (λ (t : Elapsed). Appends (g.W.Write.contents c.args.writer.now) (g.W.Write.contents c.report_text_events.new.writer)
    (json_of_text c.args.what.now by.how by.patterns c.args.name.now t c.args.text.now)) c.no_time.ensures (c.in-Ok.ensures.reported by)

pub returns-clause-counted : goal.returns-clause-counted
returns-clause-counted g c by =
    ap (λ (s : Stats). s.matched_lines) (c.in-Ok.ensures.stats by)
    ∙ ap (λ (t : Elapsed). (json_text_stats c.args.what.now by.how by.patterns c.args.name.now t c.args.text.now).matched_lines) c.no_time.ensures

pub returns-clause-sum : goal.returns-clause-sum
returns-clause-sum g c by =
    c.summed.ensures
    ∙ ap (summed c.args.totals.now) (c.in-Ok.ensures.stats by
    ∙ ap (λ (t : Elapsed). json_text_stats c.args.what.now by.how by.patterns c.args.name.now t c.args.text.now) c.no_time.ensures)

pub returns-in-Err-clause-part : goal.returns-in-Err-clause-part
returns-in-Err-clause-part g c by =
    subst (λ (t : Elapsed). (n : ℕ) × Appends (g.W.Write.contents c.args.writer.now) (g.W.Write.contents c.report_text_events.new.writer)
    (take n (json_of_text c.args.what.now by.how by.patterns c.args.name.now t c.args.text.now))) c.no_time.ensures (c.in-Err.ensures.fault by)
