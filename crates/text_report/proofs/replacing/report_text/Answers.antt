use Rattle.std.proofs.Common.{◌≡◌, ◌∙◌, ℕ, List, Option, subst, sym, take, true}
use Rattle.std.specs.Borrow.{Bor}
use Rattle.std.specs.Prelude.{IfErr, IfOk, OnOk}
use Rattle.std.specs.Io.KnownBytes.{Appends}
use Rattle.line_search.specs.Searchers.{SearchesFor}
use Rattle.grep_core.specs.Report.{counted_as}
use Rattle.text_report.specs.ReplacedText.{report_with, selected_by}
use Rattle.text_report.proofs.replacing.report_text.Goals as goal

pub returns-in_default-clause-reported : goal.returns-in_default-clause-reported
returns-in_default-clause-reported g c =
    subst (λ (o : Option (Bor (List ℕ))). OnOk c.report_as_it_is.result ((by : SearchesFor c.args.finder.now true) → Appends (g.W.Write.contents c.args.writer.now)
    (g.W.Write.contents c.report_as_it_is.new.writer)
    (report_with o c.args.what.now by.how by.names by.patterns c.args.name.now c.args.with_name c.args.known c.args.text.now)))
    (sym (sym c.template_of.ensures ∙ c.in_default.is)) c.report_as_it_is.ensures.reported

pub returns-in_default-clause-selected : goal.returns-in_default-clause-selected
returns-in_default-clause-selected g c =
    subst (λ (o : Option (Bor (List ℕ))). IfOk c.report_as_it_is.result (λ n. (by : SearchesFor c.args.finder.now true) →
    n ≡ counted_as c.args.what.now.print (selected_by o c.args.what.now by.how by.patterns c.args.text.now)))
    (sym (sym c.template_of.ensures ∙ c.in_default.is)) c.report_as_it_is.ensures.selected

pub returns-in_default-clause-fault : goal.returns-in_default-clause-fault
returns-in_default-clause-fault g c =
    subst (λ (o : Option (Bor (List ℕ))). IfErr c.report_as_it_is.result (λ _. (by : SearchesFor c.args.finder.now true) →
    (n : ℕ) × Appends (g.W.Write.contents c.args.writer.now) (g.W.Write.contents c.report_as_it_is.new.writer)
    (take n (report_with o c.args.what.now by.how by.names by.patterns c.args.name.now c.args.with_name c.args.known c.args.text.now))))
    (sym (sym c.template_of.ensures ∙ c.in_default.is)) c.report_as_it_is.ensures.fault

pub returns-clause-reported : goal.returns-clause-reported
returns-clause-reported g c =
    subst (λ (o : Option (Bor (List ℕ))). OnOk c.report_replaced.result ((by : SearchesFor c.args.finder.now true) → Appends (g.W.Write.contents c.args.writer.now)
    (g.W.Write.contents c.report_replaced.new.writer)
    (report_with o c.args.what.now by.how by.names by.patterns c.args.name.now c.args.with_name c.args.known c.args.text.now)))
    (sym (sym c.template_of.ensures ∙ c.in-Some.is)) c.report_replaced.ensures.reported

pub returns-clause-selected : goal.returns-clause-selected
returns-clause-selected g c =
    subst (λ (o : Option (Bor (List ℕ))). IfOk c.report_replaced.result (λ n. (by : SearchesFor c.args.finder.now true) →
    n ≡ counted_as c.args.what.now.print (selected_by o c.args.what.now by.how by.patterns c.args.text.now)))
    (sym (sym c.template_of.ensures ∙ c.in-Some.is)) c.report_replaced.ensures.selected

pub returns-clause-fault : goal.returns-clause-fault
returns-clause-fault g c =
    subst (λ (o : Option (Bor (List ℕ))). IfErr c.report_replaced.result (λ _. (by : SearchesFor c.args.finder.now true) →
    (n : ℕ) × Appends (g.W.Write.contents c.args.writer.now) (g.W.Write.contents c.report_replaced.new.writer)
    (take n (report_with o c.args.what.now by.how by.names by.patterns c.args.name.now c.args.with_name c.args.known c.args.text.now))))
    (sym (sym c.template_of.ensures ∙ c.in-Some.is)) c.report_replaced.ensures.fault
