use Rattle.std.proofs.Common.{◌≡◌, ◌∙◌, true, map, sym, ap, subst}
use Rattle.std.specs.Prelude.{Bool}
use Rattle.line_search.specs.Lines.{SplitLine, searched}
use Rattle.line_search.specs.LineMatchers.{span_pair, ShownLine}
use Rattle.grep_core.specs.Report.{as_it_is}
use Rattle.line_search.specs.Searchers.{Sought, AreReported, SearchesFor, found_by}
use Rattle.grep_core.specs.Reporting.{needs_shown, needs_spans}
use Rattle.grep_core.proofs.SeenLemmas.{none_shown, none_needed, moved_by, progress_by, replaced_needed}
use Rattle.grep_core.proofs.SeenLemmas.{searched_by}
use Rattle.grep_core.proofs.looking.look_in.Goals as goal
use Rattle.grep_core.proofs.looking.look_in.Goals.{then-not-has-via-then-not-has, then-not-has-via-else-not-has+then-not-needs_shown}

pub returns-then-not-has-clause-has : goal.returns-then-not-has-clause-has
returns-then-not-has-clause-has c ended is by =
    searched_by c.args.finder.now (needs_spans c.args.what.now) by c.args.line.now (record { bytes = c.args.bytes.now; is_ended = ended }) c.in-Ok.has is
    (progress_by c.args.finder.now (needs_spans c.args.what.now) by c.args.line.now c.in-Ok.has c.in-Ok.ensures.reported)

pub returns-then-not-has-clause-shown : goal.returns-then-not-has-clause-shown
returns-then-not-has-clause-shown c ended is by =
    let line : SplitLine = record { bytes = c.args.bytes.now; is_ended = ended } in
    ap (λ found. as_it_is line (map span_pair found)) c.new.ensures.items
    ∙ elim c.then-not-has.branch [
      | then-not-has-via-then-not-has w ↦
          sym (none_shown c.args.what.now by.how by.names by.patterns line c.in-Ok.has
          (searched_by c.args.finder.now (needs_spans c.args.what.now) by c.args.line.now line c.in-Ok.has is
          (progress_by c.args.finder.now (needs_spans c.args.what.now) by c.args.line.now c.in-Ok.has c.in-Ok.ensures.reported))
          w.if-not-has.true)
      | then-not-has-via-else-not-has+then-not-needs_shown w ↦
          sym (none_needed c.args.what.now (found_by by) line (sym w.needs_shown.ensures ∙ w.if-not-needs_shown.true))
    ]

pub returns-in-Ok-replace_in-clause-has : goal.returns-in-Ok-replace_in-clause-has
returns-in-Ok-replace_in-clause-has c ended is by =
    searched_by c.args.finder.now (needs_spans c.args.what.now) by c.args.line.now (record { bytes = c.args.bytes.now; is_ended = ended }) c.in-Ok.has is
    (progress_by c.args.finder.now (needs_spans c.args.what.now) by c.args.line.now c.in-Ok.has c.in-Ok.ensures.reported)

pub returns-in-Ok-replace_in-clause-shown : goal.returns-in-Ok-replace_in-clause-shown
returns-in-Ok-replace_in-clause-shown c ended is by =
    let line : SplitLine = record { bytes = c.args.bytes.now; is_ended = ended } in
    let shown : ShownLine = as_it_is (record { bytes = c.in-Ok-replace_in.field-0.bytes.items; is_ended = ended })
    (map span_pair c.in-Ok-replace_in.field-0.spans.items) in
    replaced_needed c.args.what.now (found_by by) line c.in-Some.template shown
    (sym c.needs_shown.ensures ∙ c.if-not-needs_shown.false) c.in-Some.is
    (subst (λ (s : Sought). c.args.line.now ≡ searched s.how.crlf line → (n : Bool) (by : SearchesFor s n) →
    shown ≡ (found_by by).replaced c.in-Some.template.now line) c.has_match.ensures.same
    (c.in-Ok-replace_in.ensures.replaced ended) is (needs_spans c.args.what.now) by)

pub returns-in-Ok-matches-clause-has : goal.returns-in-Ok-matches-clause-has
returns-in-Ok-matches-clause-has c ended is by =
    searched_by c.args.finder.now (needs_spans c.args.what.now) by c.args.line.now (record { bytes = c.args.bytes.now; is_ended = ended }) c.in-Ok.has is
    (progress_by c.args.finder.now (needs_spans c.args.what.now) by c.args.line.now c.in-Ok.has c.in-Ok.ensures.reported)
