use Rattle.std.proofs.Common.{◌≡◌, ◌+◌, ◌∙◌, ap, refl, rules, take}
use Rattle.text_report.proofs.ReplacedLemmas.{end_same, ordered_between, spans_same, start_same}
use Rattle.text_report.proofs.replacing.lines_for.Goals as goal

pub returns : goal.returns
returns c =
    let t = c.args.task in
    let g = c.args.group in
    let first = c.args.first in
    let last = c.begun_before-last.result in
    let past = c.in-Some.past in
    let start = c.in-Ok.start in
    let end = c.in-Ok-offset_after.end in
    let past_is : past ≡ g.last.end + 1 = search rules in
    record {
      what = refl;
      name = refl;
      with_name = refl;
      crlf = refl;
      text = c.front.ensures ∙ ap (λ n. take n t.bytes.now) (end_same t g c.requires.lies first last past start end c.requires.begun c.requires.counted past_is
          c.begun_before-last.ensures.counted c.in-Ok.ensures c.in-Ok-offset_after.ensures);
      found = spans_same t g c.requires.lies first last past start end c.requires.begun c.requires.counted past_is
          c.begun_before-last.ensures.counted c.in-Ok.ensures c.in-Ok-offset_after.ensures c.spans_between.result.now c.spans_between.ensures;
      ordered = ordered_between t.spans.now c.spans_between.result.now first last c.spans_between.ensures;
      place = refl;
      start = start_same t g c.requires.lies first last past start end c.requires.begun c.requires.counted past_is
          c.begun_before-last.ensures.counted c.in-Ok.ensures c.in-Ok-offset_after.ensures;
      selected = c.is_selected.ensures;
    }
