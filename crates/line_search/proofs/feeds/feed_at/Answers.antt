use Rattle.std.proofs.Common.{◌≤◌, ◌+◌, length, arith, sym, ap, ◌∙◌}
use Rattle.std.proofs.lemmas.List.{take_rest}
use Rattle.std.specs.List.{position}
use Rattle.line_search.proofs.FeedPlaceLemmas.{is_feed}
use Rattle.line_search.proofs.FeedLemmas.{found_within, passed_over, found_behind, none_left}
use Rattle.line_search.proofs.feeds.feed_at.Goals as goal

pub returns-then-marks-ne0 : goal.returns-then-marks-ne0
returns-then-marks-ne0 c =
    let room : c.wide.at + 32 ≤ length c.args.text.now = omega arith in
    sym (found_within c.args.text.now c.wide.at room _ c.marks_of-marks.ensures c.wide.invariant.1 (omega (arith, c.if-marks-ne0.true)))

pub wide-preserved : goal.wide-preserved
wide-preserved c =
    let room : c.wide.at + 32 ≤ length c.args.text.now = omega arith in
    (room, passed_over c.args.text.now c.wide.at room _ c.marks_of-marks.ensures c.wide.invariant.1 c.if-marks-ne0.false)

pub returns-in-Some : goal.returns-in-Some
returns-in-Some c =
    sym (found_behind c.args.text.now c.wide.at c.in-Some.behind c.wide.invariant.0 c.wide.invariant.1
    (sym (ap (position is_feed) (take_rest c.args.text.now c.wide.at)) ∙ sym c.feed_of_few.ensures ∙ c.in-Some.is))

pub returns-in-None : goal.returns-in-None
returns-in-None c =
    sym (none_left c.args.text.now c.wide.at c.wide.invariant.0 c.wide.invariant.1
    (sym (ap (position is_feed) (take_rest c.args.text.now c.wide.at)) ∙ sym c.feed_of_few.ensures ∙ c.in-None.is))
