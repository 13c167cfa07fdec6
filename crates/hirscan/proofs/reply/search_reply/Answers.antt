use Rattle.std.proofs.Common.{◌≡◌, Some, sym, ap, ◌∙◌}
use Rattle.hirscan.specs.Rejections.{rejection}
use Rattle.hirscan.specs.QueryReports.{value_of_query}
use Rattle.hirscan.proofs.ReplyLemmas.{answer_of_refusal, answer_of_search}
use Rattle.hirscan.proofs.reply.search_reply.Goals as goal

pub returns-in-Some : goal.returns-in-Some
returns-in-Some c =
    let at = value_of_query c.args.head.now in
    let reported = rw c.in-Some.is at c.in_ok-cause.ensures in
    let found : rejection at.setup at.patterns c.args.h.now ≡ Some c.as_str.result.now = sym reported ∙
    ap Some (sym c.as_str.ensures.value) in
    answer_of_refusal c.rejection.result at.setup at.patterns c.args.h.now c.as_str.result.now c.rejection.ensures.ending
    c.rejection.ensures.text
    found

pub returns : goal.returns
returns c =
    let at = value_of_query c.args.head.now in
    answer_of_search c.found_reply.result at.setup at.patterns c.args.h.now
    (sym (rw c.in_default.is at c.in_ok-cause.ensures)) c.found_reply.ensures
