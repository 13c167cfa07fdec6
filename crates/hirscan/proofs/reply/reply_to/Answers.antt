use Rattle.std.proofs.Common.{refl, ◌≡◌, ◌≤◌, ◌^◌, rules, codes, ◌++◌, decimal, length, arith}
use Rattle.hirscan.specs.QueryReports.{kind_text, value_of_query}
use Rattle.hirscan.specs.Reply.{faulty, too_long}
use Rattle.hirscan.proofs.ReplyLemmas.{few_patterns, head_len_le, reply_of_refusal, reply_of_search}
use Rattle.hirscan.proofs.reply.reply_to.Goals as goal

pub returns-in_ok-cause-in-Err-Notation : goal.returns-in_ok-cause-in-Err-Notation
returns-in_ok-cause-in-Err-Notation c =
    let k = c.in-Err-Notation.line in
    let kind = c.in-Err-Notation.kind in
    let short : length c.args.input.now ≤ 2 ^ 30 = search rules in
    let cause : c.as_str.result.now ≡ codes "line " ++ (decimal k ++ (codes ": " ++ kind_text kind)) = search rules in
    reply_of_refusal _ _ _ c.rejection-in-Err-Notation.ensures.ending c.rejection-in-Err-Notation.ensures.text
    (faulty k kind short (rw c.in-Err-Notation.field-0-is at c.in-Err-Notation.ensures.notation) cause)

pub slice_bounds-search_reply-count : goal.slice_bounds-search_reply-count
slice_bounds-search_reply-count c = head_len_le _ _ _ _ c.in-Ok.ensures.ok

pub slice_bounds-search_reply-start : goal.slice_bounds-search_reply-start
slice_bounds-search_reply-start c = head_len_le _ _ _ _ c.in-Ok.ensures.ok

pub returns-in-Ok : goal.returns-in-Ok
returns-in-Ok c =
    reply_of_search c.search_reply.result c.args.input.now _ (value_of_query c.in-Ok.head) c.in-Ok.head.len c.if-input-gt-INPUT_LIMIT.false
    c.in-Ok.ensures.ok
    refl c.search_reply.ensures

pub returns-then-input-gt-INPUT_LIMIT : goal.returns-then-input-gt-INPUT_LIMIT
returns-then-input-gt-INPUT_LIMIT c =
    reply_of_refusal _ _ _ c.rejection.ensures.ending c.rejection.ensures.text (too_long c.if-input-gt-INPUT_LIMIT.true refl)

pub search_reply-requires : goal.search_reply-requires
search_reply-requires c =
    let few = few_patterns _ _ _ _ c.in-Ok.ensures.ok in
    let within = head_len_le _ _ _ _ c.in-Ok.ensures.ok in
    let short : length c.args.input.now ≤ 2 ^ 30 = c.if-input-gt-INPUT_LIMIT.false in
    record { few = omega (arith, few, within, short) }
