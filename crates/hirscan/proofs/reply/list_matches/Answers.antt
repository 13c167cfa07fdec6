use Rattle.std.proofs.Common.{◌≡◌, true, rules}
use Rattle.hirscan.specs.Rejections.{span_of, is_span}
use Rattle.hirscan.specs.QueryReports.{value_of_query}
use Rattle.hirscan.proofs.CauseLemmas.{span_fits}
use Rattle.hirscan.proofs.ListEndLemmas.{ends_list, reply_of_all, reply_of_quit}
use Rattle.hirscan.proofs.ListingLemmas.{begins_list, lists_more}
use Rattle.hirscan.proofs.reply.list_matches.Goals as goal

pub input_of-requires : goal.input_of-requires
input_of-requires c =
    let fits : is_span (span_of c.args.head.now.span c.args.h.now) c.args.h.now ≡ true =
    span_fits (value_of_query c.args.head.now).setup c.args.head.now.patterns.items c.args.h.now c.requires.searched in
    search rules

pub loop-item-init : goal.loop-item-init
loop-item-init c =
    begins_list _ _ _ _ _ _ c.new-text.ensures.bytes c.into_iter-item-iterator.ensures.into_iter_gives c.input_of.ensures
    c.find_iter-item-items.ensures.regex c.find_iter-item-items.ensures.from c.find_iter-item-items.ensures.goes_on

pub loop-item-preserved : goal.loop-item-preserved
loop-item-preserved c =
    lists_more _ _ _ _ _ _ c.next.new.self c.in-Ok.found c.loop-item.invariant
    (rw c.in-Ok.is at c.in-Some.ensures.steps) c.in_ok-push_span-in-Ok.ensures

pub failed_reply-requires : goal.failed_reply-requires
failed_reply-requires c =
    record {
      reported = ends_list (value_of_query c.args.head.now).setup c.args.head.now.patterns.items c.args.h.now c.see_bytes.ensures
          c.requires.searched
          c.args.regex.now c.requires.built _ _ _ c.next.new.self c.in-Err.e c.loop-item.invariant
          (rw c.in-Err.is at c.in-Some.ensures.steps);
    }

pub returns-in-Err : goal.returns-in-Err
returns-in-Err c =
    reply_of_quit (value_of_query c.args.head.now).setup c.args.head.now.patterns.items c.args.h.now c.see_bytes.ensures c.requires.searched
    c.args.regex.now c.requires.built _ _ _ c.next.new.self c.in-Err.e c.loop-item.invariant (rw c.in-Err.is at c.in-Some.ensures.steps)
    c.failed_reply.result c.failed_reply.ensures

pub returns : goal.returns
returns c =
    reply_of_all (value_of_query c.args.head.now).setup c.args.head.now.patterns.items c.args.h.now c.see_bytes.ensures c.requires.searched
    c.args.regex.now c.requires.built _ _ _ c.next.new.self c.loop-item.invariant c.in-None.ensures.steps
