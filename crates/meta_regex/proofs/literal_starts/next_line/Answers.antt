use Rattle.meta_regex.proofs.StartLemmas.{next_in_line}
use Rattle.meta_regex.proofs.literal_starts.next_line.Goals as goal

pub returns : goal.returns
returns c = λ x it.
    next_in_line x c.args.haystack.now c.args.from c.in-Some.end c.line_start.result
    (λ looks i e m. c.a_match_that_reads_no_feed_lies_in_one_line.ensures looks c.args.haystack.now x i e it.feedless m)
    (c.in-Some.ensures x it.contained) c.line_start.ensures.from c.line_start.ensures.within c.line_start.ensures.before
    c.line_start.ensures.feed
