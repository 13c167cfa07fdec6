use Rattle.std.specs.Prelude.{Ok, Err}
use Rattle.regex_pair.proofs.NextLemmas.{first_refused, first_fails, first_is_enough, second_refused, second_taken, second_is_made}
use Rattle.regex_pair.proofs.NextLemmas.{refusal_is_no_end, repeat_is_no_end}
use Rattle.regex_pair.proofs.find_matches.next_answer.Goals as goal

pub returns-in-Err-clause-answer : goal.returns-in-Err-clause-answer
returns-in-Err-clause-answer c =
    first_refused c.args.re.now c.search_once.new.cache c.args.input.now c.args.last c.in-Err.e c.in-Err.ensures.answer

pub returns-in-Err-search_once_more-clause-answer : goal.returns-in-Err-search_once_more-clause-answer
returns-in-Err-search_once_more-clause-answer c =
    second_refused c.args.re.now c.search_once.new.cache c.search_once_more.new.cache c.args.input.now
    c.one_further-further.result c.args.last
    c.in-Ok.found c.in-Err-search_once_more.e c.in-Ok.ensures.answer c.if-not-is_repeat.ensures c.one_further-further.ensures
    c.in-Err-search_once_more.ensures.answer

pub returns-in-Ok-search_once_more-clause-answer : goal.returns-in-Ok-search_once_more-clause-answer
returns-in-Ok-search_once_more-clause-answer c =
    second_taken c.args.re.now c.search_once.new.cache c.search_once_more.new.cache c.args.input.now
    c.one_further-further.result c.args.last
    c.in-Ok.found c.in-Ok-search_once_more.found c.in-Ok.ensures.answer c.if-not-is_repeat.ensures c.one_further-further.ensures
    c.in-Ok-search_once_more.ensures.answer

pub returns-in-Err-clause-done : goal.returns-in-Err-clause-done
returns-in-Err-clause-done c past = refusal_is_no_end c.in-Err.e _ (c.in-Err.ensures.done past).0

pub returns-in-Err-clause-searches : goal.returns-in-Err-clause-searches
returns-in-Err-clause-searches c =
    first_fails c.args.re.now c.args.cache.now c.search_once.new.cache c.args.input.now c.args.last c.in-Err.e c.in-Err.ensures.answer
    c.in-Err.ensures.kept c.in-Err.ensures.reports

pub returns-in-Err-search_once_more-clause-done : goal.returns-in-Err-search_once_more-clause-done
returns-in-Err-search_once_more-clause-done c past =
    repeat_is_no_end c.args.last c.in-Ok.found _ (c.in-Ok.ensures.done past).0 c.if-not-is_repeat.ensures

pub returns-in-Err-search_once_more-clause-searches : goal.returns-in-Err-search_once_more-clause-searches
returns-in-Err-search_once_more-clause-searches c =
    second_is_made c.args.re.now c.args.cache.now c.search_once.new.cache c.search_once_more.new.cache c.args.input.now
    c.one_further-further.result c.args.last c.in-Ok.found c.in-Ok.ensures.answer c.in-Ok.ensures.kept c.in-Ok.ensures.reports
    c.if-not-is_repeat.ensures c.one_further-further.ensures (Err c.in-Err-search_once_more.e)
    c.in-Err-search_once_more.ensures.answer c.in-Err-search_once_more.ensures.kept c.in-Err-search_once_more.ensures.reports

pub returns-in-Ok-search_once_more-clause-done : goal.returns-in-Ok-search_once_more-clause-done
returns-in-Ok-search_once_more-clause-done c past =
    repeat_is_no_end c.args.last c.in-Ok.found _ (c.in-Ok.ensures.done past).0 c.if-not-is_repeat.ensures

pub returns-in-Ok-search_once_more-clause-searches : goal.returns-in-Ok-search_once_more-clause-searches
returns-in-Ok-search_once_more-clause-searches c =
    second_is_made c.args.re.now c.args.cache.now c.search_once.new.cache c.search_once_more.new.cache c.args.input.now
    c.one_further-further.result c.args.last c.in-Ok.found c.in-Ok.ensures.answer c.in-Ok.ensures.kept c.in-Ok.ensures.reports
    c.if-not-is_repeat.ensures c.one_further-further.ensures (Ok c.in-Ok-search_once_more.found)
    c.in-Ok-search_once_more.ensures.answer c.in-Ok-search_once_more.ensures.kept c.in-Ok-search_once_more.ensures.reports

pub returns-then-not-is_repeat-clause-searches : goal.returns-then-not-is_repeat-clause-searches
returns-then-not-is_repeat-clause-searches c =
    first_is_enough c.args.re.now c.args.cache.now c.search_once.new.cache c.args.input.now c.args.last c.in-Ok.found c.in-Ok.ensures.answer
    c.in-Ok.ensures.kept c.in-Ok.ensures.reports c.if-not-is_repeat.ensures
