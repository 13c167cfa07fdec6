use Rattle.regex_pair.proofs.AnswerLemmas.{starts_before}
use Rattle.regex_pair.proofs.searching.search_back.Goals as goal

pub match_between-requires : goal.match_between-requires
match_between-requires g c = starts_before c.args.re.now.reverse c.search_start.new.cache c.args.input.now c.back_input-back.result
    c.offset.result c.args.end.offset
    c.search_start.result c.in-Ok.start c.in-Some.start c.offset-2.result c.back_input-back.ensures c.offset.ensures c.in-Ok.is c.in-Some.is
    c.offset-2.ensures
    c.search_start.ensures.search.answers.answer
