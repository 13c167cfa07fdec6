use Rattle.regex_pair.proofs.ReachLemmas.{reaches}
use Rattle.regex_pair.proofs.regex.Regex.try_search.Goals as goal

pub returns : goal.returns
returns g c = record {
  own = c.search_span.ensures.own;
  done = c.search_span.ensures.done;
  search = c.search_span.ensures.search;
  reach = reaches c.args.self.now c.args.input.now c.search_span.new.cache c.search_span.result c.search_span.ensures.pair.is_forward
      c.search_span.ensures.within.0 c.search_span.ensures.search.answer;
}
