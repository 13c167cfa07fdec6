use Rattle.std.proofs.Common.{subst}
use Rattle.lazy_dfa.specs.Dfas.{Dfa}
use Rattle.lazy_dfa.specs.SearchPromises.{MakesHalf}
use Rattle.regex_pair.proofs.searching.search_start.Goals as goal

pub returns-clause-search : goal.returns-clause-search
returns-clause-search g c = subst (λ (d : Dfa). MakesHalf d c.args.input.now c.args.cache.now c.try_search_rev.new.cache
    c.args.work.now.determinized c.try_search_rev.new.work.determinized
    c.args.work.now.inserted c.try_search_rev.new.work.inserted c.try_search_rev.result) c.reverse.ensures.value
    (record {
      answers = c.try_search_rev.ensures.answer;
      cache = c.try_search_rev.ensures.cache;
      work = c.try_search_rev.ensures.work;
      reports = c.try_search_rev.ensures.progress;
    })
