use Rattle.std.proofs.Common.{subst}
use Rattle.lazy_dfa.specs.Dfas.{Dfa}
use Rattle.lazy_dfa.specs.SearchPromises.{MakesHalf}
use Rattle.regex_pair.proofs.searching.search_end.Goals as goal

pub returns-clause-search : goal.returns-clause-search
returns-clause-search g c = subst (λ (d : Dfa). MakesHalf d c.args.input.now c.args.cache.now c.try_search_fwd.new.cache
    c.args.work.now.determinized c.try_search_fwd.new.work.determinized
    c.args.work.now.inserted c.try_search_fwd.new.work.inserted c.try_search_fwd.result) c.forward.ensures.value
    (record {
      answers = c.try_search_fwd.ensures.answer;
      cache = c.try_search_fwd.ensures.cache;
      work = c.try_search_fwd.ensures.work;
      reports = c.try_search_fwd.ensures.progress;
    })
