use Rattle.regex_pair.proofs.MatchLemmas.{reports}
use Rattle.regex_pair.proofs.searching.search_match.Goals as goal

pub returns-clause-search : goal.returns-clause-search
returns-clause-search g c = reports c.args.re.now c.args.input.now c.match_input-search.result c.cache.inside.forward c.finds_end.new.cache
    c.cache.inside.reverse c.args.cache.now
    c.args.work.now.determinized c.finds_end.new.work.determinized c.args.work.now.inserted c.finds_end.new.work.inserted c.finds_end.result
    c.cache.view_is c.match_input-search.ensures c.finds_end.ensures.search
