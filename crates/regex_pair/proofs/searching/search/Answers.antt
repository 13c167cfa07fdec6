use Rattle.regex_pair.proofs.PairLemmas.{own_forward, own_reverse, lies, lies_behind, starts_there, goes_back, fails, finds_none}
use Rattle.regex_pair.proofs.searching.search.Goals as goal

pub returns-in-Err-clause-search : goal.returns-in-Err-clause-search
returns-in-Err-clause-search g c = fails c.args.re.now c.args.input.now c.cache.inside.forward c.search_end.new.cache c.cache.inside.reverse
    c.args.cache.now
    c.args.work.now.determinized c.search_end.new.work.determinized c.args.work.now.inserted c.search_end.new.work.inserted
    c.search_end.result
    c.cache.view_is c.search_end.ensures.search c.in-Err.e c.in-Err.is

pub returns-in_default-clause-search : goal.returns-in_default-clause-search
returns-in_default-clause-search g c = finds_none c.args.re.now c.args.input.now c.cache.inside.forward c.search_end.new.cache
    c.cache.inside.reverse c.args.cache.now
    c.args.work.now.determinized c.search_end.new.work.determinized c.args.work.now.inserted c.search_end.new.work.inserted
    c.search_end.result
    c.cache.view_is c.search_end.ensures.search c.in-Ok.end c.in-Ok.is c.in_default.is

pub match_between-requires : goal.match_between-requires
match_between-requires g c = lies_behind c.args.re.now c.args.input.now c.cache.inside.forward c.search_end.new.cache
    c.args.work.now.determinized c.search_end.new.work.determinized c.args.work.now.inserted c.search_end.new.work.inserted
    c.search_end.result c.in-Ok.end c.in-Some.end
    c.search_end.ensures.search c.in-Ok.is c.in-Some.is c.start.result c.start.ensures.value

pub returns-then-is_start_known-clause-search : goal.returns-then-is_start_known-clause-search
returns-then-is_start_known-clause-search g c = starts_there c.args.re.now c.args.input.now c.cache.inside.forward c.search_end.new.cache
    c.args.work.now.determinized c.search_end.new.work.determinized c.args.work.now.inserted c.search_end.new.work.inserted
    c.search_end.result c.in-Ok.end c.in-Some.end
    c.search_end.ensures.search c.in-Ok.is c.in-Some.is c.cache.inside.reverse c.args.cache.now c.is_start_known.result c.offset.result
    c.start.result c.match_between.result
    c.cache.view_is c.is_start_known.ensures c.if-is_start_known.true c.offset.ensures c.start.ensures.value c.match_between.ensures

pub search_back-requires-clause-from : goal.search_back-requires-clause-from
search_back-requires-clause-from g c = (lies c.args.re.now c.args.input.now c.cache.inside.forward c.search_end.new.cache
    c.args.work.now.determinized c.search_end.new.work.determinized c.args.work.now.inserted c.search_end.new.work.inserted
    c.search_end.result c.in-Ok.end c.in-Some.end
    c.search_end.ensures.search c.in-Ok.is c.in-Some.is).0

pub search_back-requires-clause-within : goal.search_back-requires-clause-within
search_back-requires-clause-within g c = (lies c.args.re.now c.args.input.now c.cache.inside.forward c.search_end.new.cache
    c.args.work.now.determinized c.search_end.new.work.determinized c.args.work.now.inserted c.search_end.new.work.inserted
    c.search_end.result c.in-Ok.end c.in-Some.end
    c.search_end.ensures.search c.in-Ok.is c.in-Some.is).1

pub returns-clause-search : goal.returns-clause-search
returns-clause-search g c = goes_back c.args.re.now c.args.input.now c.cache.inside.forward c.search_end.new.cache
    c.args.work.now.determinized c.search_end.new.work.determinized c.args.work.now.inserted c.search_end.new.work.inserted
    c.search_end.result c.in-Ok.end c.in-Some.end
    c.search_end.ensures.search c.in-Ok.is c.in-Some.is c.cache.inside.reverse c.search_back.new.cache c.args.cache.now
    c.search_back.new.work.determinized
    c.search_back.new.work.inserted c.is_start_known.result c.offset.result c.search_back.result c.cache.view_is c.is_start_known.ensures
    c.if-is_start_known.false
    c.offset.ensures c.search_back.ensures.search

pub search_end-requires : goal.search_end-requires
search_end-requires g c =
    record { own = own_forward c.args.re.now c.cache.inside.forward c.cache.inside.reverse c.args.cache.now c.cache.view_is c.requires.own }

pub search_back-requires-clause-own : goal.search_back-requires-clause-own
search_back-requires-clause-own g c =
    own_reverse c.args.re.now c.cache.inside.forward c.cache.inside.reverse c.args.cache.now c.cache.view_is c.requires.own

pub returns-in-Err-clause-own : goal.returns-in-Err-clause-own
returns-in-Err-clause-own g c = record {
  forward = c.search_end.ensures.own;
  reverse = own_reverse c.args.re.now c.cache.inside.forward c.cache.inside.reverse c.args.cache.now c.cache.view_is c.requires.own;
}

pub returns-in_default-clause-own : goal.returns-in_default-clause-own
returns-in_default-clause-own g c = record {
  forward = c.search_end.ensures.own;
  reverse = own_reverse c.args.re.now c.cache.inside.forward c.cache.inside.reverse c.args.cache.now c.cache.view_is c.requires.own;
}

pub returns-then-is_start_known-clause-own : goal.returns-then-is_start_known-clause-own
returns-then-is_start_known-clause-own g c = record {
  forward = c.search_end.ensures.own;
  reverse = own_reverse c.args.re.now c.cache.inside.forward c.cache.inside.reverse c.args.cache.now c.cache.view_is c.requires.own;
}

pub returns-clause-own : goal.returns-clause-own
returns-clause-own g c = record { forward = c.search_end.ensures.own; reverse = c.search_back.ensures.own }
