use Rattle.std.proofs.Common.{refl}
use Rattle.regex_pair.proofs.DoneLemmas.{is_over, no_match_search, not_done}
use Rattle.regex_pair.proofs.searching.match_span.Goals as goal

pub returns-then-is_done : goal.returns-then-is_done
returns-then-is_done g c = record {
  own = c.requires.own;
  done = λ past. (refl, refl, refl);
  search = no_match_search c.args.re.now c.args.input.now c.args.cache.now c.args.work.now.determinized c.args.work.now.inserted
      (is_over c.is_done.result c.args.input.now.start c.args.input.now.end c.is_done.ensures c.if-is_done.true);
}

pub returns : goal.returns
returns g c = record {
  own = c.search_match.ensures.own;
  done = λ past.
      not_done c.is_done.result c.args.input.now.start c.args.input.now.end _ c.is_done.ensures c.if-is_done.false past;
  search = c.search_match.ensures.search;
}
