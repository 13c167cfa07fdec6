use Rattle.lazy_dfa.specs.Ids.{dead_id}
use Rattle.lazy_dfa.specs.StartCalls.{start_noted}
use Rattle.lazy_dfa.proofs.CacheChanges.SearchStartLemmas.{same_answer}
use Rattle.lazy_dfa.proofs.steps.search_starts.start_at.Goals as goal

pub returns-in-Ok-clause-start : goal.returns-in-Ok-clause-start
returns-in-Ok-clause-start g c = let x = c.in-Ok.ensures.made in record {
  held = x.held;
  noted = x.noted;
  known = λ none q is there. same_answer c.in-Ok.id (start_noted c.args.dfa.now c.args.cache.now c.args.config.now)
      (x.known none q is there);
  none = λ none is. same_answer c.in-Ok.id (dead_id c.start_state.new.cache.stride) (x.none none is);
  same = x.same;
  free = x.free;
  kept = x.kept;
  remains = x.remains;
  cause = x.cause;
  adds = x.adds;
  ok = x.ok;
  tag = x.tag;
  determinized = x.determinized;
  inserted = x.inserted;
}
