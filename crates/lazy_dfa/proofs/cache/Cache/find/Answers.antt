use Rattle.std.proofs.Common.{◌∙◌}
use Rattle.lazy_dfa.proofs.CacheChanges.CacheLemmas.{Agrees-place}
use Rattle.lazy_dfa.proofs.CacheChanges.IsCacheLemmas.{held_some, row_some}
use Rattle.lazy_dfa.proofs.cache.Cache.find.Goals as goal

pub returns-clause-place : goal.returns-clause-place
returns-clause-place c = rw (← c.self.view_is) (c.copied.ensures ∙ c.get.ensures.value
    ∙ Agrees-place _ _ c.args.state.now c.self.invariant.0.agree)

pub returns-clause-held : goal.returns-clause-held
returns-clause-held c = rw (← c.self.view_is) (held_some _ c.args.state.now c.self.invariant.0.shape c.as_bytes.ensures.state
    c.bytes_stand_for_states.ensures.apart c.copied.result
    (c.copied.ensures ∙ c.get.ensures.value ∙ Agrees-place _ _ c.args.state.now c.self.invariant.0.agree))

pub returns-clause-row : goal.returns-clause-row
returns-clause-row c = rw (← c.self.view_is) (row_some _ c.args.state.now c.self.invariant.0.shape c.as_bytes.ensures.state
    c.bytes_stand_for_states.ensures.apart c.copied.result
    (c.copied.ensures ∙ c.get.ensures.value ∙ Agrees-place _ _ c.args.state.now c.self.invariant.0.agree))
