-- What a step over a cache guarantees, by a byte and at the end of the input alike: about its result, its cache and its
-- work.
use Rattle.std.specs.Prelude.{◌≡◌, ◌≢◌, ◌⊎◌, ℕ, ◌+◌, ◌≤◌, true, false, Option, Result, Ok, Err, IfOk, IfErr, OnOk}
use Rattle.lazy_dfa.specs.Caches.{CacheValue}
use Rattle.lazy_dfa.specs.declared.cache_error.CacheError.{CacheError}
use Rattle.lazy_dfa.specs.declared.cache_error.CacheError.TheVariants.{GaveUp}
use Rattle.lazy_dfa.specs.Dfas.{Dfa}
use Rattle.lazy_dfa.specs.Ids.{unknown_id, quit_id, is_sentinel}
use Rattle.lazy_dfa.specs.Readers.{is_quit}
use Rattle.lazy_dfa.specs.Steps.{GivesUp, IsStepCause, StepsTo, Grew, StepNeedsClear, ClearedFrom, KeepsOrClears, noted, IsKnown, IsNoted}
use Rattle.lazy_dfa.specs.Steps.{TagsStep, StepAdds, most_inserts}

-- All that the step from an ID by a unit guarantees. The end of the input isn't a quit byte. `m1` and `m2` say how many
-- states were made, before and after. `n1` and `n2` say how many NFA states were inserted into sets for them.
pub record MakesStep (d : Dfa) (id : ℕ) (u : Option ℕ) (old new : CacheValue) (m1 m2 n1 n2 : ℕ) (r : Result ℕ CacheError) : Type 0 where
  -- a sentinel leads to itself, and from any other ID a quit byte leads to the quit sentinel
  pub loops : is_sentinel id ≡ true → r ≡ Ok id
  pub quits : is_sentinel id ≡ false → is_quit d.quits u ≡ true → r ≡ Ok (quit_id old.stride)
  -- any other unit leads to the state after it
  pub step : IfOk r (λ to. StepsTo d old new id u to)
  -- a state that wasn't held gets no start tag
  pub tag : IfOk r (λ to. TagsStep d old id u to)
  -- if the cache had an ID for this step, that ID is the result
  pub known : is_sentinel id ≡ false → noted d old id u ≢ unknown_id → r ≡ Ok (noted d old id u)
  -- the result is stored in the cache if the ID stepped from still names its state
  pub noted : IfOk r (λ to. IsNoted d old new id u to)
  -- It fails if it gives up. Otherwise it fails only if an allocation fails.
  pub ok : OnOk r (¬ GivesUp d old id u)
  pub err : IfErr r (λ e. IsStepCause d old id u e)
  -- a step that gives up leaves the cache as it is
  pub gave_up : r ≡ Err GaveUp → new ≡ old
  -- The cache keeps what it has, or it is cleared because a clear was needed. If the step succeeds after a clear, only
  -- the states stepped from and stepped to are left.
  pub kept : KeepsOrClears d old new
  pub remains : OnOk r (Grew d old new ⊎ ClearedFrom d old new id u)
  pub cause : Grew d old new ⊎ StepNeedsClear d old id u
  -- it adds no state but the one to which it leads
  pub adds : StepAdds d old new id u
  -- a known step leaves the cache as it is, and makes nothing
  pub same : IsKnown d old id u → new ≡ old
  pub free : IsKnown d old id u → (m2 ≡ m1) × (n2 ≡ n1)
  -- a quit byte makes nothing either
  pub spares : is_quit d.quits u ≡ true → (m2 ≡ m1) × (n2 ≡ n1)
  -- it makes at most one state, and inserts at most `most_inserts` NFA states into sets for it
  pub determinized : m2 ≤ m1 + 1
  pub inserted : n2 ≤ n1 + most_inserts d
