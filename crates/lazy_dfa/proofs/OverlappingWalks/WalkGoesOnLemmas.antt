-- Overlapping searches over a cache that wasn't cleared: they can go on in it.
use Rattle.std.proofs.Common.{◌≡◌, ℕ, ◌<◌, ⊎_elim, arith}
use Rattle.determinize_core.specs.States.{StateValue}
use Rattle.search_types.specs.Inputs.{Search}
use Rattle.lazy_dfa.specs.Caches.{CacheValue, IsShaped, IsCacheOf, HeldAt, Names, names_dead, names_held, greatest}
use Rattle.lazy_dfa.specs.declared.overlapping.overlapping_state.Stop.{Stop}
use Rattle.lazy_dfa.specs.declared.overlapping.overlapping_state.OverlappingPosition.{OverlappingPosition}
use Rattle.lazy_dfa.specs.declared.overlapping.overlapping_state.OverlappingPosition.TheVariants.{Fresh, Ended, Failed, Stopped}
use Rattle.lazy_dfa.specs.Dfas.{Dfa}
use Rattle.lazy_dfa.specs.Linked.{CacheGrows, HasCleared, GrowsOrClears}
use Rattle.lazy_dfa.specs.Overlapping.{StopsAt, CanContinue}
use Rattle.lazy_dfa.proofs.CacheChanges.IsCacheLemmas.{row_is_plain}
use Rattle.lazy_dfa.proofs.CacheChanges.LinkedLemmas.{not_cleared}

-- an ID of a row doesn't name the dead state, so if it still names its state, a row still holds that state
pub held_kept : (v w : CacheValue) → IsShaped v → ((id : ℕ) (s : StateValue) → Names v id s → Names w id s) → (id : ℕ) (s : StateValue) →
    HeldAt v id s → HeldAt w id s
held_kept v w shape names id s h = held_of (names id s (names_held h))
  where
    low : id < 0x2000_0000
    low = row_is_plain v id h.0 shape h.1 h.2

    held_of : Names w id s → HeldAt w id s
    held_of (names_dead e f) = absurd (omega (arith, e, low))
    held_of (names_held g) = g

pub stop_kept : (d : Dfa) (old new : CacheValue) (q : Search) (stop : Stop) → IsCacheOf d old → CacheGrows d old new →
    StopsAt d old q stop →
    StopsAt d new q stop
stop_kept d old new q stop own g at = record {
  within = at.within;
  held = held_kept old new own.shape g.names stop.id _ at.held;
  index = at.index;
}

pub walk_kept : (d : Dfa) (old new : CacheValue) (q : Search) (w : OverlappingPosition) → IsCacheOf d old → CacheGrows d old new →
    CanContinue d old q w →
    CanContinue d new q w
walk_kept d old new q Fresh own g at = tt
walk_kept d old new q Ended own g at = tt
walk_kept d old new q (Failed e) own g at = tt
walk_kept d old new q (Stopped stop) own g at = stop_kept d old new q stop own g at

-- below the greatest count, an unchanged count of clears shows that nothing was cleared
pub walk_counted : (d : Dfa) (old new : CacheValue) (q : Search) (w : OverlappingPosition) → IsCacheOf d old → GrowsOrClears d old new →
    new.clears ≡ old.clears → old.clears < greatest → CanContinue d old q w → CanContinue d new q w
walk_counted d old new q w own kept same few at = ⊎_elim
    (λ (g : CacheGrows d old new). walk_kept d old new q w own g at)
    (λ (x : HasCleared old new). absurd (not_cleared old new x same few))
    kept
