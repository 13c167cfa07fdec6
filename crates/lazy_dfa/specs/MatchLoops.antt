-- Runs over known steps, through states that match and states that don't.
use Rattle.std.specs.Prelude.{◌≡◌, ◌≢◌, ℕ, true, List, Option}
use Rattle.determinize_core.specs.States.{StateValue}
use Rattle.lazy_dfa.specs.Caches.{CacheValue, IsRow, HeldAt}
use Rattle.lazy_dfa.specs.Dfas.{Dfa}
use Rattle.lazy_dfa.specs.Ids.{has_tag, match_tag, unknown_id}
use Rattle.lazy_dfa.specs.Scans.{best_recorded}
use Rattle.lazy_dfa.specs.Points.{GoesTo, point}

-- Such a run goes from an ID at one offset to an ID at another one through k units. Of the states after these units,
-- the last one that matches has the ID `met`. If none matches, `met` is the unknown ID. The run leaves its scan with
-- the match of that state, whose unit was read at the offset `last`.
pub record Lingers (d : Dfa) (h : List ℕ) (v : CacheValue) (from first at id met last k : ℕ) : Type 0 where
  pub row : met ≢ unknown_id → IsRow v met
  pub matches : met ≢ unknown_id → has_tag match_tag met ≡ true
  pub plain : met ≡ unknown_id → (m n : ℕ) (best : Option (ℕ × ℕ)) → GoesTo d h (point v m n from first best) (point v m n at id best) k
  pub goes : met ≢ unknown_id → (s : StateValue) → HeldAt v met s → (m n : ℕ) (best : Option (ℕ × ℕ)) →
      GoesTo d h (point v m n from first best) (point v m n at id (best_recorded last s best)) k
