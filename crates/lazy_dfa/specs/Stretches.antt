-- Stretches of bytes that are read one by one, or skipped.
use Rattle.std.specs.Prelude.{ℕ, ◌-◌, ◌<◌, ◌≤◌, List, Option}
use Rattle.lazy_dfa.specs.Caches.{CacheValue, IsRow}
use Rattle.lazy_dfa.specs.Dfas.{Dfa}
use Rattle.lazy_dfa.specs.Ids.{tag}
use Rattle.lazy_dfa.specs.Points.{GoesTo, point}
use Rattle.lazy_dfa.specs.declared.search.runs.Moved.{Moved}

-- Over known steps, reading goes from an offset and a state to another offset, which is at most `end`, and to a state
-- without a tag.
pub record MovesTo (d : Dfa) (v : CacheValue) (h : List ℕ) (from : Moved) (end : ℕ) (to : Moved) : Type 0 where
  pub row : IsRow v to.id
  pub untagged : to.id < tag
  pub past : from.at ≤ to.at
  pub within : to.at ≤ end
  pub goes : (m n : ℕ) (best : Option (ℕ × ℕ)) → GoesTo d h (point v m n from.at from.id best) (point v m n to.at to.id best)
      (to.at - from.at)

-- the same in reverse, where the other offset is at least `end`
pub record MovesBackTo (d : Dfa) (v : CacheValue) (h : List ℕ) (from : Moved) (end : ℕ) (to : Moved) : Type 0 where
  pub row : IsRow v to.id
  pub untagged : to.id < tag
  pub past : to.at ≤ from.at
  pub within : end ≤ to.at
  pub goes : (m n : ℕ) (best : Option (ℕ × ℕ)) → GoesTo d h (point v m n from.at from.id best) (point v m n to.at to.id best)
      (from.at - to.at)

-- Over known steps, the bytes between two offsets lead from a state back to it. The second offset is at most `end`.
pub record SkipsTo (d : Dfa) (v : CacheValue) (h : List ℕ) (id from end to : ℕ) : Type 0 where
  pub past : from ≤ to
  pub within : to ≤ end
  pub goes : (m n : ℕ) (best : Option (ℕ × ℕ)) → GoesTo d h (point v m n from id best) (point v m n to id best) (to - from)
