-- Where a stream reads on, and what its calls make of what was read.
use Rattle.std.proofs.Common.{◌≡◌, ℕ, true, false, Some, None, refl, ap, []}
use Rattle.determinize_core.specs.States.{StateValue}
use Rattle.lazy_dfa.specs.Caches.{CacheValue, HeldAt, IsCacheOf, IsRow, IsShaped, Leads}
use Rattle.lazy_dfa.specs.Dfas.{Dfa, after, is_dead}
use Rattle.lazy_dfa.specs.Ids.{dead_tag, has_tag}
use Rattle.streams.specs.Feeding.{IsEntered, IsLast, IsNamed}
use Rattle.streams.specs.Streams.{first_state_of, last_patterns}
use Rattle.streams.specs.declared.stream.Point.{Point}
use Rattle.streams.specs.declared.stream.Point.TheVariants.{Closed, Dead, Failed, Fresh, Within}
use Rattle.streams.proofs.TagLemmas.{alive_named, dead_is, dead_named, held_alive, row_of}

-- ---- the state in which a stream reads on

module _ (d : Dfa) (v : CacheValue) (id : ℕ) (shape : IsShaped v) where
  pub dead_entered : (p : Point) → has_tag dead_tag id ≡ true → IsNamed d v p (Some id) → IsEntered d v p None
  dead_entered Fresh t n = dead_named v id (first_state_of d) shape t n
  dead_entered (Within s) t n = dead_named v id s shape t n
  dead_entered Dead t n = absurd n
  dead_entered (Failed b) t n = absurd n
  dead_entered Closed t n = absurd n

-- ---- the end of the input

patterns_there : (d : Dfa) (s : StateValue) → is_dead s ≡ false → (after d s None).matches ≡ [] → last_patterns d s ≡ []
patterns_there d s alive none = rw alive none

module _ (d : Dfa) (v w : CacheValue) (id to : ℕ) (own : IsCacheOf d v) (new : IsCacheOf d w)
    (led : (s : StateValue) → HeldAt v id s → Leads d w s None to) where
  dies_there : (s : StateValue) → HeldAt v id s → has_tag dead_tag to ≡ true → last_patterns d s ≡ []
  dies_there s h t =
      patterns_there d s (held_alive d v id s own h)
      (ap (λ (x : StateValue). x.matches)
      (dead_is (after d s None) (dead_named w to (after d s None) new.shape t ((led s h).goes refl))))

  pub dead_last : (p : Point) → has_tag dead_tag to ≡ true → IsEntered d v p (Some id) → IsLast d w p None
  dead_last Fresh t h = dies_there (first_state_of d) h t
  dead_last (Within s) t h = dies_there s h t
  dead_last Dead t h = absurd h
  dead_last (Failed b) t h = absurd h
  dead_last Closed t h = absurd h

  there : (s : StateValue) → HeldAt v id s → has_tag dead_tag to ≡ false → (is_dead s ≡ false) × HeldAt w to (after d s None)
  there s h t = (held_alive d v id s own h, alive_named w to (after d s None) new.shape t ((led s h).goes refl))

  pub alive_last : (p : Point) → has_tag dead_tag to ≡ false → IsEntered d v p (Some id) → IsLast d w p (Some to)
  alive_last Fresh t h = there (first_state_of d) h t
  alive_last (Within s) t h = there s h t
  alive_last Dead t h = absurd h
  alive_last (Failed b) t h = absurd h
  alive_last Closed t h = absurd h

  pub last_row : (p : Point) → has_tag dead_tag to ≡ false → IsEntered d v p (Some id) → IsRow w to
  last_row Fresh t h = row_of w to (after d (first_state_of d) None) (there (first_state_of d) h t).1
  last_row (Within s) t h = row_of w to (after d s None) (there s h t).1
  last_row Dead t h = absurd h
  last_row (Failed b) t h = absurd h
  last_row Closed t h = absurd h
