-- A step over a cache, as what becomes of a byte.
use Rattle.std.proofs.Common.{◌≡◌, ◌∙◌, ◌+◌, [], ℕ, true, false, Some, ap}
use Rattle.determinize_core.specs.States.{StateValue}
use Rattle.lazy_dfa.specs.Caches.{CacheValue, HeldAt, IsCacheOf, IsShaped, Leads, Names}
use Rattle.lazy_dfa.specs.Dfas.{Dfa, after, is_dead}
use Rattle.lazy_dfa.specs.Ids.{dead_tag, has_tag, quit_tag}
use Rattle.lazy_dfa.proofs.ForCallers.{one_state}
use Rattle.streams.specs.Reading.{within}
use Rattle.streams.specs.Streams.{stream_after, counts_before, ends_before, counted_ends}
use Rattle.streams.specs.declared.stream.Point.TheVariants.{Dead, Failed}
use Rattle.streams.proofs.ReadLemmas.{after_dies, after_goes, after_quits, ends_go, ends_quit, ends_silent}
use Rattle.streams.proofs.TagLemmas.{alive_named, dead_is, dead_named, held_alive, no_quit_led, quit_led}

pub same_state : (v : CacheValue) (id : ℕ) (s t : StateValue) → IsShaped v → HeldAt v id s → HeldAt v id t → s ≡ t
same_state v id s t i h g = h.3 ∙ one_state v id h.0 t i h.1 h.2 g

module _ (d : Dfa) (v w : CacheValue) (id to at b : ℕ) (s : StateValue) (own : IsCacheOf d v) (new : IsCacheOf d w) (held : HeldAt v id s)
    (led : Leads d w s (Some b) to) where
  alive : is_dead s ≡ false
  alive = held_alive d v id s own held

  pub quits : has_tag quit_tag to ≡ true →
      (stream_after d s at b ≡ record { point = Failed b; offset = at }) × (ends_before d s at b ≡ [])
  quits t =
      let q = quit_led d w s (Some b) to new.shape t led in
      (after_quits d s at b alive q, ends_quit d s at b alive q)

  module _ (quiet : has_tag quit_tag to ≡ false) where
    names : Names w to (after d s (Some b))
    names = led.goes (no_quit_led d w s (Some b) to new.shape quiet led)

    pub dies : has_tag dead_tag to ≡ true →
        (stream_after d s at b ≡ record { point = Dead; offset = at + 1 }) × (ends_before d s at b ≡ [])
    dies t =
        let q = no_quit_led d w s (Some b) to new.shape quiet led in
        let gone = dead_named w to (after d s (Some b)) new.shape t names in (
          after_dies d s at b alive q gone,
          ends_silent d s at b alive q (ap (λ (x : StateValue). x.matches) (dead_is (after d s (Some b)) gone)),
        )

    pub goes_on : has_tag dead_tag to ≡ false → HeldAt w to (after d s (Some b))
    goes_on t = alive_named w to (after d s (Some b)) new.shape t names

    pub goes : has_tag dead_tag to ≡ false → stream_after d s at b ≡ within (after d s (Some b)) (at + 1)
    goes t =
        after_goes d s at b alive (no_quit_led d w s (Some b) to new.shape quiet led)
        (held_alive d w to (after d s (Some b)) new (goes_on t))

    pub ends : ends_before d s at b ≡ counted_ends (counts_before d b) at (after d s (Some b)).matches
    ends = ends_go d s at b alive (no_quit_led d w s (Some b) to new.shape quiet led)
