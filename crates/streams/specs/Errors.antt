-- Why a stream takes no more bytes.
use Rattle.std.specs.Prelude.{◌≡◌, ◌≢◌, ◌+◌, ◌<◌, ℕ, None, ⊤}
use Rattle.lazy_dfa.specs.ConfigValue.{clears_of}
use Rattle.lazy_dfa.specs.Dfas.{Dfa}
use Rattle.streams.specs.declared.errors.StreamError.{StreamError}
use Rattle.streams.specs.declared.errors.StreamError.TheVariants.{Quit, Closed, GaveUp, NoMemory, NoRoom, TooLong}
use Rattle.streams.specs.declared.stream.Point.TheVariants.{Failed, Closed as ClosedPoint}
use Rattle.streams.specs.declared.stream.Stream.{Stream}

-- Why a stream takes no more bytes. With `Quit`, it read that byte there, now or before. With `Closed`, it was closed before. With
-- `GaveUp`, the automaton has a limit on clears. With `TooLong`, n more bytes would exceed the greatest offset.
abbrev pub IsStreamError : Dfa → Stream → Stream → ℕ → StreamError → Type 0
IsStreamError d old new n (Quit b i) = new ≡ record { point = Failed b; offset = i }
IsStreamError d old new n Closed = (old.point ≡ ClosedPoint) × (new ≡ old)
IsStreamError d old new n GaveUp = clears_of d.options ≢ None
IsStreamError d old new n NoMemory = ⊤
IsStreamError d old new n TooLong = (0xFFFF_FFFF_FFFF_FFFF < old.offset + n) × (new ≡ old)
IsStreamError d old new n NoRoom = ⊥
