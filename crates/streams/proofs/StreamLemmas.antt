-- Pieces joined, and a byte more of a piece.
use Rattle.std.proofs.Common.{◌≡◌, ◌∙◌, ◌+◌, ◌++◌, ◌∷◌, [], ℕ, List, length}
use Rattle.std.proofs.Common.{refl, ap, arith, append_assoc, append-nil}
use Rattle.lazy_dfa.specs.Dfas.{Dfa}
use Rattle.streams.specs.Streams.{stream_ends_at, stream_ends, fed, next_at}
use Rattle.streams.specs.declared.stream.Point.TheVariants.{Dead}
use Rattle.streams.specs.declared.stream.Stream.{Stream}
use Rattle.streams.specs.declared.stream.StreamMatch.{StreamMatch}

-- ---- pieces joined

pub fed_joined : (d : Dfa) (s : Stream) (a b : List ℕ) → fed d (fed d s a) b ≡ fed d s (a ++ b)
unfolding fed
fed_joined d s [] b = refl
fed_joined d s (x ∷ a) b = fed_joined d (next_at d s.point s.offset x) a b

pub ends_joined : (d : Dfa) (s : Stream) (a b : List ℕ) → stream_ends d s a ++ stream_ends d (fed d s a) b ≡ stream_ends d s (a ++ b)
unfolding fed stream_ends
ends_joined d s [] b = refl
ends_joined d s (x ∷ a) b =
    append_assoc (stream_ends_at d s.point s.offset x) (stream_ends d (next_at d s.point s.offset x) a) (stream_ends d (fed d (next_at d s.point s.offset x) a) b)
    ∙ ap (λ (l : List StreamMatch). stream_ends_at d s.point s.offset x ++ l) (ends_joined d (next_at d s.point s.offset x) a b)

-- one byte
pub fed_one : (d : Dfa) (s : Stream) (b : ℕ) → fed d s (b ∷ []) ≡ next_at d s.point s.offset b
unfolding fed
fed_one d s b = refl

pub ends_one : (d : Dfa) (s : Stream) (b : ℕ) → stream_ends d s (b ∷ []) ≡ stream_ends_at d s.point s.offset b
unfolding stream_ends
ends_one d s b = append-nil (stream_ends_at d s.point s.offset b)

pub fed_none : (d : Dfa) (s : Stream) → fed d s [] ≡ s
unfolding fed
fed_none d s = refl

pub ends_none : (d : Dfa) (s : Stream) → stream_ends d s [] ≡ []
unfolding stream_ends
ends_none d s = refl

-- ---- the dead state

pub dead_fed : (d : Dfa) (i : ℕ) (bs : List ℕ) → fed d (record { point = Dead; offset = i }) bs ≡ record { point = Dead; offset = i + length bs }
unfolding fed
dead_fed d i [] = ap (λ (k : ℕ). record { point = Dead; offset = k }) (omega arith)
dead_fed d i (b ∷ bs) =
    dead_fed d (i + 1) bs
    ∙ ap (λ (k : ℕ). record { point = Dead; offset = k }) (omega arith)

pub dead_silent : (d : Dfa) (i : ℕ) (bs : List ℕ) → stream_ends d (record { point = Dead; offset = i }) bs ≡ []
unfolding stream_ends
dead_silent d i [] = refl
dead_silent d i (b ∷ bs) = dead_silent d (i + 1) bs
