-- One byte more of a piece.
use Rattle.std.proofs.Common.{◌≡◌, ◌∙◌, ◌+◌, ◌<◌, ◌≤◌, ◌++◌, [], ◌∷◌, ℕ, Bool, true, false, List, Some, length, take, map, refl, sym, ap}
use Rattle.std.proofs.Common.{subst, arith, append_assoc, append-nil, length-append, slice_index, slice_set}
use Rattle.std.proofs.lemmas.List.{map-append, take_more, take_more_set}
use Rattle.search_core.specs.ByteSets.{has}
use Rattle.determinize_core.specs.States.{StateValue}
use Rattle.lazy_dfa.specs.Dfas.{Dfa, after, is_dead}
use Rattle.streams.specs.Streams.{stream_after, counts_before, stream_end, ends_before, stream_ends, counted_ends, fed}
use Rattle.streams.specs.Reading.{Appends, within}
use Rattle.streams.specs.declared.stream.Point.TheVariants.{Dead, Failed}
use Rattle.streams.specs.declared.stream.Stream.{Stream}
use Rattle.streams.specs.declared.stream.StreamMatch.{StreamMatch}
use Rattle.streams.proofs.StreamLemmas.{ends_joined, ends_one, fed_joined, fed_one}

-- ---- what a byte makes of a live state

pub after_goes : (d : Dfa) (s : StateValue) (i b : ℕ) → is_dead s ≡ false → has d.quits b ≡ false → is_dead (after d s (Some b)) ≡ false →
    stream_after d s i b ≡ within (after d s (Some b)) (i + 1)
after_goes d s i b alive quiet later = rw (alive, quiet, later) refl

pub after_dies : (d : Dfa) (s : StateValue) (i b : ℕ) → is_dead s ≡ false → has d.quits b ≡ false → is_dead (after d s (Some b)) ≡ true →
    stream_after d s i b ≡ record { point = Dead; offset = i + 1 }
after_dies d s i b alive quiet later = rw (alive, quiet, later) refl

pub after_quits : (d : Dfa) (s : StateValue) (i b : ℕ) → is_dead s ≡ false → has d.quits b ≡ true →
    stream_after d s i b ≡ record { point = Failed b; offset = i }
after_quits d s i b alive quits = rw (alive, quits) refl

pub ends_go : (d : Dfa) (s : StateValue) (i b : ℕ) → is_dead s ≡ false → has d.quits b ≡ false →
    ends_before d s i b ≡ counted_ends (counts_before d b) i (after d s (Some b)).matches
ends_go d s i b alive quiet = rw (alive, quiet) refl

pub ends_quit : (d : Dfa) (s : StateValue) (i b : ℕ) → is_dead s ≡ false → has d.quits b ≡ true → ends_before d s i b ≡ []
ends_quit d s i b alive quits = rw (alive, quits) refl

none_there : (b : Bool) (i : ℕ) (ms : List ℕ) → ms ≡ [] → counted_ends b i ms ≡ []
none_there true i ms e = ap (λ (l : List ℕ). counted_ends true i l) e
none_there false i ms e = refl

pub ends_silent : (d : Dfa) (s : StateValue) (i b : ℕ) → is_dead s ≡ false → has d.quits b ≡ false → (after d s (Some b)).matches ≡ [] →
    ends_before d s i b ≡ []
ends_silent d s i b alive quiet none = ends_go d s i b alive quiet ∙ none_there (counts_before d b) i (after d s (Some b)).matches none

-- ---- a byte more

module _ (d : Dfa) (s : StateValue) (i : ℕ) (bytes more : List ℕ) (b at : ℕ) (state : StateValue)
    (more_is : more ≡ bytes ++ b ∷ []) (is : fed d (within s i) bytes ≡ within state at) where
  pub fed_more : fed d (within s i) more ≡ stream_after d state at b
  fed_more =
      ap (λ (l : List ℕ). fed d (within s i) l) more_is
      ∙ (sym (fed_joined d (within s i) bytes (b ∷ []))
      ∙ (ap (λ (x : Stream). fed d x (b ∷ [])) is ∙ fed_one d (within state at) b))

  pub ends_more : stream_ends d (within s i) more ≡ stream_ends d (within s i) bytes ++ ends_before d state at b
  ends_more =
      ap (λ (l : List ℕ). stream_ends d (within s i) l) more_is
      ∙ (sym (ends_joined d (within s i) bytes (b ∷ []))
      ∙ ap (λ (l : List StreamMatch). stream_ends d (within s i) bytes ++ l)
      (ap (λ (x : Stream). stream_ends d x (b ∷ [])) is ∙ ends_one d (within state at) b))

-- ---- rows

pub none_appended : (rows : List StreamMatch) → Appends rows rows 0 0 []
none_appended rows = record { count_is = refl; fits = omega arith; rows = refl }

-- ends appended to rows after others
pub appends_more : (old mid new : List StreamMatch) (n m : ℕ) (first more all : List StreamMatch) → length mid ≡ length old →
    all ≡ first ++ more → Appends old mid 0 n first → Appends mid new n m more → Appends old new 0 m all
appends_more old mid new n m first more all len is a b = record {
  count_is = let sizes : length all ≡ length first + length more = ap length is ∙ length-append first more in
      omega (arith, b.count_is, a.count_is, sizes);
  fits = subst (λ (k : ℕ). m ≤ k) len b.fits;
  rows = b.rows ∙ (ap (λ (l : List StreamMatch). l ++ more) a.rows ∙ sym is);
}

pub appends_none : (old new : List StreamMatch) (n : ℕ) (first more all : List StreamMatch) → all ≡ first ++ more → more ≡ [] →
    Appends old new 0 n first → Appends old new 0 n all
appends_none old new n first more all is none a =
    subst (λ (l : List StreamMatch). Appends old new 0 n l)
    (sym (is ∙ (ap (λ (l : List StreamMatch). first ++ l) none ∙ append-nil first))) a

-- the end of one more pattern of a list
pub row_more : (before rows : List StreamMatch) (n k e p : ℕ) (ms : List ℕ) →
    take (n + k) rows ≡ take n before ++ map (stream_end e) (take k ms) → n + k < length rows → k < length ms → p ≡ slice_index ms k →
    take (n + (k + 1)) (slice_set rows (n + k) (stream_end e p)) ≡ take n before ++ map (stream_end e) (take (k + 1) ms)
row_more before rows n k e p ms is room below p_is =
    ap (λ (m : ℕ). take m (slice_set rows (n + k) (stream_end e p))) (omega arith)
    ∙ (take_more_set rows (n + k) (stream_end e p) room
    ∙ (ap (λ (l : List StreamMatch). l ++ stream_end e p ∷ []) is
    ∙ (append_assoc (take n before) (map (stream_end e) (take k ms)) (stream_end e p ∷ [])
    ∙ ap (λ (l : List StreamMatch). take n before ++ l)
    (ap (λ (q : ℕ). map (stream_end e) (take k ms) ++ stream_end e q ∷ []) p_is
    ∙ (sym (map-append (stream_end e) (take k ms) (slice_index ms k ∷ []))
    ∙ ap (λ (l : List ℕ). map (stream_end e) l) (sym (take_more ms k 0 below)))))))
