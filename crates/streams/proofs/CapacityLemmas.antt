-- What streams report doesn't depend on the capacity of the cache.
use Rattle.std.proofs.Common.{◌≡◌, ◌⊎◌, ◌∙◌, ◌+◌, ◌<◌, ◌++◌, ◌==◌, ◌∷◌, [], ℕ, List, Option, length, map, take, inl, inr}
use Rattle.std.proofs.Common.{refl, ap, ap₂, subst, if◌then◌else◌}
use Rattle.std.specs.Prelude.{IfErr, IfOk, Result, Ok, Err, ⊤}
use Rattle.determinize_core.specs.States.{StateValue}
use Rattle.lazy_dfa.specs.ConfigValue.{clears_of}
use Rattle.lazy_dfa.specs.Dfas.{Dfa, IsStateOf, after, first_state}
use Rattle.lazy_dfa.specs.Overlapping.{Rest}
use Rattle.streams.specs.Capacities.{without_capacity}
use Rattle.streams.specs.Errors.{IsStreamError}
use Rattle.streams.specs.Feeding.{IsFed, IsStreamClosed}
use Rattle.streams.specs.LineCalls.{AreLinesClosed, AreLinesFed, IsFullOfLines}
use Rattle.streams.specs.Lines.{ends_in_lines, ends_in_lines_at, fed_lines, is_fresh, last_line_ends, next_in_lines, next_line_at, rest_of_lines}
use Rattle.streams.specs.Overlapping.{end_pair, failure, rest_of_stream}
use Rattle.streams.specs.Reading.{Appends, IsFull}
use Rattle.streams.specs.Streams.{IsPointOf, IsStreamOf, fed, last_at, last_ends, next_at, stream_end, stream_ends, stream_ends_at}
use Rattle.streams.specs.declared.errors.StreamError.{StreamError}
use Rattle.streams.specs.declared.errors.StreamError.TheVariants.{Closed as ClosedError, GaveUp, NoMemory, NoRoom, Quit, TooLong}
use Rattle.streams.specs.declared.feeding.Fed.{Fed}
use Rattle.streams.specs.declared.stream.Point.{Point}
use Rattle.streams.specs.declared.stream.Point.TheVariants.{Closed, Dead, Failed, Fresh, Within}
use Rattle.streams.specs.declared.stream.Stream.{Stream}
use Rattle.streams.specs.declared.stream.StreamMatch.{StreamMatch}

-- the automaton with this capacity, as it is set and in effect
abbrev with_capacity : Option ℕ → ℕ → Dfa → Dfa
with_capacity set bytes d = record d { options = record d.options { cache_capacity = set }; capacity = bytes }

-- all that streams need of an automaton is the same for two of them
record AreAlike (d e : Dfa) : Type 0 where
  pub next : (p : Point) (i b : ℕ) → next_at d p i b ≡ next_at e p i b
  pub ends : (p : Point) (i b : ℕ) → stream_ends_at d p i b ≡ stream_ends_at e p i b
  pub last : (p : Point) → last_at d p ≡ last_at e p
  pub clears : clears_of d.options ≡ clears_of e.options
  pub states : (s : StateValue) → IsStateOf d s → IsStateOf e s

module _ (d : Dfa) (set : Option ℕ) (bytes : ℕ) where
  abbrev e : Dfa
  e = with_capacity set bytes d

  same_next : (p : Point) (i b : ℕ) → next_at d p i b ≡ next_at e p i b
  unfolding after first_state
  same_next Fresh i b = refl
  same_next (Within s) i b = refl
  same_next Dead i b = refl
  same_next (Failed q) i b = refl
  same_next Closed i b = refl

  same_ends : (p : Point) (i b : ℕ) → stream_ends_at d p i b ≡ stream_ends_at e p i b
  unfolding after first_state
  same_ends Fresh i b = refl
  same_ends (Within s) i b = refl
  same_ends Dead i b = refl
  same_ends (Failed q) i b = refl
  same_ends Closed i b = refl

  same_last : (p : Point) → last_at d p ≡ last_at e p
  unfolding after first_state
  same_last Fresh = refl
  same_last (Within s) = refl
  same_last Dead = refl
  same_last (Failed q) = refl
  same_last Closed = refl

  with_alike : AreAlike d e
  with_alike = record {
    next = same_next;
    ends = same_ends;
    last = same_last;
    clears = refl;
    states = λ s own. record { stepped = own.stepped; short = own.short };
  }

-- automata that differ in the capacity alone
alike : (d e : Dfa) → without_capacity d ≡ without_capacity e → AreAlike d e
alike d e same =
    let is : with_capacity e.options.cache_capacity e.capacity d ≡ e =
    ap (λ (x : Dfa). with_capacity e.options.cache_capacity e.capacity x) same in
    subst (λ (x : Dfa). AreAlike d x) is (with_alike d e.options.cache_capacity e.capacity)

-- ---- results, part by part

map_ok : {P Q : Type 0} (r : Result ⊤ StreamError) → (P → Q) → IfOk r (λ _. P) → IfOk r (λ _. Q)
map_ok (Ok done) to it = to it
map_ok (Err x) to it = tt

map_err : {P Q : StreamError → Type 0} (r : Result ⊤ StreamError) → ((x : StreamError) → P x → Q x) → IfErr r P → IfErr r Q
map_err (Ok done) to it = tt
map_err (Err x) to it = to x it

map_right : {P Q R : Type 0} → (Q → R) → P ⊎ Q → P ⊎ R
map_right to (inl it) = inl it
map_right to (inr it) = inr (to it)

module _ (d e : Dfa) (are : AreAlike d e) where
  own_point : (p : Point) → IsPointOf d p → IsPointOf e p
  own_point Fresh own = tt
  own_point (Within s) own = (are.states s own.0, own.1)
  own_point Dead own = tt
  own_point (Failed q) own = tt
  own_point Closed own = tt

  -- ---- pieces
  fed_alike : (s : Stream) (bytes : List ℕ) → fed d s bytes ≡ fed e s bytes
  unfolding fed
  fed_alike s [] = refl
  fed_alike s (b ∷ bs) =
      ap (λ (x : Stream). fed d x bs) (are.next s.point s.offset b) ∙ fed_alike (next_at e s.point s.offset b) bs

  ends_alike : (s : Stream) (bytes : List ℕ) → stream_ends d s bytes ≡ stream_ends e s bytes
  unfolding stream_ends
  ends_alike s [] = refl
  ends_alike s (b ∷ bs) =
      ap₂ (λ (xs : List StreamMatch) (x : Stream). xs ++ stream_ends d x bs) (are.ends s.point s.offset b) (are.next s.point s.offset b)
      ∙ ap (λ (xs : List StreamMatch). stream_ends_at e s.point s.offset b ++ xs) (ends_alike (next_at e s.point s.offset b) bs)

  last_ends_alike : (s : Stream) → last_ends d s ≡ last_ends e s
  last_ends_alike s = ap (λ (ps : List ℕ). map (stream_end s.offset) ps) (are.last s.point)

  -- ---- pieces that are read line by line
  next_line_alike : (t : ℕ) (p : Point) (i b : ℕ) → next_in_lines d t p i b ≡ next_in_lines e t p i b
  next_line_alike t p i b = ap (λ (x : Stream). if b == t then next_line_at p i else x) (are.next p i b)

  line_ends_at_alike : (t : ℕ) (p : Point) (i b : ℕ) → ends_in_lines_at d t p i b ≡ ends_in_lines_at e t p i b
  line_ends_at_alike t p i b =
      ap₂ (λ (ps : List ℕ) (xs : List StreamMatch). if b == t then map (stream_end i) ps else xs) (are.last p) (are.ends p i b)

  fed_lines_alike : (t : ℕ) (s : Stream) (bytes : List ℕ) → fed_lines d t s bytes ≡ fed_lines e t s bytes
  unfolding fed_lines
  fed_lines_alike t s [] = refl
  fed_lines_alike t s (b ∷ bs) =
      ap (λ (x : Stream). fed_lines d t x bs) (next_line_alike t s.point s.offset b)
      ∙ fed_lines_alike t (next_in_lines e t s.point s.offset b) bs

  line_ends_alike : (t : ℕ) (s : Stream) (bytes : List ℕ) → ends_in_lines d t s bytes ≡ ends_in_lines e t s bytes
  unfolding ends_in_lines
  line_ends_alike t s [] = refl
  line_ends_alike t s (b ∷ bs) =
      ap₂ (λ (xs : List StreamMatch) (x : Stream). xs ++ ends_in_lines d t x bs) (line_ends_at_alike t s.point s.offset b)
      (next_line_alike t s.point s.offset b)
      ∙ ap (λ (xs : List StreamMatch). ends_in_lines_at e t s.point s.offset b ++ xs)
      (line_ends_alike t (next_in_lines e t s.point s.offset b) bs)

  last_line_alike : (s : Stream) → last_line_ends d s ≡ last_line_ends e s
  last_line_alike s = ap (λ (ps : List ℕ). if is_fresh s.point then [] else map (stream_end s.offset) ps) (are.last s.point)

  -- ---- calls
  error_alike : (old new : Stream) (n : ℕ) (x : StreamError) → IsStreamError d old new n x → IsStreamError e old new n x
  error_alike old new n (Quit b i) it = it
  error_alike old new n ClosedError it = it
  error_alike old new n GaveUp it = λ none. it (are.clears ∙ none)
  error_alike old new n NoMemory it = it
  error_alike old new n TooLong it = it
  error_alike old new n NoRoom it = it

  full_alike : (s : Stream) (bytes : List ℕ) (taken count room : ℕ) → IsFull d s bytes taken count room → IsFull e s bytes taken count room
  full_alike s bytes taken count room it = record {
    byte = it.byte;
    is = it.is;
    lacks = subst (λ (xs : List StreamMatch). room < count + length xs) (are.ends s.point s.offset it.byte) it.lacks;
  }

  full_of_lines_alike : (t : ℕ) (s : Stream) (bytes : List ℕ) (taken count room : ℕ) → IsFullOfLines d t s bytes taken count room →
      IsFullOfLines e t s bytes taken count room
  full_of_lines_alike t s bytes taken count room it = record {
    byte = it.byte;
    is = it.is;
    lacks = subst (λ (xs : List StreamMatch). room < count + length xs) (line_ends_at_alike t s.point s.offset it.byte) it.lacks;
  }

  module _ (old new : Stream) (rows after : List StreamMatch) where
    fed_by : (bytes : List ℕ) (f : Fed) (r : Result ⊤ StreamError) → IsFed d old new bytes rows after f r → IsFed e old new bytes rows after f r
    fed_by bytes f r it = record {
      taken = it.taken;
      stream = it.stream ∙ fed_alike old (take f.taken bytes);
      ends = subst (λ (xs : List StreamMatch). Appends rows after 0 f.count xs) (ends_alike old (take f.taken bytes)) it.ends;
      all = map_ok r (λ all. map_right (full_alike new bytes f.taken f.count (length rows)) all) it.all;
      quiet = it.quiet;
      err = map_err r (error_alike old new (length bytes)) it.err;
    }

    closed_by : (count : ℕ) (r : Result ⊤ StreamError) → IsStreamClosed d old new rows after count r →
        IsStreamClosed e old new rows after count r
    closed_by count r it = record {
      stream = it.stream;
      ends = map_ok r (λ ends. subst (λ (xs : List StreamMatch). Appends rows after 0 count xs) (last_ends_alike old) ends) it.ends;
      not_closed = it.not_closed;
      none = it.none;
      lacks = λ is. subst (λ (xs : List StreamMatch). (count ≡ length xs) × (length rows < count)) (last_ends_alike old) (it.lacks is);
      same = it.same;
      err = map_err r (λ x. map_right (error_alike old new 0 x)) it.err;
    }

    lines_fed_by : (t : ℕ) (bytes : List ℕ) (f : Fed) (r : Result ⊤ StreamError) → AreLinesFed d t old new bytes rows after f r →
        AreLinesFed e t old new bytes rows after f r
    lines_fed_by t bytes f r it = record {
      taken = it.taken;
      stream = it.stream ∙ fed_lines_alike t old (take f.taken bytes);
      ends = subst (λ (xs : List StreamMatch). Appends rows after 0 f.count xs) (line_ends_alike t old (take f.taken bytes)) it.ends;
      all = map_ok r (λ all. map_right (full_of_lines_alike t new bytes f.taken f.count (length rows)) all) it.all;
      quiet = it.quiet;
      err = map_err r (error_alike old new (length bytes)) it.err;
    }

    lines_closed_by : (count : ℕ) (r : Result ⊤ StreamError) → AreLinesClosed d old new rows after count r →
        AreLinesClosed e old new rows after count r
    lines_closed_by count r it = record {
      stream = it.stream;
      ends = map_ok r (λ ends. subst (λ (xs : List StreamMatch). Appends rows after 0 count xs) (last_line_alike old) ends) it.ends;
      not_closed = it.not_closed;
      none = it.none;
      lacks = λ is. subst (λ (xs : List StreamMatch). (count ≡ length xs) × (length rows < count)) (last_line_alike old) (it.lacks is);
      same = it.same;
      err = map_err r (λ x. map_right (error_alike old new 0 x)) it.err;
    }

  -- ---- whole inputs
  rest_alike : (s : Stream) (bytes : List ℕ) → rest_of_stream d s bytes ≡ rest_of_stream e s bytes
  rest_alike s bytes =
      ap₂ (λ (xs : List StreamMatch) (x : Stream). rest_by xs (last_ends d x) x) (ends_alike s bytes) (fed_alike s bytes)
      ∙ ap (λ (xs : List StreamMatch). rest_by (stream_ends e s bytes) xs (fed e s bytes)) (last_ends_alike (fed e s bytes))
    where
      rest_by : List StreamMatch → List StreamMatch → Stream → Rest
      rest_by xs ys x = record { ends = map end_pair (xs ++ ys); rejection = failure x }

  rest_of_lines_alike : (t : ℕ) (s : Stream) (bytes : List ℕ) → rest_of_lines d t s bytes ≡ rest_of_lines e t s bytes
  rest_of_lines_alike t s bytes =
      ap₂ (λ (xs : List StreamMatch) (x : Stream). rest_by xs (last_line_ends d x) x) (line_ends_alike t s bytes) (fed_lines_alike t s bytes)
      ∙ ap (λ (xs : List StreamMatch). rest_by (ends_in_lines e t s bytes) xs (fed_lines e t s bytes)) (last_line_alike (fed_lines e t s bytes))
    where
      rest_by : List StreamMatch → List StreamMatch → Stream → Rest
      rest_by xs ys x = record { ends = map end_pair (xs ++ ys); rejection = failure x }

-- ---- automata that differ in the capacity alone

module _ (d e : Dfa) (same : without_capacity d ≡ without_capacity e) where
  pub own_stream : (s : Stream) → IsStreamOf d s → IsStreamOf e s
  own_stream s own = own_point d e (alike d e same) s.point own

  pub same_reported : (s : Stream) (bytes : List ℕ) → rest_of_stream d s bytes ≡ rest_of_stream e s bytes
  same_reported s bytes = rest_alike d e (alike d e same) s bytes

  pub same_of_lines : (t : ℕ) (s : Stream) (bytes : List ℕ) → rest_of_lines d t s bytes ≡ rest_of_lines e t s bytes
  same_of_lines t s bytes = rest_of_lines_alike d e (alike d e same) t s bytes

  module _ (old new : Stream) (rows after : List StreamMatch) where
    pub same_fed : (bytes : List ℕ) (f : Fed) (r : Result ⊤ StreamError) → IsFed d old new bytes rows after f r →
        IsFed e old new bytes rows after f r
    same_fed = fed_by d e (alike d e same) old new rows after

    pub same_closed : (count : ℕ) (r : Result ⊤ StreamError) → IsStreamClosed d old new rows after count r →
        IsStreamClosed e old new rows after count r
    same_closed = closed_by d e (alike d e same) old new rows after

    pub same_lines_fed : (t : ℕ) (bytes : List ℕ) (f : Fed) (r : Result ⊤ StreamError) → AreLinesFed d t old new bytes rows after f r →
        AreLinesFed e t old new bytes rows after f r
    same_lines_fed = lines_fed_by d e (alike d e same) old new rows after

    pub same_lines_closed : (count : ℕ) (r : Result ⊤ StreamError) → AreLinesClosed d old new rows after count r →
        AreLinesClosed e old new rows after count r
    same_lines_closed = lines_closed_by d e (alike d e same) old new rows after
