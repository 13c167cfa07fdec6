-- Streams that are known by their numbers, over one automaton and one cache.
use Rattle.std.specs.Prelude.{◌≡◌, ◌≢◌, ℕ, Bool, true, false, List, [], All, Option, Some, None, IfSome, Result, ⊤}
use Rattle.std.specs.List.{slice_get}
use Rattle.lazy_dfa.specs.Dfas.{Dfa}
use Rattle.streams.specs.Streams.{IsStreamOf}
use Rattle.streams.specs.Feeding.{IsFed, IsStreamClosed}
use Rattle.streams.specs.LineCalls.{AreLinesClosed, AreLinesFed}
use Rattle.streams.specs.declared.errors.StreamError.{StreamError}
use Rattle.streams.specs.declared.feeding.Fed.{Fed}
use Rattle.streams.specs.declared.stream.Stream.{Stream}
use Rattle.streams.specs.declared.stream.StreamMatch.{StreamMatch}
use Rattle.stream_regex.specs.StreamRegexes.{IsStreamRegexOf}
use Rattle.stream_regex.specs.declared.options.Options.{Options}

-- What a contract sees of a set: its automaton, for each number the stream that has it, and whether each line is searched by itself.
pub record SetValue : Type 0 where
  pub dfa : Dfa
  pub streams : List (Option Stream)
  pub lines : Bool

abbrev pub or_none : Option (Option Stream) → Option Stream
or_none None = None
or_none (Some o) = o

-- The stream with a number. None: there is none.
abbrev pub stream_at : List (Option Stream) → ℕ → Option Stream
stream_at xs n = or_none (slice_get xs n)

-- A set of no streams over these patterns, under these options.
pub record IsNewSet (o : Options) (texts : List (List ℕ)) (v : SetValue) : Type 0 where
  pub regex : IsStreamRegexOf o texts v.dfa
  pub streams : v.streams ≡ []
  pub lines : v.lines ≡ o.lines

-- All are streams of this automaton.
abbrev pub AreStreamsOf : Dfa → List (Option Stream) → Type 0
AreStreamsOf d xs = All (λ o. IfSome o (IsStreamOf d)) xs

-- This number has this stream now, or none. All others are as before.
pub record IsSetAt (old new : SetValue) (n : ℕ) (o : Option Stream) : Type 0 where
  pub dfa : new.dfa ≡ old.dfa
  pub lines : new.lines ≡ old.lines
  pub there : stream_at new.streams n ≡ o
  pub others : (m : ℕ) → m ≢ n → stream_at new.streams m ≡ stream_at old.streams m

-- Nothing changed but the cache.
pub record IsSameSet (old new : SetValue) : Type 0 where
  pub dfa : new.dfa ≡ old.dfa
  pub lines : new.lines ≡ old.lines
  pub streams : (m : ℕ) → stream_at new.streams m ≡ stream_at old.streams m

-- A number that no stream had has this stream now.
pub record IsAdded (old new : SetValue) (s : Stream) (n : ℕ) : Type 0 where
  pub free : stream_at old.streams n ≡ None
  pub set : IsSetAt old new n (Some s)

-- There is no stream of this number, and nothing changed.
pub record IsNoStream (old new : SetValue) (n : ℕ) (rows after : List StreamMatch) : Type 0 where
  pub none : stream_at old.streams n ≡ None
  pub same : IsSameSet old new
  pub unwritten : after ≡ rows

-- A stream was fed, line by line or not. A line feed ends a line.
abbrev pub IsFedIn : Bool → Dfa → Stream → Stream → List ℕ → List StreamMatch → List StreamMatch → Fed → Result ⊤ StreamError → Type 0
IsFedIn true d old new bytes rows after f r = AreLinesFed d 10 old new bytes rows after f r
IsFedIn false d old new bytes rows after f r = IsFed d old new bytes rows after f r

-- A stream was closed whose input was read line by line or not, or the call failed.
abbrev pub IsClosedIn : Bool → Dfa → Stream → Stream → List StreamMatch → List StreamMatch → ℕ → Result ⊤ StreamError → Type 0
IsClosedIn true d old new rows after count r = AreLinesClosed d old new rows after count r
IsClosedIn false d old new rows after count r = IsStreamClosed d old new rows after count r

-- The stream with this number was fed.
pub record IsFedAt (old new : SetValue) (n : ℕ) (bytes : List ℕ) (rows after : List StreamMatch) (f : Fed) (r : Result ⊤ StreamError)
    : Type 0 where
  pub before : Stream
  pub is : stream_at old.streams n ≡ Some before
  pub now : Stream
  pub set : IsSetAt old new n (Some now)
  pub fed : IsFedIn old.lines old.dfa before now bytes rows after f r

-- The stream with this number was closed, or the call failed.
pub record IsClosedAt (old new : SetValue) (n : ℕ) (rows after : List StreamMatch) (count : ℕ) (r : Result ⊤ StreamError) : Type 0 where
  pub before : Stream
  pub is : stream_at old.streams n ≡ Some before
  pub now : Stream
  pub set : IsSetAt old new n (Some now)
  pub closed : IsClosedIn old.lines old.dfa before now rows after count r

-- What a call that feeds a stream does. None: there is no stream of this number.
abbrev pub FeedsAt : SetValue → SetValue → ℕ → List ℕ → List StreamMatch → List StreamMatch → Option (Fed × Result ⊤ StreamError) → Type 0
FeedsAt old new n bytes rows after None = IsNoStream old new n rows after
FeedsAt old new n bytes rows after (Some (f, r)) = IsFedAt old new n bytes rows after f r

-- What a call that closes a stream does. None: there is no stream of this number.
abbrev pub ClosesAt : SetValue → SetValue → ℕ → List StreamMatch → List StreamMatch → Option (ℕ × Result ⊤ StreamError) → Type 0
ClosesAt old new n rows after None = IsNoStream old new n rows after
ClosesAt old new n rows after (Some (count, r)) = IsClosedAt old new n rows after count r

-- A stream's copy was added. None: there is no stream of this number.
abbrev pub CopiesAt : SetValue → SetValue → ℕ → Option ℕ → Type 0
CopiesAt old new n None = (stream_at old.streams n ≡ None) × IsSameSet old new
CopiesAt old new n (Some m) = (s : Stream) × (stream_at old.streams n ≡ Some s) × IsAdded old new s m

-- What a call that only changes which stream has a number does: true, if there was one.
abbrev pub ChangesAt : SetValue → SetValue → ℕ → Option Stream → Bool → Type 0
ChangesAt old new n o true = (stream_at old.streams n ≢ None) × IsSetAt old new n o
ChangesAt old new n o false = (stream_at old.streams n ≡ None) × IsSameSet old new
