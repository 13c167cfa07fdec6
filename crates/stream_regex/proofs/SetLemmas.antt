-- What is in a list of streams after one of them was replaced.
use Rattle.std.proofs.Common.{◌≡◌, ◌≢◌, ℕ, zero, suc, List, [], ◌∷◌, slice_set, Option, Some, None, Result, refl, ap, sym, subst, ◌∙◌}
use Rattle.std.specs.Prelude.{IfSome, ⊤}
use Rattle.std.proofs.lemmas.List.Elements.{All-set}
use Rattle.std.proofs.lemmas.Option.{none-some}
use Rattle.lazy_dfa.specs.Dfas.{Dfa}
use Rattle.streams.specs.Streams.{IsStreamOf}
use Rattle.streams.specs.declared.errors.StreamError.{StreamError}
use Rattle.streams.specs.declared.feeding.Fed.{Fed}
use Rattle.streams.specs.declared.stream.Stream.{Stream}
use Rattle.streams.specs.declared.stream.StreamMatch.{StreamMatch}
use Rattle.stream_regex.specs.Sets.{AreStreamsOf, IsClosedAt, IsClosedIn, IsFedAt, IsFedIn, IsSetAt, SetValue, stream_at}

abbrev Streams : Type 0
Streams = List (Option Stream)

pub set_there : (xs : Streams) (n : ℕ) (s : Stream) (o : Option Stream) → stream_at xs n ≡ Some s → stream_at (slice_set xs n o) n ≡ o
set_there [] n s o is = absurd (none-some s is)
set_there (x ∷ xs) zero s o is = refl
set_there (x ∷ xs) (suc n) s o is = set_there xs n s o is

pub set_other : (xs : Streams) (n m : ℕ) (o : Option Stream) → m ≢ n → stream_at (slice_set xs n o) m ≡ stream_at xs m
set_other [] n m o apart = refl
set_other (x ∷ xs) zero zero o apart = absurd (apart refl)
set_other (x ∷ xs) zero (suc m) o apart = refl
set_other (x ∷ xs) (suc n) zero o apart = refl
set_other (x ∷ xs) (suc n) (suc m) o apart = set_other xs n m o (λ same. apart (ap suc same))

pub set_twice : (xs : Streams) (n : ℕ) (o p : Option Stream) → slice_set (slice_set xs n o) n p ≡ slice_set xs n p
set_twice [] n o p = refl
set_twice (x ∷ xs) zero o p = refl
set_twice (x ∷ xs) (suc n) o p = ap (λ ys. x ∷ ys) (set_twice xs n o p)

-- one stream was replaced, or removed
pub set_at : (old new : SetValue) (n : ℕ) (s : Stream) (o : Option Stream) → new.dfa ≡ old.dfa → new.lines ≡ old.lines → stream_at old.streams n ≡ Some s →
    new.streams ≡ slice_set old.streams n o → IsSetAt old new n o
set_at old new n s o dfa lines is set = record {
  dfa = dfa;
  lines = lines;
  there = ap (λ xs. stream_at xs n) set ∙ set_there old.streams n s o is;
  others = λ m apart. ap (λ xs. stream_at xs m) set ∙ set_other old.streams n m o apart;
}

-- one was taken out, and another one put there
pub put_back : (old new : SetValue) (n : ℕ) (s t : Stream) (mid : Streams) → new.dfa ≡ old.dfa → new.lines ≡ old.lines → stream_at old.streams n ≡ Some s →
    mid ≡ slice_set old.streams n None → new.streams ≡ slice_set mid n (Some t) → IsSetAt old new n (Some t)
put_back old new n s t mid dfa lines is out in_again =
    set_at old new n s (Some t) dfa lines is (in_again ∙ ap (λ xs. slice_set xs n (Some t)) out ∙ set_twice old.streams n None (Some t))

pub changed_back : (old new : SetValue) (n : ℕ) (s t : Stream) (mid : Streams) → new.dfa ≡ old.dfa → new.lines ≡ old.lines → stream_at old.streams n ≡ Some s →
    mid ≡ slice_set old.streams n None → new.streams ≡ slice_set mid n (Some t) → (stream_at old.streams n ≢ None) × IsSetAt old new n (Some t)
changed_back old new n s t mid dfa lines is out in_again =
    (λ none. none-some s (sym none ∙ is), put_back old new n s t mid dfa lines is out in_again)

pub taken_out : (old new : SetValue) (n : ℕ) (s : Stream) → new.dfa ≡ old.dfa → new.lines ≡ old.lines → stream_at old.streams n ≡ Some s →
    new.streams ≡ slice_set old.streams n None → (stream_at old.streams n ≢ None) × IsSetAt old new n None
taken_out old new n s dfa lines is out = (λ none. none-some s (sym none ∙ is), set_at old new n s None dfa lines is out)

-- all are still streams of the automaton
pub kept_streams : (d : Dfa) (xs ys zs : Streams) (n : ℕ) (t : Stream) → AreStreamsOf d xs → IsStreamOf d t → ys ≡ slice_set xs n None →
    zs ≡ slice_set ys n (Some t) → AreStreamsOf d zs
kept_streams d xs ys zs n t all own out in_again =
    subst (λ (l : Streams). AreStreamsOf d l) (sym in_again) (All-set (λ (o : Option Stream). IfSome o (IsStreamOf d)) ys n (Some t) own
    (subst (λ (l : Streams). AreStreamsOf d l) (sym out) (All-set (λ (o : Option Stream). IfSome o (IsStreamOf d)) xs n None tt all)))

pub closed_at : (old new : SetValue) (n : ℕ) (s t : Stream) (mid : Streams) (rows after : List StreamMatch) (count : ℕ)
    (r : Result ⊤ StreamError) → new.dfa ≡ old.dfa → new.lines ≡ old.lines → stream_at old.streams n ≡ Some s → mid ≡ slice_set old.streams n None →
    new.streams ≡ slice_set mid n (Some t) → IsClosedIn old.lines old.dfa s t rows after count r → IsClosedAt old new n rows after count r
closed_at old new n s t mid rows after count r dfa lines is out in_again closed = record {
  before = s;
  is = is;
  now = t;
  set = put_back old new n s t mid dfa lines is out in_again;
  closed = closed;
}

pub fed_at : (old new : SetValue) (n : ℕ) (s t : Stream) (mid : Streams) (bytes : List ℕ) (rows after : List StreamMatch) (f : Fed)
    (r : Result ⊤ StreamError) → new.dfa ≡ old.dfa → new.lines ≡ old.lines → stream_at old.streams n ≡ Some s → mid ≡ slice_set old.streams n None →
    new.streams ≡ slice_set mid n (Some t) → IsFedIn old.lines old.dfa s t bytes rows after f r → IsFedAt old new n bytes rows after f r
fed_at old new n s t mid bytes rows after f r dfa lines is out in_again fed = record {
  before = s;
  is = is;
  now = t;
  set = put_back old new n s t mid dfa lines is out in_again;
  fed = fed;
}
