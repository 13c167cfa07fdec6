-- What the calls of a stream make of what was read.
use Rattle.std.proofs.Common.{◌≡◌, ◌≢◌, ◌⊎◌, ◌∙◌, ◌+◌, ◌<◌, ◌++◌, ◌==◌, ◌∷◌, ℕ, zero, suc, Bool, true, false, List, Option, Some, None, []}
use Rattle.std.proofs.Common.{length, length-take-le, take, refl, sym, ap, subst, arith, inl, inr, true≢false, if◌then◌else◌}
use Rattle.std.specs.Prelude.{Err, IfErr, IfOk, IfSome, Ok, Result, ⊤}
use Rattle.std.proofs.lemmas.Bool.{eqb-true}
use Rattle.std.proofs.lemmas.List.{take_all}
use Rattle.determinize_core.specs.States.{StateValue}
use Rattle.lazy_dfa.specs.Caches.{CacheValue, HeldAt, IsCacheOf}
use Rattle.lazy_dfa.specs.Dfas.{Dfa, after, is_dead}
use Rattle.streams.specs.Errors.{IsStreamError}
use Rattle.streams.specs.Feeding.{IsStreamClosed, IsEntered, IsFed, IsLast, IsOpenPoint, begun_stream, begun_point, outcome_of, settled}
use Rattle.streams.specs.Reading.{Appends, IsFull, IsPieceRead, IsReadError, IsStepError, is_failed, within}
use Rattle.streams.specs.Streams.{IsPointOf, stream_after, stream_ends_at, ends_before, stream_ends, fed, first_state_of, last_at, last_patterns}
use Rattle.streams.specs.Streams.{next_at, point_in}
use Rattle.streams.specs.declared.errors.StreamError.{StreamError}
use Rattle.streams.specs.declared.errors.StreamError.TheVariants.{Closed as ClosedError, GaveUp, NoMemory, NoRoom, Quit, TooLong}
use Rattle.streams.specs.declared.feeding.Fed.{Fed}
use Rattle.streams.specs.declared.reading.Read.{Read}
use Rattle.streams.specs.declared.stream.Point.{Point}
use Rattle.streams.specs.declared.stream.Point.TheVariants.{Closed, Dead, Failed, Fresh, Within}
use Rattle.streams.specs.declared.stream.Stream.{Stream}
use Rattle.streams.specs.declared.stream.StreamMatch.{StreamMatch}
use Rattle.streams.proofs.StreamLemmas.{dead_fed, dead_silent, ends_none, fed_none}
use Rattle.streams.proofs.TagLemmas.{held_alive}

-- ---- a stream that knows the state in which it begins

pub point_alive : (s : StateValue) → is_dead s ≡ false → point_in s ≡ Within s
point_alive s e = rw e refl

pub point_dead : (s : StateValue) → is_dead s ≡ true → point_in s ≡ Dead
point_dead s e = rw e refl

pub alive_begun : (d : Dfa) (v : CacheValue) (id i : ℕ) (p : Point) → IsCacheOf d v → IsEntered d v p (Some id) →
    (s : StateValue) × HeldAt v id s × (begun_stream d p i ≡ within s i)
alive_begun d v id i Fresh own h =
    (first_state_of d, h, ap (λ (q : Point). record { point = q; offset = i }) (point_alive (first_state_of d) (held_alive d v id (first_state_of d) own h)))
alive_begun d v id i (Within s) own h = (s, h, refl)
alive_begun d v id i Dead own h = absurd h
alive_begun d v id i (Failed b) own h = absurd h
alive_begun d v id i Closed own h = absurd h

dead_begun : (d : Dfa) (v : CacheValue) (p : Point) → IsOpenPoint p → IsPointOf d p → IsEntered d v p None → begun_point d p ≡ Dead
dead_begun d v Fresh o x e = point_dead (first_state_of d) e
dead_begun d v (Within s) o x e = absurd (true≢false (sym e ∙ x.1))
dead_begun d v Dead o x e = refl
dead_begun d v (Failed b) o x e = absurd o
dead_begun d v Closed o x e = absurd o

none_rows : (rows : List StreamMatch) (ends : List StreamMatch) → ends ≡ [] → Appends rows rows 0 0 ends
none_rows rows ends e = record {
  count_is = let sizes : length ends ≡ 0 = ap length e in omega (arith, sizes);
  fits = omega arith;
  rows = sym e;
}

dead_read : (d : Dfa) (i : ℕ) (bytes : List ℕ) (rows : List StreamMatch) →
    IsPieceRead d (record { point = Dead; offset = i }) bytes rows rows
    (record { stream = record { point = Dead; offset = i + length bytes }; taken = length bytes; count = 0; error = None })
dead_read d i bytes rows = record {
  taken = omega arith;
  stream = sym (dead_fed d i (take (length bytes) bytes)
      ∙ ap (λ (l : List ℕ). record { point = Dead; offset = i + length l }) (take_all (length bytes) bytes (omega arith)));
  own = tt;
  ends = none_rows rows (stream_ends d (record { point = Dead; offset = i }) (take (length bytes) bytes))
      (dead_silent d i (take (length bytes) bytes));
  all = λ e. inl refl;
  quiet = λ e. refl;
  err = tt;
}

pub dead_open : (d : Dfa) (v : CacheValue) (p : Point) (i : ℕ) (bytes : List ℕ) (rows : List StreamMatch) → IsOpenPoint p → IsPointOf d p →
    IsEntered d v p None → IsPieceRead d (begun_stream d p i) bytes rows rows
    (record { stream = record { point = Dead; offset = i + length bytes }; taken = length bytes; count = 0; error = None })
dead_open d v p i bytes rows o x e =
    subst (λ (q : Point). IsPieceRead d (record { point = q; offset = i }) bytes rows rows
    (record { stream = record { point = Dead; offset = i + length bytes }; taken = length bytes; count = 0; error = None }))
    (sym (dead_begun d v p o x e)) (dead_read d i bytes rows)

-- a byte more or less makes no difference to what it knows
next_dead : (d : Dfa) (s : StateValue) (i b : ℕ) → is_dead s ≡ true → stream_after d s i b ≡ record { point = Dead; offset = i + 1 }
next_dead d s i b e = rw e refl

ends_dead : (d : Dfa) (s : StateValue) (i b : ℕ) → is_dead s ≡ true → ends_before d s i b ≡ []
ends_dead d s i b e = rw e refl

next_in : (d : Dfa) (s : StateValue) (i b : ℕ) (t : Bool) → is_dead s ≡ t → next_at d (point_in s) i b ≡ stream_after d s i b
next_in d s i b true e = ap (λ (q : Point). next_at d q i b) (point_dead s e) ∙ sym (next_dead d s i b e)
next_in d s i b false e = ap (λ (q : Point). next_at d q i b) (point_alive s e)

ends_in : (d : Dfa) (s : StateValue) (i b : ℕ) (t : Bool) → is_dead s ≡ t → stream_ends_at d (point_in s) i b ≡ ends_before d s i b
ends_in d s i b true e = ap (λ (q : Point). stream_ends_at d q i b) (point_dead s e) ∙ sym (ends_dead d s i b e)
ends_in d s i b false e = ap (λ (q : Point). stream_ends_at d q i b) (point_alive s e)

next_begun : (d : Dfa) (p : Point) (i b : ℕ) → next_at d (begun_point d p) i b ≡ next_at d p i b
next_begun d Fresh i b = next_in d (first_state_of d) i b (is_dead (first_state_of d)) refl
next_begun d (Within s) i b = refl
next_begun d Dead i b = refl
next_begun d (Failed q) i b = refl
next_begun d Closed i b = refl

ends_at_begun : (d : Dfa) (p : Point) (i b : ℕ) → stream_ends_at d (begun_point d p) i b ≡ stream_ends_at d p i b
ends_at_begun d Fresh i b = ends_in d (first_state_of d) i b (is_dead (first_state_of d)) refl
ends_at_begun d (Within s) i b = refl
ends_at_begun d Dead i b = refl
ends_at_begun d (Failed q) i b = refl
ends_at_begun d Closed i b = refl

fed_begun : (d : Dfa) (s : Stream) (bs : List ℕ) → 0 < length bs → fed d (begun_stream d s.point s.offset) bs ≡ fed d s bs
unfolding fed
fed_begun d s [] l = absurd (omega (arith, l))
fed_begun d s (b ∷ bs) l = ap (λ (x : Stream). fed d x bs) (next_begun d s.point s.offset b)

ends_begun : (d : Dfa) (s : Stream) (bs : List ℕ) → stream_ends d (begun_stream d s.point s.offset) bs ≡ stream_ends d s bs
unfolding stream_ends
ends_begun d s [] = refl
ends_begun d s (b ∷ bs) =
    ap (λ (l : List StreamMatch). l ++ stream_ends d (next_at d (begun_point d s.point) s.offset b) bs) (ends_at_begun d s.point s.offset b)
    ∙ ap (λ (x : Stream). stream_ends_at d s.point s.offset b ++ stream_ends d x bs) (next_begun d s.point s.offset b)

-- ---- what a call returns

outcome_ok : (o : Option StreamError) (A : Type 0) → (o ≡ None → A) → IfOk (outcome_of o) (λ _. A)
outcome_ok None A f = f refl
outcome_ok (Some e) A f = tt

outcome_err : (o : Option StreamError) (P Q : StreamError → Type 0) → ((e : StreamError) → P e → Q e) → IfSome o P → IfErr (outcome_of o) Q
outcome_err None P Q f x = tt
outcome_err (Some e) P Q f x = f e x

pub open_quiet : (p : Point) → IsOpenPoint p → is_failed p ≡ false
open_quiet Fresh o = refl
open_quiet (Within s) o = refl
open_quiet Dead o = refl
open_quiet (Failed b) o = absurd o
open_quiet Closed o = refl

not_failed : (p : Point) (b : ℕ) → is_failed p ≡ false → p ≡ Failed b → ⊥
not_failed p b e f = true≢false (sym (ap is_failed f) ∙ e)

begun_quiet : (d : Dfa) (p : Point) → IsOpenPoint p → is_failed (begun_point d p) ≡ false
begun_quiet d Fresh o = quiet_in (first_state_of d) (is_dead (first_state_of d)) refl
  where
    quiet_in : (s : StateValue) (t : Bool) → is_dead s ≡ t → is_failed (point_in s) ≡ false
    quiet_in s true e = ap is_failed (point_dead s e)
    quiet_in s false e = ap is_failed (point_alive s e)
begun_quiet d (Within s) o = refl
begun_quiet d Dead o = refl
begun_quiet d (Failed b) o = absurd o
begun_quiet d Closed o = refl

pub step_error : (d : Dfa) (s t : Stream) (n : ℕ) (e : StreamError) → IsStepError d e → IsStreamError d s t n e
step_error d s t n (Quit b i) x = absurd x
step_error d s t n ClosedError x = absurd x
step_error d s t n GaveUp x = x
step_error d s t n NoMemory x = tt
step_error d s t n NoRoom x = absurd x
step_error d s t n TooLong x = absurd x

not_zero : (b : Bool) (n : ℕ) → (n == 0) ≡ b → 0 < n → b ≡ false
not_zero false n e l = refl
not_zero true n e l = let none : n ≡ 0 = eqb-true n 0 e in absurd (omega (arith, none, l))

module _ (d : Dfa) (s : Stream) (bytes : List ℕ) (rows after : List StreamMatch) (r : Read) (o : IsOpenPoint s.point)
    (x : IsPieceRead d (begun_stream d s.point s.offset) bytes rows after r) where
  ends_read : Appends rows after 0 r.count (stream_ends d s (take r.taken bytes))
  ends_read = subst (λ (l : List StreamMatch). Appends rows after 0 r.count l) (ends_begun d s (take r.taken bytes)) x.ends

  read_error : (t : Stream) → ((b i : ℕ) → r.stream ≡ record { point = Failed b; offset = i } → t ≡ record { point = Failed b; offset = i }) →
      (e : StreamError) → IsReadError d r.stream e → IsStreamError d s t (length bytes) e
  read_error t same (Quit b i) y = same b i y
  read_error t same ClosedError y = absurd y
  read_error t same GaveUp y = y
  read_error t same NoMemory y = tt
  read_error t same NoRoom y = absurd y
  read_error t same TooLong y = absurd y

  -- nothing was read
  module _ (none : r.taken ≡ 0) where
    stream_is : r.stream ≡ begun_stream d s.point s.offset
    stream_is = x.stream ∙ (ap (λ (m : ℕ). fed d (begun_stream d s.point s.offset) (take m bytes)) none ∙ fed_none d (begun_stream d s.point s.offset))

    still_full : IsFull d r.stream bytes r.taken r.count (length rows) → IsFull d s bytes r.taken r.count (length rows)
    still_full f = record {
      byte = f.byte;
      is = f.is;
      lacks = subst (λ (l : List StreamMatch). length rows < r.count + length l)
          (ap (λ (t : Stream). stream_ends_at d t.point t.offset f.byte) stream_is ∙ ends_at_begun d s.point s.offset f.byte) f.lacks;
    }

    all_still : r.error ≡ None → (r.taken ≡ length bytes) ⊎ IsFull d s bytes r.taken r.count (length rows)
    all_still e = by (x.all e)
      where
        by : (r.taken ≡ length bytes) ⊎ IsFull d r.stream bytes r.taken r.count (length rows) →
            (r.taken ≡ length bytes) ⊎ IsFull d s bytes r.taken r.count (length rows)
        by (inl e) = inl e
        by (inr f) = inr (still_full f)

    pub fed_none_read : IsFed d s s bytes rows after (record { taken = r.taken; count = r.count }) (outcome_of r.error)
    fed_none_read = record {
      taken = x.taken;
      stream = sym (ap (λ (m : ℕ). fed d s (take m bytes)) none ∙ fed_none d s);
      ends = ends_read;
      all = outcome_ok r.error ((r.taken ≡ length bytes) ⊎ IsFull d s bytes r.taken r.count (length rows)) all_still;
      quiet = outcome_ok r.error (is_failed s.point ≡ false) (λ e. open_quiet s.point o);
      err = outcome_err r.error (IsReadError d r.stream) (IsStreamError d s s (length bytes))
          (read_error s (λ b i e. absurd (not_failed (begun_point d s.point) b (begun_quiet d s.point o)
          (ap (λ (t : Stream). t.point) (sym stream_is ∙ e))))) x.err;
    }

  -- something was read
  module _ (some : 0 < r.taken) where
    more : 0 < length (take r.taken bytes)
    more = let len : length (take r.taken bytes) ≡ r.taken = length-take-le r.taken bytes x.taken in omega (arith, len, some)

    pub fed_some_read : IsFed d s r.stream bytes rows after (record { taken = r.taken; count = r.count }) (outcome_of r.error)
    fed_some_read = record {
      taken = x.taken;
      stream = x.stream ∙ fed_begun d s (take r.taken bytes) more;
      ends = ends_read;
      all = outcome_ok r.error ((r.taken ≡ length bytes) ⊎ IsFull d r.stream bytes r.taken r.count (length rows)) x.all;
      quiet = outcome_ok r.error (is_failed r.stream.point ≡ false) x.quiet;
      err = outcome_err r.error (IsReadError d r.stream) (IsStreamError d s r.stream (length bytes)) (read_error r.stream (λ b i e. e)) x.err;
    }

  by_taken : (t : ℕ) → r.taken ≡ t → IsFed d s (settled s r) bytes rows after (record { taken = r.taken; count = r.count }) (outcome_of r.error)
  by_taken zero e =
      let is : (r.taken == 0) ≡ true = ap (λ (m : ℕ). m == 0) e in
      subst (λ (b : Bool). IsFed d s (if b then s else r.stream) bytes rows after (record { taken = r.taken; count = r.count })
      (outcome_of r.error)) (sym is) (fed_none_read e)
  by_taken (suc t) e =
      let is = not_zero (r.taken == 0) r.taken refl (omega (arith, e)) in
      subst (λ (b : Bool). IsFed d s (if b then s else r.stream) bytes rows after (record { taken = r.taken; count = r.count })
      (outcome_of r.error)) (sym is) (fed_some_read (omega (arith, e)))

  pub fed_settled : IsFed d s (settled s r) bytes rows after (record { taken = r.taken; count = r.count }) (outcome_of r.error)
  fed_settled = by_taken r.taken refl

  pub fed_by_settling : (new : Stream) (f : Fed) (u : Result ⊤ StreamError) → new ≡ settled s r →
      f ≡ record { taken = r.taken; count = r.count } → u ≡ outcome_of r.error → IsFed d s new bytes rows after f u
  fed_by_settling new f u a b c =
      subst (λ (t : Stream). IsFed d s t bytes rows after f u) (sym a)
      (subst (λ (g : Fed). IsFed d s (settled s r) bytes rows after g u) (sym b)
      (subst (λ (v : Result ⊤ StreamError). IsFed d s (settled s r) bytes rows after (record { taken = r.taken; count = r.count }) v) (sym c)
      fed_settled))

none_written : (d : Dfa) (s : Stream) (rows after : List StreamMatch) → Appends rows after 0 0 (stream_ends d s [])
none_written d s rows after = record {
  count_is = let sizes : length (stream_ends d s []) ≡ 0 = ap length (ends_none d s) in omega (arith, sizes);
  fits = omega arith;
  rows = sym (ends_none d s);
}

pub fed_nothing : (d : Dfa) (s : Stream) (bytes : List ℕ) (rows after : List StreamMatch) (e : StreamError) →
    IsStreamError d s s (length bytes) e → IsFed d s s bytes rows after (record { taken = 0; count = 0 }) (Err e)
fed_nothing d s bytes rows after e x = record {
  taken = omega arith;
  stream = sym (fed_none d s);
  ends = none_written d s rows after;
  all = tt;
  quiet = tt;
  err = x;
}

pub fed_empty : (d : Dfa) (s : Stream) (bytes : List ℕ) (rows : List StreamMatch) → length bytes ≡ 0 → IsOpenPoint s.point →
    IsFed d s s bytes rows rows (record { taken = 0; count = 0 }) (Ok tt)
fed_empty d s bytes rows len o = record {
  taken = omega arith;
  stream = sym (fed_none d s);
  ends = none_written d s rows rows;
  all = inl (sym len);
  quiet = open_quiet s.point o;
  err = tt;
}

-- ---- the end of the input

last_is : (d : Dfa) (s : StateValue) → is_dead s ≡ false → last_patterns d s ≡ (after d s None).matches
last_is d s e = rw e refl

pub last_of : (d : Dfa) (v : CacheValue) (id : ℕ) (p : Point) → IsLast d v p (Some id) →
    (s : StateValue) × HeldAt v id s × (last_at d p ≡ s.matches)
last_of d v id Fresh x = (after d (first_state_of d) None, x.1, last_is d (first_state_of d) x.0)
last_of d v id (Within s) x = (after d s None, x.1, last_is d s x.0)
last_of d v id Dead x = absurd x
last_of d v id (Failed b) x = absurd x
last_of d v id Closed x = absurd x

pub not_no_room : (d : Dfa) (s t : Stream) (n : ℕ) (e : StreamError) → IsStreamError d s t n e → e ≢ NoRoom
not_no_room d s t n e x is = subst (λ (y : StreamError). IsStreamError d s t n y) is x

error_in : Result ⊤ StreamError → StreamError
error_in (Ok u) = NoMemory
error_in (Err e) = e

err_same : (e f : StreamError) → ◌≡◌ {A = Result ⊤ StreamError} (Err e) (Err f) → e ≡ f
unfolding error_in
err_same e f is = ap error_in is

pub closed_not : (d : Dfa) (s : Stream) (rows after : List StreamMatch) (e : StreamError) → IsStreamError d s s 0 e →
    IsStreamClosed d s s rows after 0 (Err e)
closed_not d s rows after e x = record {
  stream = tt;
  ends = tt;
  not_closed = tt;
  none = λ n. refl;
  lacks = λ is. absurd (not_no_room d s s 0 e x (err_same e NoRoom is));
  same = refl;
  err = inr x;
}
