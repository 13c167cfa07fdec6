-- The bytes of a piece, one after the other, and where the reading of them ends.
use Rattle.std.proofs.Common.{◌≡◌, ◌∙◌, ◌+◌, ◌-◌, ◌<◌, ◌++◌, [], ◌∷◌, ℕ, false, List, Some, None, length, take}
use Rattle.std.proofs.Common.{drop, refl, sym, ap, subst, arith, append-nil, slice_get, slice_index, inl, inr}
use Rattle.std.proofs.lemmas.List.{length-drop, take-append-drop, take_all, take_more}
use Rattle.std.proofs.lemmas.Option.{none-some, slice_get-get_or}
use Rattle.determinize_core.specs.States.{StateValue}
use Rattle.lazy_dfa.specs.Caches.{CacheValue, HeldAt, IsCacheOf, Leads}
use Rattle.lazy_dfa.specs.Dfas.{Dfa, IsStateOf, after, is_dead}
use Rattle.lazy_dfa.specs.Ids.{tag}
use Rattle.streams.specs.Reading.{Appends, IsAt, IsPieceRead, IsReadError, IsStepError, IsReadingStop, read_stopped, within}
use Rattle.streams.specs.Streams.{stream_after, ends_before, stream_ends, fed}
use Rattle.streams.specs.declared.errors.StreamError.{StreamError}
use Rattle.streams.specs.declared.errors.StreamError.TheVariants.{Closed, GaveUp, NoMemory, NoRoom, Quit, TooLong}
use Rattle.streams.specs.declared.reading.Stop.{Stop}
use Rattle.streams.specs.declared.reading.Stop.TheVariants.{Died, Full, Quits, Refused}
use Rattle.streams.specs.declared.stream.Point.TheVariants.{Dead}
use Rattle.streams.specs.declared.stream.Stream.{Stream}
use Rattle.streams.specs.declared.stream.StreamMatch.{StreamMatch}
use Rattle.streams.proofs.ReadLemmas.{appends_none, ends_more, ends_silent, fed_more, none_appended}
use Rattle.streams.proofs.StepLemmas.{goes, goes_on, same_state}
use Rattle.streams.proofs.StreamLemmas.{dead_fed, dead_silent, ends_joined, ends_none, fed_joined, fed_none}
use Rattle.streams.proofs.TagLemmas.{held_alive, no_quit_led, untagged_lists_none, untagged_not_dead, untagged_not_quit}

pub at_first : (d : Dfa) (v : CacheValue) (s : StateValue) (i id : ℕ) → HeldAt v id s → IsAt d v s i [] id (i + 0)
at_first d v s i id h = record {
  state = s;
  held = h;
  is = fed_none d (within s i) ∙ ap (λ (k : ℕ). within s k) (omega arith);
}

pub none_first : (d : Dfa) (s : Stream) (rows : List StreamMatch) → Appends rows rows 0 0 (stream_ends d s [])
none_first d s rows = subst (λ (l : List StreamMatch). Appends rows rows 0 0 l) (sym (ends_none d s)) (none_appended rows)

module _ (d : Dfa) (v : CacheValue) (s : StateValue) (i id at b : ℕ) (bytes more : List ℕ) (more_is : more ≡ bytes ++ b ∷ [])
    (a : IsAt d v s i bytes id at) where
  pub at_more : (w : CacheValue) (to : ℕ) → HeldAt w to (after d a.state (Some b)) →
      stream_after d a.state at b ≡ within (after d a.state (Some b)) (at + 1) → IsAt d w s i more to (at + 1)
  at_more w to held goes = record {
    state = after d a.state (Some b);
    held = held;
    is = fed_more d s i bytes more b at a.state more_is a.is ∙ goes;
  }

  pub ends_are : stream_ends d (within s i) more ≡ stream_ends d (within s i) bytes ++ ends_before d a.state at b
  ends_are = ends_more d s i bytes more b at a.state more_is a.is

  -- a known step to an ID without a tag
  module _ (to : ℕ) (own : IsCacheOf d v) (low : to < tag) (led : Leads d v a.state (Some b) to) where
    held : HeldAt v to (after d a.state (Some b))
    held = goes_on d v v id to at b a.state own own a.held led (untagged_not_quit to low) (untagged_not_dead to low)

    pub quick_at : IsAt d v s i more to (at + 1)
    quick_at = at_more v to held
        (goes d v v id to at b a.state own own a.held led (untagged_not_quit to low) (untagged_not_dead to low))

    silent : ends_before d a.state at b ≡ []
    silent =
        ends_silent d a.state at b (held_alive d v id a.state own a.held)
        (no_quit_led d v a.state (Some b) to own.shape (untagged_not_quit to low) led)
        (untagged_lists_none v to (after d a.state (Some b)) own.shape low held)

    pub quick_ends : (old new : List StreamMatch) (n : ℕ) → Appends old new 0 n (stream_ends d (within s i) bytes) →
        Appends old new 0 n (stream_ends d (within s i) more)
    quick_ends old new n e =
        appends_none old new n (stream_ends d (within s i) bytes) (ends_before d a.state at b) (stream_ends d (within s i) more) ends_are silent e

-- ---- the bytes that were taken

pub one_more : (bytes : List ℕ) (k : ℕ) → k < length bytes → take (k + 1) bytes ≡ take k bytes ++ slice_index bytes k ∷ []
one_more bytes k l = take_more bytes k 0 l

-- ---- where the reading ends

module _ (d : Dfa) (v : CacheValue) (s : StateValue) (offset id k n : ℕ) (bytes : List ℕ) (old mid new : List StreamMatch)
    (inside : k < length bytes) (a : IsAt d v s offset (take k bytes) id (offset + k)) (len : length mid ≡ length old)
    (rows : Appends old mid 0 n (stream_ends d (within s offset) (take k bytes))) (same : new ≡ mid) where
  abbrev start : Stream
  start = within s offset

  abbrev b : ℕ
  b = slice_index bytes k

  abbrev next : List ℕ
  next = take (k + 1) bytes

  fed_next : fed d start next ≡ stream_after d a.state (offset + k) b
  fed_next = fed_more d s offset (take k bytes) next b (offset + k) a.state (one_more bytes k inside) a.is

  ends_next : stream_ends d start next ≡ stream_ends d start (take k bytes) ++ ends_before d a.state (offset + k) b
  ends_next = ends_more d s offset (take k bytes) next b (offset + k) a.state (one_more bytes k inside) a.is

  kept : Appends old new 0 n (stream_ends d start (take k bytes))
  kept = subst (λ (l : List StreamMatch). Appends old l 0 n (stream_ends d start (take k bytes))) (sym same) rows

  kept_next : ends_before d a.state (offset + k) b ≡ [] → Appends old new 0 n (stream_ends d start next)
  kept_next none = appends_none old new n (stream_ends d start (take k bytes)) (ends_before d a.state (offset + k) b) (stream_ends d start next)
      ends_next none kept

  -- the dead state reads all that is left
  whole : bytes ≡ next ++ drop (k + 1) bytes
  whole = sym (take-append-drop (k + 1) bytes)

  rest_len : length (drop (k + 1) bytes) ≡ length bytes - (k + 1)
  rest_len = length-drop (k + 1) bytes

  dead_all : stream_after d a.state (offset + k) b ≡ record { point = Dead; offset = (offset + k) + 1 } →
      fed d start (take (length bytes) bytes) ≡ record { point = Dead; offset = offset + length bytes }
  dead_all e =
      ap (λ (l : List ℕ). fed d start l) (take_all (length bytes) bytes (omega arith) ∙ whole)
      ∙ (sym (fed_joined d start next (drop (k + 1) bytes))
      ∙ (ap (λ (x : Stream). fed d x (drop (k + 1) bytes)) (fed_next ∙ e)
      ∙ (dead_fed d ((offset + k) + 1) (drop (k + 1) bytes)
      ∙ ap (λ (m : ℕ). record { point = Dead; offset = m }) (omega (arith, rest_len, inside)))))

  dead_ends : stream_after d a.state (offset + k) b ≡ record { point = Dead; offset = (offset + k) + 1 } →
      stream_ends d start (take (length bytes) bytes) ≡ stream_ends d start next
  dead_ends e =
      ap (λ (l : List ℕ). stream_ends d start l) (take_all (length bytes) bytes (omega arith) ∙ whole)
      ∙ (sym (ends_joined d start next (drop (k + 1) bytes))
      ∙ (ap (λ (x : Stream). stream_ends d start next ++ stream_ends d x (drop (k + 1) bytes)) (fed_next ∙ e)
      ∙ (ap (λ (l : List StreamMatch). stream_ends d start next ++ l) (dead_silent d ((offset + k) + 1) (drop (k + 1) bytes))
      ∙ append-nil (stream_ends d start next))))

  got : slice_get bytes k ≡ Some b
  got = slice_get-get_or bytes k 0 inside

  error_of : (t : Stream) (e : StreamError) → IsStepError d e → IsReadError d t e
  error_of t (Quit c j) x = absurd x
  error_of t Closed x = absurd x
  error_of t GaveUp x = x
  error_of t NoMemory x = x
  error_of t TooLong x = absurd x
  error_of t NoRoom x = absurd x

  pub stop_read : (own : IsCacheOf d v) (stop : Stop) → IsReadingStop d a.state (offset + k) b mid n stop →
      IsPieceRead d start bytes old new (read_stopped offset bytes k n stop)
  stop_read own Died x = record {
    taken = omega arith;
    stream = sym (dead_all x.0);
    own = tt;
    ends = subst (λ (l : List StreamMatch). Appends old new 0 n l) (sym (dead_ends x.0)) (kept_next x.1);
    all = λ e. inl refl;
    quiet = λ e. refl;
    err = tt;
  }
  stop_read own Quits x = record {
    taken = omega (arith, inside);
    stream = sym (fed_next ∙ x.0);
    own = tt;
    ends = kept_next x.1;
    all = λ e. absurd (none-some (Quit b (offset + k)) (sym e));
    quiet = λ e. absurd (none-some (Quit b (offset + k)) (sym e));
    err = refl;
  }
  stop_read own (Full t) x = record {
    taken = omega (arith, inside);
    stream = ap (λ (y : StateValue). within y (offset + k)) x.0 ∙ sym a.is;
    own = (x.1, subst (λ (y : StateValue). is_dead y ≡ false) (sym x.0) (held_alive d v id a.state own a.held));
    ends = kept;
    all = λ e. inr (record {
      byte = b;
      is = got;
      lacks =
          subst (λ (y : StateValue). length old < n + length (ends_before d y (offset + k) b)) (sym x.0)
          (subst (λ (m : ℕ). m < n + length (ends_before d a.state (offset + k) b)) len x.2);
    });
    quiet = λ e. refl;
    err = tt;
  }
  stop_read own (Refused t error) x = record {
    taken = omega (arith, inside);
    stream = ap (λ (y : StateValue). within y (offset + k)) x.0 ∙ sym a.is;
    own = (x.1, subst (λ (y : StateValue). is_dead y ≡ false) (sym x.0) (held_alive d v id a.state own a.held));
    ends = kept;
    all = λ e. absurd (none-some error (sym e));
    quiet = λ e. absurd (none-some error (sym e));
    err = error_of (within t (offset + k)) error x.2;
  }

-- all bytes were read
pub all_read : (d : Dfa) (v : CacheValue) (s t : StateValue) (offset id k n : ℕ) (bytes : List ℕ) (old new : List StreamMatch) →
    k ≡ length bytes → IsCacheOf d v → (a : IsAt d v s offset (take k bytes) id (offset + k)) → HeldAt v id t → IsStateOf d t →
    Appends old new 0 n (stream_ends d (within s offset) (take k bytes)) →
    IsPieceRead d (within s offset) bytes old new
    (record { stream = within t (offset + length bytes); taken = length bytes; count = n; error = None })
all_read d v s t offset id k n bytes old new is own a h real rows =
    let same = same_state v id t a.state own.shape h a.held in
    record {
      taken = omega arith;
      stream = ap (λ (y : StateValue). within y (offset + length bytes)) same
          ∙ (ap (λ (m : ℕ). within a.state (offset + m)) (sym is) ∙ (sym a.is ∙ ap (λ (m : ℕ). fed d (within s offset) (take m bytes)) is));
      own = (real, held_alive d v id t own h);
      ends = subst (λ (m : ℕ). Appends old new 0 n (stream_ends d (within s offset) (take m bytes))) is rows;
      all = λ e. inl refl;
      quiet = λ e. refl;
      err = tt;
    }
