-- What calls make of input that is read line by line.
use Rattle.std.proofs.Common.{◌≡◌, ◌⊎◌, ◌∙◌, ◌+◌, ◌-◌, ◌<◌, ◌≤◌, ◌++◌, ◌==◌, ◌∷◌, ℕ, zero, suc, true, List, Some, []}
use Rattle.std.proofs.Common.{length, take, drop, refl, sym, ap, ap₂, subst, arith, inl, inr, append-nil, slice_get, take-add, length-append, length-take-le, length-drop, drop-drop, eq-eqb}
use Rattle.std.specs.Prelude.{Err, Ok, Result, ⊤}
use borrow.Rule.Slice.PartMut.{put_mid}
use Rattle.std.proofs.lemmas.List.{drop_all, take-take, take_rest}
use Rattle.std.proofs.lemmas.Option.{same_Some}
use Rattle.std.proofs.Math.Seq.{take-append-add}
use Rattle.lazy_dfa.specs.Dfas.{Dfa}
use Rattle.streams.specs.Errors.{IsStreamError}
use Rattle.streams.specs.Feeding.{IsFed, IsOpenPoint}
use Rattle.streams.specs.LineCalls.{AreLinesFed, HasNoEnd, IsFullOfLines, IsLineEnded, IsLineFed}
use Rattle.streams.specs.Lines.{fed_lines, ends_in_lines, ends_in_lines_at, next_line_at}
use Rattle.streams.specs.Reading.{Appends, IsFull, IsReadError, is_failed}
use Rattle.streams.specs.Streams.{fed, last_ends, stream_ends, stream_ends_at}
use Rattle.streams.specs.declared.errors.StreamError.{StreamError}
use Rattle.streams.specs.declared.errors.StreamError.TheVariants.{Closed as ClosedError, GaveUp, NoMemory, NoRoom, Quit, TooLong}
use Rattle.streams.specs.declared.feeding.Fed.{Fed}
use Rattle.streams.specs.declared.stream.Stream.{Stream}
use Rattle.streams.specs.declared.stream.StreamMatch.{StreamMatch}
use Rattle.streams.proofs.CallLemmas.{open_quiet}
use Rattle.streams.proofs.LineLemmas.{ends_ended, ends_free, ends_free_at, fed_free, fed_lines_joined, fed_lines_none, first_bytes_free, free_head, get_dropped, get_taken}
use Rattle.streams.proofs.LineLemmas.{line_ends_joined, line_ends_none, next_ended, open_fed, open_line}
use Rattle.streams.proofs.StreamLemmas.{ends_none, fed_none}

-- ---- rows

none_written : (rows after ends : List StreamMatch) → ends ≡ [] → Appends rows after 0 0 ends
none_written rows after ends e = record {
  count_is = let sizes : length ends ≡ 0 = ap length e in omega (arith, sizes);
  fits = omega arith;
  rows = sym e;
}

-- how many ends there are, where a call wrote them to the first rows
count_of : (rows after : List StreamMatch) (n : ℕ) (ends : List StreamMatch) → Appends rows after 0 n ends → n ≡ length ends
count_of rows after n ends a = let is : n ≡ 0 + length ends = a.count_is in omega (arith, is)

-- ends in the first rows, and others in the rows after them
pub appends_part : (old mid part : List StreamMatch) (n m : ℕ) (first more : List StreamMatch) → length mid ≡ length old →
    Appends old mid 0 n first → Appends (drop n mid) part 0 m more → Appends old (take n mid ++ part) 0 (n + m) (first ++ more)
appends_part old mid part n m first more len a b =
    let left : length (drop n mid) ≡ length mid - n = length-drop n mid in
    let fits : n ≤ length old = a.fits in
    let few : m ≤ length (drop n mid) = b.fits in
    let at : length (take n mid) ≡ n = length-take-le n mid (omega (arith, len, fits)) in
    record {
      count_is = let sizes : length (first ++ more) ≡ length first + length more = length-append first more in
          let one : n ≡ 0 + length first = a.count_is in
          let two : m ≡ 0 + length more = b.count_is in
          omega (arith, sizes, one, two);
      fits = omega (arith, len, fits, few, left);
      rows = ap (λ (k : ℕ). take (k + m) (take n mid ++ part)) (sym at) ∙ take-append-add (take n mid) part m
          ∙ ap₂ (λ (x y : List StreamMatch). x ++ y) a.rows b.rows;
    }

-- what rows are after a write to those from an offset on
put_rest : (n : ℕ) (mid part : List StreamMatch) → n ≤ length mid → length part ≡ length mid - n →
    put_mid n (length mid - n) mid part ≡ take n mid ++ part
put_rest n mid part few long =
    ap (λ (l : List StreamMatch). take n mid ++ (part ++ l)) (drop-drop (length mid - n) n mid ∙ drop_all (n + (length mid - n)) mid (omega (arith, few)))
    ∙ ap (λ (l : List StreamMatch). take n mid ++ l) (append-nil part)

-- ---- bytes of a line, or its end

one_fed : (d : Dfa) (t : ℕ) (s : Stream) (b : ℕ) → (b == t) ≡ true → fed_lines d t s (b ∷ []) ≡ next_line_at s.point s.offset
unfolding fed_lines
one_fed d t s b same = next_ended d t s.point s.offset b same

one_ends : (d : Dfa) (t : ℕ) (s : Stream) (b : ℕ) → (b == t) ≡ true → ends_in_lines d t s (b ∷ []) ≡ last_ends d s
unfolding ends_in_lines
one_ends d t s b same = append-nil (ends_in_lines_at d t s.point s.offset b) ∙ ends_ended d t s b same

module _ (d : Dfa) (t : ℕ) (s new : Stream) (rows after : List StreamMatch) (f : Fed) (o : IsOpenPoint s.point) where
  -- the first byte is a terminator
  of_end : (b : ℕ) (bs : List ℕ) (r : Result ⊤ StreamError) → b ≡ t → IsLineEnded d s new rows after f r →
      IsLineFed d t s new (b ∷ bs) rows after f r
  of_end b bs (Ok done) e (inl x) =
      let one : f.taken ≡ 1 = x.0 in
      let is : take f.taken (b ∷ bs) ≡ b ∷ [] = ap (λ (n : ℕ). take n (b ∷ bs)) one in
      let same : (b == t) ≡ true = eq-eqb b t e in
      record {
        taken = omega (arith, one);
        stream = x.1 ∙ sym (ap (fed_lines d t s) is ∙ one_fed d t s b same);
        ends = subst (λ (l : List StreamMatch). Appends rows after 0 f.count l) (sym (ap (ends_in_lines d t s) is ∙ one_ends d t s b same)) x.2;
        some = inl (omega (arith, one));
        is_open = subst (λ (y : Stream). IsOpenPoint y.point) (sym (x.1 ∙ open_line s.point s.offset o)) tt;
        offset = ap (λ (y : Stream). y.offset) (x.1 ∙ open_line s.point s.offset o) ∙ ap (λ (n : ℕ). s.offset + n) (sym one);
        err = tt;
      }
  of_end b bs (Ok done) e (inr x) =
      let none : f.taken ≡ 0 = x.0 in
      let is : take f.taken (b ∷ bs) ≡ [] = ap (λ (n : ℕ). take n (b ∷ bs)) none in
      let lacks : length rows < length (last_ends d s) = x.3 in
      let sizes : length (ends_in_lines_at d t s.point s.offset b) ≡ length (last_ends d s) = ap length (ends_ended d t s b (eq-eqb b t e)) in
      record {
        taken = omega (arith, none);
        stream = x.2 ∙ sym (ap (fed_lines d t s) is ∙ fed_lines_none d t s);
        ends = subst (λ (n : ℕ). Appends rows after 0 n (ends_in_lines d t s (take f.taken (b ∷ bs)))) (sym x.1)
            (none_written rows after (ends_in_lines d t s (take f.taken (b ∷ bs))) (ap (ends_in_lines d t s) is ∙ line_ends_none d t s));
        some = inr (none, record { byte = b; is = refl; lacks = omega (arith, lacks, sizes) });
        is_open = subst (λ (y : Stream). IsOpenPoint y.point) (sym x.2) o;
        offset = ap (λ (y : Stream). y.offset) x.2 ∙ (let at : s.offset ≡ s.offset + f.taken = omega (arith, none) in at);
        err = tt;
      }
  of_end b bs (Err error) e x =
      let none : f.taken ≡ 0 = x.0 in
      let is : take f.taken (b ∷ bs) ≡ [] = ap (λ (n : ℕ). take n (b ∷ bs)) none in
      record {
        taken = omega (arith, none);
        stream = x.2 ∙ sym (ap (fed_lines d t s) is ∙ fed_lines_none d t s);
        ends = subst (λ (n : ℕ). Appends rows after 0 n (ends_in_lines d t s (take f.taken (b ∷ bs)))) (sym x.1)
            (none_written rows after (ends_in_lines d t s (take f.taken (b ∷ bs))) (ap (ends_in_lines d t s) is ∙ line_ends_none d t s));
        some = tt;
        is_open = tt;
        offset = tt;
        err = x.3;
      }

  pub fed_by_end : (bytes : List ℕ) (r : Result ⊤ StreamError) → 0 < length bytes → slice_get bytes 0 ≡ Some t →
      IsLineEnded d s new rows after f r → IsLineFed d t s new bytes rows after f r
  fed_by_end [] r l e x = absurd (omega (arith, l))
  fed_by_end (b ∷ bs) r l e x = of_end b bs r (same_Some b t e) x

fed_error : (d : Dfa) (s t : Stream) (n : ℕ) (e : StreamError) → IsOpenPoint s.point → s.offset + n ≤ 0xFFFF_FFFF_FFFF_FFFF →
    IsStreamError d s t n e → IsReadError d t e
fed_error d s t n (Quit b i) o room x = x
fed_error d s t n ClosedError o room x = absurd (subst IsOpenPoint x.0 o)
fed_error d s t n GaveUp o room x = x
fed_error d s t n NoMemory o room x = tt
fed_error d s t n TooLong o room x = let long : 0xFFFF_FFFF_FFFF_FFFF < s.offset + n = x.0 in absurd (omega (arith, long, room))
fed_error d s t n NoRoom o room x = absurd x

taken_zero : (n : ℕ) → (n ≡ 0) ⊎ (0 < n)
taken_zero zero = inl refl
taken_zero (suc n) = inr (omega arith)

module _ (d : Dfa) (t : ℕ) (s new : Stream) (bytes : List ℕ) (n : ℕ) (rows after : List StreamMatch) (f : Fed) (o : IsOpenPoint s.point)
    (room : s.offset + length bytes ≤ 0xFFFF_FFFF_FFFF_FFFF) (within : n ≤ length bytes) (some : 0 < n) (free : HasNoEnd t (take n bytes)) where
  abbrev part : List ℕ
  part = take n bytes

  part_len : length part ≡ n
  part_len = length-take-le n bytes within

  module _ (few : f.taken ≤ length part) where
    few_taken : take f.taken part ≡ take f.taken bytes
    few_taken = let len : length part ≡ n = part_len in take-take f.taken n bytes (omega (arith, few, len))

    same_fed : fed d s (take f.taken part) ≡ fed_lines d t s (take f.taken bytes)
    same_fed = sym (fed_free d t s (take f.taken part) (first_bytes_free t f.taken part free)) ∙ ap (fed_lines d t s) few_taken

    same_ends : stream_ends d s (take f.taken part) ≡ ends_in_lines d t s (take f.taken bytes)
    same_ends = sym (ends_free d t s (take f.taken part) (first_bytes_free t f.taken part free)) ∙ ap (ends_in_lines d t s) few_taken

  got_within : (k b : ℕ) → slice_get (take n bytes) k ≡ Some b → slice_get bytes k ≡ Some b
  got_within k b e = get_taken n bytes k b e

  still_full : f.taken ≡ 0 → f.count ≡ 0 → new ≡ s → IsFull d new part f.taken f.count (length rows) → IsFullOfLines d t s bytes 0 0 (length rows)
  still_full none zero_count same x =
      let here : slice_get part 0 ≡ Some x.byte = ap (slice_get part) (sym none) ∙ x.is in
      let lacks : length rows < f.count + length (stream_ends_at d new.point new.offset x.byte) = x.lacks in
      let sizes : length (stream_ends_at d new.point new.offset x.byte) ≡ length (ends_in_lines_at d t s.point s.offset x.byte) =
      ap (λ (y : Stream). length (stream_ends_at d y.point y.offset x.byte)) same
      ∙ ap length (sym (ends_free_at d t s.point s.offset x.byte (free_head t x.byte part free here))) in
      record { byte = x.byte; is = got_within 0 x.byte here; lacks = omega (arith, lacks, sizes, zero_count) }

  some_fed : IsFed d s new part rows after f (Ok tt) → (0 < f.taken) ⊎ ((f.taken ≡ 0) × IsFullOfLines d t s bytes 0 0 (length rows))
  some_fed x = by (taken_zero f.taken) x.all
    where
      nothing : f.taken ≡ 0 → new ≡ s
      nothing none = x.stream ∙ ap (λ (m : ℕ). fed d s (take m part)) none ∙ fed_none d s

      no_ends : f.taken ≡ 0 → f.count ≡ 0
      no_ends none = count_of rows after f.count (stream_ends d s (take f.taken part)) x.ends
          ∙ ap length (ap (λ (m : ℕ). stream_ends d s (take m part)) none ∙ ends_none d s)

      by : (f.taken ≡ 0) ⊎ (0 < f.taken) → (f.taken ≡ length part) ⊎ IsFull d new part f.taken f.count (length rows) →
          (0 < f.taken) ⊎ ((f.taken ≡ 0) × IsFullOfLines d t s bytes 0 0 (length rows))
      by (inr l) w = inl l
      by (inl none) (inl e) = let len : length part ≡ n = part_len in inl (omega (arith, e, len, some))
      by (inl none) (inr w) = inr (none, still_full none (no_ends none) (nothing none) w)

  pub fed_by_bytes : (r : Result ⊤ StreamError) → IsFed d s new part rows after f r → IsLineFed d t s new bytes rows after f r
  fed_by_bytes (Ok done) x =
      let few : f.taken ≤ length part = x.taken in
      let len : length part ≡ n = part_len in
      let goes = open_fed d s (take f.taken part) o (ap (λ (y : Stream). is_failed y.point) (sym x.stream) ∙ x.quiet) in
      let at : (fed d s (take f.taken part)).offset ≡ s.offset + length (take f.taken part) = goes.1 in
      let size : length (take f.taken part) ≡ f.taken = length-take-le f.taken part few in
      record {
        taken = omega (arith, few, len, within);
        stream = x.stream ∙ same_fed few;
        ends = subst (λ (l : List StreamMatch). Appends rows after 0 f.count l) (same_ends few) x.ends;
        some = some_fed x;
        is_open = subst (λ (y : Stream). IsOpenPoint y.point) (sym x.stream) goes.0;
        offset = ap (λ (y : Stream). y.offset) x.stream ∙ at ∙ ap (λ (m : ℕ). s.offset + m) size;
        err = tt;
      }
  fed_by_bytes (Err e) x =
      let few : f.taken ≤ length part = x.taken in
      let len : length part ≡ n = part_len in
      record {
        taken = omega (arith, few, len, within);
        stream = x.stream ∙ same_fed few;
        ends = subst (λ (l : List StreamMatch). Appends rows after 0 f.count l) (same_ends few) x.ends;
        some = tt;
        is_open = tt;
        offset = tt;
        err = fed_error d s new (length part) e o (omega (arith, room, len, within)) x.err;
      }

-- ---- a piece

pub lines_fed_nothing : (d : Dfa) (t : ℕ) (s : Stream) (bytes : List ℕ) (rows : List StreamMatch) (e : StreamError) →
    IsStreamError d s s (length bytes) e → AreLinesFed d t s s bytes rows rows (record { taken = 0; count = 0 }) (Err e)
lines_fed_nothing d t s bytes rows e x = record {
  taken = omega arith;
  stream = sym (fed_lines_none d t s);
  ends = none_written rows rows (ends_in_lines d t s []) (line_ends_none d t s);
  all = tt;
  quiet = tt;
  err = x;
}

-- the first k bytes were read, and c ends were written
pub record IsSoFar (d : Dfa) (t : ℕ) (old mid : Stream) (bytes : List ℕ) (rows now : List StreamMatch) (k c : ℕ) : Type 0 where
  pub taken : k ≤ length bytes
  pub stream : mid ≡ fed_lines d t old (take k bytes)
  pub ends : Appends rows now 0 c (ends_in_lines d t old (take k bytes))
  pub len : length now ≡ length rows
  pub is_open : IsOpenPoint mid.point
  pub offset : mid.offset ≡ old.offset + k
  pub room : old.offset + length bytes ≤ 0xFFFF_FFFF_FFFF_FFFF

pub none_so_far : (d : Dfa) (t : ℕ) (s : Stream) (bytes : List ℕ) (rows : List StreamMatch) → IsOpenPoint s.point →
    s.offset + length bytes ≤ 0xFFFF_FFFF_FFFF_FFFF → IsSoFar d t s s bytes rows rows 0 0
none_so_far d t s bytes rows o room = record {
  taken = omega arith;
  stream = sym (fed_lines_none d t s);
  ends = none_written rows rows (ends_in_lines d t s []) (line_ends_none d t s);
  len = refl;
  is_open = o;
  offset = omega arith;
  room = room;
}

read_error : (d : Dfa) (s t : Stream) (n : ℕ) (e : StreamError) → IsReadError d t e → IsStreamError d s t n e
read_error d s t n (Quit b i) x = x
read_error d s t n ClosedError x = absurd x
read_error d s t n GaveUp x = x
read_error d s t n NoMemory x = tt
read_error d s t n TooLong x = absurd x
read_error d s t n NoRoom x = absurd x

module _ (d : Dfa) (t : ℕ) (old mid new : Stream) (bytes : List ℕ) (rows now part : List StreamMatch) (k c : ℕ) (f : Fed)
    (so : IsSoFar d t old mid bytes rows now k c) (same_len : length part ≡ length (take (length now - c) (drop c now))) where
  long : length part ≡ length now - c
  long = same_len ∙ ap length (take_rest now c) ∙ length-drop c now

  -- what was done with the rest of the bytes and of the rows
  abbrev IsRestFed : Result ⊤ StreamError → Type 0
  IsRestFed r = IsLineFed d t mid new (take (length bytes - k) (drop k bytes)) (take (length now - c) (drop c now)) part f r

  plainly : (q r : Result ⊤ StreamError) → q ≡ r → IsRestFed q → IsLineFed d t mid new (drop k bytes) (drop c now) part f r
  plainly q r e x =
      subst (λ (l : List StreamMatch). IsLineFed d t mid new (drop k bytes) l part f r) (take_rest now c)
      (subst (λ (l : List ℕ). IsLineFed d t mid new l (take (length now - c) (drop c now)) part f r) (take_rest bytes k)
      (subst (λ (o : Result ⊤ StreamError). IsRestFed o) e x))

  abbrev after : List StreamMatch
  after = put_mid c (length now - c) now part

  after_is : after ≡ take c now ++ part
  after_is = let fits : c ≤ length rows = so.ends.fits in let len : length now ≡ length rows = so.len in
      put_rest c now part (omega (arith, fits, len)) long

  abbrev taken : ℕ
  taken = k + f.taken

  module _ (r : Result ⊤ StreamError) (x : IsLineFed d t mid new (drop k bytes) (drop c now) part f r) where
    more : take taken bytes ≡ take k bytes ++ take f.taken (drop k bytes)
    more = take-add k f.taken bytes

    stream_is : new ≡ fed_lines d t old (take taken bytes)
    stream_is =
        x.stream ∙ ap (λ (y : Stream). fed_lines d t y (take f.taken (drop k bytes))) so.stream
        ∙ fed_lines_joined d t old (take k bytes) (take f.taken (drop k bytes))
        ∙ ap (fed_lines d t old) (sym more)

    ends_are : ends_in_lines d t old (take k bytes) ++ ends_in_lines d t mid (take f.taken (drop k bytes)) ≡ ends_in_lines d t old (take taken bytes)
    ends_are =
        ap (λ (y : Stream). ends_in_lines d t old (take k bytes) ++ ends_in_lines d t y (take f.taken (drop k bytes))) so.stream
        ∙ line_ends_joined d t old (take k bytes) (take f.taken (drop k bytes))
        ∙ ap (ends_in_lines d t old) (sym more)

    written : Appends rows after 0 (c + f.count) (ends_in_lines d t old (take taken bytes))
    written =
        subst (λ (l : List StreamMatch). Appends rows l 0 (c + f.count) (ends_in_lines d t old (take taken bytes))) (sym after_is)
        (subst (λ (l : List StreamMatch). Appends rows (take c now ++ part) 0 (c + f.count) l) ends_are
        (appends_part rows now part c f.count (ends_in_lines d t old (take k bytes)) (ends_in_lines d t mid (take f.taken (drop k bytes))) so.len so.ends
        x.ends))

    within : taken ≤ length bytes
    within =
        let few : f.taken ≤ length (drop k bytes) = x.taken in
        let left : length (drop k bytes) ≡ length bytes - k = length-drop k bytes in
        let so_far : k ≤ length bytes = so.taken in
        omega (arith, few, left, so_far)

  more_of_ok : IsLineFed d t mid new (drop k bytes) (drop c now) part f (Ok tt) → IsSoFar d t old new bytes rows after taken (c + f.count)
  more_of_ok x = record {
    taken = within (Ok tt) x;
    stream = stream_is (Ok tt) x;
    ends = written (Ok tt) x;
    len =
        let fits : c ≤ length rows = so.ends.fits in
        let len : length now ≡ length rows = so.len in
        let both : length after ≡ length (take c now) + length part = ap length after_is ∙ length-append (take c now) part in
        let first : length (take c now) ≡ c = length-take-le c now (omega (arith, fits, len)) in
        let same : length part ≡ length now - c = long in
        omega (arith, fits, len, both, first, same);
    is_open = x.is_open;
    offset = let a : new.offset ≡ mid.offset + f.taken = x.offset in let b : mid.offset ≡ old.offset + k = so.offset in omega (arith, a, b);
    room = so.room;
  }

  pub more_so_far : (r : Result ⊤ StreamError) → r ≡ Ok tt → IsRestFed r → IsSoFar d t old new bytes rows after taken (c + f.count)
  more_so_far r e x = more_of_ok (plainly r (Ok tt) e x)

  full_of_ok : IsLineFed d t mid new (drop k bytes) (drop c now) part f (Ok tt) → f.taken ≡ 0 →
      AreLinesFed d t old new bytes rows after (record { taken = taken; count = c + f.count }) (Ok tt)
  full_of_ok x none = record {
    taken = within (Ok tt) x;
    stream = stream_is (Ok tt) x;
    ends = written (Ok tt) x;
    all = inr (by x.some);
    quiet = open_quiet new.point x.is_open;
    err = tt;
  }
    where
      nothing : new ≡ mid
      nothing = x.stream ∙ ap (λ (m : ℕ). fed_lines d t mid (take m (drop k bytes))) none ∙ fed_lines_none d t mid

      no_ends : f.count ≡ 0
      no_ends = count_of (drop c now) part f.count (ends_in_lines d t mid (take f.taken (drop k bytes))) x.ends
          ∙ ap length (ap (λ (m : ℕ). ends_in_lines d t mid (take m (drop k bytes))) none ∙ line_ends_none d t mid)

      by : (0 < f.taken) ⊎ ((f.taken ≡ 0) × IsFullOfLines d t mid (drop k bytes) 0 0 (length (drop c now))) →
          IsFullOfLines d t new bytes taken (c + f.count) (length rows)
      by (inl l) = absurd (omega (arith, l, none))
      by (inr w) =
          let full = w.1 in
          let lacks : length (drop c now) < 0 + length (ends_in_lines_at d t mid.point mid.offset full.byte) = full.lacks in
          let sizes : length (ends_in_lines_at d t mid.point mid.offset full.byte) ≡ length (ends_in_lines_at d t new.point new.offset full.byte) =
          ap (λ (y : Stream). length (ends_in_lines_at d t y.point y.offset full.byte)) (sym nothing) in
          let left : length (drop c now) ≡ length now - c = length-drop c now in
          let fits : c ≤ length rows = so.ends.fits in
          let len : length now ≡ length rows = so.len in
          let zero_count : f.count ≡ 0 = no_ends in
          record {
            byte = full.byte;
            is = ap (slice_get bytes) (let at : k + f.taken ≡ k + 0 = omega (arith, none) in at) ∙ sym (get_dropped k bytes 0) ∙ full.is;
            lacks = omega (arith, lacks, sizes, left, fits, len, zero_count);
          }

  pub lines_full : (r : Result ⊤ StreamError) → r ≡ Ok tt → IsRestFed r → f.taken ≡ 0 →
      AreLinesFed d t old new bytes rows after (record { taken = taken; count = c + f.count }) (Ok tt)
  lines_full r e x none = full_of_ok (plainly r (Ok tt) e x) none

  failed_of_err : (e : StreamError) → IsLineFed d t mid new (drop k bytes) (drop c now) part f (Err e) →
      AreLinesFed d t old new bytes rows after (record { taken = taken; count = c + f.count }) (Err e)
  failed_of_err e x = record {
    taken = within (Err e) x;
    stream = stream_is (Err e) x;
    ends = written (Err e) x;
    all = tt;
    quiet = tt;
    err = read_error d old new (length bytes) e x.err;
  }

  pub lines_failed : (r : Result ⊤ StreamError) (e : StreamError) → r ≡ Err e → IsRestFed r →
      AreLinesFed d t old new bytes rows after (record { taken = taken; count = c + f.count }) (Err e)
  lines_failed r e is x = failed_of_err e (plainly r (Err e) is x)
