-- Input that is read line by line: pieces joined, parts of lines, and their ends.
use Rattle.std.proofs.Common.{◌≡◌, ◌⊎◌, ◌∙◌, ◌+◌, ◌<◌, ◌≤◌, ◌++◌, ◌==◌, ◌∷◌, ℕ, zero, suc, Bool, true, false, not, cond, List, Some, None, []}
use Rattle.std.proofs.Common.{length, length-take-le, nat_lt, take, drop, refl, sym, ap, ap₂, subst, arith, inl, inr, true≢false, append_assoc, slice_get}
use Rattle.std.proofs.lemmas.Bool.{ltb-false, ltb-true}
use Rattle.std.proofs.lemmas.List.{take-take, take_all}
use Rattle.std.proofs.lemmas.Option.{none-some, same_Some}
use Rattle.std.specs.List.{position, position_or_len}
use Rattle.search_core.specs.ByteSets.{has}
use Rattle.determinize_core.specs.States.{StateValue}
use Rattle.lazy_dfa.specs.Dfas.{Dfa, after, is_dead}
use Rattle.streams.specs.Feeding.{IsOpenPoint}
use Rattle.streams.specs.LineCalls.{HasNoEnd}
use Rattle.streams.specs.Lines.{fed_lines, ends_in_lines, ends_in_lines_at, next_in_lines, next_line_at}
use Rattle.streams.specs.Reading.{is_failed}
use Rattle.streams.specs.Streams.{fed, first_state_of, last_ends, next_at, point_in, stream_after, stream_ends, stream_ends_at}
use Rattle.streams.specs.declared.stream.Point.{Point}
use Rattle.streams.specs.declared.stream.Point.TheVariants.{Closed, Dead, Failed, Fresh, Within}
use Rattle.streams.specs.declared.stream.Stream.{Stream}
use Rattle.streams.specs.declared.stream.StreamMatch.{StreamMatch}
use Rattle.streams.proofs.ReadLemmas.{after_quits}

-- ---- pieces joined

pub fed_lines_joined : (d : Dfa) (t : ℕ) (s : Stream) (a b : List ℕ) → fed_lines d t (fed_lines d t s a) b ≡ fed_lines d t s (a ++ b)
unfolding fed_lines
fed_lines_joined d t s [] b = refl
fed_lines_joined d t s (x ∷ a) b = fed_lines_joined d t (next_in_lines d t s.point s.offset x) a b

pub line_ends_joined : (d : Dfa) (t : ℕ) (s : Stream) (a b : List ℕ) →
    ends_in_lines d t s a ++ ends_in_lines d t (fed_lines d t s a) b ≡ ends_in_lines d t s (a ++ b)
unfolding fed_lines ends_in_lines
line_ends_joined d t s [] b = refl
line_ends_joined d t s (x ∷ a) b =
    append_assoc (ends_in_lines_at d t s.point s.offset x) (ends_in_lines d t (next_in_lines d t s.point s.offset x) a)
    (ends_in_lines d t (fed_lines d t (next_in_lines d t s.point s.offset x) a) b)
    ∙ ap (λ (l : List StreamMatch). ends_in_lines_at d t s.point s.offset x ++ l) (line_ends_joined d t (next_in_lines d t s.point s.offset x) a b)

pub fed_lines_none : (d : Dfa) (t : ℕ) (s : Stream) → fed_lines d t s [] ≡ s
unfolding fed_lines
fed_lines_none d t s = refl

pub line_ends_none : (d : Dfa) (t : ℕ) (s : Stream) → ends_in_lines d t s [] ≡ []
unfolding ends_in_lines
line_ends_none d t s = refl

-- ---- a byte of a line, and its end

pub next_free : (d : Dfa) (t : ℕ) (p : Point) (i b : ℕ) → (b == t) ≡ false → next_in_lines d t p i b ≡ next_at d p i b
next_free d t p i b e = rw e refl

pub ends_free_at : (d : Dfa) (t : ℕ) (p : Point) (i b : ℕ) → (b == t) ≡ false → ends_in_lines_at d t p i b ≡ stream_ends_at d p i b
ends_free_at d t p i b e = rw e refl

pub next_ended : (d : Dfa) (t : ℕ) (p : Point) (i b : ℕ) → (b == t) ≡ true → next_in_lines d t p i b ≡ next_line_at p i
next_ended d t p i b e = rw e refl

pub ends_ended : (d : Dfa) (t : ℕ) (s : Stream) (b : ℕ) → (b == t) ≡ true → ends_in_lines_at d t s.point s.offset b ≡ last_ends d s
ends_ended d t s b e = rw e refl

pub open_line : (p : Point) (i : ℕ) → IsOpenPoint p → next_line_at p i ≡ record { point = Fresh; offset = i + 1 }
open_line Fresh i o = refl
open_line (Within s) i o = refl
open_line Dead i o = refl
open_line (Failed q) i o = absurd o
open_line Closed i o = absurd o

pub fed_free : (d : Dfa) (t : ℕ) (s : Stream) (bs : List ℕ) → HasNoEnd t bs → fed_lines d t s bs ≡ fed d s bs
unfolding fed fed_lines
fed_free d t s [] f = refl
fed_free d t s (b ∷ bs) f =
    ap (λ (x : Stream). fed_lines d t x bs) (next_free d t s.point s.offset b f.0) ∙ fed_free d t (next_at d s.point s.offset b) bs f.1

pub ends_free : (d : Dfa) (t : ℕ) (s : Stream) (bs : List ℕ) → HasNoEnd t bs → ends_in_lines d t s bs ≡ stream_ends d s bs
unfolding ends_in_lines stream_ends
ends_free d t s [] f = refl
ends_free d t s (b ∷ bs) f =
    ap₂ (λ (l m : List StreamMatch). l ++ m) (ends_free_at d t s.point s.offset b f.0)
    (ap (λ (x : Stream). ends_in_lines d t x bs) (next_free d t s.point s.offset b f.0) ∙ ends_free d t (next_at d s.point s.offset b) bs f.1)

-- ---- parts of lists

pub get_taken : (n : ℕ) (xs : List ℕ) (k b : ℕ) → slice_get (take n xs) k ≡ Some b → slice_get xs k ≡ Some b
get_taken zero xs k b e = absurd (none-some b e)
get_taken (suc n) [] k b e = e
get_taken (suc n) (x ∷ xs) zero b e = e
get_taken (suc n) (x ∷ xs) (suc k) b e = get_taken n xs k b e

pub get_dropped : (k : ℕ) (xs : List ℕ) (j : ℕ) → slice_get (drop k xs) j ≡ slice_get xs (k + j)
get_dropped zero xs j = ap (slice_get xs) (let same : j ≡ 0 + j = omega arith in same)
get_dropped (suc k) [] j = refl
get_dropped (suc k) (x ∷ xs) j = get_dropped k xs j ∙ ap (slice_get (x ∷ xs)) (let same : suc (k + j) ≡ suc k + j = omega arith in same)

-- ---- bytes before a terminator

first_at : (t x : ℕ) (xs : List ℕ) (v : Bool) → (x == t) ≡ v →
    position_or_len (λ b. b == t) (x ∷ xs) ≡ cond (not v) (1 + position_or_len (λ b. b == t) xs) 0
first_at t x xs v e = ap (λ b. cond (not b) (1 + position_or_len (λ c. c == t) xs) 0) e

free_by : (t x : ℕ) (xs : List ℕ) (v : Bool) → (x == t) ≡ v → HasNoEnd t (take (position_or_len (λ b. b == t) xs) xs) →
    HasNoEnd t (take (position_or_len (λ b. b == t) (x ∷ xs)) (x ∷ xs))
free_by t x xs true e rest = subst (λ (n : ℕ). HasNoEnd t (take n (x ∷ xs))) (sym (first_at t x xs true e)) tt
free_by t x xs false e rest =
    subst (λ (n : ℕ). HasNoEnd t (take n (x ∷ xs)))
    (let one : suc (position_or_len (λ b. b == t) xs) ≡ 1 + position_or_len (λ b. b == t) xs = omega arith in
    one ∙ sym (first_at t x xs false e)) (e, rest)

free_before : (t : ℕ) (bs : List ℕ) → HasNoEnd t (take (position_or_len (λ b. b == t) bs) bs)
free_before t [] = tt
free_before t (x ∷ xs) = free_by t x xs (x == t) refl (free_before t xs)

some_at : (b : Bool) (k n : ℕ) → cond b (Some k) None ≡ Some n → (b ≡ true) × (k ≡ n)
some_at true k n e = (refl, same_Some k n e)
some_at false k n e = absurd (none-some n e)

none_at : (b : Bool) (k : ℕ) → cond b (Some k) None ≡ None → b ≡ false
none_at true k e = absurd (none-some k (sym e))
none_at false k e = refl

module _ (t : ℕ) (bs : List ℕ) where
  abbrev at : ℕ
  at = position_or_len (λ b. b == t) bs

  -- the first bytes of a piece have a terminator
  module _ (n : ℕ) (e : position (λ b. b == t) bs ≡ Some n) where
    there : (nat_lt at (length bs) ≡ true) × (at ≡ n)
    there = some_at (nat_lt at (length bs)) at n e

    pub end_within : n < length bs
    end_within = subst (λ (k : ℕ). k < length bs) there.1 (ltb-true at (length bs) there.0)

    pub end_free : HasNoEnd t (take n bs)
    end_free = subst (λ (k : ℕ). HasNoEnd t (take k bs)) there.1 (free_before t bs)

  -- they have none
  pub all_free : position (λ b. b == t) bs ≡ None → HasNoEnd t bs
  all_free e =
      let past : length bs ≤ at = ltb-false at (length bs) (none_at (nat_lt at (length bs)) at e) in
      subst (λ (l : List ℕ). HasNoEnd t l) (take_all at bs past) (free_before t bs)

-- the same of a longer piece
module _ (t most n : ℕ) (bytes : List ℕ) (few : most ≤ length bytes) where
  pub ends_free_of : position (λ b. b == t) (take most bytes) ≡ Some n → HasNoEnd t (take n bytes)
  ends_free_of e =
      let l : n < length (take most bytes) = end_within t (take most bytes) n e in
      let len : length (take most bytes) ≡ most = length-take-le most bytes few in
      subst (λ (l : List ℕ). HasNoEnd t l) (take-take n most bytes (omega (arith, l, len))) (end_free t (take most bytes) n e)

pub first_bytes_free : (t n : ℕ) (bs : List ℕ) → HasNoEnd t bs → HasNoEnd t (take n bs)
first_bytes_free t zero bs f = tt
first_bytes_free t (suc n) [] f = tt
first_bytes_free t (suc n) (b ∷ bs) f = (f.0, first_bytes_free t n bs f.1)

pub free_head : (t b : ℕ) (bs : List ℕ) → HasNoEnd t bs → slice_get bs 0 ≡ Some b → (b == t) ≡ false
free_head t b [] f e = absurd (none-some b e)
free_head t b (x ∷ bs) f e = subst (λ (y : ℕ). (y == t) ≡ false) (same_Some x b e) f.0

-- ---- a stream that is fed and hasn't failed is open

pub failed_stays : (d : Dfa) (q i : ℕ) (bs : List ℕ) → fed d (record { point = Failed q; offset = i }) bs ≡ record { point = Failed q; offset = i }
unfolding fed
failed_stays d q i [] = refl
failed_stays d q i (b ∷ bs) = failed_stays d q i bs

-- a byte of an open stream: the automaton gives up there, or the stream is open after it
abbrev IsNext : Stream → ℕ → ℕ → Type 0
IsNext s i b = (s ≡ record { point = Failed b; offset = i }) ⊎ (IsOpenPoint s.point × (s.offset ≡ i + 1))

open_in : (s : StateValue) (c : Bool) → is_dead s ≡ c → IsOpenPoint (point_in s)
open_in s true e = rw e tt
open_in s false e = rw e tt

-- where a stream in a state is after a byte, by what the state and the byte are
pub after_dead : (d : Dfa) (s : StateValue) (i b : ℕ) → is_dead s ≡ true → stream_after d s i b ≡ record { point = Dead; offset = i + 1 }
after_dead d s i b e = rw e refl

pub after_step : (d : Dfa) (s : StateValue) (i b : ℕ) → is_dead s ≡ false → has d.quits b ≡ false →
    stream_after d s i b ≡ record { point = point_in (after d s (Some b)); offset = i + 1 }
after_step d s i b e f = rw (e, f) refl

after_is_next : (d : Dfa) (s : StateValue) (i b : ℕ) (dead quits : Bool) → is_dead s ≡ dead → has d.quits b ≡ quits → IsNext (stream_after d s i b) i b
after_is_next d s i b true q e f = subst (λ (x : Stream). IsNext x i b) (sym (after_dead d s i b e)) (inr (tt, refl))
after_is_next d s i b false true e f = inl (after_quits d s i b e f)
after_is_next d s i b false false e f = subst (λ (x : Stream). IsNext x i b) (sym (after_step d s i b e f))
    (inr (open_in (after d s (Some b)) (is_dead (after d s (Some b))) refl, refl))

is_next : (d : Dfa) (p : Point) (i b : ℕ) → IsOpenPoint p → IsNext (next_at d p i b) i b
is_next d Fresh i b o = after_is_next d (first_state_of d) i b (is_dead (first_state_of d)) (has d.quits b) refl refl
is_next d (Within s) i b o = after_is_next d s i b (is_dead s) (has d.quits b) refl refl
is_next d Dead i b o = inr (tt, refl)
is_next d (Failed q) i b o = absurd o
is_next d Closed i b o = absurd o

pub open_fed : (d : Dfa) (s : Stream) (bs : List ℕ) → IsOpenPoint s.point → is_failed (fed d s bs).point ≡ false →
    IsOpenPoint (fed d s bs).point × ((fed d s bs).offset ≡ s.offset + length bs)
unfolding fed
open_fed d s [] o q = (o, omega arith)
open_fed d s (b ∷ bs) o q = by (λ now. open_fed d (next_at d s.point s.offset b) bs now q) (is_next d s.point s.offset b o)
  where
    by : (IsOpenPoint (next_at d s.point s.offset b).point → IsOpenPoint (fed d (next_at d s.point s.offset b) bs).point
        × ((fed d (next_at d s.point s.offset b) bs).offset ≡ (next_at d s.point s.offset b).offset + length bs)) →
        IsNext (next_at d s.point s.offset b) s.offset b → IsOpenPoint (fed d (next_at d s.point s.offset b) bs).point
        × ((fed d (next_at d s.point s.offset b) bs).offset ≡ s.offset + length (b ∷ bs))
    by goes_on (inl e) = absurd (true≢false (sym (ap (λ (x : Stream). is_failed (fed d x bs).point) e
        ∙ ap (λ (x : Stream). is_failed x.point) (failed_stays d b s.offset bs)) ∙ q))
    by goes_on (inr n) = let rest = goes_on n.0 in
        let at : (fed d (next_at d s.point s.offset b) bs).offset ≡ (next_at d s.point s.offset b).offset + length bs = rest.1 in
        let next : (next_at d s.point s.offset b).offset ≡ s.offset + 1 = n.1 in
        (rest.0, omega (arith, at, next))
