-- The first line of a text in memory, and the others.
use Rattle.std.proofs.Common.{◌≡◌, ◌≤◌, ◌<◌, ℕ, zero, suc, ◌+◌, ◌-◌, ◌==◌, Bool, true, false, not, cond, List, [], ◌∷◌, length, take, drop, slice_range}
use Rattle.std.proofs.Common.{length-drop, length-take-le, drop-drop, take_all, drop_of_length-le, Some, None, nat_lt, if◌then◌else◌, refl, sym, ap, ap₂, ◌∙◌, subst, arith}
use Rattle.std.proofs.lemmas.Option.{none-some, same_Some}
use Rattle.std.proofs.lemmas.Bool.{ltb-true, ltb-false, true≢false}
use Rattle.std.specs.List.{position, position_or_len}
use Rattle.line_search.specs.Lines.{ended, numbered, put_first, split_lines, text_lines, unended}
use Rattle.text_report.specs.LineSpans.{IsLineAt, content_of, line_of, lines_from, split_at}
use Rattle.text_report.specs.declared.lines.LineSpan.{LineSpan}

some_at : (b : Bool) (k n : ℕ) → cond b (Some k) None ≡ Some n → (b ≡ true) × (k ≡ n)
some_at true k n e = (refl, same_Some k n e)
some_at false k n e = absurd (none-some n e)

none_at : (b : Bool) (k : ℕ) → cond b (Some k) None ≡ None → b ≡ false
none_at true k e = absurd (none-some k (sym e))
none_at false k e = refl

one_more : (n : ℕ) → 1 + n ≡ suc n
one_more n = omega arith

two_more : (n : ℕ) → (1 + n) + 1 ≡ suc (n + 1)
two_more n = omega arith

-- a length that isn't 0
pub some_bytes : (n : ℕ) → false ≡ (n == 0) → 0 < n
some_bytes zero e = absurd (true≢false (sym e))
some_bytes (suc n) e = omega arith

module _ (t : ℕ) where
  abbrev is_end : ℕ → Bool
  is_end b = b == t

  abbrev first : List ℕ → ℕ
  first text = position_or_len is_end text

  first_at : (x : ℕ) (xs : List ℕ) (v : Bool) → is_end x ≡ v → first (x ∷ xs) ≡ cond (not v) (1 + first xs) 0
  first_at x xs v e = ap (λ b. cond (not b) (1 + first xs) 0) e

  by_first : (x : ℕ) (xs : List ℕ) (v : Bool) → is_end x ≡ v →
      split_at t (x ∷ xs) ≡ (if v then ended [] ∷ split_at t xs else put_first x (split_at t xs))
  by_first x xs v e = ap (λ b. if b then ended [] ∷ split_at t xs else put_first x (split_at t xs)) e

  -- the first line ends at the first such byte
  abbrev IsCut : List ℕ → Type 0
  IsCut text = split_at t text ≡ ended (take (first text) text) ∷ split_at t (drop (first text + 1) text)

  cut_by : (x : ℕ) (xs : List ℕ) → (first xs < length xs → IsCut xs) → (v : Bool) → is_end x ≡ v →
      first (x ∷ xs) < length (x ∷ xs) → IsCut (x ∷ xs)
  cut_by x xs rest true e few =
      by_first x xs true e ∙ sym (ap (λ k. ended (take k (x ∷ xs)) ∷ split_at t (drop (k + 1) (x ∷ xs))) (first_at x xs true e))
  cut_by x xs rest false e few =
      by_first x xs false e
      ∙ ap (put_first x) (rest (omega (arith, few, first_at x xs false e)))
      ∙ sym (ap₂ (λ k j. ended (take k (x ∷ xs)) ∷ split_at t (drop j (x ∷ xs)))
      (first_at x xs false e ∙ one_more (first xs))
      (ap (λ k. k + 1) (first_at x xs false e) ∙ two_more (first xs)))

  cut : (text : List ℕ) → first text < length text → IsCut text
  cut [] few = absurd (omega (arith, few))
  cut (x ∷ xs) few = cut_by x xs (cut xs) (is_end x) refl few

  first_below : (text : List ℕ) (n : ℕ) → position is_end text ≡ Some n → n < length text
  first_below text n e =
      let at = some_at (nat_lt (first text) (length text)) (first text) n e in
      subst (λ k. k < length text) at.1 (ltb-true (first text) (length text) at.0)

  first_line : (text : List ℕ) (n : ℕ) → position is_end text ≡ Some n →
      split_at t text ≡ ended (take n text) ∷ split_at t (drop (n + 1) text)
  first_line text n e =
      let at = some_at (nat_lt (first text) (length text)) (first text) n e in
      cut text (ltb-true (first text) (length text) at.0)
      ∙ ap (λ k. ended (take k text) ∷ split_at t (drop (k + 1) text)) at.1

  -- without such a byte there is one line
  alone_by : (x : ℕ) (xs : List ℕ) → (0 < length xs → length xs ≤ first xs → split_at t xs ≡ unended xs ∷ []) →
      (v : Bool) → is_end x ≡ v → length (x ∷ xs) ≤ first (x ∷ xs) → split_at t (x ∷ xs) ≡ unended (x ∷ xs) ∷ []
  alone_by x xs rest true e many = absurd (omega (arith, many, first_at x xs true e))
  alone_by x [] rest false e many = ap (λ b. if b then ended [] ∷ [] else put_first x []) e
  alone_by x (y ∷ ys) rest false e many =
      by_first x (y ∷ ys) false e ∙ ap (put_first x) (rest (omega arith) (omega (arith, many, first_at x (y ∷ ys) false e)))

  alone : (text : List ℕ) → 0 < length text → length text ≤ first text → split_at t text ≡ unended text ∷ []
  alone [] some many = absurd (omega (arith, some))
  alone (x ∷ xs) some many = alone_by x xs (alone xs) (is_end x) refl many

  last_line : (text : List ℕ) → position is_end text ≡ None → 0 < length text → split_at t text ≡ unended text ∷ []
  last_line text e some =
      alone text some (ltb-false (first text) (length text) (none_at (nat_lt (first text) (length text)) (first text) e))

  -- no line begins at the end of a text
  pub none_from : (text : List ℕ) (number start : ℕ) → drop start text ≡ [] → lines_from t text number start ≡ []
  none_from text number start e = ap (λ it. numbered number start (split_at t it)) e

-- The line that begins at an offset, if this byte ends it.
module _ (t : ℕ) (text rest : List ℕ) (number start len : ℕ) (within : start ≤ length text) (cut_there : rest ≡ drop start text)
    (found : position (λ b. b == t) rest ≡ Some len) where
  abbrev ended_here : LineSpan
  ended_here = record { number = number; start = start; end = start + len; is_ended = true }

  size : length rest ≡ length text - start
  size = ap length cut_there ∙ length-drop start text

  low : len < length text - start
  low = subst (λ n. len < n) size (first_below t rest len found)

  bytes : take len rest ≡ slice_range text start (start + len)
  bytes = ap₂ (λ n it. take n it) (omega arith) cut_there

  after : drop (len + 1) rest ≡ drop (start + len + 1) text
  after = ap (drop (len + 1)) cut_there ∙ drop-drop (len + 1) start text ∙ ap (λ n. drop n text) (omega arith)

  split : split_at t (drop start text) ≡ content_of text ended_here ∷ split_at t (drop (start + len + 1) text)
  split =
      ap (split_at t) (sym cut_there)
      ∙ first_line t rest len found
      ∙ ap₂ (λ it others. ended it ∷ split_at t others) bytes after

  place : start + length (slice_range text start (start + len)) + 1 ≡ start + len + 1
  place = ap (λ n. start + n + 1) (ap length (sym bytes) ∙ length-take-le len rest (omega (arith, first_below t rest len found)))

  next : lines_from t text number start ≡ line_of text ended_here ∷ lines_from t text (number + 1) (start + len + 1)
  next =
      ap (numbered number start) split
      ∙ ap (λ at. line_of text ended_here ∷ numbered (number + 1) at (split_at t (drop (start + len + 1) text))) place

  pub ended_line : IsLineAt t text number start ended_here
  ended_line = record {
    numbered_so = refl;
    starts = refl;
    ordered = omega arith;
    forward = omega arith;
    inside = omega (arith, low, within);
    within = omega (arith, low, within);
    split = split;
    next = next;
  }

-- The line that begins at an offset, if no such byte ends it.
module _ (t : ℕ) (text rest : List ℕ) (number start : ℕ) (within : start ≤ length text) (cut_there : rest ≡ drop start text)
    (none : position (λ b. b == t) rest ≡ None) (some : 0 < length rest) where
  abbrev open_here : LineSpan
  open_here = record { number = number; start = start; end = length text; is_ended = false }

  below : start < length text
  below = omega (arith, some, ap length cut_there ∙ length-drop start text)

  whole : rest ≡ slice_range text start (length text)
  whole = sym (take_all (length text - start) rest (omega (arith, ap length cut_there ∙ length-drop start text)))
      ∙ ap (take (length text - start)) cut_there

  past : drop (length text) text ≡ []
  past = drop_of_length-le text (omega arith)

  alone_there : split_at t (drop start text) ≡ content_of text open_here ∷ split_at t (drop (length text) text)
  alone_there =
      ap (split_at t) (sym cut_there)
      ∙ last_line t rest none some
      ∙ ap₂ (λ it others. unended it ∷ split_at t others) whole (sym past)

  others : (n at : ℕ) → numbered n at (split_at t (drop (length text) text)) ≡ []
  others n at = ap (λ it. numbered n at (split_at t it)) past

  only : lines_from t text number start ≡ line_of text open_here ∷ lines_from t text (number + 1) (length text)
  only =
      ap (numbered number start) alone_there
      ∙ ap (λ it. line_of text open_here ∷ it) (others (number + 1) _ ∙ sym (others (number + 1) (length text)))

  pub open_line : IsLineAt t text number start open_here
  open_line = record {
    numbered_so = refl;
    starts = refl;
    ordered = within;
    forward = below;
    inside = omega arith;
    within = omega arith;
    split = alone_there;
    next = only;
  }
