-- Haystacks of whole lines.
use Rattle.std.proofs.Common.{◌≡◌, ◌<◌, inl, inr, ℕ, zero, suc, ◌+◌, Bool, true, false, cond, List, [], ◌∷◌, ◌++◌, None, length, drop, take}
use Rattle.std.proofs.Common.{count_by, if◌then◌else◌, refl, sym, ap, ◌∙◌, subst, take-add, arith}
use Rattle.std.proofs.lemmas.List.{drop_all}
use Rattle.std.proofs.lemmas.List.Sums.{sum_by-append, sum_by-cons}
use Rattle.std.specs.List.{position}
use Rattle.line_search.specs.Lines.{SplitLine, ended, put_first, split_lines}
use Rattle.grep_core.specs.Skipping.{AreWhole}
use Rattle.line_search.proofs.ForCallers.{is_feed}
use Rattle.grep_core.proofs.BlockLemmas.{last_line}

lines_by : (x : ℕ) (xs : List ℕ) (v : Bool) → is_feed x ≡ v →
    split_lines (x ∷ xs) ≡ (if v then ended [] ∷ split_lines xs else put_first x (split_lines xs))
lines_by x xs v e = ap (λ b. if b then ended [] ∷ split_lines xs else put_first x (split_lines xs)) e

feeds_by : (x : ℕ) (xs : List ℕ) (v : Bool) → is_feed x ≡ v → count_by is_feed (x ∷ xs) ≡ cond v 1 0 + count_by is_feed xs
feeds_by x xs v e = sum_by-cons (λ b. cond (is_feed b) 1 0) x xs ∙ ap (λ b. cond b 1 0 + count_by is_feed xs) e

pub feeds_on : (text : List ℕ) (done len : ℕ) →
    count_by is_feed (take (done + len) text) ≡ count_by is_feed (take done text) + count_by is_feed (take len (drop done text))
feeds_on text done len =
    ap (count_by is_feed) (take-add done len text)
    ∙ sum_by-append (λ b. cond (is_feed b) 1 0) (take done text) (take len (drop done text))

-- ---- a haystack has a line
some_first : (b : ℕ) (lines : List SplitLine) → 0 < length (put_first b lines)
some_first b [] = omega arith
some_first b (line ∷ lines) = omega arith

some_by : (x : ℕ) (xs : List ℕ) (v : Bool) → is_feed x ≡ v → 0 < length (split_lines (x ∷ xs))
some_by x xs true e = subst (λ (lines : List SplitLine). 0 < length lines) (sym (lines_by x xs true e)) (omega arith)
some_by x xs false e = subst (λ (lines : List SplitLine). 0 < length lines) (sym (lines_by x xs false e)) (some_first x (split_lines xs))

some_lines : (first : List ℕ) → 0 < length (split_lines (first ++ 10 ∷ []))
some_lines [] = omega arith
some_lines (x ∷ xs) = some_by x (xs ++ 10 ∷ []) (is_feed x) refl

pub some_whole : (text : List ℕ) → AreWhole text → 0 < length text → 0 < length (split_lines text)
some_whole text (inl none) some = absurd (omega (arith, some, ap length none))
some_whole text (inr it) some = subst (λ (t : List ℕ). 0 < length (split_lines t)) (sym it.1) (some_lines it.0)

-- ---- its lines come before those of what follows
put_before : (b : ℕ) (lines more : List SplitLine) → 0 < length lines → put_first b (lines ++ more) ≡ put_first b lines ++ more
put_before b [] more some = absurd (omega (arith, some))
put_before b (line ∷ lines) more some = refl

joins_by : (x : ℕ) (xs more : List ℕ) (v : Bool) → is_feed x ≡ v →
    split_lines ((xs ++ 10 ∷ []) ++ more) ≡ split_lines (xs ++ 10 ∷ []) ++ split_lines more →
    split_lines (x ∷ ((xs ++ 10 ∷ []) ++ more)) ≡ split_lines (x ∷ (xs ++ 10 ∷ [])) ++ split_lines more
joins_by x xs more true e rest =
    lines_by x ((xs ++ 10 ∷ []) ++ more) true e
    ∙ ap (λ (lines : List SplitLine). ended [] ∷ lines) rest
    ∙ sym (ap (λ lines. lines ++ split_lines more) (lines_by x (xs ++ 10 ∷ []) true e))
joins_by x xs more false e rest =
    lines_by x ((xs ++ 10 ∷ []) ++ more) false e
    ∙ ap (put_first x) rest
    ∙ put_before x (split_lines (xs ++ 10 ∷ [])) (split_lines more) (some_lines xs)
    ∙ sym (ap (λ lines. lines ++ split_lines more) (lines_by x (xs ++ 10 ∷ []) false e))

joins : (first more : List ℕ) → split_lines ((first ++ 10 ∷ []) ++ more) ≡ split_lines (first ++ 10 ∷ []) ++ split_lines more
joins [] more = refl
joins (x ∷ xs) more = joins_by x xs more (is_feed x) refl (joins xs more)

pub whole_joins : (text more : List ℕ) → AreWhole text → split_lines (text ++ more) ≡ split_lines text ++ split_lines more
whole_joins text more (inl none) =
    ap (λ t. split_lines (t ++ more)) none ∙ sym (ap (λ t. split_lines t ++ split_lines more) none)
whole_joins text more (inr it) =
    ap (λ t. split_lines (t ++ more)) it.1 ∙ joins it.0 more ∙ sym (ap (λ t. split_lines t ++ split_lines more) it.1)

-- ---- it has as many lines as line feeds
length_put : (b : ℕ) (lines : List SplitLine) → 0 < length lines → length (put_first b lines) ≡ length lines
length_put b [] some = absurd (omega (arith, some))
length_put b (line ∷ lines) some = refl

counts_by : (x : ℕ) (xs : List ℕ) (v : Bool) → is_feed x ≡ v →
    0 < length (split_lines xs) → length (split_lines xs) ≡ count_by is_feed xs →
    length (split_lines (x ∷ xs)) ≡ count_by is_feed (x ∷ xs)
counts_by x xs true e some rest =
    let more : length (split_lines (x ∷ xs)) ≡ suc (length (split_lines xs)) = ap length (lines_by x xs true e) in
    omega (arith, more, rest, feeds_by x xs true e)
counts_by x xs false e some rest =
    let same : length (split_lines (x ∷ xs)) ≡ length (split_lines xs) =
    ap length (lines_by x xs false e) ∙ length_put x (split_lines xs) some in
    omega (arith, same, rest, feeds_by x xs false e)

counts : (first : List ℕ) → length (split_lines (first ++ 10 ∷ [])) ≡ count_by is_feed (first ++ 10 ∷ [])
counts [] = refl
counts (x ∷ xs) = counts_by x (xs ++ 10 ∷ []) (is_feed x) refl (some_lines xs) (counts xs)

pub whole_counts : (text : List ℕ) → AreWhole text → length (split_lines text) ≡ count_by is_feed text
whole_counts text (inl none) = ap (λ t. length (split_lines t)) none ∙ sym (ap (count_by is_feed) none)
whole_counts text (inr it) = ap (λ t. length (split_lines t)) it.1 ∙ counts it.0 ∙ sym (ap (count_by is_feed) it.1)

-- ---- and its bytes are those of its lines, each with a line feed
abbrev pub all_bytes : List SplitLine → ℕ
all_bytes [] = 0
all_bytes (line ∷ lines) = length line.bytes + 1 + all_bytes lines

bytes_put : (b : ℕ) (lines : List SplitLine) → 0 < length lines → all_bytes (put_first b lines) ≡ 1 + all_bytes lines
bytes_put b [] some = absurd (omega (arith, some))
bytes_put b (line ∷ lines) some = omega arith

bytes_by : (x : ℕ) (xs : List ℕ) (v : Bool) → is_feed x ≡ v → 0 < length (split_lines xs) → all_bytes (split_lines xs) ≡ length xs →
    all_bytes (split_lines (x ∷ xs)) ≡ length (x ∷ xs)
bytes_by x xs true e some rest =
    let more : all_bytes (split_lines (x ∷ xs)) ≡ 0 + 1 + all_bytes (split_lines xs) = ap all_bytes (lines_by x xs true e) in
    omega (arith, more, rest)
bytes_by x xs false e some rest =
    let more : all_bytes (split_lines (x ∷ xs)) ≡ 1 + all_bytes (split_lines xs) =
    ap all_bytes (lines_by x xs false e) ∙ bytes_put x (split_lines xs) some in
    omega (arith, more, rest)

bytes : (first : List ℕ) → all_bytes (split_lines (first ++ 10 ∷ [])) ≡ length (first ++ 10 ∷ [])
bytes [] = refl
bytes (x ∷ xs) = bytes_by x (xs ++ 10 ∷ []) (is_feed x) refl (some_lines xs) (bytes xs)

pub whole_bytes : (text : List ℕ) → AreWhole text → all_bytes (split_lines text) ≡ length text
whole_bytes text (inl none) = ap (λ t. all_bytes (split_lines t)) none ∙ sym (ap length none)
whole_bytes text (inr it) = ap (λ t. all_bytes (split_lines t)) it.1 ∙ bytes it.0 ∙ sym (ap length it.1)

-- ---- what is left of it
behind : (first : List ℕ) (n : ℕ) → AreWhole (drop n (first ++ 10 ∷ []))
behind first zero = inr (first, refl)
behind [] (suc n) = inl (drop_all (suc n) (10 ∷ []) (omega arith))
behind (x ∷ xs) (suc n) = behind xs n

pub whole_behind : (text : List ℕ) (n : ℕ) → AreWhole text → AreWhole (drop n text)
whole_behind text n (inl none) = inl (drop_all n text (omega (arith, ap length none)))
whole_behind text n (inr it) = subst (λ (t : List ℕ). AreWhole (drop n t)) (sym it.1) (behind it.0 n)

-- without a line feed it is empty
no_line : (text : List ℕ) (n : ℕ) → length text ≡ n → AreWhole text → position is_feed text ≡ None → n ≡ 0
no_line text zero is whole unended = refl
no_line text (suc n) is whole unended =
    let one : all_bytes (split_lines text) ≡ length text + 1 + 0 = ap all_bytes (last_line text unended (omega (arith, is))) in
    absurd (omega (arith, one, whole_bytes text whole))

pub whole_none : (text : List ℕ) → AreWhole text → position is_feed text ≡ None → length text ≡ 0
whole_none text whole unended = no_line text (length text) refl whole unended
