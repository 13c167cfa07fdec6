-- The first line of a haystack, and its last one.
use Rattle.std.proofs.Common.{◌≡◌, ◌≤◌, ◌<◌, ℕ, zero, suc, ◌+◌, Bool, true, false, cond, List, [], ◌∷◌, ◌++◌, length, take, drop}
use Rattle.std.proofs.Common.{drop-drop, append-nil, nat_eq, Some, None, nat_lt, if◌then◌else◌, refl, sym, ap, ap₂, ◌∙◌, arith}
use Rattle.std.proofs.Transfers.{drop-appended}
use Rattle.std.proofs.lemmas.Option.{none-some}
use Rattle.std.proofs.lemmas.Bool.{ltb-true, ltb-false}
use Rattle.std.specs.List.{position, position_or_len}
use Rattle.line_search.specs.Lines.{SplitLine, ended, put_first, split_lines, unended}
use Rattle.line_search.proofs.ForCallers.{is_feed, first_at, one_more, some_at}

by_first : (x : ℕ) (xs more : List ℕ) (v : Bool) → is_feed x ≡ v →
    split_lines (x ∷ (xs ++ more)) ≡ (if v then ended [] ∷ split_lines (xs ++ more) else put_first x (split_lines (xs ++ more)))
by_first x xs more v e = ap (λ b. if b then ended [] ∷ split_lines (xs ++ more) else put_first x (split_lines (xs ++ more))) e

two_more : (n : ℕ) → (1 + n) + 1 ≡ suc (n + 1)
two_more n = omega arith

-- the first line of a haystack ends at its first line feed
abbrev IsCut : List ℕ → List ℕ → Type 0
IsCut more text =
    split_lines (text ++ more) ≡ ended (take (position_or_len is_feed text) text) ∷ split_lines
    (drop (position_or_len is_feed text + 1) text ++ more)

cut_by : (x : ℕ) (xs more : List ℕ) → (position_or_len is_feed xs < length xs → IsCut more xs) → (v : Bool) → is_feed x ≡ v →
    position_or_len is_feed (x ∷ xs) < length (x ∷ xs) → IsCut more (x ∷ xs)
cut_by x xs more rest true e few =
    by_first x xs more true e ∙ sym (ap (λ k. ended (take k (x ∷ xs)) ∷ split_lines (drop (k + 1) (x ∷ xs) ++ more)) (first_at x xs true e))
cut_by x xs more rest false e few =
    by_first x xs more false e
    ∙ ap (put_first x) (rest (omega (arith, few, first_at x xs false e)))
    ∙ sym (ap₂ (λ k j. ended (take k (x ∷ xs)) ∷ split_lines (drop j (x ∷ xs) ++ more))
    (first_at x xs false e ∙ one_more (position_or_len is_feed xs))
    (ap (λ k. k + 1) (first_at x xs false e) ∙ two_more (position_or_len is_feed xs)))

cut : (text more : List ℕ) → position_or_len is_feed text < length text → IsCut more text
cut [] more few = absurd (omega (arith, few))
cut (x ∷ xs) more few = cut_by x xs more (cut xs more) (is_feed x) refl few

pub first_line : (text more : List ℕ) (n : ℕ) → position is_feed text ≡ Some n →
    split_lines (text ++ more) ≡ ended (take n text) ∷ split_lines (drop (n + 1) text ++ more)
first_line text more n e =
    let at = some_at (nat_lt (position_or_len is_feed text) (length text)) (position_or_len is_feed text) n e in
    cut text more (ltb-true (position_or_len is_feed text) (length text) at.0)
    ∙ ap (λ k. ended (take k text) ∷ split_lines (drop (k + 1) text ++ more)) at.1

none_at : (b : Bool) (k : ℕ) → cond b (Some k) None ≡ None → b ≡ false
none_at true k e = absurd (none-some k (sym e))
none_at false k e = refl

alone_by : (x : ℕ) (xs : List ℕ) → (0 < length xs → length xs ≤ position_or_len is_feed xs → split_lines xs ≡ unended xs ∷ []) →
    (v : Bool) →
    is_feed x ≡ v →
    length (x ∷ xs) ≤ position_or_len is_feed (x ∷ xs) → split_lines (x ∷ xs) ≡ unended (x ∷ xs) ∷ []
alone_by x xs rest true e many = absurd (omega (arith, many, first_at x xs true e))
alone_by x [] rest false e many = ap (λ b. if b then ended [] ∷ [] else put_first x []) e
alone_by x (y ∷ ys) rest false e many =
    ap (λ b. if b then ended [] ∷ split_lines (y ∷ ys) else put_first x (split_lines (y ∷ ys))) e
    ∙ ap (put_first x) (rest (omega arith) (omega (arith, many, first_at x (y ∷ ys) false e)))

alone : (text : List ℕ) → 0 < length text → length text ≤ position_or_len is_feed text → split_lines text ≡ unended text ∷ []
alone [] some many = absurd (omega (arith, some))
alone (x ∷ xs) some many = alone_by x xs (alone xs) (is_feed x) refl many

pub last_line : (text : List ℕ) → position is_feed text ≡ None → 0 < length text → split_lines text ≡ unended text ∷ []
last_line [] e some = absurd (omega (arith, some))
last_line (x ∷ xs) e some =
    alone (x ∷ xs) some (ltb-false (position_or_len is_feed (x ∷ xs)) (length (x ∷ xs))
    (none_at (nat_lt (position_or_len is_feed (x ∷ xs)) (length (x ∷ xs))) (position_or_len is_feed (x ∷ xs)) e))

-- one round of the loop over a block's lines
pub turn : {P : Type 0} (reports : P → List SplitLine → List ℕ) (p q : P) (block more text piece all out new : List ℕ) (done len : ℕ) →
    text ≡ drop done block → position is_feed text ≡ Some len → piece ≡ take len text →
    all ≡ out ++ reports p (split_lines (drop done block ++ more)) →
    ((lines : List SplitLine) → out ++ reports p (ended piece ∷ lines) ≡ new ++ reports q lines) →
    all ≡ new ++ reports q (split_lines (drop (done + (len + 1)) block ++ more))
turn reports p q block more text piece all out new done len rest found cut so_far goes_on =
    so_far
    ∙ ap (λ t. out ++ reports p (split_lines (t ++ more))) (sym rest)
    ∙ ap (λ lines. out ++ reports p lines) (first_line text more len found)
    ∙ ap (λ line. out ++ reports p (ended line ∷ split_lines (drop (len + 1) text ++ more))) (sym cut)
    ∙ goes_on (split_lines (drop (len + 1) text ++ more))
    ∙ ap (λ t. new ++ reports q (split_lines (drop (len + 1) t ++ more))) rest
    ∙ ap (λ t. new ++ reports q (split_lines (t ++ more))) (drop-drop (len + 1) done block)

pub turn_counted : {P : Type 0} (counts : P → List SplitLine → ℕ) (p q : P) (block more text piece : List ℕ) (all done len : ℕ) →
    text ≡ drop done block → position is_feed text ≡ Some len → piece ≡ take len text →
    counts p (split_lines (drop done block ++ more)) ≡ all →
    ((lines : List SplitLine) → counts q lines ≡ counts p (ended piece ∷ lines)) →
    counts q (split_lines (drop (done + (len + 1)) block ++ more)) ≡ all
turn_counted counts p q block more text piece all done len rest found cut so_far goes_on =
    sym (ap (λ t. counts q (split_lines (drop (len + 1) t ++ more))) rest
    ∙ ap (λ t. counts q (split_lines (t ++ more))) (drop-drop (len + 1) done block))
    ∙ goes_on (split_lines (drop (len + 1) text ++ more))
    ∙ ap (λ line. counts p (ended line ∷ split_lines (drop (len + 1) text ++ more))) cut
    ∙ ap (counts p) (sym (first_line text more len found))
    ∙ ap (λ t. counts p (split_lines (t ++ more))) rest
    ∙ so_far

pub is_none : (b : Bool) (n : ℕ) → b ≡ nat_eq n 0 → b ≡ true → n ≡ 0
is_none b zero is e = refl
is_none b (suc n) is e = absurd (grind (arith, is, e))

pub is_some : (b : Bool) (n : ℕ) → b ≡ nat_eq n 0 → b ≡ false → 0 < n
is_some b zero is e = absurd (grind (arith, is, e))
is_some b (suc n) is e = omega arith

-- ---- bytes without a line feed
none_from : (text : List ℕ) → length text ≤ position_or_len is_feed text → (v : Bool) →
    nat_lt (position_or_len is_feed text) (length text) ≡ v → position is_feed text ≡ None
none_from text many true e = absurd (omega (arith, many, ltb-true (position_or_len is_feed text) (length text) e))
none_from text many false e = ap (λ b. cond b (Some (position_or_len is_feed text)) None) e

past_end : (text : List ℕ) → position is_feed text ≡ None → length text ≤ position_or_len is_feed text
past_end text e =
    ltb-false (position_or_len is_feed text) (length text)
    (none_at (nat_lt (position_or_len is_feed text) (length text)) (position_or_len is_feed text) e)

abbrev JoinsUnfed : List ℕ → List ℕ → Type 0
JoinsUnfed xs ys = length xs ≤ position_or_len is_feed xs → length ys ≤ position_or_len is_feed ys →
    length (xs ++ ys) ≤ position_or_len is_feed (xs ++ ys)

joins_by : (x : ℕ) (xs ys : List ℕ) → JoinsUnfed xs ys → (v : Bool) → is_feed x ≡ v → JoinsUnfed (x ∷ xs) ys
joins_by x xs ys rest true e one two = absurd (omega (arith, one, first_at x xs true e))
joins_by x xs ys rest false e one two =
    let more = rest (omega (arith, one, first_at x xs false e)) two in
    omega (arith, more, first_at x (xs ++ ys) false e)

joins_unfed : (xs ys : List ℕ) → JoinsUnfed xs ys
joins_unfed [] ys one two = two
joins_unfed (x ∷ xs) ys one two = joins_by x xs ys (joins_unfed xs ys) (is_feed x) refl one two

-- after a read
pub unfed_more : (read bytes after : List ℕ) → after ≡ read ++ bytes → position is_feed read ≡ None →
    position is_feed (drop (length read) after) ≡ None → position is_feed after ≡ None
unfed_more read bytes after is one two =
    let new : drop (length read) after ≡ bytes = drop-appended read after bytes is in
    let both = joins_unfed read bytes (past_end read one) (past_end bytes (ap (position is_feed) (sym new) ∙ two)) in
    ap (position is_feed) is
    ∙ none_from (read ++ bytes) both (nat_lt (position_or_len is_feed (read ++ bytes)) (length (read ++ bytes))) refl

pub unfed_same : (read bytes after : List ℕ) (n : ℕ) → after ≡ read ++ bytes → length bytes ≡ n → n ≡ 0 → position is_feed read ≡ None →
    position is_feed after ≡ None
unfed_same read [] after n is long none one = ap (position is_feed) (is ∙ append-nil read) ∙ one
unfed_same read (x ∷ xs) after n is long none one = absurd (omega (arith, long, none))

-- after whole lines
pub unfed_rest : (read bytes text rest : List ℕ) (first done : ℕ) → bytes ≡ read → text ≡ drop first bytes → rest ≡ drop (first + done) read →
    position is_feed (drop done text) ≡ None → position is_feed rest ≡ None
unfed_rest read bytes text rest first done is cut left none =
    ap (position is_feed) (left ∙ sym (drop-drop done first read) ∙ ap (λ l. drop done (drop first l)) (sym is) ∙ ap (drop done) (sym cut)) ∙ none
