-- The test returns whether the body of every unbounded repetition consumes at least one byte.
use Rattle.std.proofs.Common.{◌≡◌, ◌↔◌, ℕ, Bool, true, List, [], ◌∷◌, All, IsTrue, Option, Some, None, refl, sym, ◌∙◌, ltb-true, lt-ltb}
use Rattle.std.proofs.lemmas.List.Elements.{All-nil, All-cons, All-head, All-tail}
use Rattle.hir_core.specs.Tree.{Tree, concat, empty, literal, byte_class, char_class, look, repetition, capture, nothing, cat, never, alt}
use Rattle.hir_core.specs.Facts.{minimum_len, IsAboveZero, LoopsRead}
use Rattle.thompson_nfa.specs.Compiled.{is_above_zero}
use Rattle.hir_regex.specs.Loops.{loops_read, first_empty_loop}
use Rattle.std.proofs.lemmas.Bool.{and_parts, and_from, ltb-false, not-false}
use Rattle.std.proofs.lemmas.List.Sums.{fails_before_first}
use Rattle.std.specs.List.{position, position_or_len}
use Rattle.std.proofs.Common.{false, not, if◌then◌else◌, length, nat_lt, get_or, arith}

is_above_zero_sound : (n : Option ℕ) → is_above_zero n ≡ true → IsAboveZero n
is_above_zero_sound None e = cc
is_above_zero_sound (Some n) e = ltb-true 0 n e

is_above_zero_complete : (n : Option ℕ) → IsAboveZero n → is_above_zero n ≡ true
is_above_zero_complete None h = elim h [ ]
is_above_zero_complete (Some n) h = lt-ltb 0 n h

pub loops_read_sound : (x : Tree) → loops_read x ≡ true → LoopsRead x
loops_read_sound empty e = tt
loops_read_sound (literal bytes) e = tt
loops_read_sound (byte_class ranges) e = tt
loops_read_sound (char_class ranges) e = tt
loops_read_sound (look k) e = tt
loops_read_sound (repetition min None greedy x) e =
    let b = and_parts (is_above_zero (minimum_len x)) (loops_read x) e in
    (is_above_zero_sound (minimum_len x) b.0, loops_read_sound x b.1)
loops_read_sound (repetition min (Some most) greedy x) e = loops_read_sound x e
loops_read_sound (capture index name x) e = loops_read_sound x e
loops_read_sound nothing e = tt
loops_read_sound (cat x y) e = let b = and_parts (loops_read x) (loops_read y) e in (loops_read_sound x b.0, loops_read_sound y b.1)
loops_read_sound never e = tt
loops_read_sound (alt x y) e = let b = and_parts (loops_read x) (loops_read y) e in (loops_read_sound x b.0, loops_read_sound y b.1)

pub loops_read_complete : (x : Tree) → LoopsRead x → loops_read x ≡ true
loops_read_complete empty l = refl
loops_read_complete (literal bytes) l = refl
loops_read_complete (byte_class ranges) l = refl
loops_read_complete (char_class ranges) l = refl
loops_read_complete (look k) l = refl
loops_read_complete (repetition min None greedy x) l =
    and_from (is_above_zero (minimum_len x)) (loops_read x) (is_above_zero_complete (minimum_len x) l.0) (loops_read_complete x l.1)
loops_read_complete (repetition min (Some most) greedy x) l = loops_read_complete x l
loops_read_complete (capture index name x) l = loops_read_complete x l
loops_read_complete nothing l = refl
loops_read_complete (cat x y) l = and_from (loops_read x) (loops_read y) (loops_read_complete x l.0) (loops_read_complete y l.1)
loops_read_complete never l = refl
loops_read_complete (alt x y) l = and_from (loops_read x) (loops_read y) (loops_read_complete x l.0) (loops_read_complete y l.1)

-- ---- of all trees of a list
all_sound : (xs : List Tree) → loops_read (concat xs) ≡ true → All LoopsRead xs
all_sound [] e = All-nil LoopsRead
all_sound (x ∷ xs) e =
    let b = and_parts (loops_read x) (loops_read (concat xs)) e in
    All-cons LoopsRead x xs (loops_read_sound x b.0) (all_sound xs b.1)

all_complete : (xs : List Tree) → All LoopsRead xs → loops_read (concat xs) ≡ true
all_complete [] all = refl
all_complete (x ∷ xs) all =
    and_from (loops_read x) (loops_read (concat xs)) (loops_read_complete x (All-head LoopsRead x xs all))
    (all_complete xs (All-tail LoopsRead x xs all))

pub all_told : (xs : List Tree) (reported : Bool) → reported ≡ loops_read (concat xs) → IsTrue reported ↔ All LoopsRead xs
all_told xs reported is = (λ on. all_sound xs (sym is ∙ on), λ all. is ∙ all_complete xs all)

-- ---- if none of a list fails a test
pub none_if : (b : Bool) (n : ℕ) → (if b then Some n else None) ≡ None → b ≡ false
none_if true n e = absurd cc
none_if false n e = refl

pub none_at : {X : Type 0} (test : X → Bool) (xs : List X) → position (λ x. not (test x)) xs ≡ None → All (λ x. test x ≡ true) xs
none_at test xs e k d less =
    let none = ltb-false (position_or_len (λ x. not (test x)) xs) (length xs)
    (none_if (nat_lt (position_or_len (λ x. not (test x)) xs) (length xs)) (position_or_len (λ x. not (test x)) xs) e) in
    not-false (test (get_or xs k d)) (fails_before_first (λ x. not (test x)) xs k d (omega (arith, none, less)))

pub all_of_none : (xs : List Tree) → first_empty_loop xs ≡ None → All LoopsRead xs
all_of_none xs none k d less = loops_read_sound (get_or xs k d) (none_at loops_read xs none k d less)
