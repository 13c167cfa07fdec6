-- Where the first line feed of some bytes is.
use Rattle.std.proofs.Common.{◌≡◌, ◌<◌, ℕ, suc, ◌+◌, ◌==◌, Bool, true, false, not, cond, List, [], ◌∷◌, length, drop}
use Rattle.std.proofs.Common.{Some, None, nat_lt, refl, sym, ap, ◌∙◌, subst, arith}
use Rattle.std.proofs.lemmas.Option.{none-some, same_Some}
use Rattle.std.proofs.lemmas.Bool.{ltb-true}
use Rattle.std.specs.List.{position, position_or_len}
use Rattle.std.proofs.Common.{◌-◌}
use Rattle.std.proofs.Common.{slice_get}
use Rattle.std.proofs.lemmas.Bool.{eqb-true}
use Rattle.line_trees.proofs.ForCallers.{get_dropped}
use Rattle.line_search.specs.Candidates.{IsLineStart}

abbrev pub is_feed : ℕ → Bool
is_feed b = b == 10

pub first_at : (x : ℕ) (xs : List ℕ) (v : Bool) → is_feed x ≡ v →
    position_or_len is_feed (x ∷ xs) ≡ cond (not v) (1 + position_or_len is_feed xs) 0
first_at x xs v e = ap (λ b. cond (not b) (1 + position_or_len is_feed xs) 0) e

pub one_more : (n : ℕ) → 1 + n ≡ suc n
one_more n = omega arith

pub some_at : (b : Bool) (k n : ℕ) → cond b (Some k) None ≡ Some n → (b ≡ true) × (k ≡ n)
some_at true k n e = (refl, same_Some k n e)
some_at false k n e = absurd (none-some n e)

pub first_within : (text : List ℕ) (n : ℕ) → position is_feed text ≡ Some n → n < length text
first_within text n e =
    let at = some_at (nat_lt (position_or_len is_feed text) (length text)) (position_or_len is_feed text) n e in
    subst (λ k. k < length text) at.1 (ltb-true (position_or_len is_feed text) (length text) at.0)

-- ---- where the first line feed is
abbrev IsAtFeed : List ℕ → Type 0
IsAtFeed text = position_or_len is_feed text < length text → slice_get text (position_or_len is_feed text) ≡ Some 10

feed_by : (x : ℕ) (xs : List ℕ) → IsAtFeed xs → (v : Bool) → is_feed x ≡ v → IsAtFeed (x ∷ xs)
feed_by x xs rest true e few = ap (slice_get (x ∷ xs)) (first_at x xs true e) ∙ ap Some (eqb-true x 10 e)
feed_by x xs rest false e few =
    ap (slice_get (x ∷ xs)) (first_at x xs false e ∙ one_more (position_or_len is_feed xs))
    ∙ rest (omega (arith, few, first_at x xs false e))

pub feed_first : (text : List ℕ) → IsAtFeed text
feed_first [] few = absurd (omega (arith, few))
feed_first (x ∷ xs) few = feed_by x xs (feed_first xs) (is_feed x) refl few

pub feed_there : (text : List ℕ) (n : ℕ) → position is_feed text ≡ Some n → slice_get text n ≡ Some 10
feed_there text n e =
    let at = some_at (nat_lt (position_or_len is_feed text) (length text)) (position_or_len is_feed text) n e in
    sym (ap (slice_get text) at.1) ∙ feed_first text (ltb-true (position_or_len is_feed text) (length text) at.0)

-- ---- one line
pub starts_behind : (block text : List ℕ) (at len next : ℕ) → text ≡ drop at block → position is_feed text ≡ Some len →
    next ≡ at + (len + 1) → IsLineStart block next
starts_behind block text at len next rest found is some =
    let place : next - 1 ≡ at + len = omega (arith, is) in
    ap (slice_get block) place ∙ sym (get_dropped at block len) ∙ sym (ap (λ t. slice_get t len) rest) ∙ feed_there text len found
