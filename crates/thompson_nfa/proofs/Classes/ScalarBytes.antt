-- The bytes of a class of scalars, by whether it is ASCII, and of states that may be shared.
use Rattle.std.proofs.Common.{◌≡◌, ℕ, suc, ◌+◌, ◌*◌, ◌<◌, ◌≤◌, Bool, true, false, List, [], ◌∷◌, length, if◌then◌else◌, ap, arith}
use Rattle.std.specs.List.{sum_by}
use Rattle.std.proofs.lemmas.List.Sums.{sum_by-cons}
use Rattle.nfa_core.specs.BuilderStates.{DraftNode, Assembly, draft_at, draft_bytes}
use Rattle.thompson_nfa.specs.AsciiClasses.{is_ascii}
use Rattle.thompson_nfa.specs.ByteRoom.{Bound, at_least, at_most, sequences_bytes, scalar_bytes}
use Rattle.thompson_nfa.specs.Compiled.{Makes, Weighs, TakesBytes}
use Rattle.thompson_nfa.proofs.Steps.StepLemmas.{way_small}

-- states that were there take at least the bytes that they took
sums_kept : (xs ys : List DraftNode) → length xs ≤ length ys → ((q : ℕ) → q < length xs → draft_at ys q ≡ draft_at xs q) →
    sum_by draft_bytes xs ≤ sum_by draft_bytes ys
sums_kept [] ys l same = omega arith
sums_kept (x ∷ xs) [] l same = absurd (omega (arith, l))
sums_kept (x ∷ xs) (y ∷ ys) l same = omega (
  arith,
  sum_by-cons draft_bytes x xs,
  sum_by-cons draft_bytes y ys,
  ap draft_bytes (same 0 (omega arith)),
  sums_kept xs ys (omega (arith, l)) (λ q k. same (suc q) (omega (arith, k))),
)

-- a fragment whose states may be shared
pub shared_takes : (a b : Assembly) (s e n bytes most : ℕ) → Makes a b s e n → Weighs a b bytes → bytes + 4 ≤ most → TakesBytes a b e 0 most
shared_takes a b s e n bytes most m w le = record {
  least = omega (arith, sums_kept a.drafts b.drafts m.fragment.grows.longer m.fragment.grows.same);
  most = omega (arith, w, way_small b e, le);
}

abbrev if_ascii : Bool → Bound → List (ℕ × ℕ) → ℕ
if_ascii ascii b ranges = if ascii then 48 + 8 * length ranges else sequences_bytes b ranges

pub ascii_bytes : (b : Bound) (ranges : List (ℕ × ℕ)) → is_ascii ranges ≡ true → scalar_bytes b ranges ≡ 48 + 8 * length ranges
ascii_bytes b ranges is = ap (λ ascii. if_ascii ascii b ranges) is

pub other_bytes : (b : Bound) (ranges : List (ℕ × ℕ)) → is_ascii ranges ≡ false → scalar_bytes b ranges ≡ sequences_bytes b ranges
other_bytes b ranges is = ap (λ ascii. if_ascii ascii b ranges) is

module _ (a b : Assembly) (e : ℕ) (ranges : List (ℕ × ℕ)) (shrink : Bool) where
  pub ascii_takes : is_ascii ranges ≡ true → TakesBytes a b e (48 + 8 * length ranges) (48 + 8 * length ranges) →
      TakesBytes a b e (scalar_bytes at_least ranges) (scalar_bytes (at_most shrink) ranges)
  ascii_takes is t = record {
    least = omega (arith, t.least, ascii_bytes at_least ranges is);
    most = omega (arith, t.most, ascii_bytes (at_most shrink) ranges is);
  }

  pub other_takes : is_ascii ranges ≡ false → TakesBytes a b e (sequences_bytes at_least ranges) (sequences_bytes (at_most shrink) ranges) →
      TakesBytes a b e (scalar_bytes at_least ranges) (scalar_bytes (at_most shrink) ranges)
  other_takes is t = record {
    least = omega (arith, t.least, other_bytes at_least ranges is);
    most = omega (arith, t.most, other_bytes (at_most shrink) ranges is);
  }
