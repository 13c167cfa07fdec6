use Rattle.std.proofs.Common.{◌≡◌, ℕ, ◌<◌, length, get_or}
use Rattle.literal_search.proofs.pair.Front.new.Given as goal

abbrev pub invariant-loop-k : goal.invariant-loop-k
invariant-loop-k l = (length l.bytes ≡ 32) × ((j : ℕ) → j < l.k → get_or l.bytes j 0 ≡ get_or l.literal j 0)
