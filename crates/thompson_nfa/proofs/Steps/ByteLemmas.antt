-- The bytes that a builder had when a call failed, with what the call asked for.
use Rattle.std.proofs.Common.{ℕ, ◌*◌, ◌≤◌, List, [], ◌∷◌, length, arith}
use Rattle.std.specs.List.{sum_by}
use Rattle.std.proofs.lemmas.List.Sums.{sum_by-cons}
use Rattle.nfa_core.specs.BuilderStates.{DraftNode, Assembly, draft_bytes}
use Rattle.nfa_core.specs.declared.build_error.BuildError.{BuildError}
use Rattle.nfa_core.specs.declared.build_error.BuildError.TheVariants as error
use Rattle.thompson_nfa.specs.Refusals.{FailsStep, FailsGroup, ExceedsLimit}

-- each state takes 24 bytes at least
pub states_bytes : (drafts : List DraftNode) → 24 * length drafts ≤ sum_by draft_bytes drafts
states_bytes [] = omega arith
states_bytes (x ∷ xs) = omega (arith, states_bytes xs, sum_by-cons draft_bytes x xs)

pub step_bytes : (b : Assembly) (n bytes : ℕ) (e : BuildError) → 24 * n ≤ bytes → FailsStep b n bytes e →
    ExceedsLimit b bytes e
step_bytes b n bytes error.TooManyPatterns le r = absurd r
step_bytes b n bytes error.TooManyStates le r = omega (arith, r, le, states_bytes b.drafts)
step_bytes b n bytes (error.ExceededSizeLimit limit) le r = omega (arith, r.1)
step_bytes b n bytes error.UnsupportedCaptures le r = absurd r
step_bytes b n bytes (error.Captures err) le r = absurd r
step_bytes b n bytes error.NoMemory le r = omega arith

pub group_bytes : (p index : ℕ) (b : Assembly) (e : BuildError) → FailsGroup p index b e → ExceedsLimit b 24 e
group_bytes p index b error.TooManyPatterns r = absurd r
group_bytes p index b error.TooManyStates r = step_bytes b 1 24 error.TooManyStates (omega arith) r
group_bytes p index b (error.ExceededSizeLimit limit) r = step_bytes b 1 24 (error.ExceededSizeLimit limit) (omega arith) r
group_bytes p index b error.UnsupportedCaptures r = absurd r
group_bytes p index b (error.Captures err) r = omega arith
group_bytes p index b error.NoMemory r = omega arith
