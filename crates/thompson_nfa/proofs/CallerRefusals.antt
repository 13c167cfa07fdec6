-- Which errors of a compile are left if no group is kept and the limit is below what all states take.
use Rattle.std.proofs.Common.{◌≡◌, ◌≢◌, inl, inr, ℕ, ◌+◌, ◌*◌, ◌<◌, ◌≤◌, false, ◌&&◌, List, length, Option, Some, refl, ap, ◌∙◌, subst}
use Rattle.std.proofs.Common.{arith}
use Rattle.std.proofs.Math.Bool.{and-false}
use Rattle.search_core.specs.Index.{greatest_index}
use Rattle.search_types.specs.declared.group_info_error.GroupInfoError.{GroupInfoError}
use Rattle.hir_core.specs.Tree.{Tree}
use Rattle.nfa_core.specs.declared.build_error.BuildError.{BuildError}
use Rattle.nfa_core.specs.declared.build_error.BuildError.TheVariants as error
use Rattle.thompson_nfa.specs.Configs.{Options, reverse_of, limit_of, captures_of, is_any, is_shrunk}
use Rattle.thompson_nfa.specs.Room.{list_room}
use Rattle.thompson_nfa.specs.RefusedTrees.{FitsStates, FailsGroups, RejectsTrees}
use Rattle.thompson_nfa.specs.declared.which_captures.WhichCaptures.TheVariants as which
use Rattle.thompson_nfa.proofs.Steps.NoGroups.{no_group_kept, no_group_fault}

-- groups cause no error
pub no_groups_refused : (o : Options) (xs : List Tree) (err : GroupInfoError) → captures_of o ≡ which.None → FailsGroups o xs err → ⊥
no_groups_refused o xs err none refused = elim refused [
  | inl fault ↦ no_group_fault (captures_of o) xs fault.0 none fault.1
  | inr group ↦ no_group_kept (captures_of o) group.1 group.2 none group.4
]

-- such a limit has no room for as many states as can be numbered
pub fits_no_limit : (limit : Option ℕ) (most : ℕ) → limit ≡ Some most → most < 24 * (greatest_index + 1) → FitsStates limit → ⊥
fits_no_limit limit most is low fits =
    let room : 24 * (greatest_index + 1) ≤ most = subst FitsStates is fits in
    absurd (omega arith)

-- Apart from a failed allocation, the only error is that the limit is exceeded, and the trees' room exceeds it.
pub limit_alone_refuses : (o : Options) (xs : List Tree) (e : BuildError) (limit : ℕ) → captures_of o ≡ which.None →
    limit_of o ≡ Some limit → limit < 24 * (greatest_index + 1) → length xs ≤ greatest_index + 1 → RejectsTrees o xs e →
    e ≢ error.NoMemory →
    (e ≡ error.ExceededSizeLimit limit) × (limit < 4096 * list_room (is_shrunk o) xs)
limit_alone_refuses o xs error.TooManyPatterns limit none is low few refused other = absurd (omega arith)
limit_alone_refuses o xs error.TooManyStates limit none is low few refused other =
    absurd (fits_no_limit (limit_of o) limit is low refused.1)
limit_alone_refuses o xs (error.ExceededSizeLimit reported) limit none is low few refused other =
    let same : reported ≡ limit = cc in
    (ap error.ExceededSizeLimit same, subst (λ (most : ℕ). most < 4096 * list_room (is_shrunk o) xs) same refused.1)
limit_alone_refuses o xs error.UnsupportedCaptures limit none is low few refused other =
    let no_captures : (reverse_of o && is_any (captures_of o)) ≡ false =
    ap (λ w. reverse_of o && is_any w) none ∙ and-false (reverse_of o) in
    absurd (cc)
limit_alone_refuses o xs (error.Captures err) limit none is low few refused other = absurd (no_groups_refused o xs err none refused.1)
limit_alone_refuses o xs error.NoMemory limit none is low few refused other = absurd (other refl)
