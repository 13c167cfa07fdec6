-- If no group is kept, trees have none, none is noted, and so none has an error.
use Rattle.std.proofs.Common.{◌≡◌, ℕ, zero, suc, false, true, List, [], ◌∷◌, Some, None, refl, ap, ◌∙◌, subst, ⊎_elim}
use Rattle.search_types.specs.Groups.{Groups}
use Rattle.search_types.specs.GroupFaults.{GroupFault, group_fault}
use Rattle.hir_core.specs.Tree.{Tree, empty, literal, byte_class, char_class, look, repetition, capture, nothing, cat, never, alt}
use Rattle.thompson_nfa.specs.Configs.{is_any}
use Rattle.thompson_nfa.specs.NotedGroups.{with_groups_of, noted_from, HasGroup}
use Rattle.thompson_nfa.specs.declared.which_captures.WhichCaptures.{WhichCaptures}
use Rattle.thompson_nfa.specs.declared.which_captures.WhichCaptures.TheVariants as which

pub none_is_kept : (kept : WhichCaptures) → is_any kept ≡ false → kept ≡ which.None
none_is_kept which.All e = absurd (cc)
none_is_kept which.Implicit e = absurd (cc)
none_is_kept which.None e = refl

no_group : (index : ℕ) (x : Tree) → HasGroup which.None index x → ⊥
no_group index empty h = h
no_group index (literal bytes) h = h
no_group index (byte_class ranges) h = h
no_group index (char_class ranges) h = h
no_group index (look l) h = h
no_group index (repetition least most greedy x) h = no_group index x h
no_group index (capture other name x) h = ⊎_elim
    (λ (own : (index ≡ other) × (false ≡ true)). let no = own.1 in cc)
    (λ (in_x : HasGroup which.None index x). no_group index x in_x) h
no_group index nothing h = h
no_group index (cat x y) h = ⊎_elim
    (λ (in_x : HasGroup which.None index x). no_group index x in_x)
    (λ (in_y : HasGroup which.None index y). no_group index y in_y) h
no_group index never h = h
no_group index (alt x y) h = ⊎_elim
    (λ (in_x : HasGroup which.None index x). no_group index x in_x)
    (λ (in_y : HasGroup which.None index y). no_group index y in_y) h

pub none_noted : (p : ℕ) (x : Tree) (groups : Groups) → with_groups_of which.None p x groups ≡ groups
none_noted p empty groups = refl
none_noted p (literal bytes) groups = refl
none_noted p (byte_class ranges) groups = refl
none_noted p (char_class ranges) groups = refl
none_noted p (look l) groups = refl
none_noted p (repetition least None greedy x) groups = none_noted p x groups
none_noted p (repetition least (Some zero) greedy x) groups = refl
none_noted p (repetition least (Some (suc most)) greedy x) groups = none_noted p x groups
none_noted p (capture index name x) groups = none_noted p x groups
none_noted p nothing groups = refl
none_noted p (cat x y) groups = none_noted p y (with_groups_of which.None p x groups) ∙ none_noted p x groups
none_noted p never groups = refl
none_noted p (alt x y) groups = none_noted p y (with_groups_of which.None p x groups) ∙ none_noted p x groups

none_noted_from : (p : ℕ) (xs : List Tree) (groups : Groups) → noted_from which.None p xs groups ≡ groups
none_noted_from p [] groups = refl
none_noted_from p (x ∷ xs) groups =
    none_noted_from (suc p) xs (with_groups_of which.None p (capture 0 None x) groups) ∙ none_noted p (capture 0 None x) groups

pub no_group_kept : (kept : WhichCaptures) (index : ℕ) (x : Tree) → kept ≡ which.None → HasGroup kept index x → ⊥
no_group_kept kept index x none h =
    let P : WhichCaptures → Type 0 = λ w. HasGroup w index x in no_group index x (subst P none h)

pub no_groups_noted : (kept : WhichCaptures) (xs : List Tree) → kept ≡ which.None → noted_from kept 0 xs [] ≡ []
no_groups_noted kept xs none = ap (λ w. noted_from w 0 xs []) none ∙ none_noted_from 0 xs []

pub no_group_fault : (kept : WhichCaptures) (xs : List Tree) (fault : GroupFault) → kept ≡ which.None →
    group_fault (noted_from kept 0 xs []) ≡ Some fault → ⊥
no_group_fault kept xs fault none found =
    let no_fault : group_fault (noted_from kept 0 xs []) ≡ None = ap group_fault (no_groups_noted kept xs none) in
    absurd (cc)
