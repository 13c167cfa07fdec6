-- Alternations of literals: how many states they take, and that they have no groups.
use Rattle.std.proofs.Common.{◌≡◌, ℕ, ◌+◌, Bool, true, nat_lt, List, [], ◌∷◌, length, refl, sym, ap, ap₂, ◌∙◌, subst, arith}
use Rattle.std.specs.List.{list_all}
use Rattle.std.proofs.lemmas.Bool.{and_parts}
use Rattle.search_types.specs.Groups.{Groups}
use Rattle.hir_core.specs.Tree.{Tree, empty, literal, byte_class, char_class, look, repetition, capture, nothing, cat, never, alt}
use Rattle.hir_core.specs.Tree.{alternation}
use Rattle.hir_core.specs.Facts.{count, capped}
use Rattle.nfa_core.specs.BuilderStates.{Assembly}
use Rattle.nfa_core.specs.declared.build_error.BuildError.{BuildError}
use Rattle.thompson_nfa.specs.Compiled.{Makes}
use Rattle.thompson_nfa.specs.LiteralParts.{is_literal, are_literals}
use Rattle.thompson_nfa.specs.NotedGroups.{with_groups_of}
use Rattle.thompson_nfa.specs.Refusals.{Quits, FailsFragment}
use Rattle.thompson_nfa.specs.Room.{room}
use Rattle.thompson_nfa.specs.declared.which_captures.WhichCaptures.{WhichCaptures}
use Rattle.thompson_nfa.proofs.Steps.ProgressLemmas.{refuses}

-- ---- each part is a literal

literal_room : (shrink : Bool) (x : Tree) → is_literal x ≡ true → room shrink x ≡ count x
literal_room shrink empty is = absurd (cc)
literal_room shrink (literal bytes) is = refl
literal_room shrink (byte_class ranges) is = absurd (cc)
literal_room shrink (char_class ranges) is = absurd (cc)
literal_room shrink (look l) is = absurd (cc)
literal_room shrink (repetition low most greedy x) is = absurd (cc)
literal_room shrink (capture index name x) is = absurd (cc)
literal_room shrink nothing is = absurd (cc)
literal_room shrink (cat x y) is = absurd (cc)
literal_room shrink never is = absurd (cc)
literal_room shrink (alt x y) is = absurd (cc)

literal_noted : (kept : WhichCaptures) (p : ℕ) (x : Tree) (groups : Groups) → is_literal x ≡ true → with_groups_of kept p x groups ≡ groups
literal_noted kept p empty groups is = absurd (cc)
literal_noted kept p (literal bytes) groups is = refl
literal_noted kept p (byte_class ranges) groups is = absurd (cc)
literal_noted kept p (char_class ranges) groups is = absurd (cc)
literal_noted kept p (look l) groups is = absurd (cc)
literal_noted kept p (repetition low most greedy x) groups is = absurd (cc)
literal_noted kept p (capture index name x) groups is = absurd (cc)
literal_noted kept p nothing groups is = absurd (cc)
literal_noted kept p (cat x y) groups is = absurd (cc)
literal_noted kept p never groups is = absurd (cc)
literal_noted kept p (alt x y) groups is = absurd (cc)

all_room : (shrink : Bool) (xs : List Tree) → list_all is_literal xs ≡ true → room shrink (alternation xs) ≡ count (alternation xs)
all_room shrink [] all = refl
all_room shrink (x ∷ xs) all =
    let both = and_parts (is_literal x) (list_all is_literal xs) all in
    ap₂ (λ m n. capped (m + n)) (literal_room shrink x both.0) (all_room shrink xs both.1)

all_noted : (kept : WhichCaptures) (p : ℕ) (xs : List Tree) (groups : Groups) → list_all is_literal xs ≡ true →
    with_groups_of kept p (alternation xs) groups ≡ groups
all_noted kept p [] groups all = refl
all_noted kept p (x ∷ xs) groups all =
    let both = and_parts (is_literal x) (list_all is_literal xs) all in
    ap (with_groups_of kept p (alternation xs)) (literal_noted kept p x groups both.0) ∙ all_noted kept p xs groups both.1

only_literals : (xs : List Tree) → are_literals xs ≡ true → list_all is_literal xs ≡ true
only_literals xs are = (and_parts (nat_lt 1 (length xs)) (list_all is_literal xs) are).1

-- they take as many states whether classes are shrunk or not
pub literals_room : (shrink : Bool) (xs : List Tree) → are_literals xs ≡ true → room shrink (alternation xs) ≡ count (alternation xs)
literals_room shrink xs are = all_room shrink xs (only_literals xs are)

-- they have no groups
pub literals_noted : (kept : WhichCaptures) (p : ℕ) (xs : List Tree) (old now : Groups) → are_literals xs ≡ true → now ≡ old →
    now ≡ with_groups_of kept p (alternation xs) old
literals_noted kept p xs old now are same = same ∙ sym (all_noted kept p xs old (only_literals xs are))

pub literals_made : (shrink : Bool) (a b : Assembly) (s e : ℕ) (xs : List Tree) → are_literals xs ≡ true →
    Makes a b s e (count (alternation xs)) → Makes a b s e (room shrink (alternation xs))
literals_made shrink a b s e xs are m = let P : ℕ → Type 0 = λ n. Makes a b s e n in subst P (sym (literals_room shrink xs are)) m

pub literals_refused : (kept : WhichCaptures) (shrink : Bool) (a b : Assembly) (xs : List Tree) (err : BuildError) →
    are_literals xs ≡ true → Quits a b (count (alternation xs)) err →
    FailsFragment kept a b (room shrink (alternation xs)) (alternation xs) err
literals_refused kept shrink a b xs err are q = let same = literals_room shrink xs are in
    refuses kept (room shrink (alternation xs)) (alternation xs) q (omega arith)
