-- The looks that the steps of a compile add to a builder's states.
use Rattle.std.proofs.Common.{◌≡◌, ℕ, zero, suc, ◌<◌, ◌≤◌, Bool, true, false, ◌||◌, List, [], ◌∷◌, ◌++◌, length, map, Some, refl, sym, ap}
use Rattle.std.proofs.Common.{ap₂, ◌∙◌, arith, ⊎_elim}
use Rattle.std.specs.List.{list_any}
use Rattle.std.proofs.lemmas.Bool.{cases_eq}
use Rattle.std.proofs.Math.Bool.{or-false}
use Rattle.look_core.specs.declared.look.Look.{Look}
use Rattle.search_types.specs.Groups.{Groups}
use Rattle.hir_core.specs.Tree.{Tree, repetition, alternation, concat}
use Rattle.hir_core.specs.BySequences.{sequence_tree}
use Rattle.nfa_core.specs.BuilderStates.{DraftNode, empty_draft, range_draft, sparse_draft, look_draft, capture_start_draft}
use Rattle.nfa_core.specs.BuilderStates.{capture_end_draft, union_draft, union_reverse_draft, fail_draft, match_draft, Assembly, draft_at}
use Rattle.nfa_core.specs.BuilderStates.{patched}
use Rattle.thompson_nfa.specs.Added.{AddsDraft, Led}
use Rattle.thompson_nfa.specs.Choice.{no_choice}
use Rattle.thompson_nfa.specs.Compiled.{Grows, AllTame, is_barred, is_look, looks_in, uses}
use Rattle.thompson_nfa.specs.LiteralStates.{spelt_literal, literals}
use Rattle.thompson_nfa.specs.Shared.{read_tree}

-- ---- truth values

pub or_once : (a b : Bool) → ((a || b) || b) ≡ (a || b)
or_once true true = refl
or_once true false = refl
or_once false true = refl
or_once false false = refl

pub or_twice : (a : Bool) → a ≡ (a || a)
or_twice true = refl
or_twice false = refl

pub or_grouped : (a b c : Bool) → ((a || b) || c) ≡ (a || (b || c))
or_grouped true b c = refl
or_grouped false b c = refl

pub or_turned : (a b : Bool) → (a || b) ≡ (b || a)
or_turned true true = refl
or_turned true false = refl
or_turned false true = refl
or_turned false false = refl

-- ---- lists of states

-- further states that don't pass the test make no difference
pub any_more : (test : DraftNode → Bool) (xs ys : List DraftNode) → length xs ≤ length ys →
    ((q : ℕ) → q < length xs → test (draft_at ys q) ≡ test (draft_at xs q)) →
    ((q : ℕ) → length xs ≤ q → q < length ys → test (draft_at ys q) ≡ false) → list_any test ys ≡ list_any test xs
any_more test [] [] l same none = refl
any_more test [] (y ∷ ys) l same none =
    ap₂ (λ (a b : Bool). a || b) (none 0 (omega arith) (omega arith))
    (any_more test [] ys (omega arith) (λ q h. absurd (omega arith)) (λ q h k. none (suc q) (omega arith) (omega arith)))
any_more test (x ∷ xs) [] l same none = absurd (omega arith)
any_more test (x ∷ xs) (y ∷ ys) l same none =
    ap₂ (λ (a b : Bool). a || b) (same 0 (omega arith))
    (any_more test xs ys (omega arith) (λ q h. same (suc q) (omega arith)) (λ q h k. none (suc q) (omega arith) (omega arith)))

-- one more state
any_one : (test : DraftNode → Bool) (xs ys : List DraftNode) → length ys ≡ suc (length xs) →
    ((q : ℕ) → q < length xs → test (draft_at ys q) ≡ test (draft_at xs q)) →
    list_any test ys ≡ (list_any test xs || test (draft_at ys (length xs)))
any_one test [] [] l same = absurd (omega arith)
any_one test [] (y ∷ []) l same = or-false (test y)
any_one test [] (y ∷ z ∷ ys) l same = absurd (omega arith)
any_one test (x ∷ xs) [] l same = absurd (omega arith)
any_one test (x ∷ xs) (y ∷ ys) l same =
    ap₂ (λ (a b : Bool). a || b) (same 0 (omega arith)) (any_one test xs ys (omega arith) (λ q h. same (suc q) (omega arith)))
    ∙ sym (or_grouped (test x) (list_any test xs) (test (draft_at ys (length xs))))

pub look_patched : (l : Look) (to : ℕ) (draft : DraftNode) → is_look l (patched to draft) ≡ is_look l draft
look_patched l to (empty_draft next) = refl
look_patched l to (range_draft low high next) = refl
look_patched l to (sparse_draft ranges) = refl
look_patched l to (look_draft m next) = refl
look_patched l to (capture_start_draft pattern group next) = refl
look_patched l to (capture_end_draft pattern group next) = refl
look_patched l to (union_draft names) = refl
look_patched l to (union_reverse_draft names) = refl
look_patched l to fail_draft = refl
look_patched l to (match_draft pattern) = refl

pub plain_look : (l : Look) (draft : DraftNode) → is_barred true draft ≡ false → is_look l draft ≡ false
plain_look l (empty_draft next) e = refl
plain_look l (range_draft low high next) e = refl
plain_look l (sparse_draft ranges) e = refl
plain_look l (look_draft m next) e = cc
plain_look l (capture_start_draft pattern group next) e = refl
plain_look l (capture_end_draft pattern group next) e = refl
plain_look l (union_draft names) e = refl
plain_look l (union_reverse_draft names) e = refl
plain_look l fail_draft e = refl
plain_look l (match_draft pattern) e = refl

-- ---- steps of a builder

-- the states have no looks but those that they had
abbrev pub Quiet : Assembly → Assembly → Type 0
Quiet a b = (l : Look) → looks_in b.drafts l ≡ looks_in a.drafts l

pub quiet_led : {a b : Assembly} {from to : ℕ} → Led a b from to → Quiet a b
quiet_led {a} {b} {from} {to} led l =
    let size = led.size in
    any_more (is_look l) a.drafts b.drafts (omega arith)
    (λ q h. ⊎_elim (λ (e : q ≡ from). ap (λ k. is_look l (draft_at b.drafts k)) e ∙ ap (is_look l) led.here
    ∙ look_patched l to (draft_at a.drafts from) ∙ ap (λ k. is_look l (draft_at a.drafts k)) (sym e))
    (λ (ne : q ≡ from → ⊥). ap (is_look l) (led.same q ne)) (cases_eq q from))
    (λ q h k. absurd (omega arith))

pub looks_added : {a b : Assembly} {id : ℕ} {draft : DraftNode} {groups : Groups} → AddsDraft a b id draft groups → (l : Look) →
    looks_in b.drafts l ≡ (looks_in a.drafts l || is_look l draft)
looks_added {a} {b} {id} {draft} {groups} x l =
    let size = x.size in
    any_one (is_look l) a.drafts b.drafts (omega arith) (λ q h. ap (is_look l) (x.grows.same q h))
    ∙ ap (λ (k : ℕ). looks_in a.drafts l || is_look l (draft_at b.drafts k)) (sym x.is)
    ∙ ap (λ (p : DraftNode). looks_in a.drafts l || is_look l p) x.here

pub quiet_added : {a b : Assembly} {id : ℕ} {draft : DraftNode} {groups : Groups} → AddsDraft a b id draft groups →
    ((l : Look) → is_look l draft ≡ false) → Quiet a b
quiet_added {a} {b} {id} {draft} {groups} x none l = looks_added x l ∙ ap (λ (k : Bool). looks_in a.drafts l || k) (none l)
    ∙ or-false (looks_in a.drafts l)

pub quiet_choice : {a b : Assembly} {id : ℕ} {groups : Groups} (greedy : Bool) → AddsDraft a b id (no_choice greedy) groups → Quiet a b
quiet_choice true x l = quiet_added x (λ k. refl) l
quiet_choice false x l = quiet_added x (λ k. refl) l

pub quiet_plain : {a b : Assembly} → Grows a b → AllTame true (length a.drafts) b → Quiet a b
quiet_plain {a} {b} grows tame l =
    any_more (is_look l) a.drafts b.drafts grows.longer (λ q h. ap (is_look l) (grows.same q h))
    (λ q h k. plain_look l (draft_at b.drafts q) (tame q h k).not_barred)

-- ---- trees

-- the states have the looks that they had, and those that the tree uses
abbrev pub AddsLooks : Bool → Assembly → Assembly → Tree → Type 0
AddsLooks back a b x = (l : Look) → looks_in b.drafts l ≡ (looks_in a.drafts l || uses back x l)

pub adds_none : (back : Bool) (x : Tree) (a b : Assembly) → Quiet a b → ((l : Look) → uses back x l ≡ false) → AddsLooks back a b x
adds_none back x a b q none l = q l ∙ sym (or-false (looks_in a.drafts l)) ∙ ap (λ (k : Bool). looks_in a.drafts l || k) (sym (none l))

-- quiet steps before and after
pub adds_around : (a b c d : Assembly) (x : Tree) → Quiet a b → b.reverse ≡ a.reverse → AddsLooks b.reverse b c x → Quiet c d →
    AddsLooks a.reverse a d x
adds_around a b c d x first same body last l =
    last l ∙ body l ∙ ap₂ (λ (p q : Bool). p || q) (first l) (ap (λ (r : Bool). uses r x l) same)

pub adds_both : (a b c : Assembly) (x y z : Tree) → AddsLooks a.reverse a b x → b.reverse ≡ a.reverse → AddsLooks b.reverse b c y →
    ((l : Look) → uses a.reverse z l ≡ (uses a.reverse x l || uses a.reverse y l)) → AddsLooks a.reverse a c z
adds_both a b c x y z first same second all l =
    second l ∙ ap₂ (λ (p q : Bool). p || q) (first l) (ap (λ (r : Bool). uses r y l) same)
    ∙ or_grouped (looks_in a.drafts l) (uses a.reverse x l) (uses a.reverse y l)
    ∙ ap (λ (k : Bool). looks_in a.drafts l || k) (sym (all l))

pub uses_alternation : (back : Bool) (xs : List Tree) (x : Tree) (l : Look) →
    uses back (alternation (xs ++ x ∷ [])) l ≡ (uses back (alternation xs) l || uses back x l)
uses_alternation back [] x l = or-false (uses back x l)
uses_alternation back (y ∷ xs) x l =
    ap (λ (k : Bool). uses back y l || k) (uses_alternation back xs x l)
    ∙ sym (or_grouped (uses back y l) (uses back (alternation xs) l) (uses back x l))

pub uses_concat : (back : Bool) (xs ys : List Tree) (l : Look) →
    uses back (concat (xs ++ ys)) l ≡ (uses back (concat xs) l || uses back (concat ys) l)
uses_concat back [] ys l = refl
uses_concat back (x ∷ xs) ys l =
    ap (λ (k : Bool). uses back x l || k) (uses_concat back xs ys l)
    ∙ sym (or_grouped (uses back x l) (uses back (concat xs) l) (uses back (concat ys) l))

-- ---- trees without looks

pub uses_each_none : {A : Type 0} (back : Bool) (l : Look) (tree : A → Tree) → ((a : A) → uses back (tree a) l ≡ false) → (xs : List A) →
    uses back (alternation (map tree xs)) l ≡ false
uses_each_none {A} back l tree none [] = refl
uses_each_none {A} back l tree none (x ∷ xs) = ap₂ (λ (a b : Bool). a || b) (none x) (uses_each_none back l tree none xs)

pub uses_sequence : (back : Bool) (l : Look) (rs : List (ℕ × ℕ)) → uses back (sequence_tree rs) l ≡ false
uses_sequence back l [] = refl
uses_sequence back l (r ∷ rs) = uses_sequence back l rs

pub uses_sequences : (back : Bool) (l : Look) (qs : List (List (ℕ × ℕ))) → uses back (alternation (map sequence_tree qs)) l ≡ false
uses_sequences back l qs = uses_each_none back l sequence_tree (λ rs. uses_sequence back l rs) qs

uses_read : (back is_reverse : Bool) (l : Look) (q : List (ℕ × ℕ)) → uses back (read_tree is_reverse q) l ≡ false
uses_read back is_reverse l [] = refl
uses_read back false l (r ∷ q) = uses_read back false l q
uses_read back true l (r ∷ q) = ap (λ (b : Bool). b || false) (uses_read back true l q)

pub uses_reads : (back is_reverse : Bool) (l : Look) (qs : List (List (ℕ × ℕ))) →
    uses back (alternation (map (read_tree is_reverse) qs)) l ≡ false
uses_reads back is_reverse l qs = uses_each_none back l (read_tree is_reverse) (λ q. uses_read back is_reverse l q) qs

pub uses_literals : (back is_reverse : Bool) (l : Look) (ws : List (List ℕ)) → uses back (literals is_reverse ws) l ≡ false
uses_literals back is_reverse l ws = uses_each_none back l (spelt_literal is_reverse) (λ w. refl) ws

-- ---- repetitions

pub left_used : (back greedy : Bool) (left : ℕ) (x : Tree) (l : Look) (a : Bool) →
    ((a || uses back x l) || uses back (repetition 0 (Some left) greedy x) l) ≡ (a || uses back x l)
left_used back greedy zero x l a = or-false (a || uses back x l)
left_used back greedy (suc left) x l a = or_once a (uses back x l)
