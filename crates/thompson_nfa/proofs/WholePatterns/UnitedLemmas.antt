-- All patterns, and the state that leads to them.
use Rattle.std.proofs.Common.{◌≡◌, inl, inr, ℕ, zero, suc, ◌+◌, ◌≤◌, true, List, [], ◌∷◌, length, slice_get, Some, refl, sym, ap, ◌∙◌}
use Rattle.std.proofs.Common.{subst, arith}
use Rattle.hir_core.specs.Tree.{Tree}
use Rattle.nfa_core.specs.BuilderStates.{DraftNode, Assembly, union_draft, fail_draft, draft_at, patched}
use Rattle.nfa_core.specs.Renaming.{stands_for}
use Rattle.nfa_core.specs.declared.build_error.BuildError.{BuildError}
use Rattle.thompson_nfa.specs.Added.{AddsDraft, Led}
use Rattle.thompson_nfa.specs.Choice.{no_choice}
use Rattle.thompson_nfa.specs.Compiled.{IsTame}
use Rattle.thompson_nfa.specs.Patterns.{HasPatterns, HasAll, LeadsToPatterns, LeadsToFurther, FailsPatterns, room_for}
use Rattle.thompson_nfa.specs.Room.{room}
use Rattle.thompson_nfa.specs.declared.compiling.How.{How}
use Rattle.thompson_nfa.specs.declared.which_captures.WhichCaptures.{WhichCaptures}
use Rattle.thompson_nfa.proofs.Fragments.LeafLemmas.{tame_none}
use Rattle.thompson_nfa.proofs.WholePatterns.FurtherLemmas.{patterns_none, hole_moved, hole_closed, patterns_added, patterns_led}
use Rattle.thompson_nfa.proofs.WholePatterns.FurtherLemmas.{patterns_joined}
use Rattle.thompson_nfa.proofs.WholePatterns.UnionLemmas.{later_refuse}

patterns_wider : (which : WhichCaptures) (hole : ℕ) (a b : Assembly) (ss : List ℕ) (xs : List Tree) (n m spare less : ℕ) → n ≤ m →
    less ≤ spare → HasPatterns which hole a b ss xs n spare →
    HasPatterns which hole a b ss xs m less
patterns_wider which hole a b ss xs n m spare less more fewer h = record {
  settings = h.settings;
  starts_are = h.starts_are;
  as_many = h.as_many;
  groups = h.groups;
  known_more = h.known_more;
  longer = h.longer;
  same = h.same;
  starts_new = h.starts_new;
  starts_there = h.starts_there;
  accept = h.accept;
  stands = h.stands;
  named = h.named;
  known = h.known;
  numbered = h.numbered;
  one_match = h.one_match;
  states = omega (arith, h.states, more);
  bytes = omega (arith, h.bytes, fewer);
  looks = h.looks;
  last = h.last;
}

-- ---- no pattern, and one

pub none_compiled : (how : How) (a b : Assembly) (xs : List Tree) (id : ℕ) → length xs ≡ 0 → AddsDraft a b id fail_draft a.groups →
    LeadsToPatterns how.which a b id xs (room_for how.shrink xs + 1)
none_compiled how a b [] id none x =
    let is = x.is in let size = x.size in (
      [],
      hole_closed how.which a b [] [] 1 0 id
          (patterns_added how.which a a b [] [] 0 0 0 id fail_draft (patterns_none how.which (length a.drafts) a) x (omega arith)
          (λ l. refl)) (omega arith)
          (λ table e. ap stands_for (e ∙ x.here))
          (let P : DraftNode → Type 0 = λ draft. IsTame true b draft in subst P (sym x.here) (tame_none b fail_draft refl refl refl)),
      inr (inr (refl, x.here)),
      omega arith,
      omega arith,
      record { hole = id; hole_is = inl refl; accept = λ table hold. tt },
    )
none_compiled how a b (y ∷ ys) id none x = absurd (omega arith)

pub one_compiled : (how : How) (a b : Assembly) (xs rest : List Tree) (x : Tree) (s : ℕ) → xs ≡ x ∷ rest → length rest ≡ 0 →
    HasAll how.which a b (s ∷ []) (x ∷ []) (room how.shrink x + 3) 4 →
    LeadsToPatterns how.which a b s xs (room_for how.shrink xs + 1)
one_compiled how a b xs [] x s is none h =
    let P : List Tree → Type 0 = λ zs. LeadsToPatterns how.which a b s zs (room_for how.shrink zs + 1) in
    subst P (sym is) (
      s ∷ [],
      patterns_wider how.which (length b.drafts) a b (s ∷ []) (x ∷ []) (room how.shrink x + 3) (room_for how.shrink (x ∷ []) + 1) 4 0
          (omega arith) (omega arith) h,
      inl refl,
      h.starts_there 0 0 (omega arith),
      h.starts_new 0 0 (omega arith),
      record { hole = length b.drafts; hole_is = inr refl; accept = λ table hold. h.accept table hold },
    )
one_compiled how a b xs (y ∷ ys) x s is none h = absurd (omega arith)

pub second_refused : (how : How) (a b : Assembly) (xs ys rest : List Tree) (x y : Tree) (s : ℕ) (e : BuildError) → xs ≡ x ∷ ys →
    ys ≡ y ∷ rest → HasAll how.which a b (s ∷ []) (x ∷ []) (room how.shrink x + 3) 4 →
    FailsPatterns how.which b (room how.shrink y + 3) (y ∷ []) e → FailsPatterns how.which a (room_for how.shrink xs + 1) xs e
second_refused how a b xs ys rest x y s e is more h r =
    let all : xs ≡ x ∷ y ∷ rest = is ∙ ap (λ (zs : List Tree). x ∷ zs) more in
    let P : List Tree → Type 0 = λ zs. FailsPatterns how.which a (room_for how.shrink zs + 1) zs e in
    let inside : (i : ℕ) (z : Tree) → slice_get (y ∷ []) i ≡ Some z → slice_get (x ∷ y ∷ rest) (1 + i) ≡ Some z =
    λ i z. elim i as (λ k. slice_get (y ∷ []) k ≡ Some z → slice_get (x ∷ y ∷ rest) (1 + k) ≡ Some z) [
      | zero ↦ λ here. here
      | suc k ↦
          λ none. absurd (cc)
    ] in
    subst P (sym all) (later_refuse (room how.shrink y + 3) (room_for how.shrink (x ∷ y ∷ rest) + 1) (y ∷ []) (x ∷ y ∷ rest) e h
    (omega arith) inside r)

-- ---- two and more

module _ (how : How) (a b c d e f : Assembly) (x y : Tree) (s t u : ℕ)
    (first : HasAll how.which a b (s ∷ []) (x ∷ []) (room how.shrink x + 3) 4)
    (second : HasAll how.which b c (t ∷ []) (y ∷ []) (room how.shrink y + 3) 4)
    (added : AddsDraft c d u (no_choice true) c.groups) (led : Led d e u s) (led_2 : Led e f u t) where
  two : HasAll how.which a c (s ∷ t ∷ []) (x ∷ y ∷ []) ((room how.shrink x + 3) + (room how.shrink y + 3)) (4 + 4)
  two = let l = first.longer in let m = second.longer in
      patterns_joined how.which (length c.drafts) a b c (s ∷ []) (t ∷ []) (x ∷ []) (y ∷ []) (room how.shrink x + 3)
      (room how.shrink y + 3) 4 4
      (hole_moved how.which a b (s ∷ []) (x ∷ []) (room how.shrink x + 3) 4 (length c.drafts) (λ q low high same. omega arith) first) second

  pub united : HasPatterns how.which u a f (s ∷ t ∷ []) (x ∷ y ∷ []) ((room how.shrink x + 3) + (room how.shrink y + 3) + 1) 0
  united =
      let n : ℕ = (room how.shrink x + 3) + (room how.shrink y + 3) in
      patterns_led how.which a e f (s ∷ t ∷ []) (x ∷ y ∷ []) (n + 1) 4 0 u t
      (patterns_led how.which a d e (s ∷ t ∷ []) (x ∷ y ∷ []) (n + 1) 8 4 u s
      (patterns_added how.which a c d (s ∷ t ∷ []) (x ∷ y ∷ []) n 8 8 u (no_choice true) two added (omega arith) (λ l. refl)) led
      (omega arith)) led_2 (omega arith)

  union_here : draft_at f.drafts u ≡ union_draft (s ∷ t ∷ [])
  union_here = led_2.here ∙ ap (patched t) (led.here ∙ ap (patched s) added.here)

  pub further_refused : (xs ys rest : List Tree) (err : BuildError) → xs ≡ x ∷ ys → ys ≡ y ∷ rest →
      FailsPatterns how.which f (room_for how.shrink rest) rest err → FailsPatterns how.which a (room_for how.shrink xs + 1) xs err
  further_refused xs ys rest err is more r =
      let all : xs ≡ x ∷ y ∷ rest = is ∙ ap (λ (zs : List Tree). x ∷ zs) more in
      let P : List Tree → Type 0 = λ zs. FailsPatterns how.which a (room_for how.shrink zs + 1) zs err in
      subst P (sym all) (later_refuse (room_for how.shrink rest) (room_for how.shrink (x ∷ y ∷ rest) + 1) rest (x ∷ y ∷ rest) err united
      (omega arith)
      (λ i z here. let two_more : 2 + i ≡ suc (suc i) = omega arith in ap (slice_get (x ∷ y ∷ rest)) two_more ∙ here) r)

  module _ (g : Assembly) (rest : List Tree) (more : LeadsToFurther how.which u f g rest (room_for how.shrink rest)) where
    union_at : draft_at g.drafts u ≡ union_draft (s ∷ t ∷ more.0)
    union_at = more.2 (s ∷ t ∷ []) union_here

    all_patterns : HasPatterns how.which u a g (s ∷ t ∷ more.0) (x ∷ y ∷ rest)
        ((room how.shrink x + 3) + (room how.shrink y + 3) + 1 + room_for how.shrink rest) 0
    all_patterns = patterns_joined how.which u a f g (s ∷ t ∷ []) more.0 (x ∷ y ∷ []) rest
        ((room how.shrink x + 3) + (room how.shrink y + 3) + 1) (room_for how.shrink rest) 0 0 united more.1

    union_tame : IsTame true g (draft_at g.drafts u)
    union_tame = let P : DraftNode → Type 0 = λ draft. IsTame true g draft in
        subst P (sym union_at) (record { named = all_patterns.starts_there; known = refl; not_barred = refl })

    pub several_compiled : (xs ys : List Tree) → xs ≡ x ∷ ys → ys ≡ y ∷ rest →
        LeadsToPatterns how.which a g u xs (room_for how.shrink xs + 1)
    several_compiled xs ys is is_2 =
        let all : xs ≡ x ∷ y ∷ rest = is ∙ ap (λ (zs : List Tree). x ∷ zs) is_2 in
        let P : List Tree → Type 0 = λ zs. LeadsToPatterns how.which a g u zs (room_for how.shrink zs + 1) in
        let l = first.longer in let m = second.longer in let n = added.is in let o = added.size in let p = led.size in let q = led_2.size in
        let r = more.1.longer in
        let closed = hole_closed how.which a g (s ∷ t ∷ more.0) (x ∷ y ∷ rest)
        ((room how.shrink x + 3) + (room how.shrink y + 3) + 1 + room_for how.shrink rest) 0 u all_patterns (omega arith)
        (λ table there. ap stands_for (there ∙ union_at)) union_tame in
        subst P (sym all) (
          s ∷ t ∷ more.0,
          patterns_wider how.which (length g.drafts) a g (s ∷ t ∷ more.0) (x ∷ y ∷ rest)
              ((room how.shrink x + 3) + (room how.shrink y + 3) + 1 + room_for how.shrink rest)
              (room_for how.shrink (x ∷ y ∷ rest) + 1) 0 0 (omega arith) (omega arith) closed,
          inr (inl union_at),
          omega arith,
          omega arith,
          record { hole = u; hole_is = inl refl; accept = λ table hold. all_patterns.accept table hold },
        )
