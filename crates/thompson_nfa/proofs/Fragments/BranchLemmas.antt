-- Fragments of alternations: the branches so far, with a union and an end to which more may be added.
use Rattle.std.proofs.Common.{◌≡◌, ◌≢◌, ℕ, ◌+◌, ◌<◌, ◌≤◌, true, List, [], ◌∷◌, ◌++◌, length, None, refl, sym, ap, ◌∙◌, subst, arith, ⊎_elim}
use Rattle.std.proofs.Common.{length-append, Bool, ◌||◌, false}
use Rattle.std.proofs.lemmas.Bool.{cases_lt, cases_eq}
use Rattle.std.proofs.Math.Bool.{or-false}
use Rattle.hir_core.specs.Tree.{Tree, alternation}
use Rattle.nfa_core.specs.BuilderStates.{DraftNode, Assembly, draft_at, patched, is_sparse, empty_draft, union_draft}
use Rattle.nfa_core.specs.Renaming.{stands_for}
use Rattle.nfa_core.specs.Drafted.{Table}
use Rattle.thompson_nfa.specs.Compiled.{Finished, ComesOut, Makes, Does, uses}
use Rattle.thompson_nfa.specs.Added.{AddsDraft, Led}
use Rattle.thompson_nfa.proofs.Steps.LookLemmas.{AddsLooks, quiet_led, quiet_added, adds_both, uses_alternation}
use Rattle.thompson_nfa.proofs.Steps.SizeLemmas.{AddedAt, added_at, MadeAt, made_at, LedAt}
use Rattle.thompson_nfa.proofs.Steps.OutLemmas.{out_here, out_next, out_at, out_on}
use Rattle.thompson_nfa.proofs.Steps.ProgressLemmas.{Progress, first_made, then_made, then_led, made}
use Rattle.thompson_nfa.proofs.Fragments.RepeatLemmas.{reads_as, choice_then, empty_then}
use Rattle.thompson_nfa.proofs.Fragments.CaseLemmas.{AllDenote, none_denote, more_denote, all_denote_push, denotes_alternation}
use Rattle.thompson_nfa.proofs.Walks.AheadLemmas.{denotes_then_empty}
use Rattle.thompson_nfa.proofs.Walks.DenoteLemmas.{denotes_empty}

-- the finished table has the states from `low` on as they are, except for two that are led on later
abbrev pub FinishesBut : ℕ → List DraftNode → ℕ → ℕ → Table → Type 0
FinishesBut low drafts a b table = (q : ℕ) → low ≤ q → q < length drafts → q ≢ a → q ≢ b → table q ≡ draft_at drafts q

pub record Branches (old mid : Assembly) (u z n : ℕ) (done : List Tree) : Type 0 where
  pub progress : Progress false old mid n 8
  pub u_new : length old.drafts ≤ u
  pub u_z : u < z
  pub z_there : z < length mid.drafts
  pub entries : List ℕ
  pub two : 2 ≤ length entries
  pub union_is : draft_at mid.drafts u ≡ union_draft entries
  pub end_is : draft_at mid.drafts z ≡ empty_draft 0
  pub outs : (table : Table) → FinishesBut (length old.drafts) mid.drafts u z table → (q : ℕ) → length old.drafts ≤ q →
      q < length mid.drafts → q ≢ u → q ≢ z → ComesOut table z q
  pub denote : (table : Table) → FinishesBut (length old.drafts) mid.drafts u z table → AllDenote old.reverse table z entries done
  pub looks : AddsLooks old.reverse old mid (alternation done)

abbrev BranchesAt : Assembly → Assembly → ℕ → ℕ → Type 0
BranchesAt old mid u z = (length old.drafts ≤ length mid.drafts) × (length old.drafts ≤ u) × (u < z) × (z < length mid.drafts)

branches_at : {old mid : Assembly} {u z n : ℕ} {done : List Tree} → Branches old mid u z n done → BranchesAt old mid u z
branches_at bs = (bs.progress.partly.grows.longer, bs.u_new, bs.u_z, bs.z_there)

module _ (t0 t1 t2 t3 t4 t5 t6 t7 t8 : Assembly) (s1 e1 n1 s2 e2 n2 u z : ℕ) (x y : Tree) (first : Makes t0 t1 s1 e1 n1)
    (second : Makes t1 t2 s2 e2 n2) (union : AddsDraft t2 t3 u (union_draft []) t2.groups)
    (last : AddsDraft t3 t4 z (empty_draft 0) t3.groups) (p5 : Led t4 t5 u s1) (p6 : Led t5 t6 e1 z) (p7 : Led t6 t7 u s2)
    (p8 : Led t7 t8 e2 z) where
  open_sizes : MadeAt t0 t1 s1 e1 × MadeAt t1 t2 s2 e2 × AddedAt t2 t3 u × AddedAt t3 t4 z × LedAt t4 t5 × LedAt t5 t6 × LedAt t6 t7 ×
      LedAt t7 t8
  open_sizes = (made_at first, made_at second, added_at union, added_at last, p5.size, p6.size, p7.size, p8.size)

  open_2 : Progress false t0 t2 (n1 + n2) 8
  open_2 = then_made 8 (first_made first) second (omega (arith, open_sizes))

  pub open_4 : Progress false t0 t4 (n1 + n2 + 1 + 1) 4000
  open_4 = empty_then (choice_then true open_2 union) last

  pub open_8 : Progress false t0 t8 (n1 + n2 + 1 + 1) 8
  open_8 = then_led 8 (then_led 12 (then_led 16 (then_led 20 open_4 p5 (omega (arith, open_sizes)) (omega (arith, open_sizes)) (omega
      (arith, open_sizes))) p6 (omega (arith, open_sizes))
      (omega (arith, open_sizes)) (omega (arith, open_sizes)))
      p7 (omega (arith, open_sizes)) (omega (arith, open_sizes)) (omega (arith, open_sizes))) p8 (omega (arith, open_sizes)) (omega
      (arith, open_sizes)) (omega (arith, open_sizes))

  later : (q : ℕ) → q < length t2.drafts → q ≢ e1 → q ≢ e2 → draft_at t8.drafts q ≡ draft_at t2.drafts q
  later q low ne1 ne2 = p8.same q ne2 ∙ p7.same q (omega (arith, open_sizes)) ∙ p6.same q ne1 ∙ p5.same q (omega (arith, open_sizes)) ∙
      last.grows.same q (omega (arith, open_sizes))
      ∙ union.grows.same q low

  open_first : (table : Table) → FinishesBut (length t0.drafts) t8.drafts u z table → Finished (length t0.drafts) t1.drafts e1 z table
  open_first table fin = record {
    states = λ q low high ne. fin q low (omega (arith, open_sizes)) (omega (arith, open_sizes)) (omega (arith, open_sizes)) ∙ later q
        (omega (arith, open_sizes)) ne (omega (arith, open_sizes))
        ∙ second.fragment.grows.same q high;
    led = fin e1 (omega (arith, open_sizes)) (omega (arith, open_sizes)) (omega (arith, open_sizes)) (omega (arith, open_sizes)) ∙ p8.same
        e1 (omega (arith, open_sizes)) ∙ p7.same e1 (omega (arith, open_sizes)) ∙ p6.here
        ∙ ap (patched z) (p5.same e1 (omega (arith, open_sizes)) ∙ last.grows.same e1 (omega (arith, open_sizes)) ∙ union.grows.same e1
        (omega (arith, open_sizes))
        ∙ second.fragment.grows.same e1 (omega (arith, open_sizes)));
  }

  open_second : (table : Table) → FinishesBut (length t0.drafts) t8.drafts u z table → Finished (length t1.drafts) t2.drafts e2 z table
  open_second table fin = record {
    states = λ q low high ne. fin q (omega (arith, open_sizes)) (omega (arith, open_sizes)) (omega (arith, open_sizes)) (omega (
      arith,
      open_sizes,
    )) ∙ later q high (omega (arith, open_sizes)) ne;
    led = fin e2 (omega (arith, open_sizes)) (omega (arith, open_sizes)) (omega (arith, open_sizes)) (omega (arith, open_sizes)) ∙ p8.here
        ∙ ap (patched z) (p7.same e2 (omega (arith, open_sizes)) ∙ p6.same e2 (omega (arith, open_sizes)) ∙ p5.same e2 (omega (
          arith,
          open_sizes,
        )) ∙ last.grows.same e2 (omega (arith, open_sizes))
        ∙ union.grows.same e2 (omega (arith, open_sizes)));
  }

  pub branches_open : Does t0 t1 s1 e1 x → Does t1 t2 s2 e2 y → Branches t0 t8 u z (n1 + n2 + 1 + 1) (x ∷ y ∷ [])
  branches_open does1 does2 = record {
    progress = open_8;
    u_new = omega (arith, open_sizes);
    u_z = omega (arith, open_sizes);
    z_there = omega (arith, open_sizes);
    entries = s1 ∷ s2 ∷ [];
    two = omega (arith, open_sizes);
    union_is = p8.same u (omega (arith, open_sizes)) ∙ p7.here ∙ ap (patched s2) (p6.same u (omega (arith, open_sizes)) ∙ p5.here
        ∙ ap (patched s1) (last.grows.same u (omega (arith, open_sizes)) ∙ union.here));
    end_is = p8.same z (omega (arith, open_sizes)) ∙ p7.same z (omega (arith, open_sizes)) ∙ p6.same z (omega (arith, open_sizes)) ∙
        p5.same z (omega (arith, open_sizes)) ∙ last.here;
    outs = λ table fin q low high not_u not_z. ⊎_elim
        (λ (l : q < length t1.drafts). first.comes_out table z (open_first table fin) q low l)
        (λ (g : length t1.drafts ≤ q). ⊎_elim
        (λ (l : q < length t2.drafts). second.comes_out table z (open_second table fin) q g l)
        (λ (h : length t2.drafts ≤ q). absurd (omega (arith, open_sizes)))
        (cases_lt q (length t2.drafts)))
        (cases_lt q (length t1.drafts));
    denote = λ table fin. more_denote s1 x (s2 ∷ []) (y ∷ []) (does1.denotes table z (open_first table fin))
        (more_denote s2 y [] [] (reads_as t0 t1 table s2 z y first.fragment.grows (does2.denotes table z (open_second table fin)))
        none_denote);
    looks = λ l. quiet_led p8 l ∙ quiet_led p7 l ∙ quiet_led p6 l ∙ quiet_led p5 l ∙ quiet_added last (λ k. refl) l
        ∙ quiet_added union (λ k. refl) l
        ∙ adds_both t0 t1 t2 x y (alternation (x ∷ y ∷ [])) does1.looks
        (ap (λ (z : Assembly). z.reverse) first.fragment.grows.settings) does2.looks
        (λ k. ap (λ (b : Bool). uses t0.reverse x k || b) (or-false (uses t0.reverse y k))) l;
  }

module _ (old b c d f : Assembly) (u z n s e k : ℕ) (done : List Tree) (x : Tree) (bs : Branches old b u z n done) (draft : Makes b c s e k)
    (p1 : Led c d u s) (p2 : Led d f e z) where
  more_sizes : BranchesAt old b u z × MadeAt b c s e × LedAt c d × LedAt d f
  more_sizes = (branches_at bs, made_at draft, p1.size, p2.size)

  more_before : (table : Table) → FinishesBut (length old.drafts) f.drafts u z table → FinishesBut (length old.drafts) b.drafts u z table
  more_before table fin q low high not_u not_z =
      let g = bs.u_z in let h = bs.z_there in
      fin q low (omega (arith, more_sizes)) not_u not_z ∙ p2.same q (omega (arith, more_sizes)) ∙ p1.same q not_u ∙
      draft.fragment.grows.same q high

  more_part : (table : Table) → FinishesBut (length old.drafts) f.drafts u z table → Finished (length b.drafts) c.drafts e z table
  more_part table fin =
      let g = bs.u_z in let h = bs.z_there in let l = bs.progress.partly.grows.longer in
      record {
        states = λ q low high ne. fin q (omega (arith, more_sizes)) (omega (arith, more_sizes)) (omega (arith, more_sizes)) (omega (
          arith,
          more_sizes,
        )) ∙ p2.same q ne ∙ p1.same q (omega (arith, more_sizes));
        led = fin e (omega (arith, more_sizes)) (omega (arith, more_sizes)) (omega (arith, more_sizes)) (omega (arith, more_sizes)) ∙
            p2.here ∙ ap (patched z) (p1.same e (omega (arith, more_sizes)));
      }

  pub branches_then : Does b c s e x → Branches old f u z (n + k) (done ++ x ∷ [])
  branches_then does =
      let g = bs.u_z in let h = bs.z_there in let l = bs.progress.partly.grows.longer in let v = bs.u_new in let w = bs.two in
      record {
        progress = then_led 8 (then_led 12 (then_made 16 bs.progress draft (omega (arith, more_sizes))) p1 v (omega (arith, more_sizes))
            (omega (arith, more_sizes))) p2 (omega (arith, more_sizes))
            (omega (arith, more_sizes)) (omega (arith, more_sizes));
        u_new = v;
        u_z = g;
        z_there = omega (arith, more_sizes);
        entries = bs.entries ++ s ∷ [];
        two = omega (arith, length-append bs.entries (s ∷ []));
        union_is = p2.same u (omega (arith, more_sizes)) ∙ p1.here ∙ ap (patched s) (draft.fragment.grows.same u (omega (
          arith,
          more_sizes,
        )) ∙ bs.union_is);
        end_is = p2.same z (omega (arith, more_sizes)) ∙ p1.same z (omega (arith, more_sizes)) ∙ draft.fragment.grows.same z h ∙ bs.end_is;
        outs = λ table fin q low high not_u not_z. ⊎_elim
            (λ (less : q < length b.drafts). bs.outs table (more_before table fin) q low less not_u not_z)
            (λ (more : length b.drafts ≤ q). draft.comes_out table z (more_part table fin) q more (omega (arith, more_sizes)))
            (cases_lt q (length b.drafts));
        denote = λ table fin. all_denote_push old.reverse table z s x bs.entries done (bs.denote table (more_before table fin))
            (reads_as old b table s z x bs.progress.partly.grows (does.denotes table z (more_part table fin)));
        looks = λ l. quiet_led p2 l ∙ quiet_led p1 l
            ∙ adds_both old b c (alternation done) x (alternation (done ++ x ∷ [])) bs.looks
            (ap (λ (z : Assembly). z.reverse) bs.progress.partly.grows.settings) does.looks
            (λ k. uses_alternation old.reverse done x k) l;
      }

pub union_stands : (names : List ℕ) → 2 ≤ length names → stands_for (union_draft names) ≡ None
union_stands [] l = absurd (omega arith)
union_stands (a ∷ []) l = absurd (omega arith)
union_stands (a ∷ b ∷ names) l = refl

module _ (old mid : Assembly) (u z n : ℕ) (done : List Tree) (bs : Branches old mid u z n done) where
  done_sizes : BranchesAt old mid u z
  done_sizes = branches_at bs

  all_but : (target : ℕ) (table : Table) → Finished (length old.drafts) mid.drafts z target table →
      FinishesBut (length old.drafts) mid.drafts u z table
  all_but target table fin q low high not_u not_z = fin.states q low high not_z

  done_u : (target : ℕ) (table : Table) → Finished (length old.drafts) mid.drafts z target table → table u ≡ union_draft bs.entries
  done_u target table fin = let g = bs.u_z in let h = bs.z_there in let v = bs.u_new in
      fin.states u v (omega (arith, done_sizes)) (omega (arith, done_sizes)) ∙ bs.union_is

  pub branches_made : Makes old mid u z n
  branches_made =
      let g = bs.u_z in let h = bs.z_there in let v = bs.u_new in
      made n bs.progress (omega (arith, done_sizes)) (omega (arith, done_sizes)) v (omega (arith, done_sizes)) (omega (arith, done_sizes))
      h (ap is_sparse bs.end_is)
      (λ table target fin q low high.
      let last : table z ≡ empty_draft target = fin.led ∙ ap (patched target) bs.end_is in
      let out = out_next table target z target (ap stands_for last) (out_at table target) in
      let P : ℕ → Type 0 = λ k. ComesOut table target k in
      ⊎_elim
      (λ (e : q ≡ u). subst P (sym e) (out_here table target u (ap stands_for (done_u target table fin) ∙ union_stands bs.entries bs.two)))
      (λ (not_u : q ≡ u → ⊥). ⊎_elim
      (λ (e : q ≡ z). subst P (sym e) out)
      (λ (not_z : q ≡ z → ⊥). let o = bs.outs table (all_but target table fin) q low high not_u not_z in
      out_on table target z o.0 q o.1 out)
      (cases_eq q z))
      (cases_eq q u))

  pub branches_does : Does old mid u z (alternation done)
  branches_does = record {
    denotes = λ table target fin.
        denotes_then_empty old.reverse table u z target (alternation done)
        (denotes_alternation old.reverse table u z bs.entries done (done_u target table fin) (bs.denote table (all_but target table fin)))
        (denotes_empty old.reverse table z target (fin.led ∙ ap (patched target) bs.end_is));
    looks = bs.looks;
  }
