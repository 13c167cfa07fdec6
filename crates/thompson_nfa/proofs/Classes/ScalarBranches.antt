-- Branches of a choice so far: that they are a fragment once no branch is to come.
use Rattle.std.proofs.Common.{◌≡◌, ◌≢◌, inr, ℕ, ◌<◌, ◌≤◌, true, List, [], ◌∷◌, ◌++◌, length, refl, sym, ap, ◌∙◌, subst, arith, ⊎_elim}
use Rattle.std.proofs.Common.{false}
use Rattle.std.proofs.lemmas.Bool.{cases_eq}
use Rattle.hir_core.specs.Tree.{Tree, alternation, never}
use Rattle.nfa_core.specs.BuilderStates.{Assembly, draft_at, patched, is_sparse, empty_draft, union_draft}
use Rattle.nfa_core.specs.Drafted.{Table}
use Rattle.nfa_core.specs.Renaming.{stands_for}
use Rattle.thompson_nfa.specs.Added.{AddsDraft}
use Rattle.thompson_nfa.specs.Choice.{no_choice}
use Rattle.thompson_nfa.specs.Compiled.{Makes, Does, ComesOut}
use Rattle.thompson_nfa.proofs.Steps.LookLemmas.{AddsLooks, adds_none, quiet_added, quiet_choice}
use Rattle.thompson_nfa.proofs.Fragments.DoesCases.{Agrees, DoBranches, no_branches, does_alternation}
use Rattle.thompson_nfa.proofs.Fragments.LeafLemmas.{tame_one, tame_none}
use Rattle.thompson_nfa.proofs.Steps.OutLemmas.{out_here, out_next}
use Rattle.thompson_nfa.proofs.Steps.ProgressLemmas.{Progress, first_added, then_added, made}

-- Whatever the choice u and the common end m become, each other state leads out if the common end does.
abbrev pub Others : Assembly → Assembly → ℕ → ℕ → Type 0
Others b0 bk u m = (T : Table) (target : ℕ) → Agrees b0 bk u m T → ComesOut T target m → (q : ℕ) → length b0.drafts ≤ q →
    q < length bk.drafts → q ≢ u → ComesOut T target q

-- n states were added at most, among them the choice and the common end, and branches for the trees
pub record Branched (b0 bk : Assembly) (u m n : ℕ) (xs : List Tree) : Type 0 where
  pub ways : List ℕ
  pub progress : Progress false b0 bk n 8
  pub choice_new : length b0.drafts ≤ u
  pub choice_there : u < length bk.drafts
  pub end_new : length b0.drafts ≤ m
  pub end_there : m < length bk.drafts
  pub apart : u ≢ m
  pub is_choice : draft_at bk.drafts u ≡ union_draft ways
  pub is_end : draft_at bk.drafts m ≡ empty_draft 0
  pub branches : DoBranches b0 bk u m ways xs
  pub looks : AddsLooks b0.reverse b0 bk (alternation xs)
  pub others : Others b0 bk u m
  pub one_way : (s : ℕ) → ways ≡ s ∷ [] → (length b0.drafts ≤ s) × (s < length bk.drafts) × (s ≢ u)

-- ---- one more branch

-- if a list of targets with one more has only one target, that target is in the range from `low` to below `high`, and it isn't u
pub one_more_way : (names : List ℕ) (s to : ℕ) (low high u : ℕ) → ((q : ℕ) → names ≡ q ∷ [] → (low ≤ q) × (q < high) × (q ≢ u)) → low ≤ s →
    s < high → s ≢ u → names ++ s ∷ [] ≡ to ∷ [] →
    (low ≤ to) × (to < high) × (to ≢ u)
one_more_way [] s to low high u one l h ne e =
    let same : s ≡ to = cc in
    let P : ℕ → Type 0 = λ k. (low ≤ k) × (k < high) × (k ≢ u) in
    subst P same (l, h, ne)
one_more_way (a ∷ []) s to low high u one l h ne e = cc
one_more_way (a ∷ b ∷ names) s to low high u one l h ne e = cc

-- ---- none so far

pub branched_begun : {b0 b1 b2 : Assembly} {u m : ℕ} → AddsDraft b0 b1 u (no_choice true) b0.groups →
    AddsDraft b1 b2 m (empty_draft 0) b1.groups →
    Branched b0 b2 u m 2 []
branched_begun {b0} {b1} {b2} {u} {m} a1 a2 =
    let iu = a1.is in let im = a2.is in let n1 = a1.size in let n2 = a2.size in
    record {
      ways = [];
      progress = then_added 8 (first_added 8 a1 (tame_none b1 (union_draft []) refl refl refl) (omega arith)) a2
          (tame_one b2 (empty_draft 0) 0 refl (omega arith) refl refl) (omega arith);
      choice_new = omega arith;
      choice_there = omega arith;
      end_new = omega arith;
      end_there = omega arith;
      apart = λ (same : u ≡ m). omega arith;
      is_choice = a2.grows.same u (omega arith) ∙ a1.here;
      is_end = a2.here;
      branches = no_branches;
      looks = adds_none b0.reverse never b0 b2 (λ l. quiet_added a2 (λ k. refl) l ∙ quiet_choice true a1 l) (λ l. refl);
      others = λ T target agrees out q low high not_u.
          let same : m ≡ q = omega arith in
          let P : ℕ → Type 0 = λ k. ComesOut T target k in
          subst P same out;
      one_way = λ s same. cc;
    }

-- ---- all branches are there

module _ (b0 bk : Assembly) (u m n : ℕ) (xs : List Tree) (all : Branched b0 bk u m n xs) where
  -- the choice leads out, too: it stands for itself, or for its only target
  choice_out : (T : Table) (target : ℕ) → Agrees b0 bk u m T → ComesOut T target m → (names : List ℕ) → T u ≡ union_draft names →
      ((s : ℕ) → names ≡ s ∷ [] → (length b0.drafts ≤ s) × (s < length bk.drafts) × (s ≢ u)) →
      ComesOut T target u
  choice_out T target agrees out [] is one = out_here T target u (ap stands_for is)
  choice_out T target agrees out (s ∷ []) is one = let o = one s refl in
      out_next T target u s (ap stands_for is) (all.others T target agrees out s o.0 o.1 o.2)
  choice_out T target agrees out (s ∷ r ∷ names) is one = out_here T target u (ap stands_for is)

  pub branched_made : Makes b0 bk u m n
  branched_made =
      let un = all.choice_new in let ut = all.choice_there in let mn = all.end_new in let mt = all.end_there in
      made n all.progress (omega arith) (omega arith) un ut mn mt (ap is_sparse all.is_end)
      (λ T target fin q low high.
      let agrees : Agrees b0 bk u m T = λ p l h not_u not_m. fin.states p l h not_m in
      let is_end : T m ≡ empty_draft target = fin.led ∙ ap (patched target) all.is_end in
      let out : ComesOut T target m = out_next T target m target (ap stands_for is_end) (0, inr refl) in
      ⊎_elim
      (λ (e : q ≡ u).
      let P : ℕ → Type 0 = λ k. ComesOut T target k in
      subst P (sym e) (choice_out T target agrees out all.ways (fin.states u un ut all.apart ∙ all.is_choice) all.one_way))
      (λ (ne : q ≡ u → ⊥). all.others T target agrees out q low high ne)
      (cases_eq q u))

  pub branched_does : Does b0 bk u m (alternation xs)
  branched_does = does_alternation all.choice_new all.choice_there all.apart all.is_choice all.is_end all.branches all.looks
