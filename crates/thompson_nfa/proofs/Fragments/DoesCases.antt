-- What alternations do: branches that a union leads to, each with its end led on to one common end.
use Rattle.std.proofs.Common.{◌≡◌, ◌≢◌, ℕ, ◌<◌, ◌≤◌, true, List, [], length, sym, ap, ◌∙◌, Bool, ◌||◌}
use Rattle.hir_core.specs.Tree.{Tree, alternation, char_class}
use Rattle.hir_core.specs.Facts.{is_ascending}
use Rattle.hir_core.specs.BySequences.{by_sequences, sequences_of}
use Rattle.nfa_core.specs.BuilderStates.{Assembly, draft_at, patched, empty_draft, union_draft}
use Rattle.nfa_core.specs.Drafted.{Table}
use Rattle.thompson_nfa.specs.Compiled.{Does, looks_in}
use Rattle.thompson_nfa.proofs.Steps.LookLemmas.{AddsLooks, uses_sequences}
use Rattle.thompson_nfa.proofs.Fragments.CaseLemmas.{AllDenote, none_denote, denotes_alternation}
use Rattle.hir_core.proofs.ForCallers.{sequences_read, class_ends}
use Rattle.thompson_nfa.proofs.Walks.SameLemmas.{IsSame, denotes_same}
use Rattle.thompson_nfa.proofs.Fragments.DoesLemmas.{ends_at}

-- the table has all states from b0 on, except for the union u and the common end m
abbrev pub Agrees : Assembly → Assembly → ℕ → ℕ → Table → Type 0
Agrees b0 bk u m T = (q : ℕ) → length b0.drafts ≤ q → q < length bk.drafts → q ≢ u → q ≢ m → T q ≡ draft_at bk.drafts q

-- Branches so far: whatever the union and the common end become, each branch's start leads to that end as its tree means.
pub record DoBranches (b0 bk : Assembly) (u m : ℕ) (qs : List ℕ) (xs : List Tree) : Type 0 where
  pub all : (T : Table) → Agrees b0 bk u m T → AllDenote b0.reverse T m qs xs

pub no_branches : {b0 bk : Assembly} {u m : ℕ} → DoBranches b0 bk u m [] []
no_branches {b0} {bk} {u} {m} = record { all = λ T agrees. none_denote }

-- all branches are there: the union leads to their starts, and the common end is led on
pub does_alternation : {b0 bk : Assembly} {u m : ℕ} {qs : List ℕ} {xs : List Tree} → length b0.drafts ≤ u → u < length bk.drafts → u ≢ m →
    draft_at bk.drafts u ≡ union_draft qs →
    draft_at bk.drafts m ≡ empty_draft 0 → DoBranches b0 bk u m qs xs → AddsLooks b0.reverse b0 bk (alternation xs) →
    Does b0 bk u m (alternation xs)
does_alternation {b0} {bk} {u} {m} {qs} {xs} un ut apart is_union is_end so_far looks = record {
  denotes = λ T target fin.
      let agrees : Agrees b0 bk u m T = λ q low high not_u not_m. fin.states q low high not_m in
      ends_at b0.reverse T u m target (alternation xs) (denotes_alternation b0.reverse T u m qs xs (fin.states u un ut apart
      ∙ is_union) (so_far.all T agrees))
      (fin.led ∙ ap (patched target) is_end);
  looks = looks;
}

-- a class of scalars, as the alternation of its sequences
pub does_scalars : {b0 b1 : Assembly} {s e : ℕ} {ranges : List (ℕ × ℕ)} → is_ascending ranges ≡ true →
    Does b0 b1 s e (by_sequences ranges) → Does b0 b1 s e (char_class ranges)
does_scalars {b0} {b1} {s} {e} {ranges} ascending d =
    let same : IsSame (by_sequences ranges) (char_class ranges) =
    record {
      reading = λ _. sequences_read ranges;
      ends = λ looks h i. sym (class_ends looks h ranges i ascending);
      met =
          λ back l. uses_sequences back l (sequences_of ranges);
    } in
    record {
      denotes =
          λ T target fin. denotes_same b0.reverse T s target (by_sequences ranges) (char_class ranges) same (d.denotes T target fin);
      looks = λ l. d.looks l ∙ ap (λ (k : Bool). looks_in b0.drafts l || k) (same.met b0.reverse l);
    }
