-- Fragments of one state or two.
use Rattle.std.proofs.Common.{◌≡◌, ◌⊎◌, inl, inr, ℕ, zero, suc, ◌<◌, ◌≤◌, Bool, true, false, List, [], ◌∷◌, length, get_or, Some, None}
use Rattle.std.proofs.Common.{refl, sym, ap, ◌∙◌, subst, arith, ⊎_elim, ◌||◌}
use Rattle.std.specs.Prelude.{All}
use Rattle.nfa_core.specs.BuilderStates.{DraftNode, Assembly, patched, draft_bytes, is_sparse, empty_draft, range_draft, look_draft}
use Rattle.nfa_core.specs.BuilderStates.{fail_draft}
use Rattle.nfa_core.specs.CanBuild.{names_of, is_known}
use Rattle.nfa_core.specs.Renaming.{stands_for}
use Rattle.look_core.specs.declared.look.Look.{Look}
use Rattle.look_core.specs.Codes.{repr}
use Rattle.look_core.specs.LookSets.{has_look}
use Rattle.thompson_nfa.specs.Compiled.{AllComeOut, IsTame, Makes, Does, is_barred, turned, looks_in}
use Rattle.thompson_nfa.specs.Added.{AddsDraft}
use Rattle.hir_core.specs.Tree.{empty, literal, byte_class, look, never}
use Rattle.thompson_nfa.proofs.Steps.LookLemmas.{looks_added}
use Rattle.thompson_nfa.proofs.Walks.DenoteLemmas.{denotes_empty, denotes_never, denotes_look, denotes_range}
use Rattle.thompson_nfa.proofs.Walks.AheadLemmas.{denotes_byte}
use Rattle.thompson_nfa.proofs.Steps.OutLemmas.{out_here, out_next, out_at, all_here}
use Rattle.thompson_nfa.proofs.Steps.ProgressLemmas.{first_added, made}

-- a state that names one state that is there, or none
pub tame_one : {plain : Bool} (b : Assembly) (draft : DraftNode) (q : ℕ) → names_of draft ≡ q ∷ [] → q < length b.drafts →
    is_known b.groups draft ≡ true → is_barred plain draft ≡ false → IsTame plain b draft
tame_one b draft q e l known no_match =
    let P : List ℕ → Type 0 = λ names. All (λ k. k < length b.drafts) names in
    record {
      named =
          subst P (sym e) (λ k d h. elim k as
          (λ j. j < 1 → get_or (q ∷ []) j d < length b.drafts) [ zero ↦ λ z. l | suc j ↦ λ z. absurd (omega arith) ] h);
      known =
          known;
      not_barred = no_match;
    }

pub tame_none : {plain : Bool} (b : Assembly) (draft : DraftNode) → names_of draft ≡ [] → is_known b.groups draft ≡ true →
    is_barred plain draft ≡ false → IsTame plain b draft
tame_none b draft e known no_match =
    let P : List ℕ → Type 0 = λ names. All (λ k. k < length b.drafts) names in
    record { named = subst P (sym e) (λ k d h. absurd (omega arith)); known = known; not_barred = no_match }

leaf : (old new : Assembly) (id : ℕ) (draft : DraftNode) → AddsDraft old new id draft old.groups → draft_bytes draft ≤ 24 →
    is_sparse draft ≡ false →
    IsTame false new draft →
    ((target : ℕ) → (stands_for (patched target draft) ≡ None) ⊎ (stands_for (patched target draft) ≡ Some target)) → Makes old new id id 1
leaf old new id draft x le kind tame goes =
    made 1 (first_added 8 x tame (omega arith)) (omega arith) (omega arith) (omega arith) (omega arith) (omega arith) (omega arith)
    (ap is_sparse x.here ∙ kind)
    (λ table target fin.
    let is : table id ≡ patched target draft = fin.led ∙ ap (patched target) x.here in
    let low : id ≡ length old.drafts = x.is in
    let P : ℕ → Type 0 = λ n. AllComeOut table target n (length new.drafts) in
    subst P low (all_here table target id (length new.drafts) (omega arith)
    (⊎_elim (λ (n : stands_for (patched target draft) ≡ None). out_here table target id (ap stands_for is ∙ n))
    (λ (n : stands_for (patched target draft) ≡ Some target). out_next table target id target (ap stands_for is ∙ n) (out_at table target))
    (goes target))))

pub empty_made : (old new : Assembly) (id : ℕ) → AddsDraft old new id (empty_draft 0) old.groups → Makes old new id id 1
empty_made old new id x = leaf old new id (empty_draft 0) x (omega arith) refl (tame_one new (empty_draft 0) 0 refl (omega arith) refl refl)
    (λ target. inr refl)

pub fail_made : (old new : Assembly) (id : ℕ) → AddsDraft old new id fail_draft old.groups → Makes old new id id 1
fail_made old new id x = leaf old new id fail_draft x (omega arith) refl (tame_none new fail_draft refl refl refl) (λ target. inl refl)

pub range_made : (old new : Assembly) (id low high : ℕ) → AddsDraft old new id (range_draft low high 0) old.groups → Makes old new id id 1
range_made old new id low high x = leaf old new id (range_draft low high 0) x (omega arith) refl
    (tame_one new (range_draft low high 0) 0 refl (omega arith) refl refl) (λ target. inl refl)

pub look_made : (old new : Assembly) (id : ℕ) (l : Look) → AddsDraft old new id (look_draft l 0) old.groups → Makes old new id id 1
look_made old new id l x = leaf old new id (look_draft l 0) x (omega arith) refl
    (tame_one new (look_draft l 0) 0 refl (omega arith) refl refl) (λ target. inl refl)

pub empty_does : (old new : Assembly) (id : ℕ) → AddsDraft old new id (empty_draft 0) old.groups → Does old new id id empty
empty_does old new id x =
    record {
      denotes = λ table target fin. denotes_empty old.reverse table id target (fin.led ∙ ap (patched target) x.here);
      looks =
          λ l. looks_added x l;
    }

pub fail_does : (old new : Assembly) (id : ℕ) → AddsDraft old new id fail_draft old.groups → Does old new id id never
fail_does old new id x =
    record {
      denotes = λ table target fin. denotes_never old.reverse table id target (fin.led ∙ ap (patched target) x.here);
      looks =
          λ l. looks_added x l;
    }

pub range_does : (old new : Assembly) (id low high : ℕ) → AddsDraft old new id (range_draft low high 0) old.groups →
    Does old new id id (byte_class ((low, high) ∷ []))
range_does old new id low high x =
    record {
      denotes =
          λ table target fin. denotes_range old.reverse table id target low high (fin.led ∙ ap (patched target) x.here);
      looks =
          λ l. looks_added x l;
    }

pub byte_does : (old new : Assembly) (id b : ℕ) → AddsDraft old new id (range_draft b b 0) old.groups →
    Does old new id id (literal (b ∷ []))
byte_does old new id b x =
    record {
      denotes = λ table target fin. denotes_byte old.reverse table id target b (fin.led ∙ ap (patched target) x.here);
      looks =
          λ l. looks_added x l;
    }

pub look_does : (old new : Assembly) (id : ℕ) (l m : Look) → m ≡ turned old.reverse l → AddsDraft old new id (look_draft m 0) old.groups →
    Does old new id id (look l)
look_does old new id l m e x = record {
  denotes = λ table target fin.
      denotes_look old.reverse table id target l (fin.led ∙ ap (patched target) x.here ∙ ap (λ k. look_draft k target) e);
  looks = λ k. looks_added x k ∙ ap (λ (n : Look). looks_in old.drafts k || has_look (repr n) k) e;
}
