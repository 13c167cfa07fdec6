-- The states of a string: what one more byte adds before it.
use Rattle.std.proofs.Common.{◌≡◌, inl, inr, ℕ, ◌+◌, ◌<◌, ◌≤◌, List, [], ◌∷◌, length, drop, get_or, ◌-◌, None, refl, sym}
use Rattle.std.proofs.Common.{ap, ◌∙◌, subst, arith, ⊎_elim, true, drop_of_length-le}
use Rattle.std.proofs.lemmas.Bool.{cases_lt}
use Rattle.std.proofs.lemmas.List.{drop_more}
use Rattle.nfa_core.specs.BuilderStates.{Assembly, draft_at, range_draft}
use Rattle.nfa_core.specs.Drafted.{Table}
use Rattle.nfa_core.specs.Renaming.{stands_for}
use Rattle.thompson_nfa.specs.Added.{AddsDraft}
use Rattle.thompson_nfa.specs.Compiled.{IsTame}
use Rattle.thompson_nfa.specs.Denotes.{Denotes}
use Rattle.thompson_nfa.specs.LiteralStates.{literals}
use Rattle.thompson_nfa.specs.LiteralStems.{after_prefix}
use Rattle.thompson_nfa.specs.LiteralTexts.{AddsText}
use Rattle.thompson_nfa.proofs.Steps.GrowLemmas.{Partly, partly_joined, partly_added, grows_refl, grows_trans}
use Rattle.thompson_nfa.proofs.Fragments.LeafLemmas.{tame_one}
use Rattle.thompson_nfa.proofs.LiteralTries.LiteralStemLemmas.{text_byte, text_none}
use Rattle.thompson_nfa.proofs.LiteralTries.LiteralTreeLemmas.{denotes_byte_then}

no_byte : (old : Assembly) (next : ℕ) → AddsText old old next [] next
no_byte old next = record {
  grows = grows_refl old;
  groups = refl;
  states = omega arith;
  bytes = omega arith;
  weighs = omega arith;
  numbered = λ l. l;
  tame = λ q l h. absurd (omega arith);
  stands = λ q l h. absurd (omega arith);
  there = inl refl;
  denotes = λ back table has end ws d. let P : List (List ℕ) → Type 0 = λ l. Denotes back table next end (literals back l) in
      subst P (sym (text_none ws)) d;
}

pub text_begun : (old : Assembly) (next : ℕ) (text : List ℕ) (k : ℕ) → length text ≤ k → AddsText old old next (drop k text) next
text_begun old next text k l = let P : List ℕ → Type 0 = λ t. AddsText old old next t next in
    subst P (sym (drop_of_length-le text l)) (no_byte old next)

module _ (old mid : Assembly) (next : ℕ) (text : List ℕ) (id : ℕ) (so_far : AddsText old mid next text id)
    (there : next < length old.drafts) where
  id_there : id < length mid.drafts
  id_there = let s = so_far.states in ⊎_elim (λ (e : id ≡ next). omega arith)
      (λ (h : (length old.drafts ≤ id) × (id < length mid.drafts)). h.1) so_far.there

  module _ (new : Assembly) (b id2 : ℕ) (added : AddsDraft mid new id2 (range_draft b b id) mid.groups) where
    tame : IsTame true new (range_draft b b id)
    tame = tame_one new (range_draft b b id) id refl (omega (arith, id_there, added.size)) refl refl

    older : (table : Table) → ((q : ℕ) → length old.drafts ≤ q → q < length new.drafts → table q ≡ draft_at new.drafts q) → (q : ℕ) →
        length old.drafts ≤ q → q < length mid.drafts → table q ≡ draft_at mid.drafts q
    older table has q l h = has q l (omega (arith, added.size)) ∙ added.grows.same q h

    byte_added : AddsText old new next (b ∷ text) id2
    byte_added =
        let is = added.is in let size = added.size in let low = so_far.states in
        let both : Partly true old mid = record { grows = so_far.grows; tame = so_far.tame } in
        record {
          grows = grows_trans so_far.grows added.grows;
          groups = added.groups_are ∙ so_far.groups;
          states = omega (arith, size, low);
          bytes = omega (arith, size, added.bytes, so_far.bytes);
          weighs = omega (arith, added.bytes, so_far.weighs);
          numbered = λ l. added.numbered;
          tame = (partly_joined both (partly_added added tame)).tame;
          stands = λ q l h. ⊎_elim
              (λ (k : q < length mid.drafts). ap stands_for (added.grows.same q k) ∙ so_far.stands q l k)
              (λ (k : length mid.drafts ≤ q). let same : id2 ≡ q = omega arith in let P : ℕ →
              Type 0 = λ j. stands_for (draft_at new.drafts j) ≡ None in subst P same (ap stands_for added.here))
              (cases_lt q (length mid.drafts));
          there = inr (omega arith, omega arith);
          denotes = λ back table has end ws d.
              let P : List (List ℕ) → Type 0 = λ l. Denotes back table id2 end (literals back l) in
              subst P (text_byte b text ws)
              (denotes_byte_then back table id2 id end b (after_prefix text ws) (has id2 (omega arith) (omega arith)
              ∙ added.here) (so_far.denotes back table (older table has) end ws d));
        }

-- the byte at a position, before those after it
module _ (old mid : Assembly) (next : ℕ) (text : List ℕ) (id k m : ℕ) (at : k ≡ m - 1) (some : 1 ≤ m) (within : m ≤ length text)
    (so_far : AddsText old mid next (drop m text) id) (there : next < length old.drafts) where
  pub text_more : (new : Assembly) (b id2 : ℕ) → get_or text k 0 ≡ b → AddsDraft mid new id2 (range_draft b b id) mid.groups →
      AddsText old new next (drop k text) id2
  text_more new b id2 is added =
      let more : k + 1 ≡ m = omega arith in
      let all : drop k text ≡ b ∷ drop m text = drop_more text k 0 (omega arith) ∙ ap (λ (c : ℕ). c ∷ drop (k + 1) text) is
      ∙ ap (λ (n : ℕ). b ∷ drop n text) more in
      let P : List ℕ → Type 0 = λ t. AddsText old new next t id2 in
      subst P (sym all) (byte_added old mid next (drop m text) id so_far there new b id2 added)
