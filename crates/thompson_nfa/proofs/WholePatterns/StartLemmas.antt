-- What comes before the patterns, once it is led on to them.
use Rattle.std.proofs.Common.{◌≡◌, ◌≢◌, inl, inr, ℕ, zero, suc, ◌+◌, ◌*◌, ◌<◌, ◌≤◌, Bool, true, false, List, [], ◌∷◌, length, get_or}
use Rattle.std.proofs.Common.{Option, Some, None, refl, sym, ap, ◌∙◌, subst, arith}
use Rattle.std.specs.Prelude.{All}
use Rattle.std.specs.List.{list_all}
use Rattle.std.proofs.lemmas.List.Sums.{AllPass-from_list_all, list_all-from_AllPass}
use Rattle.hir_core.specs.Tree.{Tree}
use Rattle.nfa_core.specs.BuilderStates.{DraftNode, Assembly, empty_draft, sparse_draft, union_reverse_draft, draft_at, patched}
use Rattle.nfa_core.specs.Renaming.{stands_for, going_on, past_within, past, HasNoLoop}
use Rattle.nfa_core.specs.Drafted.{Table}
use Rattle.nfa_core.proofs.ForCallers.{past_itself, past_next}
use Rattle.thompson_nfa.specs.Added.{AddsDraft}
use Rattle.thompson_nfa.specs.Assembled.{ComesBefore}
use Rattle.thompson_nfa.specs.Compilations.{is_anchored_tree}
use Rattle.thompson_nfa.specs.Compiled.{past_in, sum_of_bytes, IsTame}
use Rattle.thompson_nfa.specs.Patterns.{HasStart}
use Rattle.thompson_nfa.specs.Prefix.{HasPrefix}
use Rattle.thompson_nfa.proofs.WholePatterns.AnyByteLemmas.{settings_added}
use Rattle.thompson_nfa.proofs.Steps.GrowLemmas.{one_below}

-- ---- past states that stand for others

abbrev pub Out : Table → ℕ → Type 0
Out table q = (n : ℕ) × (stands_for (table (past_in table n q)) ≡ None)

out_one : (table : Table) (q r : ℕ) → table q ≡ empty_draft r → Out table r → Out table q
out_one table q r e o =
    let on : past_in table (suc o.0) q ≡ past_in table o.0 r = ap (λ (draft : DraftNode). going_on q (past_in table o.0) (stands_for draft))
    e in
    (suc o.0, ap (λ (k : ℕ). stands_for (table k)) on ∙ o.1)

on_in_drafts : (drafts : List DraftNode) (n q : ℕ) (next : Option ℕ) → ((r : ℕ) → past_in (draft_at drafts) n r ≡ past_within drafts n r) →
    going_on q (past_in (draft_at drafts) n) next ≡ going_on q (past_within drafts n) next
on_in_drafts drafts n q None same = refl
on_in_drafts drafts n q (Some r) same = same r

pub past_in_list : (drafts : List DraftNode) (n q : ℕ) → past_in (draft_at drafts) n q ≡ past_within drafts n q
past_in_list drafts zero q = refl
past_in_list drafts (suc n) q = on_in_drafts drafts n q (stands_for (draft_at drafts q)) (past_in_list drafts n)

found_on : (drafts : List DraftNode) (n q : ℕ) (next : Option ℕ) → HasNoLoop drafts → stands_for (draft_at drafts q) ≡ next →
    ((r : ℕ) → stands_for (draft_at drafts (past_within drafts n r)) ≡ None → past drafts r ≡ past_within drafts n r) →
    stands_for (draft_at drafts (going_on q (past_within drafts n) next)) ≡ None → past drafts q ≡ going_on q (past_within drafts n) next
found_on drafts n q None loop e later none = past_itself drafts (length drafts) q e
found_on drafts n q (Some r) loop e later none = past_next drafts loop q r e ∙ later r none

-- a state that stands for itself and is met on the path is the one at the path's end
pub past_found : (drafts : List DraftNode) → HasNoLoop drafts → (n q : ℕ) → stands_for (draft_at drafts (past_within drafts n q)) ≡ None →
    past drafts q ≡ past_within drafts n q
past_found drafts loop zero q none = past_itself drafts (length drafts) q none
past_found drafts loop (suc n) q none = found_on drafts n q (stands_for (draft_at drafts q)) loop refl (past_found drafts loop n) none

-- ---- the states before the patterns

pub record IsBefore (reverse : Bool) (xs : List Tree) (b0 b1 b3 : Assembly) (u c : ℕ) : Type 0 where
  pub settings : b1 ≡ record b0 { drafts = b1.drafts }
  pub below : u < length b1.drafts
  pub few : length b1.drafts ≤ 3
  pub bytes : sum_of_bytes b1 + 4 ≤ 4096 * length b1.drafts
  pub tame : (q : ℕ) → q < length b1.drafts → IsTame true b3 (draft_at b3.drafts q)
  pub stands : (q : ℕ) → q < length b1.drafts → Out (draft_at b3.drafts) q
  pub before : ComesBefore reverse xs (draft_at b3.drafts) u c

module _ (reverse : Bool) (xs : List Tree) (b0 b1 b3 : Assembly) (u c : ℕ) (none : length b0.drafts ≡ 0) (no_bytes : sum_of_bytes b0 ≡ 0)
    (longer : length b1.drafts ≤ length b3.drafts) (there : c < length b3.drafts)
    (same : (q : ℕ) → q < length b1.drafts → q ≢ u → draft_at b3.drafts q ≡ draft_at b1.drafts q)
    (led : draft_at b3.drafts u ≡ patched c (draft_at b1.drafts u)) (out : Out (draft_at b3.drafts) c) where
  pub before_empty : list_all (is_anchored_tree reverse) xs ≡ true → AddsDraft b0 b1 u (empty_draft 0) b0.groups →
      IsBefore reverse xs b0 b1 b3 u c
  before_empty anchored x =
      let is = x.is in let size = x.size in let bytes = x.bytes in
      let here : draft_at b3.drafts u ≡ empty_draft c = led ∙ ap (patched c) x.here in
      let P : ℕ → Type 0 = λ q. IsTame true b3 (draft_at b3.drafts q) in
      let Q : ℕ → Type 0 = λ q. Out (draft_at b3.drafts) q in
      let R : DraftNode → Type 0 = λ draft. IsTame true b3 draft in
      let tame : IsTame true b3 (draft_at b3.drafts u) =
      subst R (sym here) (record { named = one_below (length b3.drafts) c there; known = refl; not_barred = refl }) in
      record {
        settings = settings_added b0 b1 u (empty_draft 0) x;
        below = omega arith;
        few = omega arith;
        bytes = omega arith;
        tame = λ q l. let one : u ≡ q = omega arith in subst P one tame;
        stands = λ q l. let one : u ≡ q = omega arith in subst Q one (out_one (draft_at b3.drafts) u c here out);
        before = inl (AllPass-from_list_all (is_anchored_tree reverse) xs anchored, here);
      }

  three : (P : ℕ → Type 0) → P u → P (u + 1) → P (u + 2) → u ≡ 0 → (q : ℕ) → q < 3 → P q
  three P first second third is zero l = subst P is first
  three P first second third is (suc zero) l = let e : u + 1 ≡ 1 = omega arith in subst P e second
  three P first second third is (suc (suc zero)) l = let e : u + 2 ≡ 2 = omega arith in subst P e third
  three P first second third is (suc (suc (suc q))) l = absurd (omega arith)

  pub before_prefix : list_all (is_anchored_tree reverse) xs ≡ false → HasPrefix b0 b1 u → IsBefore reverse xs b0 b1 b3 u c
  before_prefix unanchored x =
      let is = x.is in let size = x.size in let bytes = x.bytes in
      let here : draft_at b3.drafts u ≡ union_reverse_draft ((u + 2) ∷ c ∷ []) = led ∙ ap (patched c) x.loop in
      let back : draft_at b3.drafts (u + 1) ≡ empty_draft u = same (u + 1) (omega arith) (λ e. omega arith) ∙ x.back in
      let any : draft_at b3.drafts (u + 2) ≡ sparse_draft ((0, 255, u + 1) ∷ []) = same (u + 2) (omega arith) (λ e. omega arith) ∙ x.any in
      let P : ℕ → Type 0 = λ q. IsTame true b3 (draft_at b3.drafts q) in
      let Q : ℕ → Type 0 = λ q. Out (draft_at b3.drafts) q in
      let R : DraftNode → Type 0 = λ draft. IsTame true b3 draft in
      let first_out : Out (draft_at b3.drafts) u = (0, ap stands_for here) in
      let names : All (λ q. q < length b3.drafts) ((u + 2) ∷ c ∷ []) = λ k d h.
      elim k as (λ j. j < 2 → get_or ((u + 2) ∷ c ∷ []) j d < length b3.drafts) [
        | zero ↦ λ l. omega arith
        | suc j ↦ λ l. one_below (length b3.drafts) c there j d (omega arith)
      ] h in
      record {
        settings = x.settings;
        below = omega arith;
        few = omega arith;
        bytes = omega arith;
        tame = λ q l. three P (subst R (sym here) (record { named = names; known = refl; not_barred = refl }))
            (subst R (sym back) (record { named = one_below (length b3.drafts) u (omega arith); known = refl; not_barred = refl }))
            (subst R (sym any) (record { named = one_below (length b3.drafts) (u + 1) (omega arith); known = refl; not_barred = refl }))
            (omega arith) q (omega arith);
        stands = λ q l. three Q first_out (out_one (draft_at b3.drafts) (u + 1) u back first_out) (
          0,
          ap stands_for any,
        ) (omega arith) q (omega arith);
        before = inr (
          λ all. let no = list_all-from_AllPass (is_anchored_tree reverse) xs all in absurd (cc),
          record { byte = u + 2; back = u + 1; loop = here; any = any; again = back },
        );
      }

  pub before_all : (anchored : Bool) → anchored ≡ list_all (is_anchored_tree reverse) xs → HasStart anchored b0 b1 u →
      IsBefore reverse xs b0 b1 b3 u c
  before_all true e x = before_empty (sym e) x
  before_all false e x = before_prefix (sym e) x
