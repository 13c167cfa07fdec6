-- A box, its parts, and the pair of a pointer and an allocator that the machine passes on are one machine value, and what they own differs
-- by the memory at the pointer alone. Assumes `Logic`.
use Rattle.std.proofs.Common.{◌≡◌, ℕ, List, [], ◌∷◌, refl, sym, ap, subst}
use lib.Dec.{T}
use seplogic.Ra.Ura.{Ura}
use mir.Val.{Val, has_ty, WT}
use base.Logic.{id⊢}
use base.Fml.{Fml, ftrue, fsep}
use types.Logic.{Logic}
use types.Kit.{Item, Goal, Seq, Step, step, ‵, ◌⊛◌, ◌$◌, move, use1, join, rewrite, fjoin}
use denote.RattleType.{RattleType}
use denote.RawPtr.{Ptr, RawPtr, block_ptr}
use denote.Steps.{nothing, only}
use denote.Struct.Tuple.{Tuple}
use Rattle.std.specs.Box.Ownership.{box_owns}
use Rattle.std.proofs.alloc.Calls.{token, Fits}
use Rattle.std.proofs.BoxSteps.Form.{Bx, X, D, R, P, B, box_ty, word, box_typed, handle}
use Rattle.std.proofs.BoxSteps.Steps.{box_out, box_in}
use Rattle.hanneddois.specs.contracts.apart.Apart as apart

module _ (E : Bx) where
  abbrev pub PartsOf : RattleType
  PartsOf = apart.the_row (R E) (P E) E.al.g

  abbrev pub PairOf : RattleType
  PairOf = Tuple (RawPtr ∷ P E ∷ [])

  -- the box that the parts make
  abbrev pub closed : PartsOf.Denot → D E
  closed d = record { ptr = d.at; alloc = d.alloc; value = d.value }

  module _ {M : Type 1} {𝓤 : Ura M} {𝓛 : Logic 𝓤} {K : Type 0} {Γ : List (Item 𝓤)} {G : Goal 𝓤 𝓛.H} where
    -- what is owned of a box determines its machine value
    pub box_word : K → (d : D E) (vs : List Val)
        → ((b o : ℕ) (hv : Val) → vs ≡ word E hv b o ∷ [] → Fits E.al hv → Seq K 𝓛 (‵ ((B E).own_val d (word E hv b o ∷ [])) ∷ Γ) G)
        → Seq K 𝓛 (‵ ((B E).own_val d vs) ∷ Γ) G
    box_word t d vs k = box_out E t d vs (λ b o hv e ws fa. box_in E t d b o d.value e refl $ k b o hv ws fa)

    -- so that value is of a box's type
    pub box_fits : K → (d : D E) (u : Val)
        → (T (has_ty (box_ty E) u) × WT u → Seq K 𝓛 (‵ ((B E).own_val d (u ∷ [])) ∷ Γ) G)
        → Seq K 𝓛 (‵ ((B E).own_val d (u ∷ [])) ∷ Γ) G
    box_fits t d u k = box_word t d (u ∷ []) (λ b o hv us fits. rewrite t 0 (λ (vs : List Val). ‵ ((B E).own_val d vs)) (sym us) refl $
        k (subst (λ (w : Val). T (has_ty (box_ty E) w) × WT w) (sym (ap only us)) (box_typed E hv b o fits)))

    -- parts own the memory at the pointer and the allocator
    pub parts_out : K → (d : PartsOf.Denot) (vs : List Val)
        → ((b o : ℕ) (hv : Val) → vs ≡ word E hv b o ∷ [] → Fits E.al hv
        → Seq K 𝓛 (‵ (box_owns (token E.al d.alloc) (R E) (block_ptr b o) d.value) ∷ ‵ (handle E d.alloc hv) ∷ Γ) G)
        → Seq K 𝓛 (‵ (PartsOf.own_val d vs) ∷ Γ) G
    parts_out t d vs k =
        use1 𝓛 (‵ ((B E).own_val (closed d) vs)) (id⊢ 𝓤 _) $ box_out E t (closed d) vs (λ b o hv e ws fa. fjoin t $ k b o hv ws fa)

    -- a pointer and an allocator, with the memory that this allocator gave, are parts
    pub parts_in : K → (r : Ptr × E.al.row.Denot) (a : E.al.row.Denot) (x : X E) (vs : List Val) → r.1 ≡ a
        → Step K 𝓛 (‵ (PartsOf.own_val (record { at = r.0; alloc = r.1; value = x }) vs) ∷ Γ) G
        (‵ (PairOf.own_val r vs) ∷ ‵ (box_owns (token E.al a) (R E) r.0 x) ∷ Γ) G
    parts_in t r a x vs same = step (λ s.
        rewrite t 1 (λ (z : E.al.row.Denot). ‵ (box_owns (token E.al z) (R E) r.0 x)) (sym same) refl $ fjoin t $
        use1 𝓛 (‵ (PartsOf.own_val (record { at = r.0; alloc = r.1; value = x }) vs)) (id⊢ 𝓤 _) $ s)

module _ {M : Type 1} {𝓤 : Ura M} {𝓛 : Logic 𝓤} {K : Type 0} {G : Goal 𝓤 𝓛.H} where
  -- a function that has its result and the tokens of its lifetimes left, and nothing of what it was given
  pub all_given : K → {out : Fml} {tokens : Item 𝓤} → Step K 𝓛 ((tokens ⊛ (‵ (fsep ftrue ftrue) ⊛ ‵ out)) ∷ []) G (‵ out ∷ tokens ∷ []) G
  all_given t = step (λ s. nothing t $ nothing t $ fjoin t $ join t $ move t (1 ∷ 0 ∷ []) $ join t $ s)
