-- A handle is a pointer and what it holds. Assumes `Logic`.
use Rattle.std.proofs.Common.{◌≡◌, ℕ, List, [], ◌∷◌, ◌++◌, refl, subst}
use Rattle.std.specs.Prelude.{Option, Some, None}
use seplogic.Ra.Ura.{Ura}
use mir.Val.{Val, vstruct, vcons, vnil, of_list}
use mir.Raw.{raw as bare}
use base.Fraction.{full_share}
use base.Logic.{fst∗, never, guard_i, id⊢}
use types.Logic.{Logic, sem}
use types.Kit.{Item, Goal, Seq, Step, step, ‵, given, ◌$◌, move, drop, use1, learn, fsplit, fjoin, fpick, fpack, feq_i, feq_l}
use contract.Monad.{fact_use}
use denote.RattleType.{Valss}
use denote.Memory.{lone, part_at}
use denote.RawPtr.{RawPtr, Ptr, block_ptr, null_ptr, ptr_val, in_a_block, Testable}
use denote.Steps.{nothing}
use denote.Struct.Struct.{within}
use denote.Struct.Owning.{shape}
use Rattle.std.specs.Box.Ownership.{box_owns}
use Rattle.std.specs.declared.alloc.Global.{Global}
use Rattle.std.specs.contracts.impls.GlobalAllocator.TheImpl.{ghosts}
use Rattle.std.proofs.GlobalToken.{dealloc_token-Testable}
use Rattle.std.proofs.alloc.Calls.{token}
use Rattle.std.proofs.BoxSteps.Form.{R, τ}
use Rattle.hanneddois.specs.Handles.{held}
use Rattle.hanneddois.proofs.Boxed.{E}
use Rattle.hanneddois.specs.contracts.handle.Handle as handle
use Rattle.ffi_core.specs.contracts.compiled.Compiled as regex

abbrev pub one : Ptr → Val
one p = vstruct (vcons (ptr_val p) vnil)

module _ {M : Type 1} {𝓤 : Ura M} {𝓛 : Logic 𝓤} {K : Type 0} {Γ : List (Item 𝓤)} {G : Goal 𝓤 𝓛.H} where
  pub handle_in : K → (p : Ptr) (o : Option regex.the_row.Denot)
      → Step K 𝓛 (‵ (handle.the_row.own_val (record { inside = p; value = o }) (one p ∷ [])) ∷ Γ) G (‵ (held p o) ∷ Γ) G
  handle_in t p o = step (λ s.
      nothing t $ feq_i t (List Val) (ptr_val p ∷ []) (ptr_val p ∷ []) refl $ fjoin t $
      feq_i t (List Val) (one p ∷ []) (one p ∷ []) refl $ fjoin t $
      fpack t (Valss (RawPtr ∷ [])) (within (shape handle.the_type) (p, tt) (one p ∷ [])) (ptr_val p ∷ [], tt) $ fjoin t $ s)

  pub handle_out : K → (d : handle.the_row.Denot) (vs : List Val)
      → (vs ≡ one d.inside ∷ [] → Seq K 𝓛 (‵ (held d.inside d.value) ∷ Γ) G) → Seq K 𝓛 (‵ (handle.the_row.own_val d vs) ∷ Γ) G
  handle_out t d vs k =
      fsplit t $ fpick t (λ vss. fsplit t $ feq_l t (λ ev. fsplit t $ feq_l t (λ ep. drop t $
      k (subst (λ (ps : List Val). vs ≡ vstruct (of_list (ps ++ [])) ∷ []) ep ev))))

  -- null holds nothing; a pointer that holds a regex may be tested for null
  pub held_cases : K → (a : Global) (p : Ptr) (o : Option regex.the_row.Denot)
      → (o ≡ None → p ≡ null_ptr → Seq K 𝓛 Γ G)
      → ((b n : ℕ) (x : regex.the_row.Denot) → o ≡ Some x → p ≡ block_ptr b n → Testable (block_ptr b n)
      → Seq K 𝓛 (‵ (part_at (R E) full_share x b n) ∷ ‵ (token E.al a (bare (τ E)) (block_ptr b n)) ∷ Γ) G)
      → Seq K 𝓛 (‵ (held p o) ∷ Γ) G
  held_cases t a p None nothing_held some_held = fpick t (λ e. drop t $ nothing_held refl e)
  held_cases t a p (Some x) nothing_held some_held = fpick t (λ a'.
      in_a_block t p (λ q. box_owns (ghosts.dealloc_token a') regex.the_row q x)
      (fst∗ 𝓤 (never 𝓤) (sem 𝓛 (ghosts.dealloc_token a' (bare (lone regex.the_row.mir)) null_ptr))) (λ b n e.
      fsplit t $ move t (1 ∷ []) $ use1 𝓛 (‵ (token E.al a (bare (τ E)) (block_ptr b n))) (id⊢ 𝓤 _) $
      use1 𝓛 (given (Testable (block_ptr b n)) (‵ (token E.al a (bare (τ E)) (block_ptr b n))))
      (fact_use 𝓤 (Testable (block_ptr b n)) (dealloc_token-Testable 𝓛 a (bare (τ E)) (block_ptr b n))
      (guard_i 𝓤 (Testable (block_ptr b n)) (sem 𝓛 (token E.al a (bare (τ E)) (block_ptr b n))))) $
      learn t (λ may. move t (1 ∷ []) $ use1 𝓛 (‵ (part_at (R E) full_share x b n)) (id⊢ 𝓤 _) $ some_held b n x refl e may)))
