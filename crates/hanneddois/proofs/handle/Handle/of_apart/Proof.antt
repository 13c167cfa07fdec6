-- `of_apart` keeps the pointer, and holds what the parts own.
use Rattle.std.proofs.Common.{List, [], ◌∷◌, ◌++◌, refl, sym, subst}
use Rattle.std.specs.Prelude.{Some}
use mir.Val.{Val}
use base.Logic.{SProp, ent, emp, id⊢}
use base.Fml.{ftrue, fsep}
use prog.Wp.{WpFn}
use types.Kit.{‵, raw, ◌⊛◌, ◌$◌, ◌∵◌, !, qed, keep, drop, use1, join, split, fsplit, fjoin, fpack, suffices, done}
use types.Part.{whole, sub, agg}
use types.Run.{stop, fld, no_more, and_then, of_opd, returns, enter}
use types.ByLocal.{alloc_all, pass_all, free_all, look_at, get, get_in, sets}
use contract.Running.{tables}
use denote.Exit.{yes}
use denote.RawPtr.{block_ptr}
use denote.Steps.{nothing}
use denote.Triple.Walked.{Stays, stay_dropped, walk_of, ends_at, says, Goes-dropped}
use Rattle.std.specs.Box.Ownership.{box_owns}
use Rattle.std.specs.declared.alloc.Global.{Global}
use Rattle.std.specs.contracts.impls.GlobalAllocator.TheImpl.{ghosts}
use Rattle.std.proofs.BoxSteps.Form.{D, B, word, box_typed}
use Rattle.std.proofs.BoxSteps.Steps.{box_out}
use Rattle.std.proofs.raw_atomic.Walks.{proved_at}
use Rattle.ffi_core.specs.contracts.compiled.Compiled as regex
use Rattle.hanneddois.proofs.Boxed.{E, FromParts as From}
use Rattle.hanneddois.proofs.HandleSteps.{one, handle_in}
use Rattle.hanneddois.specs.contracts.handle.Handle.of_apart.{ended, clauses}
use Rattle.hanneddois.specs.contracts.handle.Handle.of_apart.Key.{name as #self}
use Rattle.hanneddois.proofs.handle.Handle.of_apart.Statement.{statement}
use Rattle.hanneddois.proofs.handle.Handle.of_apart.Code as code

abbrev stayed : Stays ended.signature.params ended.kept
stayed = (stay_dropped From yes, tt)

pub of_apart_spec : {M : Type 1} → statement M
of_apart_spec 𝓤 𝓛 𝓜 𝓡 wired =
    let c = clauses 𝓛 𝓜.mem 𝓡.returns in let 𝓣 = tables 𝓤 𝓛.H 𝓜 𝓡 𝓡.env in
    proved_at 𝓛 ended stayed c 𝓜 𝓡 (Goes-dropped 𝓛 0 From yes (λ κs x f. refl), tt) #self code.function
    (code.unfolded 𝓤 𝓛.H 𝓜 𝓡 wired) (λ z are.
    let Post : Val → SProp 𝓤 = (walk_of 𝓛 ended stayed c).post z in
    let Run : List Val → SProp 𝓤 = λ ws. WpFn 𝓤 𝓛.H 𝓣.C 𝓣.Λ code.function ws Post in
    let v : D E = record { ptr = z.0.3.0.at; alloc = z.0.3.0.alloc; value = z.0.3.0.value } in
    qed 𝓛 ((‵ ftrue ⊛ ‵ (fsep ((B E).own_val v z.0.4.0) ftrue)) ∷ raw (emp 𝓤) ∷ []) ∵ split ! $ drop ! $ fsplit ! $ keep ! (0 ∷ []) $
    box_out E ! v z.0.4.0 (λ b o hv e ws fa. keep ! (0 ∷ 1 ∷ []) $ fjoin ! $
    use1 𝓛 (‵ (box_owns (ghosts.dealloc_token v.alloc) regex.the_row (block_ptr b o) v.value)) (id⊢ 𝓤 _) $
    fpack ! Global (λ a. box_owns (ghosts.dealloc_token a) regex.the_row (block_ptr b o) v.value) v.alloc $
    suffices ! (Run (word E hv b o ∷ []))
    (subst (λ (us : List Val). ent 𝓤 (Run (word E hv b o ∷ [])) (Run us)) (sym (λ i. ws i ++ [])) (id⊢ 𝓤 (Run (word E hv b o ∷ [])))) $
    enter ! 𝓣.C 𝓣.Λ code.function (word E hv b o ∷ []) Post $ alloc_all ! (λ l. pass_all ! refl (box_typed E hv b o fa, tt) $
    sets ! (of_opd ! (get_in ! (fld ! refl (stop !)) (sub ! 0 refl (whole !)))) refl (tt, tt) $
    sets ! (of_opd ! (get ! refl)) refl (tt, tt) $
    sets ! (agg ! (and_then ! (get ! refl) (no_more !))) refl (tt, (tt, tt)) $ returns ! (look_at ! 0 refl) $ free_all ! refl $
    handle_in ! (block_ptr b o) (Some v.value) $
    suffices ! _ (ends_at 𝓛 ended stayed c z (one (block_ptr b o)) (record { inside = block_ptr b o; value = Some v.value }) (tt, tt)
    (tt, tt)) $ says ! refl $
    nothing ! $ nothing ! $ fjoin ! $ join ! $ nothing ! $ join ! $ done !)))
