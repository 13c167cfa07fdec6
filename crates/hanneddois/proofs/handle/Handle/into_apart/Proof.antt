-- `into_apart` tests the pointer for null: there the handle holds nothing, and else the parts of a box.
use Rattle.std.proofs.Common.{◌≡◌, ℕ, List, [], ◌∷◌, ◌++◌, refl, sym, ap, ap₂, ◌∙◌, subst, lit<}
use Rattle.std.specs.Prelude.{Some, None}
use mir.Val.{Val, vcons, vnil, of_list}
use mir.Raw.{raw as bare}
use base.Fraction.{full_share}
use base.Logic.{SProp, ent, emp}
use base.Fml.{ftrue, fsep}
use prog.Wp.{WpFn}
use types.Kit.{Item, ‵, raw, ◌⊛◌, given, at_ret, ◌$◌, ◌∵◌, !, qed, by, move, keep, drop, use0, use1, join, split, fsplit, fsplit3, fjoin}
use types.Kit.{fjoin3, fpick, learn, rewrite, suffices, done}
use types.Part.{whole, sub, agg}
use types.Run.{stop, fld, lit, of_opd, bin, no_more, and_then, first, branches, exec, returns, enter}
use types.ByLocal.{alloc_all, pass_all, free_all, look_at, get, get_in, sets, sets_last, env}
use types.Match.{live}
use contract.Running.{tables}
use denote.Exit.{yes}
use denote.RattleType.{RattleType}
use denote.Memory.{part_at}
use denote.Signature.{type_at}
use denote.RawPtr.{Ptr, block_ptr, null_ptr, tests_null, Testable}
use denote.Steps.{nothing}
use denote.Triple.Walked.{Stays, stay_dropped, walk_of, ends_at, says, Goes-dropped}
use Rattle.std.specs.declared.alloc.Global.{Global}
use Rattle.std.proofs.option.Made.{Some-of, none_of}
use Rattle.std.proofs.alloc.Calls.{handle_tells, token}
use Rattle.std.proofs.BoxSteps.Form.{D, R, τ, handle, word, box_typed}
use Rattle.std.proofs.BoxSteps.Steps.{box_in}
use Rattle.std.proofs.ResultValues.{and_tt}
use Rattle.std.proofs.raw_atomic.Walks.{proved_at}
use Rattle.ffi_core.specs.contracts.compiled.Compiled as regex
use Rattle.hanneddois.proofs.Boxed.{E, Parts, FromHandle, FromAlloc}
use Rattle.hanneddois.proofs.HandleSteps.{one, handle_out, held_cases}
use Rattle.hanneddois.specs.contracts.handle.Handle.into_apart.{ended, clauses}
use Rattle.hanneddois.specs.contracts.handle.Handle.into_apart.Key.{name as #self}
use Rattle.hanneddois.proofs.handle.Handle.into_apart.Statement.{statement}
use Rattle.hanneddois.proofs.handle.Handle.into_apart.Code as code

abbrev stayed : Stays ended.signature.params ended.kept
stayed = (stay_dropped FromHandle yes, (stay_dropped FromAlloc yes, tt))

pub into_apart_spec : {M : Type 1} → statement M
into_apart_spec 𝓤 𝓛 𝓜 𝓡 wired =
    let c = clauses 𝓛 𝓜.mem 𝓡.returns in let 𝓣 = tables 𝓤 𝓛.H 𝓜 𝓡 𝓡.env in let Out : RattleType = type_at ended.signature.result tt in
    proved_at 𝓛 ended stayed c 𝓜 𝓡 (
      Goes-dropped 𝓛 0 FromHandle yes (λ κs x f. refl),
      (Goes-dropped 𝓛 0 FromAlloc yes (λ κs x f. refl), tt),
    ) #self code.function (code.unfolded 𝓤 𝓛.H 𝓜 𝓡 wired) (λ z are.
    let Post : Val → SProp 𝓤 = (walk_of 𝓛 ended stayed c).post z in
    let Run : List Val → SProp 𝓤 = λ ws. WpFn 𝓤 𝓛.H 𝓣.C 𝓣.Λ code.function ws Post in
    let h = z.0.3.0 in let p : Ptr = h.inside in let a : Global = z.0.3.1.0 in
    qed 𝓛 ((‵ ftrue ⊛ ‵ (fsep ((FromHandle.row tt).own_val h z.0.4.0) (fsep ((FromAlloc.row tt).own_val a z.0.4.1.0) ftrue))) ∷ raw
    (emp 𝓤) ∷ []) ∵ split ! $ drop ! $ fsplit3 ! $ keep ! (1 ∷ 0 ∷ []) $
    handle_tells E.al ! a z.0.4.1.0 (λ hv ea fa. move ! (1 ∷ []) $ handle_out ! h z.0.4.0 (λ ws.
    let at_null : h.value ≡ None → ent 𝓤 (types.Kit.⋆ 𝓛 []) (Run (one null_ptr ∷ hv ∷ [])) = λ is.
    (qed 𝓛 [] ∵ enter ! 𝓣.C 𝓣.Λ code.function (one null_ptr ∷ hv ∷ []) Post $
    alloc_all ! (λ l. pass_all ! refl ((tt, (record { fits = lit< tt }, tt)), (fa, tt)) $ let Ev = env code.function.locals l in
    sets ! (of_opd ! (get_in ! (fld ! refl (stop !)) (sub ! 0 refl (whole !)))) refl (tt, record { fits = lit< tt }) $
    sets ! (bin ! (get ! refl) (lit ! tt) tt) refl (tt, tt) $
    first ! $ branches ! (get ! refl)
    (λ _. sets_last ! (agg ! (and_then ! (lit ! tt) (no_more !))) refl (tt, (record { fits = lit< tt }, tt)) $
    exec ! 𝓣.C 𝓣.Λ Ev code.Mir.t-4 (at_ret Ev Post) $ sets ! (of_opd ! (get ! refl)) refl (tt, (record { fits = lit< tt }, tt)) $
    returns ! (look_at ! 0 refl) $ free_all ! refl $
    use0 𝓛 (‵ (Out.own_val None (live 0 (of_list []) ∷ []))) (none_of 𝓛 Parts) $
    suffices ! _ (ends_at 𝓛 ended stayed c z (live 0 (of_list [])) None (tt, (tt, tt)) (tt, (tt, tt))) $ says ! is $
    nothing ! $ nothing ! $ nothing ! $ fjoin3 ! $ join ! $ nothing ! $ join ! $ done !)
    (λ wrong. absurd wrong))) in
    let at_block : (b o : ℕ) (x : regex.the_row.Denot) → h.value ≡ Some x → Testable (block_ptr b o)
    → ent 𝓤 (types.Kit.⋆ 𝓛 (‵ (part_at (R E) full_share x b o) ∷ ‵ (token E.al a (bare (τ E)) (block_ptr b o)) ∷ ‵ (handle E a hv) ∷ []))
    (Run (one (block_ptr b o) ∷ hv ∷ [])) = λ b o x is may.
    let v : D E = record { ptr = block_ptr b o; alloc = a; value = x } in let w : Val = word E hv b o in
    let typed = box_typed E hv b o fa in let v₁ : Val = live 1 (vcons w vnil) in
    (qed 𝓛 (‵ (part_at (R E) full_share x b o) ∷ ‵ (token E.al a (bare (τ E)) (block_ptr b o)) ∷ ‵ (handle E a hv) ∷ []) ∵
    box_in E ! v b o x refl refl $
    enter ! 𝓣.C 𝓣.Λ code.function (one (block_ptr b o) ∷ hv ∷ []) Post $
    alloc_all ! (λ l. pass_all ! refl ((tt, (tt, tt)), (fa, tt)) $ let Ev = env code.function.locals l in
    sets ! (of_opd ! (get_in ! (fld ! refl (stop !)) (sub ! 0 refl (whole !)))) refl (tt, tt) $
    sets ! (bin ! (get ! refl) (lit ! tt) (tests_null (block_ptr b o) may)) refl (tt, tt) $
    first ! $ branches ! (get ! refl) (λ wrong. absurd wrong)
    (λ _. sets ! (of_opd ! (get ! refl)) refl (tt, tt) $
    sets ! (agg ! (and_then ! (get ! refl) (and_then ! (get ! refl) (no_more !)))) refl typed $
    sets_last ! (agg ! (and_then ! (lit ! tt) (and_then ! (get ! refl) (no_more !)))) refl
    (and_tt _ typed.0, (record { fits = lit< tt }, (typed.1, tt))) $
    exec ! 𝓣.C 𝓣.Λ Ev code.Mir.t-4 (at_ret Ev Post) $ sets ! (of_opd ! (get ! refl)) refl
    (and_tt _ typed.0, (record { fits = lit< tt }, (typed.1, tt))) $ returns ! (look_at ! 0 refl) $ free_all ! refl $
    use1 𝓛 (‵ (Out.own_val (Some (record { at = block_ptr b o; alloc = a; value = x })) (v₁ ∷ [])))
    (Some-of 𝓛 Parts (record { at = block_ptr b o; alloc = a; value = x }) w) $
    suffices ! _ (ends_at 𝓛 ended stayed c z v₁ (Some (record { at = block_ptr b o; alloc = a; value = x })) (tt, (tt, tt)) (tt, (tt, tt)))
    $ says ! is $
    nothing ! $ nothing ! $ nothing ! $ fjoin3 ! $ join ! $ nothing ! $ join ! $ done !))) in
    let args : (q : Ptr) → p ≡ q → z.0.4.0 ++ (z.0.4.1.0 ++ []) ≡ one q ∷ hv ∷ [] =
    λ q e. ap₂ (λ (us vs : List Val). us ++ (vs ++ [])) (ws ∙ ap (λ (r : Ptr). one r ∷ []) e) ea in
    held_cases ! a p h.value
    (λ is at. drop ! $ by ! (subst (λ (us : List Val). ent 𝓤 (types.Kit.⋆ 𝓛 []) (Run us)) (sym (args null_ptr at)) (at_null is)))
    (λ b o x is at may. by ! (subst (λ (us : List Val). ent 𝓤 (types.Kit.⋆ 𝓛
    (‵ (part_at (R E) full_share x b o) ∷ ‵ (token E.al a (bare (τ E)) (block_ptr b o)) ∷ ‵ (handle E a hv) ∷ [])) (Run us))
    (sym (args (block_ptr b o) at)) (at_block b o x is may))))))
