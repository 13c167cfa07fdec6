-- `into_box` has parts: memory at the pointer, and the allocator that gave it. The clause of `from_raw` asks for these. It also asks that
-- both types outlive the lifetimes, which `into_box` may take as given too. The clause answers with a box of the same value, and that is
-- returned as it is.
use Rattle.std.proofs.Common.{◌≡◌, ℕ, List, [], ◌∷◌, ◌++◌, refl}
use seplogic.Ra.Ura.{Ura}
use mir.Syntax.{Fn}
use mir.MapTy.{inst_fn}
use mir.Val.{Val, vptr, has_ty, WT}
use lib.Dec.{T}
use base.Logic.{SProp, id⊢}
use base.Fml.{ftrue, fsep, feq}
use prog.Wp.{Env, WpFn}
use contract.BorrowLft.{◌⊑◌}
use types.Logic.{Logic}
use types.Kit.{Item, Goal, Seq, Step, step, at_ret, ‵, raw, prop, ◌⊛◌, some, later, ◌$◌, ◌∵◌, !, qed, move, drop, use1, join, split, split3}
use types.Kit.{pick, regoal, fsplit, fjoin, feq_i, suffices, await, done}
use types.Part.{whole, sub}
use types.Run.{stop, fld, no_more, and_then, of_opd, returns, enter, first, blocks, exec}
use types.ByLocal.{alloc_all, pass_all, free_all, look_at, get, get_in, sets, lands_last, env}
use contract.Monad.{fact}
use contract.Running.{tables}
use denote.Exit.{no}
use denote.RawPtr.{block_ptr}
use denote.Signature.{Slot, plain}
use denote.Steps.{heard}
use denote.Triple.Call.{calls_at_last}
use denote.Triple.Clauses.{Ended}
use denote.Triple.Entry.{alive}
use denote.Triple.Spec.{triple_of}
use denote.Triple.Statement.{Contract}
use denote.Triple.Walked.{says, Stays, stay_dropped, walk_of, ends_at}
use Rattle.std.proofs.alloc.Calls.{token, Goes-blank}
use Rattle.std.specs.Box.Ownership.{box_owns}
use Rattle.std.proofs.alloc.Shapes.{after}
use Rattle.std.proofs.raw_atomic.Calls.{fm}
use Rattle.std.proofs.raw_atomic.Walks.{proved_at}
use Rattle.std.proofs.BoxSteps.Form.{Bx, D, R, B, args, box_ty, word, box_typed, handle}
use Rattle.std_alloc.specs.contracts.boxed.Box.from_raw as closing
use Rattle.std_alloc.proofs.boxed.Box.from_raw.Met as shut
use Rattle.hanneddois.proofs.ApartSteps.{PartsOf, box_fits, parts_out, all_given}
use Rattle.hanneddois.specs.contracts.apart.Apart.into_box as spec
use Rattle.hanneddois.specs.contracts.apart.Apart.into_box.Key.{name as #self}
use Rattle.hanneddois.proofs.apart.Apart.into_box.Statement.{statement}
use Rattle.hanneddois.proofs.apart.Apart.into_box.Code as code

module _ (E : Bx) where
  abbrev FromParts : Slot 2
  FromParts = plain (λ _. PartsOf E)

  -- what the clause asks for besides the tokens: the allocator and the pointer are owned, both types outlive, and the memory is there
  abbrev Asked : {M : Type 1} {𝓤 : Ura M} → Item 𝓤 → Item 𝓤 → Item 𝓤 → (PartsOf E).Denot → Val → ℕ → ℕ → Item 𝓤
  Asked tokens lives alloc_lives p hv b o =
      (tokens ⊛ ‵ (fsep (handle E p.alloc hv) (fsep (feq (List Val) (vptr b o ∷ []) (vptr b o ∷ [])) ftrue)))
      ⊛ (lives ⊛ (alloc_lives ⊛ ‵ (box_owns (token E.al p.alloc) (R E) (block_ptr b o) p.value)))

  -- what it answers: a box, which holds the value that the parts held
  abbrev Answered : {M : Type 1} (𝓤 : Ura M) → Item 𝓤 → (PartsOf E).Denot → Val → Item 𝓤
  Answered 𝓤 tokens p u = some (λ (r : D E). (tokens ⊛ ‵ ((B E).own_val r (u ∷ [])))
      ⊛ some (λ (_ : Unit {0} × (Unit {0} × Unit {0})). ‵ (fsep ftrue (fsep ftrue ftrue))
      ⊛ (raw (fact 𝓤 (r.value ≡ p.value)) ⊛ raw (fact 𝓤 (r.alloc ≡ p.alloc)))))

  module _ {M : Type 1} {𝓤 : Ura M} {𝓛 : Logic 𝓤} {K : Type 0} {Γ : List (Item 𝓤)} {G : Goal 𝓤 𝓛.H} where
    -- arguments first, then what is required
    asks : K → (tokens lives alloc_lives : Item 𝓤) (p : (PartsOf E).Denot) (hv : Val) (b o : ℕ)
        → Step K 𝓛 (Asked tokens lives alloc_lives p hv b o ∷ Γ) G
        (‵ (box_owns (token E.al p.alloc) (R E) (block_ptr b o) p.value) ∷ ‵ (handle E p.alloc hv)
        ∷ ‵ ftrue ∷ tokens ∷ lives ∷ alloc_lives ∷ Γ) G
    asks t tokens lives alloc_lives p hv b o = step (λ s.
        feq_i t (List Val) (vptr b o ∷ []) (vptr b o ∷ []) refl $ move t (0 ∷ 3 ∷ []) $ fjoin t $ move t (2 ∷ 0 ∷ []) $ fjoin t $
        move t (2 ∷ 0 ∷ []) $ join t $
        move t (3 ∷ 1 ∷ []) $ join t $ move t (2 ∷ 0 ∷ []) $ join t $
        move t (1 ∷ []) $ join t $ s)

    answers_box : K → (tokens : Item 𝓤) (p : (PartsOf E).Denot) (u : Val)
        → ((r : D E) → r.value ≡ p.value → T (has_ty (box_ty E) u) × WT u → Seq K 𝓛 (‵ ((B E).own_val r (u ∷ [])) ∷ tokens ∷ Γ) G)
        → Seq K 𝓛 (Answered 𝓤 tokens p u ∷ Γ) G
    answers_box t tokens p u k = pick t (λ r. split t $ move t (1 ∷ []) $ pick t (λ _. split t $ drop t $ split t $
        heard t (r.value ≡ p.value) (λ same. drop t $ split t $ move t (1 ∷ []) $ box_fits E t r u (λ typed. k r same typed))))

pub into_box_spec : {M : Type 1} → statement M
into_box_spec 𝓤 𝓛 𝓜 𝓡 wired X Z LX LZ g d dd allocator md =
    let E : Bx = record { row = X; laws = LX; al = record { row = Z; laws = LZ; g = g; d = d; drops = dd } } in
    let En : Ended = spec.ended X Z g d dd in let c = spec.clauses X Z g d dd 𝓛 𝓜.mem 𝓡.returns in let 𝓣 = tables 𝓤 𝓛.H 𝓜 𝓡 𝓡.env in
    let stayed : Stays En.signature.params En.kept = (stay_dropped (FromParts E) no, tt) in
    let fn : Fn = inst_fn (args E) code.function in
    let Closes : Contract 𝓤 = triple_of 𝓛 (closing.signature X Z g d dd) (closing.spec X Z g d dd 𝓛 𝓜.mem 𝓡.returns) in
    proved_at 𝓛 En stayed c 𝓜 𝓡 (Goes-blank 𝓛 2 (FromParts E) no (λ κs x f. tt), tt) (#self (args E)) fn
    (code.unfolded 𝓤 𝓛.H 𝓜 𝓡 wired (X, (Z, tt)) d dd) (λ z are.
    let Post : Val → SProp 𝓤 = (walk_of 𝓛 En stayed c).post z in let tokens : Item 𝓤 = raw (alive 𝓛 En.signature z.0.0 z.0.1) in
    let p : (PartsOf E).Denot = z.0.3.0 in
    let lives : Item 𝓤 = raw (fact 𝓤 (z.0.0.0 ⊑ X.lives)) in let alloc_lives : Item 𝓤 = raw (fact 𝓤 (z.0.0.1.0 ⊑ Z.lives)) in
    qed 𝓛 ((tokens ⊛ ‵ (fsep ((PartsOf E).own_val p z.0.4.0) ftrue)) ∷ (lives ⊛ alloc_lives ⊛ ‵ ftrue) ∷ []) ∵
    move ! (1 ∷ []) $ split3 ! $ move ! (2 ∷ []) $ drop ! $ move ! (2 ∷ []) $ split ! $ move ! (1 ∷ []) $ fsplit ! $
    parts_out E ! p z.0.4.0 (λ b o hv ws fits. let w : Val = word E hv b o in
    regoal ! (λ (us : List Val). prop (WpFn 𝓤 𝓛.H 𝓣.C 𝓣.Λ fn us Post)) (λ i. ws i ++ []) refl $
    enter ! 𝓣.C 𝓣.Λ fn (w ∷ []) Post $ alloc_all ! (λ l. pass_all ! refl (box_typed E hv b o fits, tt) $
    let Ev : Env 𝓤 𝓛.H = env fn.locals l in
    sets ! (of_opd ! (get_in ! (fld ! refl (stop !)) (sub ! 0 refl (whole !)))) refl (tt, tt) $
    sets ! (of_opd ! (get_in ! (fld ! refl (stop !)) (sub ! 1 refl (whole !)))) refl fits $
    first ! $ blocks ! $ sets ! (of_opd ! (get ! refl)) refl fits $
    asks E ! tokens lives alloc_lives p hv b o $
    let asked : Closes.Ghost = ((z.0.0, z.0.1, tt, (p.alloc, (block_ptr b o, tt)), (hv ∷ [], (vptr b o ∷ [], tt))), p.value) in
    use1 𝓛 (raw (Closes.pre asked)) (id⊢ 𝓤 _) $
    calls_at_last ! (fm 𝓛 𝓜 𝓡) Closes (shut.met 𝓤 𝓛 𝓜 𝓡 (code.calls-std_alloc::boxed::Box::from_raw 𝓡.env wired)
    X Z LX LZ g d dd allocator md) asked (and_then ! (get ! refl) (and_then ! (get ! refl) (no_more !))) (λ u.
    use1 𝓛 (later (Answered E 𝓤 tokens p u)) (id⊢ 𝓤 _) $ await ! tt $ answers_box E ! tokens p u (λ r same typed.
    lands_last ! refl typed $ exec ! 𝓣.C 𝓣.Λ Ev (after 3 fn.body) (at_ret Ev Post) $
    sets ! (of_opd ! (get ! refl)) refl typed $
    returns ! (look_at ! 0 refl) $ free_all ! refl $
    suffices ! _ (ends_at 𝓛 En stayed c z u r ((tt, (tt, tt)), tt) (tt, tt)) $ says ! same $ all_given ! $ done !)))))
