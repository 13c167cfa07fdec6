-- `of` has a box and no more. It gives the box to `into_raw_with_allocator`, whose clause answers with a pair: the allocator is that of the
-- box, and what the box owned is at the pointer. Pair and memory are parts. What is left is to copy the two fields into a struct of the
-- same machine value.
use Rattle.std.proofs.Common.{◌≡◌, List, [], ◌∷◌, ◌++◌, refl, ap}
use seplogic.Ra.Ura.{Ura}
use mir.Syntax.{Fn, Args, Dict, a_type, dcons, dnil}
use mir.MapTy.{inst_fn}
use mir.Val.{Val}
use base.Logic.{SProp, id⊢}
use base.Fml.{ftrue, fsep}
use prog.Wp.{WpFn}
use types.Logic.{Logic}
use types.Kit.{Item, Goal, Seq, ‵, raw, prop, ◌⊛◌, some, later, ◌$◌, ◌∵◌, !, qed, move, drop, use1, join, split, split3, pick, regoal}
use types.Kit.{fsplit, fjoin, suffices, await, done}
use types.Part.{whole, sub, agg}
use types.Run.{stop, fld, no_more, and_then, of_opd, returns, enter}
use types.ByLocal.{alloc_all, pass_all, free_all, look_at, get, get_in, sets, lands_as}
use contract.Monad.{fact}
use contract.Running.{tables}
use denote.Exit.{no}
use denote.Param.{bounded}
use denote.Signature.{Slot, plain}
use denote.Steps.{heard, only}
use denote.Triple.Call.{calls_at}
use denote.Triple.Clauses.{Ended}
use denote.Triple.Entry.{alive}
use denote.Triple.Spec.{triple_of}
use denote.Triple.Statement.{Contract}
use denote.Triple.Walked.{says, Stays, stay_dropped, walk_of, ends_at}
use Rattle.std.specs.Box.Ownership.{box_owns}
use Rattle.std.proofs.alloc.Calls.{token, Goes-blank}
use Rattle.std.proofs.raw_atomic.Calls.{fm}
use Rattle.std.proofs.raw_atomic.Walks.{proved_at}
use Rattle.std.proofs.BoxSteps.Form.{Bx, D, R, B, word, box_typed}
use Rattle.std_alloc.specs.contracts.boxed.Box.into_raw_with_allocator as opening
use Rattle.std_alloc.proofs.boxed.Box.into_raw_with_allocator.Met as opened
use Rattle.hanneddois.proofs.ApartSteps.{PartsOf, PairOf, closed, box_word, parts_in, all_given}
use Rattle.hanneddois.specs.contracts.apart.Apart.of as spec
use Rattle.hanneddois.specs.contracts.apart.Apart.of.Key.{name as #self}
use Rattle.hanneddois.proofs.apart.Apart.of.Statement.{statement}
use Rattle.hanneddois.proofs.apart.Apart.of.Code as code

module _ (E : Bx) where
  abbrev FromBox : Slot 2
  FromBox = plain (λ _. B E)

  abbrev instance : Dict → Args
  instance dx = bounded (a_type ∷ a_type ∷ []) (E.row, (E.al.row, tt)) (dcons E.al.d (dcons E.al.drops (dcons dx dnil)))

  -- what the clause answers: a pair, whose allocator is that of the box, and what the box owned, at the pointer
  abbrev Answered : {M : Type 1} (𝓤 : Ura M) → Item 𝓤 → D E → Val → Item 𝓤
  Answered 𝓤 tokens v u = some (λ (r : (PairOf E).Denot). (tokens ⊛ ‵ ((PairOf E).own_val r (u ∷ [])))
      ⊛ some (λ (_ : (Unit {0} × (Unit {0} × Unit {0})) × Unit {0}). ‵ (fsep (fsep ftrue (fsep ftrue ftrue)) ftrue)
      ⊛ (raw (fact 𝓤 (r.1 ≡ v.alloc)) ⊛ ‵ (box_owns (token E.al v.alloc) (R E) r.0 v.value))))

  -- so these are parts of the same value
  abbrev made : D E → (PairOf E).Denot → (PartsOf E).Denot
  made v r = record { at = r.0; alloc = r.1; value = v.value }

  module _ {M : Type 1} {𝓤 : Ura M} {𝓛 : Logic 𝓤} {K : Type 0} {Γ : List (Item 𝓤)} {G : Goal 𝓤 𝓛.H} where
    answers_parts : K → (tokens : Item 𝓤) (v : D E) (u : Val)
        → ((r : (PairOf E).Denot) → Seq K 𝓛 (‵ ((PartsOf E).own_val (made v r) (u ∷ [])) ∷ tokens ∷ Γ) G)
        → Seq K 𝓛 (Answered 𝓤 tokens v u ∷ Γ) G
    answers_parts t tokens v u k = pick t (λ r. split t $ move t (1 ∷ []) $ pick t (λ _. split3 t $ drop t $
        heard t (r.1 ≡ v.alloc) (λ same. move t (1 ∷ []) $ split t $ move t (1 ∷ 2 ∷ []) $
        parts_in E t r v.alloc v.value (u ∷ []) same $ k r)))

pub of_spec : {M : Type 1} → statement M
of_spec 𝓤 𝓛 𝓜 𝓡 wired X Z LX LZ g d dd dx allocator md glue =
    let E : Bx = record { row = X; laws = LX; al = record { row = Z; laws = LZ; g = g; d = d; drops = dd } } in
    let T : Ended = spec.ended X Z g d dd dx in let c = spec.clauses X Z g d dd dx 𝓛 𝓜.mem 𝓡.returns in let 𝓣 = tables 𝓤 𝓛.H 𝓜 𝓡 𝓡.env in
    let stayed : Stays T.signature.params T.kept = (stay_dropped (FromBox E) no, tt) in
    let fn : Fn = inst_fn (instance E dx) code.function in
    let Opens : Contract 𝓤 = triple_of 𝓛 (opening.signature X Z g d dd dx) (opening.spec X Z g d dd dx 𝓛 𝓜.mem 𝓡.returns) in
    proved_at 𝓛 T stayed c 𝓜 𝓡 (Goes-blank 𝓛 2 (FromBox E) no (λ κs x f. tt), tt) (#self (instance E dx)) fn
    (code.unfolded 𝓤 𝓛.H 𝓜 𝓡 wired (X, (Z, tt)) d dd dx) (λ z are.
    let Post : Val → SProp 𝓤 = (walk_of 𝓛 T stayed c).post z in let tokens : Item 𝓤 = raw (alive 𝓛 T.signature z.0.0 z.0.1) in
    let v : D E = z.0.3.0 in
    qed 𝓛 ((tokens ⊛ ‵ (fsep ((B E).own_val v z.0.4.0) ftrue)) ∷ raw ((c z.0.0 z.0.3).requires z.1) ∷ []) ∵ split ! $
    move ! (1 ∷ []) $ fsplit ! $
    box_word E ! v z.0.4.0 (λ b o hv ws fits. let w : Val = word E hv b o in
    regoal ! (λ (us : List Val). prop (WpFn 𝓤 𝓛.H 𝓣.C 𝓣.Λ fn us Post)) (λ i. ws i ++ []) refl $
    enter ! 𝓣.C 𝓣.Λ fn (w ∷ []) Post $ alloc_all ! (λ l. pass_all ! refl (box_typed E hv b o fits, tt) $
    sets ! (of_opd ! (get ! refl)) refl (box_typed E hv b o fits) $
    let asked : Opens.Ghost = ((z.0.0, z.0.1, tt, (v, tt), (w ∷ [], tt)), tt) in
    fjoin ! $ move ! (1 ∷ 0 ∷ []) $ join ! $ join ! $ use1 𝓛 (raw (Opens.pre asked)) (id⊢ 𝓤 _) $
    calls_at ! (fm 𝓛 𝓜 𝓡) Opens (opened.met 𝓤 𝓛 𝓜 𝓡 (code.calls-std_alloc::boxed::Box::into_raw_with_allocator 𝓡.env wired)
    X Z LX LZ g d dd dx allocator md glue) asked (and_then ! (get ! refl) (no_more !)) (λ u.
    use1 𝓛 (later (Answered E 𝓤 tokens v u)) (id⊢ 𝓤 _) $ await ! tt $ answers_parts E ! tokens v u (λ r.
    box_word E ! (closed E (made E v r)) (u ∷ []) (λ b' o' hv' us fits'. let w' : Val = word E hv' b' o' in
    lands_as ! (ap only us) refl (box_typed E hv' b' o' fits') $
    sets ! (of_opd ! (get_in ! (fld ! refl (stop !)) (sub ! 0 refl (whole !)))) refl (tt, tt) $
    sets ! (of_opd ! (get_in ! (fld ! refl (stop !)) (sub ! 1 refl (whole !)))) refl fits' $
    sets ! (of_opd ! (get ! refl)) refl fits' $
    sets ! (agg ! (and_then ! (get ! refl) (and_then ! (get ! refl) (no_more !)))) refl (box_typed E hv' b' o' fits') $
    returns ! (look_at ! 0 refl) $ free_all ! refl $
    suffices ! _ (ends_at 𝓛 T stayed c z w' (made E v r) ((tt, (tt, tt)), tt) (tt, tt)) $ says ! refl $ all_given ! $ done !))))))
