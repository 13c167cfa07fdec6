-- `empty` is null, which holds nothing.
use Rattle.std.proofs.Common.{◌≡◌, [], ◌∷◌, refl, lit<}
use Rattle.std.specs.Prelude.{None}
use base.Logic.{emp}
use base.Fml.{ftrue}
use types.Kit.{‵, raw, ◌⊛◌, ◌$◌, ◌∵◌, !, qed, drop, join, fpack, suffices, done}
use types.Run.{lit, no_more, and_then, returns, enter}
use types.ByLocal.{alloc_all, pass_all, free_all, look_at, sets}
use types.Part.{agg}
use contract.Running.{tables}
use denote.RawPtr.{null_ptr}
use denote.Steps.{nothing}
use denote.Triple.Walked.{Stays, ends_at, says}
use Rattle.std.proofs.raw_atomic.Walks.{proved_at}
use Rattle.hanneddois.proofs.StreamHandleSteps.{one, handle_in}
use Rattle.hanneddois.specs.contracts.stream_handle.StreamHandle.empty.{ended, clauses}
use Rattle.hanneddois.specs.contracts.stream_handle.StreamHandle.empty.Key.{name as #self}
use Rattle.hanneddois.proofs.stream_handle.StreamHandle.empty.Statement.{statement}
use Rattle.hanneddois.proofs.stream_handle.StreamHandle.empty.Code as code

abbrev stayed : Stays ended.signature.params ended.kept
stayed = tt

pub empty_spec : {M : Type 1} → statement M
empty_spec 𝓤 𝓛 𝓜 𝓡 wired =
    let c = clauses 𝓛 𝓜.mem 𝓡.returns in let 𝓣 = tables 𝓤 𝓛.H 𝓜 𝓡 𝓡.env in
    proved_at 𝓛 ended stayed c 𝓜 𝓡 tt #self code.function (code.unfolded 𝓤 𝓛.H 𝓜 𝓡 wired) (λ z are.
    qed 𝓛 ((‵ ftrue ⊛ ‵ ftrue) ∷ raw (emp 𝓤) ∷ []) ∵ drop ! $ drop ! $
    enter ! 𝓣.C 𝓣.Λ code.function [] _ $ alloc_all ! (λ l. pass_all ! refl tt $
    sets ! (agg ! (and_then ! (lit ! tt) (no_more !))) refl (tt, (record { fits = lit< tt }, tt)) $
    returns ! (look_at ! 0 refl) $ free_all ! refl $
    nothing ! $ fpack ! (null_ptr ≡ null_ptr) (λ _. ftrue) refl $ handle_in ! null_ptr None $
    suffices ! _ (ends_at 𝓛 ended stayed c z (one null_ptr) (record { inside = null_ptr; value = None }) tt tt) $ says ! refl $
    nothing ! $ join ! $ nothing ! $ join ! $ done !))
