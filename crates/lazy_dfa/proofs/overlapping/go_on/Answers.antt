use Rattle.std.proofs.Common.{sym, subst}
use Rattle.search_types.specs.declared.match_error.MatchErrorKind.{MatchErrorKind}
use Rattle.lazy_dfa.specs.declared.overlapping.overlapping_state.OverlappingPosition.{OverlappingPosition}
use Rattle.lazy_dfa.specs.declared.overlapping.overlapping_state.OverlappingPosition.TheVariants.{Ended, Failed}
use Rattle.lazy_dfa.specs.OverlappingAnswers.{MakesCall, failed_by}
use Rattle.lazy_dfa.specs.Overlapping.{OverlappingValue}
use Rattle.lazy_dfa.proofs.OverlappingWalks.WalkCallLemmas.{fine, failure, ended_call, failed_call}
use Rattle.lazy_dfa.proofs.overlapping.go_on.Goals as goal

pub returns-in-Ended-clause-call : goal.returns-in-Ended-clause-call
returns-in-Ended-clause-call g c =
    subst (λ (w : OverlappingPosition). MakesCall c.args.dfa.now c.args.input.now c.args.cache.now c.args.cache.now
    c.args.work.now.determinized
    c.args.work.now.determinized c.args.work.now.inserted c.args.work.now.inserted w c.ended.result fine) (sym c.in-Ended.is)
    (subst (λ (s : OverlappingValue). MakesCall c.args.dfa.now c.args.input.now c.args.cache.now c.args.cache.now
    c.args.work.now.determinized
    c.args.work.now.determinized c.args.work.now.inserted c.args.work.now.inserted Ended s fine) (sym c.ended.ensures)
    (ended_call c.args.dfa.now c.args.input.now c.args.cache.now c.args.work.now.determinized c.args.work.now.inserted))

pub returns-in-Failed-clause-err : goal.returns-in-Failed-clause-err
returns-in-Failed-clause-err g c =
    subst (λ (w : OverlappingPosition). MakesCall c.args.dfa.now c.args.input.now c.args.cache.now c.args.cache.now
    c.args.work.now.determinized
    c.args.work.now.determinized c.args.work.now.inserted c.args.work.now.inserted w (failed_by c.new.result) (failure c.new.result))
    (sym c.in-Failed.is)
    (subst (λ (e : MatchErrorKind). MakesCall c.args.dfa.now c.args.input.now c.args.cache.now c.args.cache.now
    c.args.work.now.determinized c.args.work.now.determinized c.args.work.now.inserted c.args.work.now.inserted
    (Failed c.in-Failed.kind) (failed_by e) (failure e)) (sym c.new.ensures)
    (failed_call c.args.dfa.now c.args.input.now c.args.cache.now c.args.work.now.determinized c.args.work.now.inserted c.in-Failed.kind))
