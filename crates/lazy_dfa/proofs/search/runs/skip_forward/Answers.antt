use Rattle.std.proofs.Common.{refl, subst, ◌∙◌, arith}
use Rattle.lazy_dfa.specs.Caches.{CacheValue}
use Rattle.lazy_dfa.specs.Stretches.{SkipsTo}
use Rattle.lazy_dfa.proofs.PassedBytes.SkipLemmas.{reads_none, reads_skip, reads_there}
use Rattle.lazy_dfa.proofs.search.runs.skip_forward.Goals as goal

pub loop-sid-init : goal.loop-sid-init
loop-sid-init c = record {
  same = refl;
  moves = reads_none c.args.dfa.now c.args.cache.now c.args.haystack.now c.is_made.ensures c.requires.own
      (λ i. omega (arith, c.type_inv.haystack i)) c.requires.is_forward
      (record { at = c.args.from; id = c.args.id }) c.args.end c.requires.row c.requires.untagged c.requires.fits;
}

pub returns-then-not-walked-clause-moves : goal.returns-then-not-walked-clause-moves
returns-then-not-walked-clause-moves c = reads_there c.args.dfa.now c.args.cache.now c.args.haystack.now c.is_made.ensures c.requires.own
    (λ i. omega (arith, c.type_inv.haystack i)) c.requires.is_forward c.loop-sid.cache c.loop-sid.invariant.same
    (record { at = c.args.from; id = c.args.id }) (record { at = c.loop-sid.at; id = c.loop-sid.sid })
    (record { at = c.walk_forward-walked.result.at; id = c.walk_forward-walked.result.id }) c.stretch_end-limit.result c.args.end
    c.requires.row c.loop-sid.invariant.moves c.walk_forward-walked.ensures.moves c.stretch_end-limit.ensures.high

pub loop-sid-preserved : goal.loop-sid-preserved
loop-sid-preserved c =
    let walked = reads_there c.args.dfa.now c.args.cache.now c.args.haystack.now c.is_made.ensures c.requires.own
    (λ i. omega (arith, c.type_inv.haystack i)) c.requires.is_forward c.loop-sid.cache c.loop-sid.invariant.same
    (record { at = c.args.from; id = c.args.id }) (record { at = c.loop-sid.at; id = c.loop-sid.sid })
    (record { at = c.walk_forward-walked.result.at; id = c.walk_forward-walked.result.id }) c.stretch_end-limit.result c.args.end
    c.requires.row c.loop-sid.invariant.moves c.walk_forward-walked.ensures.moves c.stretch_end-limit.ensures.high in
    record {
      same = c.skip_over-at.ensures.same ∙ c.loop-sid.invariant.same;
      moves = reads_skip c.args.dfa.now c.args.cache.now c.args.haystack.now c.is_made.ensures c.requires.own
          (λ i. omega (arith, c.type_inv.haystack i)) c.requires.is_forward
          (record { at = c.args.from; id = c.args.id })
          (record { at = c.walk_forward-walked.result.at; id = c.walk_forward-walked.result.id }) c.args.end c.skip_over-at.result
          c.requires.row walked
          (subst (λ (w : CacheValue). SkipsTo c.args.dfa.now w c.args.haystack.now c.walk_forward-walked.result.id
          c.walk_forward-walked.result.at c.args.end c.skip_over-at.result) c.loop-sid.invariant.same c.skip_over-at.ensures.skips);
    }
