use Rattle.std.proofs.Common.{subst}
use Rattle.lazy_dfa.specs.SearchAnswers.{pair_of}
use Rattle.lazy_dfa.proofs.Courses.LingerLemmas.{between_both}
use Rattle.lazy_dfa.proofs.CacheChanges.LinkedLemmas.{AreBytes}
use Rattle.lazy_dfa.proofs.search.passing.run_further.Goals as goal

pub returns-clause-goes : goal.returns-clause-goes
returns-clause-goes c m n = between_both c.args.dfa.now c.args.cache.now c.args.input.now c.args.is_reverse c.args.position.at
    c.run-next.result.at c.linger.result.at
    c.args.position.id c.run-next.result.id c.linger.result.id (pair_of c.args.position.best) (pair_of c.run-next.result.best)
    (pair_of c.linger.result.best)
    c.is_made.ensures (subst AreBytes c.haystack.ensures.value c.see_bytes.ensures) c.requires.own c.requires.row c.run-next.ensures.row
    c.run-next.ensures.closer c.linger.ensures.closer m n
    (c.run-next.ensures.goes c.args.input.now.earliest m n) (rw c.run-next.ensures.same at (c.linger.ensures.goes m n))
