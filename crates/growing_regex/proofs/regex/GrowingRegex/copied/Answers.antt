use Rattle.std.proofs.Common.{sym, subst}
use Rattle.growing_regex.specs.Growing.{AreGrown, Growing}
use Rattle.growing_regex.proofs.GrownLemmas.{grown_again}
use Rattle.growing_regex.proofs.regex.GrowingRegex.copied.Goals as goal

pub returns : goal.returns
returns c =
    grown_again c.args.self.now c.deref.result.now c.in-Some.regex.value c.args.capacity c.requires.some c.requires.within c.in-Some.ensures
    (subst (AreGrown c.args.self.now) (sym c.deref.ensures) (subst (λ (g : Growing). AreGrown g c.self.inside.regex.value) c.self.view_is c.self.invariant.0))
