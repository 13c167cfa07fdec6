use Rattle.std.proofs.Common.{Bool, Option, ℕ, subst, sym}
use Rattle.hir_core.specs.Tree.{repetition}
use Rattle.meta_regex.specs.Splitting.{PutsParts, PutsRounds}
use Rattle.meta_regex.proofs.SplittingLemmas.{puts_repetition}
use Rattle.meta_regex.proofs.splitting.put_repetition.Goals as goal

pub returns : goal.returns
returns c on =
    subst (λ (g : Bool). PutsParts (repetition c.args.least c.args.most g c.args.body.now) c.args.parts.now.items c.put_rounds.new.parts.items)
    (sym c.if-not-greedy.false)
    (puts_repetition c.args.least c.args.most c.args.body.now c.args.parts.now.items c.put_rounds.new.parts.items
    (subst (λ (o : Option ℕ). PutsRounds c.args.least o c.args.body.now c.args.parts.now.items c.put_rounds.new.parts.items) c.bound_of.ensures
    (c.put_rounds.ensures on)))
