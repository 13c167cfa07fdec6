use Rattle.std.proofs.Common.{[], ◌∷◌, subst}
use Rattle.hir_core.specs.Tree.{alternation}
use Rattle.meta_regex.specs.declared.literal_starts.LiteralStarts.{LiteralStarts}
use Rattle.meta_regex.specs.Starts.{DescribesStarts}
use Rattle.meta_regex.proofs.WayLemmas.{begun_only}
use Rattle.meta_regex.proofs.ways.literals_of.Goals as goal

pub returns-in-Begins : goal.returns-in-Begins
returns-in-Begins c x it =
    begun_only x c.in-Begins.finder (subst (λ (s : LiteralStarts). DescribesStarts s (alternation (x ∷ []))) c.in-Begins.is it)
