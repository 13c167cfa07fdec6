use Rattle.std.proofs.Common.{inl, inr, sym, subst}
use Rattle.literal_search.specs.Literals.{ListsPrefixes}
use Rattle.literal_search.proofs.ListLemmas.{prefixes_of_itself}
use Rattle.literal_search.proofs.sets.or_shared_prefix.Goals as goal

pub returns : goal.returns
returns c = elim c.rarer.ensures [
  | inl same ↦ subst (λ r. ListsPrefixes c.args.literals r) (sym same) (prefixes_of_itself c.args.literals)
  | inr cut ↦ subst (λ r. ListsPrefixes c.args.literals r) (sym cut) c.in_ok-prefix.ensures
]
