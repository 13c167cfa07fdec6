use Rattle.std.proofs.Common.{◌-◌, arith, subst, sym, ◌∙◌}
use Rattle.literal_search.specs.Literals.{Listed}
use Rattle.literal_search.proofs.ListLemmas.{listed_at}
use Rattle.literal_search.proofs.sets.has_prefix.Goals as goal

pub returns-then-starts_with : goal.returns-then-starts_with
returns-then-starts_with c = λ _. record {
  prefix = c.get.result.now;
  listed = subst (λ l. Listed c.args.literals.now l) (sym c.get.ensures)
      (listed_at c.args.literals.now (c.loop-n.n - 1) (omega (arith, c.loop-n-test.true, c.loop-n.invariant)));
  begins = sym c.starts_with.ensures.value ∙ c.if-starts_with.true;
}
