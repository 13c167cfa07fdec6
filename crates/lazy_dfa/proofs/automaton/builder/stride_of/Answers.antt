use Rattle.std.proofs.Common.{◌≡◌, ◌∙◌, ◌^◌, ℕ, ap, arith}
use Rattle.search_core.specs.Classes.{alphabet_size}
use Rattle.lazy_dfa.proofs.Automata.BuildLemmas.{power_found}
use Rattle.lazy_dfa.proofs.automaton.builder.stride_of.Goals as goal

pub returns : goal.returns
returns c =
    let over : c.loop-index._index ≡ c.stride2-exponent.result = omega (arith, c.loop-index-test.false, c.loop-index.auto._index-end) in
    c.loop-index.invariant ∙ (ap (λ (k : ℕ). 2 ^ k) over
    ∙ power_found c.stride2-exponent.result (alphabet_size c.args.classes.now) c.stride2-exponent.ensures.least
    c.stride2-exponent.ensures.most)
