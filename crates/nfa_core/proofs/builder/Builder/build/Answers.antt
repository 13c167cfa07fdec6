use Rattle.std.proofs.Common.{◌≡◌, subst, rules}
use Rattle.nfa_core.specs.BuilderStates.{Assembly, pattern_count}
use Rattle.nfa_core.specs.InOrder.{IsInOrder}
use Rattle.nfa_core.specs.NfaOf.{nfa_of}
use Rattle.nfa_core.proofs.SizeLemmas.{within_limit}
use Rattle.nfa_core.proofs.builder.Builder.build.Goals as goal

pub returns-clause-within : goal.returns-clause-within
returns-clause-within g c =
    let b = c.args.self.now in
    let order : IsInOrder b.drafts (pattern_count b) b.size_limit = subst
    (λ (b : Assembly). IsInOrder b.drafts (pattern_count b) b.size_limit) c.self.view_is c.self.invariant.2 in
    let is : c.in_ok-nfa.nfa ≡ nfa_of b c.args.start_anchored c.args.start_unanchored = search rules in
    within_limit b c.args.start_anchored c.args.start_unanchored c.in_ok-nfa.nfa is order
