use Rattle.std.proofs.Common.{◌∙◌, ap, length}
use Rattle.determinize_core.specs.States.{StateValue}
use Rattle.lazy_dfa.proofs.CacheChanges.ChangeLemmas.{one_state}
use Rattle.lazy_dfa.proofs.automaton.dfa.DFA.match_len.Goals as goal

pub returns : goal.returns
returns c s h = c.match_len.ensures ∙ (ap (λ (t : StateValue). length t.matches) c.state.ensures
    ∙ ap (λ (t : StateValue). length t.matches) (one_state c.args.cache.now c.args.id c.row-k.result s c.requires.own.shape
    c.row-k.ensures.inside c.row-k.ensures.id h))
