use Rattle.std.proofs.Common.{◌≡◌, ℕ, ◌<◌, ◌∙◌, sym, ap, subst, length, get_or, arith, All}
use Rattle.std.specs.Prelude.{slice_index}
use Rattle.determinize_core.specs.States.{StateValue}
use Rattle.lazy_dfa.specs.Dfas.{Dfa}
use Rattle.lazy_dfa.specs.Caches.{CacheValue, IsCacheOf, HeldAt}
use Rattle.lazy_dfa.proofs.CacheChanges.ChangeLemmas.{one_state}
use Rattle.lazy_dfa.proofs.automaton.dfa.DFA.match_pattern.Goals as goal

-- if there is only one pattern, each state lists only that pattern
only_pattern : (d : Dfa) (v : CacheValue) (id index : ℕ) (s : StateValue) → IsCacheOf d v → length d.nfa.automaton.start_pattern ≡ 1 →
    HeldAt v id s → index < length s.matches → 0 ≡ slice_index s.matches index
only_pattern d v id index s own one held inside =
    let listed : All (λ (p : ℕ). p < length d.nfa.automaton.start_pattern) s.matches =
    subst (λ (t : StateValue). All (λ (p : ℕ). p < length d.nfa.automaton.start_pattern) t.matches) (sym held.3)
    (own.states held.0 held.1).stepped.patterns in
    let below : slice_index s.matches index < length d.nfa.automaton.start_pattern = listed index 0 inside in
    omega (arith, below, one)

pub returns : goal.returns
returns c s h = c.match_pattern.ensures ∙ (ap (λ (t : StateValue). get_or t.matches c.args.index 0) c.state.ensures
    ∙ ap (λ (t : StateValue). get_or t.matches c.args.index 0) (one_state c.args.cache.now c.args.id c.row-k.result s c.requires.own.shape
    c.row-k.ensures.inside c.row-k.ensures.id h))
