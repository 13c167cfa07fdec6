-- Copies of automata with other options.
use Rattle.std.proofs.Common.{◌≡◌, ℕ, false, true, Some, sym, ap, ap₂, ◌∙◌, subst}
use Rattle.search_types.proofs.ForCallers.{option_or-None}
use Rattle.nfa_core.specs.NfaValue.{Nfa}
use Rattle.thompson_nfa.specs.Compilations.{IsCompiled}
use Rattle.lazy_dfa.specs.Building.{built}
use Rattle.lazy_dfa.specs.ConfigValue.{DfaOptions, changed_dfa_options, no_dfa_options}
use Rattle.lazy_dfa.specs.Dfas.{Dfa, IsDfa}
use Rattle.regex_pair.specs.Pairs.{Pair, back_options, pair_built}
use Rattle.hir_regex.specs.Built.{IsBuilt, compile_options}
use Rattle.hir_regex.proofs.ForCallers.{both_built, dfa_is, dfa_ok, pair_ok}
use Rattle.growing_regex.specs.Growing.{IsBuiltWith, IsResized}

-- a configuration is all that a new builder has set
pub set_once : (o : DfaOptions) → changed_dfa_options no_dfa_options o ≡ o
set_once o = λ i. record {
  match_kind = option_or-None o.match_kind i;
  starts_for_each_pattern = option_or-None o.starts_for_each_pattern i;
  byte_classes = option_or-None o.byte_classes i;
  unicode_word_boundary = option_or-None o.unicode_word_boundary i;
  quit_set = option_or-None o.quit_set i;
  specialize_start_states = option_or-None o.specialize_start_states i;
  cache_capacity = option_or-None o.cache_capacity i;
  skip_cache_capacity_check = option_or-None o.skip_cache_capacity_check i;
  minimum_cache_clear_count = option_or-None o.minimum_cache_clear_count i;
  minimum_bytes_per_state = option_or-None o.minimum_bytes_per_state i;
}

-- options with this capacity
abbrev pub with_bytes : ℕ → DfaOptions → DfaOptions
with_bytes bytes o = record o { cache_capacity = Some bytes }

-- the parts of a pair that is built
module _ (n m : Nfa) (o : DfaOptions) (q : Pair) (made : pair_built n m o ≡ pair_ok q) where
  both : (built n o ≡ dfa_ok q.forward) × (built m (changed_dfa_options o back_options) ≡ dfa_ok q.reverse)
  both = both_built (built n o) (built m (changed_dfa_options o back_options)) q made

  pub same_forward : q.forward.nfa ≡ n
  same_forward = ap (λ (d : Dfa). d.nfa) (dfa_is n o q.forward both.0)

  pub same_reverse : q.reverse.nfa ≡ m
  same_reverse = ap (λ (d : Dfa). d.nfa) (dfa_is m (changed_dfa_options o back_options) q.reverse both.1)

  pub same_options : q.forward.options ≡ o
  same_options = ap (λ (d : Dfa). d.options) (dfa_is n o q.forward both.0)

-- what is built of the same automata with these options
built_with : (o : DfaOptions) (p q : Pair) → pair_built p.forward.nfa p.reverse.nfa o ≡ pair_ok q → IsDfa q.forward → IsDfa q.reverse →
    IsBuiltWith o p q
built_with o p q made forward reverse xs s it =
    let first : q.forward.nfa ≡ p.forward.nfa = same_forward p.forward.nfa p.reverse.nfa o q made in
    let second : q.reverse.nfa ≡ p.reverse.nfa = same_reverse p.forward.nfa p.reverse.nfa o q made in
    record {
      is_forward = subst (λ (n : Nfa). IsCompiled (compile_options false s) xs n) (sym first) it.is_forward;
      is_reverse = subst (λ (n : Nfa). IsCompiled (compile_options true s) xs n) (sym second) it.is_reverse;
      made = ap₂ (λ (n m : Nfa). pair_built n m o) first second ∙ made;
      forward = forward;
      reverse = reverse;
    }

-- what is built of copies of the automata
pub built_of_copies : (o : DfaOptions) (p q : Pair) (n m : Nfa) (k : DfaOptions) → n ≡ p.forward.nfa → m ≡ p.reverse.nfa → k ≡ o →
    pair_built n m k ≡ pair_ok q → IsDfa q.forward → IsDfa q.reverse → IsBuiltWith o p q
built_of_copies o p q n m k forward_is reverse_is options made =
    built_with o p q
    (subst (λ (k : DfaOptions). pair_built p.forward.nfa p.reverse.nfa k ≡ pair_ok q) options
    (ap₂ (λ (a b : Nfa). pair_built a b k) (sym forward_is) (sym reverse_is) ∙ made))

-- options that differ in the capacity alone
pub resized_of : (bytes : ℕ) (p q : Pair) (o : DfaOptions) → o ≡ with_bytes bytes p.forward.options → IsBuiltWith o p q → IsResized bytes p q
resized_of bytes p q o options rebuilt xs s it =
    let same : p.forward.options ≡ s.dfa = same_options p.forward.nfa p.reverse.nfa s.dfa p it.made in
    subst (λ (k : DfaOptions). IsBuilt xs (record s { dfa = k }) q) (options ∙ ap (with_bytes bytes) same) (rebuilt xs s it)
