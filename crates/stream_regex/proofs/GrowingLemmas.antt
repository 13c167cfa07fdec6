-- Automata that are copied with another capacity of their caches.
use Rattle.std.proofs.Common.{◌≡◌, ℕ, List, Some, refl, sym, ap, ◌∙◌, subst}
use Rattle.nfa_core.specs.NfaValue.{Nfa}
use Rattle.lazy_dfa.specs.Building.{built, classes_of, dfa_of}
use Rattle.lazy_dfa.specs.ConfigValue.{DfaOptions, changed_dfa_options}
use Rattle.lazy_dfa.specs.Dfas.{Dfa}
use Rattle.regex_pair.specs.Pairs.{back_options}
use Rattle.hir_regex.proofs.ForCallers.{both_built, dfa_is, dfa_ok}
use Rattle.streams.specs.Capacities.{without_capacity}
use Rattle.growing_regex.specs.Growing.{largest_for}
use Rattle.stream_regex.specs.Capacities.{IsOrigin}
use Rattle.stream_regex.specs.StreamRegexes.{IsStreamRegexOf, settings_of}
use Rattle.stream_regex.specs.declared.options.Options.{Options}

-- options with this capacity
abbrev pub with_bytes : ℕ → DfaOptions → DfaOptions
with_bytes bytes o = record o { cache_capacity = Some bytes }

-- ---- a copy

same_built : (n : Nfa) (o : DfaOptions) (bytes : ℕ) → without_capacity (dfa_of n o) ≡ without_capacity (dfa_of n (with_bytes bytes o))
unfolding classes_of
same_built n o bytes = refl

module _ (d e : Dfa) (n : Nfa) (o : DfaOptions) (bytes : ℕ) (nfa : n ≡ d.nfa) (options : o ≡ with_bytes bytes d.options)
    (made : built n o ≡ dfa_ok e) where
  is : e ≡ dfa_of d.nfa (with_bytes bytes d.options)
  is = dfa_is n o e made ∙ ap (λ (m : Nfa). dfa_of m o) nfa ∙ ap (λ (p : DfaOptions). dfa_of d.nfa p) options

  pub copy_alike : d ≡ dfa_of d.nfa d.options → without_capacity d ≡ without_capacity e
  copy_alike as_built =
      ap without_capacity as_built ∙ same_built d.nfa d.options bytes ∙ sym (ap without_capacity is)

  pub copy_capacity : e.options.cache_capacity ≡ Some bytes
  copy_capacity = ap (λ (x : Dfa). x.options.cache_capacity) is

-- ---- the automaton of patterns

module _ (o : Options) (texts : List (List ℕ)) (d : Dfa) (it : IsStreamRegexOf o texts d) where
  abbrev made : Dfa
  made = it.pair.forward

  made_is : made ≡ dfa_of made.nfa (settings_of o).dfa
  made_is =
      dfa_is made.nfa (settings_of o).dfa made
      (both_built (built made.nfa (settings_of o).dfa) (built it.pair.reverse.nfa (changed_dfa_options (settings_of o).dfa back_options))
      it.pair it.built.made).0

  made_options : made.options ≡ (settings_of o).dfa
  made_options = ap (λ (x : Dfa). x.options) made_is

  -- it is as it was built, and has the capacity of the options
  pub origin_of : (largest : ℕ) → largest ≡ largest_for o.cache_capacity → IsOrigin d largest
  origin_of largest is = record {
    built = subst (λ (x : Dfa). x ≡ dfa_of x.nfa x.options) (sym it.forward)
        (made_is ∙ ap (λ (p : DfaOptions). dfa_of made.nfa p) (sym made_options));
    largest_is = is ∙ ap (λ (p : DfaOptions). largest_for p.cache_capacity) (sym made_options)
        ∙ ap (λ (x : Dfa). largest_for x.options.cache_capacity) (sym it.forward);
  }
