-- Why nothing is built: the error of a compile, or of one of both automata, by the trees and the settings.
use Rattle.std.proofs.Common.{◌≡◌, ℕ, ◌<◌, ◌≤◌, Bool, true, false, ◌&&◌, not, nat_lt, List, true≢false, refl, sym, ap, ◌∙◌, subst, arith}
use Rattle.std.proofs.Common.{if◌then◌else◌}
use Rattle.std.specs.Prelude.{Result, Ok, Err}
use Rattle.std.proofs.lemmas.Bool.{and_parts, not-true, ltb-true, ltb-false}
use Rattle.hir_core.specs.Tree.{Tree}
use Rattle.nfa_core.specs.NfaValue.{Nfa}
use Rattle.nfa_core.specs.declared.build_error.BuildError.{BuildError as NfaBuildError}
use Rattle.nfa_core.specs.declared.build_error.BuildError.TheVariants as nfa
use Rattle.thompson_nfa.specs.Compilations.{IsCompiled}
use Rattle.thompson_nfa.specs.RefusedTrees.{RejectsTrees}
use Rattle.lazy_dfa.specs.Accounting.{least_capacity}
use Rattle.lazy_dfa.specs.Building.{built, dfa_of, is_too_small, measures_with, error_of_compile}
use Rattle.lazy_dfa.specs.ConfigValue.{DfaOptions, changed_dfa_options, word_boundary_of, by_hand, capacity_of, skips_check}
use Rattle.lazy_dfa.specs.declared.build_error.BuildError.{BuildError}
use Rattle.lazy_dfa.specs.declared.build_error.BuildError.TheVariants.{NFA, InsufficientCacheCapacity, Unsupported}
use Rattle.lazy_dfa.specs.Dfas.{Dfa}
use Rattle.lazy_dfa.specs.Quits.{is_unsupported}
use Rattle.regex_pair.specs.Pairs.{Pair, back_options, both_of, pair_built}
use Rattle.hir_regex.specs.declared.settings.Settings.{Settings}
use Rattle.hir_regex.specs.Built.{FailsBuild, HasRoom, not_compiled, unsupported, too_small, no_memory, compile_options, nfa_for}
use Rattle.hir_regex.specs.Built.{are_unsupported}
use Rattle.hir_regex.proofs.BuiltLemmas.{unsupported_are, same_measures}

abbrev ok_dfa : Dfa → Result Dfa BuildError
ok_dfa d = Ok d

abbrev err_dfa : BuildError → Result Dfa BuildError
err_dfa e = Err e

abbrev ok_pair : Pair → Result Pair BuildError
ok_pair p = Ok p

abbrev err_pair : BuildError → Result Pair BuildError
err_pair e = Err e

same_refusal : (e v : BuildError) → err_dfa e ≡ err_dfa v → e ≡ v
same_refusal e v is = cc

same_pair_refusal : (e v : BuildError) → err_pair e ≡ err_pair v → e ≡ v
same_pair_refusal e v is = cc

no_refusal : (d : Dfa) (e : BuildError) → ok_dfa d ≡ err_dfa e → ⊥
no_refusal d e is = let never : true ≡ false = cc in grind (arith, never)

no_pair_refusal : (p : Pair) (e : BuildError) → ok_pair p ≡ err_pair e → ⊥
no_pair_refusal p e is = let never : true ≡ false = cc in grind (arith, never)

no_dfa_refusal : (d : Dfa) (e : BuildError) → err_dfa e ≡ ok_dfa d → ⊥
no_dfa_refusal d e is = no_refusal d e (sym is)

-- ---- an automaton that is built has room
room_by_tests : (words skips : Bool) (given least : ℕ) (d f : Dfa) (small : Bool) → (not skips && nat_lt given least) ≡ small →
    (if words then Err Unsupported else if small then Err (InsufficientCacheCapacity least given) else ok_dfa d) ≡ ok_dfa f →
    skips ≡ false → least ≤ given
room_by_tests true skips given least d f small is_small is off = absurd (no_dfa_refusal f Unsupported is)
room_by_tests false skips given least d f true is_small is off = absurd (no_dfa_refusal f (InsufficientCacheCapacity least given) is)
room_by_tests false skips given least d f false is_small is off =
    ltb-false given least (subst (λ (b : Bool). (not b && nat_lt given least) ≡ false) off is_small)

room_if_built : (n : Nfa) (o : DfaOptions) (f : Dfa) → built n o ≡ ok_dfa f → HasRoom n o
room_if_built n o f made =
    room_by_tests (is_unsupported n.automaton (word_boundary_of o) (by_hand o)) (skips_check o) (capacity_of o)
    (least_capacity (measures_with n o)) (dfa_of n o) f (is_too_small n o) refl made

abbrev lacks_memory : NfaBuildError → Bool
lacks_memory nfa.NoMemory = true
lacks_memory x = false

module _ (xs : List Tree) (s : Settings) where
  -- ---- the error of a compile
  by_cause : (reverse : Bool) (x : NfaBuildError) (e : BuildError) → lacks_memory x ≡ false →
      RejectsTrees (compile_options reverse s) xs x →
      e ≡ NFA x → FailsBuild xs s e
  by_cause reverse x e other why is = not_compiled reverse x (λ no. true≢false (sym (ap lacks_memory no) ∙ other)) why is

  pub compile_refused : (reverse : Bool) (x : NfaBuildError) (e : BuildError) → RejectsTrees (compile_options reverse s) xs x →
      e ≡ error_of_compile x → FailsBuild xs s e
  compile_refused reverse nfa.TooManyPatterns e why is = by_cause reverse nfa.TooManyPatterns e refl why is
  compile_refused reverse nfa.TooManyStates e why is = by_cause reverse nfa.TooManyStates e refl why is
  compile_refused reverse (nfa.ExceededSizeLimit limit) e why is = by_cause reverse (nfa.ExceededSizeLimit limit) e refl why is
  compile_refused reverse nfa.UnsupportedCaptures e why is = by_cause reverse nfa.UnsupportedCaptures e refl why is
  compile_refused reverse (nfa.Captures err) e why is = by_cause reverse (nfa.Captures err) e refl why is
  compile_refused reverse nfa.NoMemory e why is = no_memory is

  -- ---- the error of one of both automata
  module _ (n m : Nfa) (up : IsCompiled (compile_options false s) xs n) (is_reverse : IsCompiled (compile_options true s) xs m)
      (e : BuildError) where
    by_tests : (reverse : Bool) → (reverse ≡ true → HasRoom n s.dfa) → (words skips : Bool) (given least : ℕ) (d : Dfa) →
        words ≡ are_unsupported xs s.dfa → skips ≡ skips_check s.dfa → given ≡ capacity_of s.dfa →
        least ≡ least_capacity (measures_with (nfa_for reverse n m) s.dfa) → (small : Bool) → (not skips && nat_lt given least) ≡ small →
        (if words then Err Unsupported else if small then Err (InsufficientCacheCapacity least given) else ok_dfa d) ≡ err_dfa e →
        FailsBuild xs s e
    by_tests reverse roomy true skips given least d w k g l small is_small is =
        unsupported n m up is_reverse (sym w) (sym (same_refusal Unsupported e is))
    by_tests reverse roomy false skips given least d w k g l true is_small is =
        let both = and_parts (not skips) (nat_lt given least) is_small in
        let less : given < least = ltb-true given least both.1 in
        too_small n m up is_reverse (sym w) (sym k ∙ not-true skips both.0) reverse roomy (omega (arith, g, l, less))
        (sym (same_refusal (InsufficientCacheCapacity least given) e is) ∙ (λ i. InsufficientCacheCapacity (l i) (g i)))
    by_tests reverse roomy false skips given least d w k g l false is_small is = absurd (no_refusal d e is)

    by_half : (x y : Result Dfa BuildError) → (x ≡ err_dfa e → FailsBuild xs s e) →
        ((f : Dfa) → x ≡ ok_dfa f → y ≡ err_dfa e → FailsBuild xs s e) → both_of x y ≡ err_pair e → FailsBuild xs s e
    by_half (Ok f) (Ok r) first second is = absurd (no_pair_refusal (record { forward = f; reverse = r }) e is)
    by_half (Ok f) (Err v) first second is = second f refl (ap err_dfa (same_pair_refusal v e is))
    by_half (Err v) r first second is = first (ap err_dfa (same_pair_refusal v e is))

    pair_refused : pair_built n m s.dfa ≡ err_pair e → FailsBuild xs s e
    pair_refused is =
        by_half (built n s.dfa) (built m (changed_dfa_options s.dfa back_options))
        (λ first. by_tests false (λ back. absurd (true≢false (sym back)))
        (is_unsupported n.automaton (word_boundary_of s.dfa) (by_hand s.dfa))
        (skips_check s.dfa) (capacity_of s.dfa) (least_capacity (measures_with n s.dfa)) (dfa_of n s.dfa)
        (unsupported_are xs s false n up s.dfa) refl refl refl (is_too_small n s.dfa) refl first)
        (λ f made second. by_tests true (λ back. room_if_built n s.dfa f made)
        (is_unsupported m.automaton (word_boundary_of s.dfa) (by_hand s.dfa)) (skips_check s.dfa) (capacity_of s.dfa)
        (least_capacity (measures_with m (changed_dfa_options s.dfa back_options))) (dfa_of m (changed_dfa_options s.dfa back_options))
        (unsupported_are xs s true m is_reverse s.dfa) refl refl (ap least_capacity (same_measures m s.dfa))
        (is_too_small m (changed_dfa_options s.dfa back_options)) refl second) is

    pub build_refused : (o : DfaOptions) → err_pair e ≡ pair_built n m o → o ≡ s.dfa → FailsBuild xs s e
    build_refused o is same = pair_refused (ap (λ (c : DfaOptions). pair_built n m c) (sym same) ∙ sym is)
