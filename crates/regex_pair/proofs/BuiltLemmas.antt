-- That what is built of two NFAs is a pair.
use Rattle.std.proofs.Common.{◌≡◌, Result, Ok, Err, ap, ◌∙◌, Bool, true, false, arith, if◌then◌else◌}
use Rattle.nfa_core.specs.NfaValue.{Nfa}
use Rattle.lazy_dfa.specs.Accounting.{least_capacity}
use Rattle.lazy_dfa.specs.Building.{measures_with, dfa_of, is_too_small, built}
use Rattle.lazy_dfa.specs.ConfigValue.{DfaOptions, word_boundary_of, by_hand, capacity_of}
use Rattle.lazy_dfa.specs.declared.build_error.BuildError.{BuildError}
use Rattle.lazy_dfa.specs.declared.build_error.BuildError.TheVariants.{InsufficientCacheCapacity, Unsupported}
use Rattle.lazy_dfa.specs.Dfas.{Dfa}
use Rattle.lazy_dfa.specs.Quits.{is_unsupported}
use Rattle.regex_pair.specs.Pairs.{IsPair}

abbrev of : Dfa → Result Dfa BuildError
of d = Ok d

abbrev error : BuildError → Result Dfa BuildError
error e = Err e

refused : (d : Dfa) (e : BuildError) (P : Type 0) → of d ≡ error e → P
refused d e P is = let never : true ≡ false = cc in absurd (grind (arith, never))

-- what is built of two tests that may reject it
kept_by : (b s : Bool) (e f : BuildError) (d g : Dfa) → Ok d ≡ (if b then Err e else if s then Err f else Ok g) → d ≡ g
kept_by true s e f d g is = refused d e (d ≡ g) is
kept_by false true e f d g is = refused d f (d ≡ g) is
kept_by false false e f d g is = cc

-- an automaton that is built has the NFA of which it is built
pub built_of : (n : Nfa) (o : DfaOptions) (d : Dfa) → Ok d ≡ built n o → d.nfa ≡ n
built_of n o d is = ap (λ (x : Dfa). x.nfa) (kept_by (is_unsupported n.automaton (word_boundary_of o) (by_hand o))
    (is_too_small n o) Unsupported
    (InsufficientCacheCapacity (least_capacity (measures_with n o)) (capacity_of o)) d (dfa_of n o) is)

pub built_pair : (n m : Nfa) (o u : DfaOptions) (f r : Dfa) → Ok f ≡ built n o → Ok r ≡ built m u → n.automaton.reverse ≡ false →
    m.automaton.reverse ≡ true →
    IsPair (record { forward = f; reverse = r })
built_pair n m o u f r is_f is_r up is_reverse = record {
  is_forward = ap (λ (x : Nfa). x.automaton.reverse) (built_of n o f is_f) ∙ up;
  is_reverse = ap (λ (x : Nfa). x.automaton.reverse) (built_of m u r is_r) ∙ is_reverse;
}
