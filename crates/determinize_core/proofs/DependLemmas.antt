-- What a sequence of states depends on.
use Rattle.std.proofs.Common.{◌≡◌, ℕ, zero, suc, ◌<◌, List, ap, arith}
use Rattle.look_core.specs.Terminators.{Terminator}
use Rattle.search_types.specs.declared.match_kind.MatchKind.{MatchKind}
use Rattle.nfa_core.specs.Nfa.{Automaton}
use Rattle.nfa_core.specs.Ways.{offset_of}
use Rattle.determinize_core.specs.States.{StateValue}
use Rattle.determinize_core.specs.Starts.{start_of}
use Rattle.determinize_core.specs.Steps.{unit_at, unit_before, start_value, step_value, value_after}
use Rattle.std.specs.Prelude.{Option}

pub walks_alike : (a : Automaton) (t : Terminator) (kind : MatchKind) (h g : List ℕ) (i j q k : ℕ) →
    unit_before a.reverse h i ≡ unit_before a.reverse g j →
    ((m : ℕ) → m < k → unit_at a.reverse h (offset_of a.reverse i m) ≡ unit_at a.reverse g (offset_of a.reverse j m)) →
    value_after a t kind h i q k ≡ value_after a t kind g j q k
walks_alike a t kind h g i j q zero e all = ap (λ (o : Option ℕ). start_value a t (start_of t o) q) e
walks_alike a t kind h g i j q (suc k) e all =
    let before = walks_alike a t kind h g i j q k e (λ m l. all m (omega (arith, l))) in
    let unit = all k (omega arith) in
    stepped (value_after a t kind h i q k) (value_after a t kind g j q k) (unit_at a.reverse h (offset_of a.reverse i k))
    (unit_at a.reverse g (offset_of a.reverse j k)) before unit
  where
    stepped : (v w : StateValue) (x y : Option ℕ) → v ≡ w → x ≡ y → step_value a t kind v x ≡ step_value a t kind w y
    stepped v w x y p r = λ n. step_value a t kind (p n) (r n)
