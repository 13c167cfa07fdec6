use Rattle.std.proofs.Common.{ℕ, ◌-◌, ◌/◌, List, ◌++◌, true, take, drop, arith, ap, sym, ◌∙◌}
use Rattle.std.specs.Prelude.{slice_index}
use Rattle.determinize_core.specs.States.{StateValue}
use Rattle.determinize_core.specs.StateBytes.{has_flag, in_four_bytes}
use Rattle.determinize_core.proofs.EditLemmas.{keeps_all, count_fits}
use Rattle.determinize_core.proofs.state_builder_matches.StateBuilderMatches.into_nfa.Goals as goal

pub overflow_cast-count : goal.overflow_cast-count
overflow_cast-count c =
    let flag = sym (ap (λ (xs : List ℕ). has_flag (slice_index xs 0) 2) c.deref.ensures.value)
    ∙ (sym c.has_flag.ensures ∙ c.if-has_flag.true) in
    let fits = count_fits c.self.inside.bytes.items c.self.invariant.0 flag in
    omega (arith, fits, c.len.ensures, c.self.inside.bytes.ok.0)

pub from_bytes-requires-clause-encoded : goal.from_bytes-requires-clause-encoded
from_bytes-requires-clause-encoded c =
    let flag = sym (ap (λ (xs : List ℕ). has_flag (slice_index xs 0) 2) c.deref.ensures.value)
    ∙ (sym c.has_flag.ensures ∙ c.if-has_flag.true) in
    let form = c.write_number.ensures ∙ ap (λ (n : ℕ). take 9 c.self.inside.bytes.items
    ++ (in_four_bytes ((n - 13) / 4) ++ drop 13 c.self.inside.bytes.items)) (c.len.ensures ∙ c.self.inside.bytes.ok.0) in
    (keeps_all c.self.inside.bytes.items c.write_number.new.bytes.items true c.self.invariant.0 flag form).0

pub from_bytes-requires-clause-empty : goal.from_bytes-requires-clause-empty
from_bytes-requires-clause-empty c =
    let flag = sym (ap (λ (xs : List ℕ). has_flag (slice_index xs 0) 2) c.deref.ensures.value)
    ∙ (sym c.has_flag.ensures ∙ c.if-has_flag.true) in
    let form = c.write_number.ensures ∙ ap (λ (n : ℕ). take 9 c.self.inside.bytes.items
    ++ (in_four_bytes ((n - 13) / 4) ++ drop 13 c.self.inside.bytes.items)) (c.len.ensures ∙ c.self.inside.bytes.ok.0) in
    ap (λ (v : StateValue). v.ids) (keeps_all c.self.inside.bytes.items c.write_number.new.bytes.items true c.self.invariant.0 flag form).1

pub returns-then-has_flag : goal.returns-then-has_flag
returns-then-has_flag c =
    let flag = sym (ap (λ (xs : List ℕ). has_flag (slice_index xs 0) 2) c.deref.ensures.value)
    ∙ (sym c.has_flag.ensures ∙ c.if-has_flag.true) in
    let form = c.write_number.ensures ∙ ap (λ (n : ℕ). take 9 c.self.inside.bytes.items
    ++ (in_four_bytes ((n - 13) / 4) ++ drop 13 c.self.inside.bytes.items)) (c.len.ensures ∙ c.self.inside.bytes.ok.0) in
    c.from_bytes.ensures ∙ ((keeps_all c.self.inside.bytes.items c.write_number.new.bytes.items true c.self.invariant.0 flag form).1
    ∙ c.self.view_is)
