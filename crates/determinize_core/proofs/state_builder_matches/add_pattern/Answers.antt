use Rattle.std.proofs.Common.{◌≡◌, ℕ, ◌≤◌, ◌++◌, List, true, false, arith, ap, sym, ◌∙◌}
use Rattle.std.specs.Prelude.{slice_index, slice_set, nat_eq}
use Rattle.std.specs.Int.Bits.{bit_or}
use Rattle.search_core.specs.Index.{greatest_index}
use Rattle.determinize_core.specs.StateBytes.{has_flag, in_four_bytes}
use Rattle.determinize_core.proofs.AddLemmas.{keeps_listed, keeps_second, keeps_first, keeps_told}
use Rattle.determinize_core.proofs.state_builder_matches.add_pattern.Goals as goal

pub returns-then-has_flag-clause-ok : goal.returns-then-has_flag-clause-ok
returns-then-has_flag-clause-ok c =
    let listed = sym (ap (λ (xs : List ℕ). has_flag (slice_index xs 0) 2) c.deref.ensures.value)
    ∙ (sym c.has_flag.ensures ∙ c.if-has_flag.true) in
    let small : c.args.pid ≤ greatest_index = omega (arith, c.as_u32.ensures.in_range, c.as_u32.ensures.value) in
    let form = c.in_ok-push_number.ensures.ok ∙ ap (λ (n : ℕ). c.args.bytes.now.items ++ in_four_bytes n) c.as_u32.ensures.value in
    keeps_listed c.args.bytes.now.items c.push_number.new.bytes.items c.args.pid c.requires.form small c.requires.absent listed form

pub returns-then-has_flag-2-clause-ok : goal.returns-then-has_flag-2-clause-ok
returns-then-has_flag-2-clause-ok c =
    let listed = sym (ap (λ (xs : List ℕ). has_flag (slice_index xs 0) 2) c.deref.ensures.value)
    ∙ (sym c.has_flag.ensures ∙ c.if-has_flag.false) in
    let matching = sym (ap (λ (xs : List ℕ). has_flag (slice_index xs 0) 1) c.deref-2.ensures.value)
    ∙ (sym c.has_flag-2.ensures ∙ c.if-has_flag-2.true) in
    let small : c.args.pid ≤ greatest_index = omega (
      arith,
      c.as_u32-then-has_flag-2.ensures.in_range,
      c.as_u32-then-has_flag-2.ensures.value,
    ) in
    let added = c.in_ok-push_behind_eight.ensures.ok ∙ ap (λ (n : ℕ). c.args.bytes.now.items
    ++ (in_four_bytes 0 ++ (in_four_bytes 0 ++ in_four_bytes n))) c.as_u32-then-has_flag-2.ensures.value in
    let form = c.set_flag.ensures ∙ ap (λ (xs : List ℕ). slice_set xs 0 (bit_or (slice_index xs 0) 2)) added in
    keeps_second c.args.bytes.now.items c.set_flag.new.bytes.items c.args.pid c.requires.form small c.requires.absent listed matching form

pub returns-then-eq-clause-ok : goal.returns-then-eq-clause-ok
returns-then-eq-clause-ok c =
    let matching = sym (ap (λ (xs : List ℕ). has_flag (slice_index xs 0) 1) c.deref-2.ensures.value)
    ∙ (sym c.has_flag-2.ensures ∙ c.if-has_flag-2.false) in
    let is : nat_eq c.args.pid 0 ≡ true = sym c.eq.ensures ∙ c.if-eq.true in
    let small : c.args.pid ≤ greatest_index = grind (arith, is) in
    keeps_told c.args.bytes.now.items c.set_flag-then-eq.new.bytes.items c.args.pid c.requires.form small c.requires.absent matching is
    c.set_flag-then-eq.ensures

pub returns-clause-ok : goal.returns-clause-ok
returns-clause-ok c =
    let matching = sym (ap (λ (xs : List ℕ). has_flag (slice_index xs 0) 1) c.deref-2.ensures.value)
    ∙ (sym c.has_flag-2.ensures ∙ c.if-has_flag-2.false) in
    let other : nat_eq c.args.pid 0 ≡ false = sym c.eq.ensures ∙ c.if-eq.false in
    let small : c.args.pid ≤ greatest_index = omega (arith, c.as_u32-2.ensures.in_range, c.as_u32-2.ensures.value) in
    let added = c.in_ok-push_behind_four.ensures.ok ∙ ap (λ (n : ℕ). c.args.bytes.now.items
    ++ (in_four_bytes 0 ++ in_four_bytes n)) c.as_u32-2.ensures.value in
    let form = c.set_flag-2.ensures ∙ ap (λ (xs : List ℕ). slice_set xs 0 (bit_or (slice_index xs 0) 3)) added in
    keeps_first c.args.bytes.now.items c.set_flag-2.new.bytes.items c.args.pid c.requires.form small c.requires.absent matching other form
