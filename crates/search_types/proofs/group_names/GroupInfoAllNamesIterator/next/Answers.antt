use Rattle.std.proofs.Common.{◌≡◌, ◌+◌, ◌<◌, ◌≤◌, ℕ, arith, length, ap, ◌∙◌}
use Rattle.std.specs.Option.{option_copied}
use Rattle.search_types.specs.Groups.{groups_of}
use Rattle.search_types.specs.GroupPlaces.{left_from}
use Rattle.search_types.proofs.GroupLemmas.{left_step_last, step_goes}
use Rattle.search_types.proofs.group_names.GroupInfoAllNamesIterator.next.Goals as goal

pub returns-clause-steps : goal.returns-clause-steps
returns-clause-steps c =
    let gs = c.self.inside.info.now in
    let p = c.self.inside.pattern in
    let q : c.must-pattern.result ≡ p = c.must-pattern.ensures in
    let count : c.group_len-group_len.result ≡ length (groups_of gs p) =
    c.group_len-group_len.ensures.value ∙ ap (λ (k : ℕ). length (groups_of gs k)) q in
    let pattern : p < length gs = omega (arith, c.if-self-pattern_len.false, c.pattern_len.ensures.value) in
    let here : c.self.inside.next < length (groups_of gs p) = c.self.invariant pattern in
    let last : length (groups_of gs p) ≤ c.self.inside.next + 1 = omega (arith, c.if-group-group_len.false, count) in
    left_step_last gs p c.self.inside.next c.must-pattern.result (option_copied c.to_name-name.result) c.args.self.now c.self.view_is q here
    last c.to_name-name.ensures.value

pub returns-clause-goes : goal.returns-clause-goes
returns-clause-goes c =
    let gs = c.self.inside.info.now in
    let p = c.self.inside.pattern in
    let q : c.must-pattern.result ≡ p = c.must-pattern.ensures in
    let count : c.group_len-group_len.result ≡ length (groups_of gs p) =
    c.group_len-group_len.ensures.value ∙ ap (λ (k : ℕ). length (groups_of gs k)) q in
    let pattern : p < length gs = omega (arith, c.if-self-pattern_len.false, c.pattern_len.ensures.value) in
    let here : c.self.inside.next < length (groups_of gs p) = c.self.invariant pattern in
    let last : length (groups_of gs p) ≤ c.self.inside.next + 1 = omega (arith, c.if-group-group_len.false, count) in
    let step = left_step_last gs p c.self.inside.next c.must-pattern.result
    (option_copied c.to_name-name.result) c.args.self.now c.self.view_is q here last c.to_name-name.ensures.value in
    step_goes (c.must-pattern.result, c.self.inside.next, c.to_name-name.result) (
      c.must-pattern.result,
      c.self.inside.next,
      option_copied c.to_name-name.result,
    ) c.args.self.now
    (left_from gs (p + 1) 0) step
