use Rattle.std.proofs.Common.{ap, arith, length, ℕ, None, rules, ◌∙◌}
use Rattle.captures.proofs.FoundLemmas.{ends_inside, slots_known}
use Rattle.captures.proofs.RowLemmas.{slot_of_start, slots_of_span}
use Rattle.captures.proofs.groups.Groups.search_slots.Goals as goal

pub returns-then-slots-lt2 : goal.returns-then-slots-lt2
returns-then-slots-lt2 c = record {
  written = λ o texts of res read first m span inside there.
      c.write_start.ensures
      ∙ slot_of_start m c.args.found.start (length c.args.slots.now) (ap (λ (s : ℕ × ℕ). s.0) span) (omega (arith, c.if-slots-lt2.true));
  keeps = search rules;
  cleared = search rules;
}

pub returns-then-slots-eq2 : goal.returns-then-slots-eq2
returns-then-slots-eq2 c = record {
  written = λ o texts of res read first m span inside there.
      c.write_span.ensures
      ∙ slots_of_span m c.args.found.start c.args.found.end (length c.args.slots.now) span (omega (arith, c.if-slots-eq2.true));
  keeps = search rules;
  cleared = search rules;
}

pub returns-then-found-haystack : goal.returns-then-found-haystack
returns-then-found-haystack c = record {
  written = λ o texts of res read first m span inside there.
      absurd (omega (arith, c.if-found-haystack.true, ap (λ (s : ℕ × ℕ). s.1) span, ends_inside c.args.haystack.now res m inside there));
  keeps = search rules;
  cleared = search rules;
}

pub returns-in-Ok : goal.returns-in-Ok
returns-in-Ok c = record {
  written = λ o texts of res read first m span inside there.
      slots_known o.syntax texts c.args.haystack.now c.args.found None c.slots_between.new.slots res read first m span inside there
      (length c.args.slots.now) (c.in-Ok.ensures.written o texts of);
  keeps = search rules;
  cleared = search rules;
}
