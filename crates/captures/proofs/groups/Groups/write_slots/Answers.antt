use Rattle.std.proofs.Common.{length, None, List, ℕ, rules, subst}
use Rattle.captures.specs.Promises.{WritesSlots}
use Rattle.captures.proofs.FoundLemmas.{slots_known}
use Rattle.captures.proofs.groups.Groups.write_slots.Goals as goal

pub returns-then-write_by_layout : goal.returns-then-write_by_layout
returns-then-write_by_layout c = record {
  written = λ o texts of res read first m span inside there.
      slots_known o.syntax texts c.args.haystack.now c.args.found None c.write_by_layout.new.slots res read first m span inside there
      (length c.args.slots.now) (c.write_by_layout.ensures.written c.if-write_by_layout.true o texts of);
  keeps = search rules;
  cleared = search rules;
}

pub returns : goal.returns
returns c = subst (λ (before : List ℕ). WritesSlots c.args.self.now c.search_slots.new.self c.args.haystack.now c.args.found before
    c.search_slots.new.slots c.search_slots.result) (c.write_by_layout.ensures.kept c.if-write_by_layout.false) c.search_slots.ensures
