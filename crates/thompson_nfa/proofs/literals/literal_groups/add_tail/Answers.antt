use Rattle.std.proofs.Common.{refl}
use Rattle.thompson_nfa.specs.LiteralGroups.{strings_of_groups}
use Rattle.thompson_nfa.proofs.LiteralTries.LiteralGroupLemmas.{pushed_at, inserted_at}
use Rattle.thompson_nfa.proofs.literals.literal_groups.add_tail.Goals as goal

pub returns-then-is_at : goal.returns-then-is_at
returns-then-is_at c = λ before are. pushed_at c.args.byte c.args.tail.now c.args.bytes.now.items
    (strings_of_groups (λ g. g.items) c.args.groups.now.items) (strings_of_groups (λ g. g.items) c.push_at.new.groups.items) before
    c.place_of-at.result c.deref-2.result.now c.deref-2.ensures.value (c.if-is_at.ensures.yes refl) c.in_ok-push_at.ensures are

pub returns : goal.returns
returns c = λ before are. inserted_at c.args.byte c.args.tail.now c.args.bytes.now.items c.insert_at.new.bytes.items
    (strings_of_groups (λ g. g.items) c.args.groups.now.items) (strings_of_groups (λ g. g.items) c.insert_at.new.groups.items) before
    c.place_of-at.result c.deref.result.now c.deref-2.result.now c.deref.ensures.value c.deref-2.ensures.value c.place_of-at.ensures.value
    c.place_of-at.ensures.within c.place_of-at.ensures.is_byte (c.if-is_at.ensures.no refl) c.in_ok-insert_at.ensures.bytes
    c.in_ok-insert_at.ensures.groups are
