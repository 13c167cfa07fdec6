use Rattle.std.proofs.Common.{◌+◌, ap, ◌∙◌, arith}
use Rattle.thompson_nfa.specs.LiteralGroups.{texts, strings_of_groups, edges_by}
use Rattle.thompson_nfa.proofs.LiteralTries.LiteralGroupLemmas.{chunk_adds, chunk_holds, group_count, groups_joined}
use Rattle.thompson_nfa.proofs.literals.literal_groups.chunk.Goals as goal

pub returns-clause-adds : goal.returns-clause-adds
returns-clause-adds c = chunk_adds c.add_strings.new.bytes.items (strings_of_groups (λ g. g.items) c.args.groups.now.items)
    (strings_of_groups (λ g. g.items) c.add_strings.new.groups.items) (strings_of_groups (λ g. g.items) c.append.new.self.items)
    c.in_ok-edges.edges.items (texts c.args.strings.now) (c.args.first + c.len-before.result) c.in_ok-add_strings.ensures
    (groups_joined (λ g. g.items) c.args.groups.now.items c.add_strings.new.groups.items c.append.new.self.items
    c.in_ok-append.ensures.items)
    (c.in_ok-edges.ensures ∙ ap (edges_by (c.args.first + c.len-before.result)) c.deref.ensures.value)

pub returns-clause-chunk : goal.returns-clause-chunk
returns-clause-chunk c = chunk_holds c.add_strings.new.bytes.items (strings_of_groups (λ g. g.items) c.args.groups.now.items)
    (strings_of_groups (λ g. g.items) c.add_strings.new.groups.items) (strings_of_groups (λ g. g.items) c.append.new.self.items)
    c.in_ok-edges.edges.items (texts c.args.strings.now) (c.args.first + c.len-before.result) c.in_ok-add_strings.ensures
    (groups_joined (λ g. g.items) c.args.groups.now.items c.add_strings.new.groups.items c.append.new.self.items
    c.in_ok-append.ensures.items)
    (c.in_ok-edges.ensures ∙ ap (edges_by (c.args.first + c.len-before.result)) c.deref.ensures.value)
    c.args.first (search (arith, c.len-before.ensures, group_count (λ g. g.items) c.args.groups.now.items))
