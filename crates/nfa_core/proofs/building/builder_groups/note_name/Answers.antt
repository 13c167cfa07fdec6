use Rattle.std.proofs.Common.{None, refl, rules}
use Rattle.std.specs.Option.{option_map}
use Rattle.std.specs.String.{string_bytes}
use Rattle.nfa_core.proofs.BuilderLemmas.{view_filled_more, view_named}
use Rattle.nfa_core.proofs.building.builder_groups.note_name.Goals as goal

pub loop-index-preserved : goal.loop-index-preserved
loop-index-preserved c = record {
  most = search rules;
  same = view_filled_more (option_map string_bytes) None c.loop-index.names.items c.push.new.self.items None c.args.index _
      (search rules) refl (search rules) c.loop-index.invariant.same;
  kept = c.loop-index.invariant.kept;
}

pub returns : goal.returns
returns c = view_named (option_map string_bytes) c.args.names.now.items c.loop-index.names.items c.push-2.new.self.items _ c.args.index _
    c.in_ok-push-2.ensures.items c.loop-index.invariant.kept (search rules) (search rules) c.loop-index.invariant.same
