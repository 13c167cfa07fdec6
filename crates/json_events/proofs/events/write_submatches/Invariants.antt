use Rattle.std.proofs.Common.{◌≡◌, ◌++◌, ◌∷◌, codes, map, take}
use Rattle.std.specs.List.{flat_map}
use Rattle.json.specs.Token.{begin_array, key}
use Rattle.json_events.specs.Events.{span_ends, submatch}
use Rattle.json_events.proofs.events.write_submatches.Given as goal

abbrev pub invariant-loop-span : goal.invariant-loop-span
invariant-loop-span l = record {
  before : l.writer.before ≡ l.fn.writer.before;
  tokens : l.writer.tokens ≡ l.fn.writer.tokens
      ++ key (codes "submatches") ∷ begin_array ∷ flat_map (submatch l.text) (map span_ends (take l.span-index l.found));
}
