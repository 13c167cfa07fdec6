use Rattle.std.proofs.Common.{◌≡◌, ◌≤◌, drop}
use Rattle.grep_cli.specs.ClassNames.{Other, fault_from}
use Rattle.grep_cli.proofs.class_names.misnamed_in.Given as goal

abbrev pub invariant-loop-part : goal.invariant-loop-part
invariant-loop-part l = record {
  found : fault_from Other l.depth l.at (drop l.at l.text) ≡ fault_from Other 0 0 l.text;
  far : l._part ≤ l.at;
  few : l.depth ≤ l._part;
}
