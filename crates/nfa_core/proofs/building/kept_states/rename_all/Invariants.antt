use Rattle.std.proofs.Common.{◌≡◌, map, take}
use Rattle.nfa_core.specs.Pasts.{name_in}
use Rattle.nfa_core.proofs.building.kept_states.rename_all.Given as goal

abbrev pub invariant-loop-q : goal.invariant-loop-q
invariant-loop-q l = l.renamed.items ≡ map (name_in l.names) (take l.q-index l.list)
