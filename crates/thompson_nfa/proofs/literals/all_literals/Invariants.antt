use Rattle.std.proofs.Common.{◌≡◌, drop}
use Rattle.std.specs.List.{list_all}
use Rattle.thompson_nfa.specs.LiteralParts.{is_literal}
use Rattle.thompson_nfa.proofs.literals.all_literals.Given as goal

abbrev pub invariant-loop-sub : goal.invariant-loop-sub
invariant-loop-sub l = list_all is_literal (drop l.sub-index l.subs) ≡ list_all is_literal l.subs
