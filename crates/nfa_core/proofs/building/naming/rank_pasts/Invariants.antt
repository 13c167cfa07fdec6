use Rattle.std.proofs.Common.{◌≡◌, ◌<◌, ℕ, length, get_or, None}
use Rattle.std.specs.Prelude.{unwrap_or}
use Rattle.nfa_core.specs.Pasts.{name_in}
use Rattle.nfa_core.proofs.building.naming.rank_pasts.Given as goal

abbrev pub invariant-loop-index : goal.invariant-loop-index
invariant-loop-index l = record {
  len : length l.names.items ≡ l.index;
  right : (q : ℕ) → q < l.index → name_in l.names.items q ≡ name_in l.ranks (unwrap_or (get_or l.pasts.table.items q None) q);
}
