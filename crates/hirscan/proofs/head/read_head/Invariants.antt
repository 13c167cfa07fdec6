use Rattle.std.proofs.Common.{◌≡◌, ◌+◌, ◌≤◌, length}
use Rattle.hirscan.specs.QueryReports.{query_value}
use Rattle.hirscan.proofs.HeadLemmas.{Behind}
use Rattle.hirscan.proofs.head.read_head.Given as goal

abbrev pub decreases-lines : goal.decreases-lines
decreases-lines l = length l.rest

abbrev pub invariant-lines : goal.invariant-lines
invariant-lines l = record {
  all_read : l.at + length l.rest ≡ length l.text;
  lines_read : l.lines ≤ l.at;
  behind : Behind l.text l.rest (query_value l.state) l.at l.lines;
}
