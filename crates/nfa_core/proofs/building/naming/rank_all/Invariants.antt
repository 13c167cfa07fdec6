use Rattle.std.proofs.Common.{map}
use Rattle.nfa_core.specs.Drafts.{draft_of}
use Rattle.nfa_core.proofs.NamingLemmas.{IsRankingTo}
use Rattle.nfa_core.proofs.building.naming.rank_all.Given as goal

abbrev pub invariant-loop-draft : goal.invariant-loop-draft
invariant-loop-draft l = IsRankingTo (map draft_of l.drafts) l.ranks.items l.draft-index l.count
