-- All that follows no path is emitted.
use Rattle.std.proofs.Common.{refl}
use Rattle.thompson_nfa.proofs.Tries.CallLemmas.{paths_whole}
use Rattle.thompson_nfa.proofs.range_tries.range_trie.RangeTrie.paths.Goals as goal

pub returns-clause-paths : goal.returns-clause-paths
returns-clause-paths c = paths_whole c.new-paths.result.items _ _ _ _ c.in_ok-emit.ensures c.new-paths.ensures.items refl c.self.view_is
