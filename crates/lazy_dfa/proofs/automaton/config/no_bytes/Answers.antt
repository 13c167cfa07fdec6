use Rattle.lazy_dfa.specs.ConfigValue.{no_bytes}
use Rattle.lazy_dfa.proofs.CacheChanges.ListLemmas.{all_false}
use Rattle.lazy_dfa.proofs.automaton.config.no_bytes.Goals as goal

pub returns : goal.returns
unfolding no_bytes
returns c = all_false 256 c.empty.result c.empty.ensures.len c.empty.ensures.none
