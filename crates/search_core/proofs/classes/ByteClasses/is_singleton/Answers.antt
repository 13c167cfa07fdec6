use Rattle.search_core.proofs.RisingLemmas.{singletons_told}
use Rattle.search_core.proofs.classes.ByteClasses.is_singleton.Goals as goal

pub returns-clause-own : goal.returns-clause-own
returns-clause-own c = λ r. singletons_told c.args.self.now r c.alphabet_len.result c.alphabet_len.ensures.count
