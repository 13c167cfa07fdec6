use Rattle.std.proofs.lemmas.List.{get_or-replicate}
use Rattle.search_core.proofs.byte_set.ByteSet.empty.Goals as goal

pub returns-clause-none : goal.returns-clause-none
returns-clause-none c = λ b h. get_or-replicate _ b _ _ h
