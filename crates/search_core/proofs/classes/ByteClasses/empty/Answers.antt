use Rattle.std.proofs.lemmas.List.{get_or-replicate}
use Rattle.search_core.proofs.classes.ByteClasses.empty.Goals as goal

pub returns-clause-zero : goal.returns-clause-zero
returns-clause-zero c = λ b h. get_or-replicate _ b _ _ h
