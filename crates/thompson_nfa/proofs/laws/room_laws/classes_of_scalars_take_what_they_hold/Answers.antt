use Rattle.thompson_nfa.proofs.Steps.ByteRows.{class_most}
use Rattle.thompson_nfa.proofs.laws.room_laws.classes_of_scalars_take_what_they_hold.Goals as goal

pub returns-clause-most : goal.returns-clause-most
returns-clause-most c = class_most
