-- A slot of the table's own version holds what is put into it.
use Rattle.thompson_nfa.proofs.Classes.SlotLemmas.{slots_set}
use Rattle.thompson_nfa.proofs.class_fragments.slots.Slots.set.Goals as goal

pub returns : goal.returns
returns g c =
    let e = slots_set c.self.inside.version c.self.inside.slots.items c.args.place c.args.key c.args.id in
    rw (← c.self.view_is) (rw e)
