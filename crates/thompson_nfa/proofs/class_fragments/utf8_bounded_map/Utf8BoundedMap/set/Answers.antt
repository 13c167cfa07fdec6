-- The view of what is put into a slot.
use Rattle.thompson_nfa.proofs.Classes.SlotViews.{viewed_set}
use Rattle.thompson_nfa.proofs.class_fragments.utf8_bounded_map.Utf8BoundedMap.set.Goals as goal

pub returns : goal.returns
returns c = rw (c.set.ensures, ← c.self.view_is, viewed_set)
