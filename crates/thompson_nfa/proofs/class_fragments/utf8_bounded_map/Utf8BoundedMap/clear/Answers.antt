-- The view of slots that hold nothing.
use Rattle.std.proofs.lemmas.Result.{on_ok_weaker}
use Rattle.thompson_nfa.proofs.Classes.SlotViews.{viewed_empty}
use Rattle.thompson_nfa.proofs.class_fragments.utf8_bounded_map.Utf8BoundedMap.clear.Goals as goal

pub returns-clause-ok : goal.returns-clause-ok
returns-clause-ok c = on_ok_weaker c.clear.result (λ e. rw (← c.self.view_is)
    (viewed_empty _ c.clear.new.self c.self.inside.slots.capacity e)) c.clear.ensures.ok
