-- New slots hold nothing, and so do those of an earlier version.
use Rattle.std.proofs.Common.{◌≡◌, length, replicate, None, ◌∙◌, ap, arith}
use Rattle.thompson_nfa.proofs.Classes.SlotLemmas.{slots_made, slots_past, slots_forgotten}
use Rattle.thompson_nfa.proofs.class_fragments.slots.Slots.clear.Goals as goal

pub returns-in_ok-self-inside-clause-ok : goal.returns-in_ok-self-inside-clause-ok
returns-in_ok-self-inside-clause-ok g c =
    let e = slots_made c.self.inside.version c.self.inside.capacity c.in_ok-self-inside.field-0.items c.in_ok-self-inside.ensures in
    rw (← c.self.view_is) (rw e)

pub returns-then-self-lt65535-clause-ok : goal.returns-then-self-lt65535-clause-ok
returns-then-self-lt65535-clause-ok g c =
    let len : length c.self.inside.slots.items ≡ c.self.inside.capacity = omega (arith, c.len.ensures, c.if-len-self.false) in
    let e = slots_past c.self.inside.version c.self.inside.capacity c.self.inside.slots.items len c.self.invariant in
    rw (← c.self.view_is) (rw e)

pub returns-else-self-lt65535-clause-ok : goal.returns-else-self-lt65535-clause-ok
returns-else-self-lt65535-clause-ok g c =
    let len : length c.self.inside.slots.items ≡ c.self.inside.capacity = omega (arith, c.len.ensures, c.if-len-self.false) in
    let count : c.self.inside.slots.len ≡ c.self.inside.capacity = omega (arith, c.len.ensures, c.if-len-self.false) in
    let new : c.forget_slots.new.slots ≡ replicate c.self.inside.capacity None =
    c.forget_slots.ensures ∙ ap (λ n. replicate n None) (ap length c.deref_mut.ensures.value ∙ len) in
    let e = slots_forgotten 0 c.self.inside.capacity c.self.inside.slots.len c.self.inside.slots.items c.forget_slots.new.slots count len
    new in
    rw (← c.self.view_is) (rw e)
