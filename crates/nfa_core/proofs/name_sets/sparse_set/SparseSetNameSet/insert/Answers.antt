use Rattle.std.proofs.Common.{◌≡◌, ◌+◌, ◌∙◌, sym, ap, arith, length, length-append, false}
use Rattle.nfa_core.specs.NameSets.{is_in}
use Rattle.nfa_core.proofs.MarkedLemmas.{room, pushed}
use Rattle.nfa_core.proofs.name_sets.sparse_set.SparseSetNameSet.insert.Goals as goal

pub push_reserved-requires : goal.push_reserved-requires
push_reserved-requires g c =
    let absent : is_in c.args.name c.self.inside.names.items ≡ false =
    ap (λ s. is_in c.args.name s.names) c.self.view_is ∙ sym c.if-contains.ensures in
    let free = room _ _ _ c.args.name c.self.invariant.0 (rw (← c.self.view_is) at c.requires) absent in
    omega (arith, free, c.self.invariant.1, c.self.inside.names.ok.0)

pub invariant_of-self : goal.invariant_of-self
invariant_of-self g c =
    let absent : is_in c.args.name c.self.inside.names.items ≡ false =
    ap (λ s. is_in c.args.name s.names) c.self.view_is ∙ sym c.if-contains.ensures in
    let inside = rw (← c.self.view_is) at c.requires in
    let here = rw c.as_usize.ensures.value at c.mark.ensures.marked in
    let others = rw c.as_usize.ensures.value at c.mark.ensures.others in (
      rw c.push_reserved.ensures.items (pushed _ _ c.mark.new.self.words.items _ c.args.name c.self.invariant.0 inside absent
          c.mark.ensures.len here others),
      rw c.push_reserved.ensures.capacity c.self.invariant.1,
    )

pub returns-clause-fits : goal.returns-clause-fits
returns-clause-fits g c =
    let absent : is_in c.args.name c.self.inside.names.items ≡ false =
    ap (λ s. is_in c.args.name s.names) c.self.view_is ∙ sym c.if-contains.ensures in
    let free = room _ _ _ c.args.name c.self.invariant.0 (rw (← c.self.view_is) at c.requires) absent in
    let more : length c.push_reserved.new.self.items ≡ length c.self.inside.names.items + 1 =
    ap length c.push_reserved.ensures.items ∙ length-append _ _ in
    omega (arith, free, more)
