use Rattle.std.proofs.Common.{◌≡◌, ◌<◌, ◌≤◌, ◌+◌, ◌∙◌, ℕ, List, sym, ap, arith, take, set, length, false}
use Rattle.std.specs.Prelude.{not}
use Rattle.std.proofs.lemmas.List.{length-set, length-take}
use Rattle.nfa_core.specs.NameSets.{is_in}
use Rattle.nfa_core.proofs.PairedLemmas.{room, added, names_added}
use Rattle.nfa_core.proofs.name_sets.pair_set.PairSetNameSet.insert.Goals as goal

pub index_mut-requires : goal.index_mut-requires
index_mut-requires g c =
    let absent : is_in c.args.name (take c.self.inside.len c.self.inside.dense.items) ≡ false =
    ap (λ s. is_in c.args.name s.names) c.self.view_is ∙ sym c.if-contains.ensures in
    omega (arith, c.self.inside.dense.ok.0, room _ _ _ c.args.name c.self.invariant (rw (← c.self.view_is) at c.requires) absent)

pub must-requires : goal.must-requires
must-requires g c =
    let absent : is_in c.args.name (take c.self.inside.len c.self.inside.dense.items) ≡ false =
    ap (λ s. is_in c.args.name s.names) c.self.view_is ∙ sym c.if-contains.ensures in
    omega (
      arith,
      c.self.invariant.small,
      c.self.invariant.even,
      room _ _ _ c.args.name c.self.invariant
          (rw (← c.self.view_is) at c.requires) absent,
    )

pub invariant_of-self : goal.invariant_of-self
invariant_of-self g c =
    let absent : is_in c.args.name (take c.self.inside.len c.self.inside.dense.items) ≡ false =
    ap (λ s. is_in c.args.name s.names) c.self.view_is ∙ sym c.if-contains.ensures in
    let more = added _ _ _ c.args.name c.self.invariant (rw (← c.self.view_is) at c.requires) absent in
    rw (c.must.ensures, c.as_usize.ensures.value) more

pub returns-clause-names : goal.returns-clause-names
returns-clause-names g c =
    let absent : is_in c.args.name (take c.self.inside.len c.self.inside.dense.items) ≡ false =
    ap (λ s. is_in c.args.name s.names) c.self.view_is ∙ sym c.if-contains.ensures in
    rw (← c.self.view_is) (names_added _ _ _ (room _ _ _ c.args.name c.self.invariant (rw (← c.self.view_is) at c.requires) absent))

fits : (dense places : List ℕ) (len name at place : ℕ) → len < length dense → length dense ≡ length places →
    length (take (len + 1) (set dense len name)) ≤ length (set places at place)
fits dense places len name at place free even =
    omega (arith, length-take (len + 1) (set dense len name), length-set dense len name, length-set places at place)

pub returns-then-contains-clause-fresh : goal.returns-then-contains-clause-fresh
returns-then-contains-clause-fresh g c = ap not c.if-contains.ensures

pub returns-clause-fresh : goal.returns-clause-fresh
returns-clause-fresh g c = ap not c.if-contains.ensures

pub returns-clause-bound : goal.returns-clause-bound
returns-clause-bound g c =
    length-set c.self.inside.places.items c.as_usize.result c.must.result ∙ ap (λ s. s.bound) c.self.view_is

pub returns-clause-fits : goal.returns-clause-fits
returns-clause-fits g c =
    let absent : is_in c.args.name (take c.self.inside.len c.self.inside.dense.items) ≡ false =
    ap (λ s. is_in c.args.name s.names) c.self.view_is ∙ sym c.if-contains.ensures in
    fits c.self.inside.dense.items c.self.inside.places.items c.self.inside.len c.args.name c.as_usize.result c.must.result
    (room _ _ _ c.args.name c.self.invariant (rw (← c.self.view_is) at c.requires) absent) c.self.invariant.even
