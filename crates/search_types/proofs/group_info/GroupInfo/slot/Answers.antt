use Rattle.search_types.proofs.GroupLemmas.{within_starts, explicit_fits, slot_is}
use Rattle.std.proofs.Common.{◌≡◌, arith, ap, length, ◌∙◌, ℕ, sym, get_or}
use Rattle.search_types.specs.Groups.{groups_of}
use Rattle.search_types.proofs.group_info.GroupInfo.slot.Goals as goal

pub index-requires : goal.index-requires
index-requires c =
    let p : c.as_usize-2.result ≡ c.args.pid = c.as_usize-2.ensures.value in
    let h = within_starts c.self.inside.patterns.items c.args.self.now c.self.inside.starts.items c.self.inside.slot_len c.as_usize-2.result
    c.args.group_index c.group_len.result
    c.self.invariant c.self.view_is (c.group_len.ensures.value ∙ ap (λ (k : ℕ). length (groups_of c.args.self.now k)) (sym p))
    c.if-group_index-group_len.false in
    omega (arith, h, c.self.inside.starts.ok)

pub overflow_add-result : goal.overflow_add-result
overflow_add-result c =
    let p : c.as_usize-2.result ≡ c.args.pid = c.as_usize-2.ensures.value in
    let h = explicit_fits c.self.inside.patterns.items c.args.self.now c.self.inside.starts.items c.self.inside.slot_len c.args.pid
    c.args.group_index c.group_len.result
    c.self.invariant c.self.view_is c.group_len.ensures.value c.if-group_index-group_len.false c.if-group_index-eq0.false
    c.index.result.now c.index.result.now (c.index.ensures ∙ ap (λ (k : ℕ). get_or c.self.inside.starts.items k c.index.result.now) p) in
    omega (arith, h)

pub returns : goal.returns
returns c =
    let p : c.as_usize-2.result ≡ c.args.pid = c.as_usize-2.ensures.value in
    record {
      value = slot_is c.self.inside.patterns.items c.args.self.now c.self.inside.starts.items c.self.inside.slot_len c.args.pid
          c.args.group_index c.group_len.result
          c.self.invariant c.self.view_is c.group_len.ensures.value c.if-group_index-group_len.false c.if-group_index-eq0.false
          c.index.result.now c.index.result.now (c.index.ensures ∙ ap (λ (k : ℕ). get_or c.self.inside.starts.items k c.index.result.now)
          p);
    }
