use Rattle.std.proofs.Common.{List, [], ◌∷◌, ◌++◌, ◌≤◌, None, replicate, length, sym, ap, subst, ◌∙◌, ◌+◌, ◌*◌, ◌≡◌, ℕ, Bool, cond, Some}
use Rattle.std.proofs.Common.{refl, arith}
use Rattle.determinize_core.specs.States.{IsState, StateValue}
use Rattle.lazy_dfa.specs.Ids.{tag, tagged}
use Rattle.lazy_dfa.specs.Caches.{CacheValue, IsKept, same, new_id, row_holding, with_state}
use Rattle.determinize_core.specs.StateBytes.{is_match}
use Rattle.lazy_dfa.specs.Skips.{IsSkip}
use Rattle.lazy_dfa.proofs.CacheChanges.CacheLemmas.{IsKept-same, IsKept-lists, IsKept-added, added_parts, with_lists}
use Rattle.lazy_dfa.proofs.CacheChanges.StartChangeLemmas.{on_err}
use Rattle.lazy_dfa.proofs.cache.Cache.add_state.Goals as goal

pub invariant_of-self-in_err-reserve : goal.invariant_of-self-in_err-reserve
invariant_of-self-in_err-reserve c = (
  IsKept-lists _ _ _ _ _ _ c.reserve_row.ensures.states c.reserve_row.ensures.ids c.reserve_row.ensures.cells
      (IsKept-same _ _ _ _ c.self.invariant.0 c.in_err-reserve.ensures.err),
  subst (λ (cells : List ℕ). IsSkip cells c.self.inside.classes c.self.inside.skip) (sym c.reserve_row.ensures.cells) c.self.invariant.1,
)

pub invariant_of-self : goal.invariant_of-self
invariant_of-self c = (
  IsKept-lists _ _ _ _ _ _ c.reserve_row.ensures.states c.reserve_row.ensures.ids c.reserve_row.ensures.cells c.self.invariant.0,
  subst (λ (cells : List ℕ). IsSkip cells c.self.inside.classes c.self.inside.skip) (sym c.reserve_row.ensures.cells) c.self.invariant.1,
)

pub returns-in_err-copy-clause-err : goal.returns-in_err-copy-clause-err
returns-in_err-copy-clause-err c = on_err c.from_residual.result refl

pub returns-in_err-reserve_row-clause-err : goal.returns-in_err-reserve_row-clause-err
returns-in_err-reserve_row-clause-err c = on_err c.from_residual-in_err-reserve_row.result
    (with_lists _ _ _ _ c.reserve_row.ensures.states c.reserve_row.ensures.ids c.reserve_row.ensures.cells ∙ c.self.view_is)

pub returns-in_err-reserve-clause-err : goal.returns-in_err-reserve-clause-err
returns-in_err-reserve-clause-err c = on_err c.from_residual-in_err-reserve.result
    (with_lists _ _ _ _ c.reserve_row.ensures.states c.reserve_row.ensures.ids c.reserve_row.ensures.cells ∙ c.self.view_is)

pub lengthen-requires : goal.lengthen-requires
lengthen-requires c = record { room = c.in_ok-reserve_row.ensures.row }

pub append-requires : goal.append-requires
append-requires c = record { room = c.in_ok-reserve_row.ensures.state }

pub append-requires-2 : goal.append-requires-2
append-requires-2 c = record { room = c.in_ok-reserve_row.ensures.id }

abbrev value : goal.After-self-2-1 → CacheValue
value c = record {
  states = c.self.inside.states.items;
  ids = c.self.inside.ids.items;
  cells = c.self.inside.cells.items;
  starts = c.self.inside.starts.items;
  stride = c.self.inside.stride;
  fresh = c.self.inside.fresh;
  bound = c.self.inside.workspace;
  clears = c.self.inside.clears;
  searched = c.self.inside.searched;
  progress = c.self.inside.progress;
  classes = c.self.inside.classes;
}

named : (c : goal.After-self-2-1) → c.id_of-id.result ≡ new_id (value c) c.args.is_start c.args.state
named c =
    let at : c.len-at.result ≡ length c.self.inside.cells.items = c.len-at.ensures ∙ c.self.inside.cells.ok.0 in
    c.id_of-id.ensures ∙ (ap (λ (b : Bool). tagged c.args.is_start b c.len-at.result) c.is_match.ensures
    ∙ ap (tagged c.args.is_start (is_match c.args.state.matches)) at)

parts : (c : goal.After-self-2-1) →
    record (value c) {
      states = c.append.new.items.items;
      ids = c.append-2.new.items.items;
      cells = c.lengthen.new.ids.items;
    } ≡ with_state c.args.is_start c.args.state (value c)
parts c =
    let v = value c in
    added_parts v c.args.is_start c.args.state c.in_ok-copy.copy c.id_of-id.result c.append.new.items.items c.append-2.new.items.items
    c.lengthen.new.ids.items
    (c.append.ensures ∙ ap (λ (ss : List StateValue). ss ++ c.in_ok-copy.copy ∷ []) c.reserve_row.ensures.states)
    c.in_ok-copy.ensures.cases
    (c.append-2.ensures ∙ ap (λ (is : List ℕ). is ++ c.id_of-id.result ∷ []) c.reserve_row.ensures.ids)
    (named c)
    (c.lengthen.ensures ∙ (ap (λ (xs : List ℕ). xs ++ replicate c.self.inside.stride c.unknown.result) c.reserve_row.ensures.cells
    ∙ ap (λ (n : ℕ). c.self.inside.cells.items ++ replicate c.self.inside.stride n) c.unknown.ensures))

pub invariant_of-self-2 : goal.invariant_of-self-2
invariant_of-self-2 c =
    let v = value c in
    let k : c.len-k.result ≡ length v.states = c.len-k.ensures ∙ c.self.inside.states.ok.0 in (
      subst (λ (w : CacheValue). IsKept w c.insert.new.self (c.self.inside.used +
          (4 * c.self.inside.stride + 16 + 20 + c.memory_usage.result))) (sym (parts c))
          (IsKept-added v c.self.inside.rows c.insert.new.self c.self.inside.used c.len-k.result
          (4 * c.self.inside.stride + 16 + 20 + c.memory_usage.result) c.args.is_start c.args.state
          c.self.invariant.0
          (subst IsState c.state.view_is c.state.invariant.state)
          (subst (λ (w : CacheValue). row_holding c.args.state w.states ≡ None) (sym c.self.view_is) c.requires.fresh)
          (subst (λ (w : CacheValue). length w.cells + w.stride ≤ tag) (sym c.self.view_is) c.requires.room)
          k
          (ap (λ (n : ℕ). 4 * v.stride + 16 + 20 + n) c.memory_usage.ensures)
          (λ q. c.in-Ok.ensures.updates.0 q ∙ ap (cond (same c.args.state q) (Some c.len-k.result))
          (c.in_ok-reserve.ensures.entries.2 q))),
      λ low. absurd (omega (arith, low, c.forgotten-self-inside.ensures)),
    )

pub returns-clause-ok : goal.returns-clause-ok
returns-clause-ok c = parts c ∙ ap (with_state c.args.is_start c.args.state) c.self.view_is

pub returns-clause-id : goal.returns-clause-id
returns-clause-id c = named c ∙ ap (λ (v : CacheValue). new_id v c.args.is_start c.args.state) c.self.view_is
