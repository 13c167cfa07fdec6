use Rattle.std.proofs.Common.{◌≡◌, ◌<◌, ◌≤◌, ⊎_elim, ℕ, refl, sym, ap, ◌∙◌, subst, arith, true≢false}
use Rattle.std.proofs.lemmas.Bool.{cases_lt}
use Rattle.lazy_dfa.specs.Ids.{tag}
use Rattle.lazy_dfa.specs.AccelBytes.{leaves}
use Rattle.lazy_dfa.specs.Skips.{cell_by}
use Rattle.lazy_dfa.proofs.cache.Cache.are_behind.Goals.{else-leaves-via-then-leaves+else-not-are_behind_one, else-leaves-via-else-leaves}
use Rattle.lazy_dfa.proofs.cache.Cache.are_behind.Goals as goal

pub loop-byte-preserved : goal.loop-byte-preserved
loop-byte-preserved c = λ b second l m passes fails.
    let cells = c.args.self.now.cells in
    let classes = c.args.self.now.classes in
    ⊎_elim
    (λ (below : b < c.loop-byte.byte). c.loop-byte.invariant b second below m passes fails)
    (λ (past : c.loop-byte.byte ≤ b).
    let e : c.loop-byte.byte ≡ b = omega (arith, l, past) in
    elim c.else-leaves.branch [
      | else-leaves-via-then-leaves+else-not-are_behind_one w ↦
          let back = w.if-not-are_behind_one.ensures.back refl second m fails in (
            back.0,
            subst (λ (n : ℕ). cell_by cells classes c.args.id n < tag) e (w.if-not-are_behind_one.ensures.plain refl),
            subst (λ (n : ℕ). cell_by cells classes (cell_by cells classes c.args.id n) second ≡ c.args.id) e back.1,
          )
      | else-leaves-via-else-leaves w ↦
          absurd (true≢false (sym passes ∙ ap (leaves c.args.leaving.now) (sym e) ∙ sym c.leaves.ensures ∙ w.if-leaves.false))
    ])
    (cases_lt b c.loop-byte.byte)

pub returns : goal.returns
returns c = λ _ b second l m passes fails. c.loop-byte.invariant b second (omega (arith, l, c.loop-byte-test.false)) m passes fails
