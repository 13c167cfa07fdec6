use Rattle.std.proofs.Common.{◌≡◌, ◌+◌, ℕ, List, length, [], arith, ap, refl, sym, ◌∙◌, subst}
use Rattle.std.specs.Bool.{nat_eq}
use Rattle.nfa_core.specs.Reached.{AreBelow}
use Rattle.nfa_core.specs.Walks.{join}
use Rattle.nfa_core.proofs.ForCallers.{has_from_all, left_below}
use Rattle.determinize_core.proofs.CloseAllLemmas.{joins_one}
use Rattle.determinize_core.proofs.next_state.put_ids.Goals as goal

pub loop-id-init : goal.loop-id-init
loop-id-init g c =
    let all = c.into_iter-id-iterator.ensures.into_iter_gives ∙ c.iter_nfa_state_ids-id-items.ensures in
    record {
      names = ap (λ (xs : List ℕ). join nat_eq xs c.into_iter-id-iterator.result) c.requires.empty ∙ ap (join nat_eq []) all;
      below = subst (λ (xs : List ℕ). AreBelow (g.S.NameSet.bound c.args.set.now) xs) (sym all)
          (has_from_all (g.S.NameSet.bound c.args.set.now) c.args.state.now.ids c.requires.below);
      bound = refl;
      cost = ap (λ (xs : List ℕ). c.args.steps.now + length xs) all;
    }

pub loop-id-preserved : goal.loop-id-preserved
loop-id-preserved g c =
    let len : length c.loop-id.id-iterator ≡ 1 + length c.next.new.self = ap length c.in-Some.ensures.steps ∙ omega arith in
    record {
      names = joins_one c.in-Some.id c.next.new.self (g.S.NameSet.names c.loop-id.set)
          (g.S.NameSet.names c.insert.new.self) _ c.insert.result
          (ap (join nat_eq (g.S.NameSet.names c.loop-id.set)) (sym c.in-Some.ensures.steps)
          ∙ c.loop-id.invariant.names) c.insert.ensures.fresh c.insert.ensures.names;
      below = left_below (g.S.NameSet.bound c.args.set.now) c.in-Some.id c.next.new.self c.loop-id.id-iterator c.in-Some.ensures.steps
          c.loop-id.invariant.below;
      bound = c.insert.ensures.bound ∙ c.loop-id.invariant.bound;
      cost = omega (arith, c.insert.ensures.cost, len, c.loop-id.invariant.cost);
    }
