use Rattle.std.proofs.Common.{◌≡◌, ℕ, suc, ◌-◌, ◌<◌, ◌≤◌, List, ◌∷◌, map, length, drop, get_or, sym, ap, ◌∙◌, subst, Option, IfSome, arith, drop-cons, drop_of_length-le}
use Rattle.regex_hir.specs.Meaning.{meaning, cat_all}
use Rattle.regex_hir.specs.declared.hir.Hir.{Hir}
use Rattle.regex_hir.specs.Re.{Re}
use Rattle.group_finder.specs.Layouts.{Lays}
use Rattle.group_finder.specs.declared.layout.Ahead.{Ahead}
use Rattle.group_finder.proofs.LayoutLemmas.{lays_cat, lays_empty, lays_inner}
use Rattle.group_finder.proofs.layout.+add.Goals as goal

one_more : (subs : List Hir) (i : ℕ) (h : Hir) → 0 < i → i ≤ length subs → h ≡ get_or subs (i - 1) h →
    map meaning (drop (i - 1) subs) ≡ meaning h ∷ map meaning (drop i subs)
one_more subs i h p q e =
    let back : suc (i - 1) ≡ i = omega arith in
    ap (map meaning) (drop-cons subs (i - 1) h (omega arith) ∙ ap (λ x. x ∷ drop (suc (i - 1)) subs) (sym e) ∙ ap (λ n. h ∷ drop n subs) back)

pub add_group-returns : goal.add_group-returns
add_group-returns t c =
    lays_inner _ c.args.index (meaning c.args.sub.now) c.args.steps.now.items c.push.new.self.items c.add.new.steps.items c.push-2.new.self.items
    c.args.ahead c.in_ok-push.ensures.items c.in_ok-inner.ensures c.in_ok-push-2.ensures.items

pub add_all-loop-i-init : goal.add_all-loop-i-init
add_all-loop-i-init t c =
    subst (λ (xs : List Hir). Lays (cat_all (map meaning xs)) c.args.steps.now.items c.args.ahead c.args.steps.now.items c.args.ahead)
    (sym (drop_of_length-le c.args.subs.now {i = length c.args.subs.now} (omega arith))) (lays_empty _ _)

pub add_all-loop-i-preserved : goal.add_all-loop-i-preserved
add_all-loop-i-preserved t c =
    let more = one_more c.args.subs.now c.loop-i.i _ c.loop-i-test.true c.loop-i.auto.i c.index-subs-i.is in
    subst (λ (x : Re). Lays x c.args.steps.now.items c.args.ahead c.add.new.steps.items c.in-Some.next) (sym (ap cat_all more))
    (lays_cat (meaning c.index-subs-i.result) _ c.args.steps.now.items c.loop-i.steps.items c.add.new.steps.items c.args.ahead c.loop-i.now c.in-Some.next c.loop-i.invariant
    (subst (λ (o : Option Ahead). IfSome o (Lays (meaning c.index-subs-i.result) c.loop-i.steps.items c.loop-i.now c.add.new.steps.items)) c.in-Some.is c.in_ok-next.ensures))
