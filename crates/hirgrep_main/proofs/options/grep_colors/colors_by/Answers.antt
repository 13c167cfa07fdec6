use Rattle.std.proofs.Common.{◌∙◌, ◌∷◌, [], map, ap, lit<}
use Rattle.std.proofs.lemmas.List.{map-append}
use Rattle.std.proofs.lemmas.Iterator.Consumers.{YieldsList-end}
use Rattle.std.proofs.lemmas.Iterator.Splits.{YieldsList-from_str_split}
use Rattle.hirgrep_main.specs.GrepColors.{after_items, codes_of}
use Rattle.hirgrep_main.proofs.ColorLemmas.{next_both}
use Rattle.hirgrep_main.proofs.options.grep_colors.colors_by.Goals as goal

pub returns : goal.returns
returns c =
    let items = YieldsList-from_str_split 58 c.args.text.now (lit< tt) (cc) (cc) (cc) in
    let all = YieldsList-end items c.loop-item.yielded _ c.loop-item.yielded_by _ _ c.in-None.is c.next.ensures.steps in
    c.loop-item.invariant.0 ∙ ap (after_items (codes_of c.args.colors)) all.0

pub loop-item-preserved : goal.loop-item-preserved
loop-item-preserved c = next_both (codes_of c.args.colors) (codes_of c.loop-item.colors) (codes_of c.next_colors-colors.result)
    (map (λ x. x.now) c.loop-item.yielded) _ c.in-Some.item.now c.loop-item.is_over c.is_broken-is_over.result
    (map-append (λ x. x.now) c.loop-item.yielded (c.in-Some.item ∷ []))
    c.loop-item.invariant.0 c.loop-item.invariant.1 c.is_broken-is_over.ensures c.next_colors-colors.ensures
