use Rattle.std.proofs.Common.{◌≡◌, None, map, ◌∙◌, ap}
use Rattle.hirscan.specs.LineFault.{scalar_item_fault, first_fault_of}
use Rattle.hirscan.specs.QueryReports.{words_left}
use Rattle.hirscan.proofs.AnyOrderLemmas.{same_ranges}
use Rattle.hirscan.proofs.words.scalar_items.Goals as goal

pub returns-clause-ok : goal.returns-clause-ok
returns-clause-ok c =
    let all = c.loop-word.invariant in
    let ended = c.in-None.ensures.steps.0 in
    let no_fault : first_fault_of (map scalar_item_fault (words_left c.args.words)) ≡ None =
    all.no_fault ∙ ap (λ ws. first_fault_of (map scalar_item_fault ws)) ended in
    (no_fault, same_ranges (words_left c.args.words) c.loop-word.items.items no_fault all.in_order (λ k. rw ended at (all.members k)))
