use Rattle.std.proofs.Common.{◌∙◌, ◌∷◌, [], map, string_bytes, ap, lit<}
use Rattle.std.proofs.lemmas.List.{map-append}
use Rattle.std.proofs.lemmas.Iterator.Consumers.{YieldsList-end}
use Rattle.std.proofs.lemmas.Iterator.Splits.{YieldsList-from_str_split}
use Rattle.hirgrep_main.specs.Texts.{joined_parts}
use Rattle.hirgrep_main.proofs.NameLemmas.{next_joined}
use Rattle.hirgrep_main.proofs.options.texts.separated_name.Goals as goal

pub returns : goal.returns
returns c =
    let parts = YieldsList-from_str_split 47 c.args.name.now (lit< tt) (cc) (cc) (cc) in
    let all = YieldsList-end parts c.loop-part.yielded _ c.loop-part.yielded_by _ _ c.in-None.is c.next.ensures.steps in
    c.loop-part.invariant.0 ∙ ap (joined_parts c.args.separator.now) all.0

pub loop-part-preserved : goal.loop-part-preserved
loop-part-preserved c = next_joined c.args.separator.now (string_bytes c.loop-part.out) (string_bytes c.push_part.new.out)
    (map (λ x. x.now) c.loop-part.yielded) _ c.in-Some.part.now c.loop-part.is_first
    (map-append (λ x. x.now) c.loop-part.yielded (c.in-Some.part ∷ []))
    c.loop-part.invariant.0 c.loop-part.invariant.1 c.in_ok-push_part.ensures
