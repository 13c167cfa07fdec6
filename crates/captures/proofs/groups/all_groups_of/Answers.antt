use Rattle.std.proofs.Common.{arith, map}
use Rattle.std.proofs.lemmas.Option.{slice_get-get_or}
use Rattle.captures.proofs.PatternLemmas.{all_made, groups_error, listed_text, one_more_made, one_more_read}
use Rattle.captures.proofs.groups.all_groups_of.Goals as goal

pub loop-text-preserved : goal.loop-text-preserved
loop-text-preserved c =
    let listed = slice_get-get_or c.args.texts.now c.loop-text.text-index _ c.loop-text-test.true in (
      one_more_made c.args.config.now (map (λ t. t.now) c.args.texts.now) c.args.texts.now c.loop-text.text-index _ c.loop-text.groups.items
          c.push.new.groups.items c.in-Ok.group listed c.in-Ok.ensures.made c.in-Ok-push.ensures c.loop-text.invariant.0,
      one_more_read c.args.config.now (map (λ t. t.now) c.args.texts.now) c.loop-text.text-index _
          (listed_text c.args.texts.now c.loop-text.text-index _ listed) c.in-Ok.ensures.made.parsed c.loop-text.invariant.1,
    )

pub returns-in-Err-clause-refused : goal.returns-in-Err-clause-refused
returns-in-Err-clause-refused c =
    groups_error c.args.config.now (map (λ t. t.now) c.args.texts.now) c.loop-text.text-index _ c.in-Err.error
    (listed_text c.args.texts.now c.loop-text.text-index _
    (slice_get-get_or c.args.texts.now c.loop-text.text-index _ c.loop-text-test.true))
    c.in-Err.ensures.refused c.loop-text.invariant.1

pub returns-clause-made : goal.returns-clause-made
returns-clause-made c =
    all_made c.args.config.now (map (λ t. t.now) c.args.texts.now) c.args.texts.now c.loop-text.text-index c.loop-text.groups.items
    (omega (arith, c.loop-text-test.false)) c.loop-text.invariant.0
