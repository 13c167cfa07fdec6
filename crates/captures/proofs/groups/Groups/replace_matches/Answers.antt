use Rattle.std.proofs.Common.{◌≡◌, ◌++◌, ℕ, length, slice_range, ap, ◌∙◌, subst, arith}
use Rattle.meta_regex.specs.Regexes.{HasPattern, config_by}
use Rattle.captures.specs.Replacing.{ComesNext, IsReplaced}
use Rattle.captures.proofs.ReplaceLemmas.{continues_on, continues_with, ends_at_the_limit, ends_without_match, up_to_goes_on}
use Rattle.captures.proofs.groups.Groups.replace_matches.Goals as goal

pub returns-in_default-clause-replaced : goal.returns-in_default-clause-replaced
returns-in_default-clause-replaced c =
    let h = c.args.haystack.now in
    ends_without_match (config_by c.args.regex.now) c.args.regex.now.texts h c.args.replacement.now c.args.limit c.most_matches-most.result
    c.args.output.now.items c.most_matches-most.ensures c.loop-count.output.items c.append_between.new.output.items c.loop-count.count
    c.loop-count.last c.loop-count.invariant.4
    (c.in-Ok-append_between.ensures.appended ∙ ap (λ i. c.loop-count.output.items ++ slice_range h i (length h)) c.unwrap_or.ensures)
    (subst (ComesNext (config_by c.args.regex.now) c.args.regex.now.texts h c.loop-count.last) c.in_default.is c.in-Ok.ensures.found)

pub returns-in_default-clause-longer : goal.returns-in_default-clause-longer
returns-in_default-clause-longer c =
    continues_on c.args.output.now.items c.loop-count.output.items c.append_between.new.output.items _ c.loop-count.invariant.2
    c.in-Ok-append_between.ensures.appended

pub returns-in-Err-append_replaced-clause-longer : goal.returns-in-Err-append_replaced-clause-longer
returns-in-Err-append_replaced-clause-longer c =
    continues_with c.args.output.now.items c.append_between-in-loop-count.new.output.items c.append_replaced.new.output.items
    (continues_on c.args.output.now.items c.loop-count.output.items c.append_between-in-loop-count.new.output.items _ c.loop-count.invariant.2
    c.in-Ok-append_between-2.ensures.appended)
    c.in-Err-append_replaced.ensures.longer

pub returns-in-Err-append_replaced-clause-refused : goal.returns-in-Err-append_replaced-clause-refused
returns-in-Err-append_replaced-clause-refused c =
    c.in-Err-append_replaced.ensures.keeps.refused c.args.regex.now.options c.args.regex.now.texts c.in-Ok.ensures.groups c.args.haystack.now

pub loop-count-preserved : goal.loop-count-preserved
loop-count-preserved c =
    let h = c.args.haystack.now in
    let config = config_by c.args.regex.now in
    let texts = c.args.regex.now.texts in
    let out = c.loop-count.output.items in
    let mid = c.append_between-in-loop-count.new.output.items in
    let found = c.in-Some.found in (
      c.in-Ok-append_replaced.ensures.keeps.own c.args.regex.now.options texts c.in-Ok.ensures.groups,
      c.in-Ok.ensures.own,
      continues_with c.args.output.now.items mid c.append_replaced.new.output.items
          (continues_on c.args.output.now.items out mid _ c.loop-count.invariant.2 c.in-Ok-append_between-2.ensures.appended)
          c.in-Ok-append_replaced.ensures.longer,
      c.append_replaced.auto.slots ∙ c.loop-count.invariant.3,
      up_to_goes_on config texts h c.args.replacement.now c.most_matches-most.result c.args.output.now.items out mid
          c.append_replaced.new.output.items c.loop-count.count c.loop-count.last found c.loop-count.invariant.4 c.loop-count-test.true
          (subst (ComesNext config texts h c.loop-count.last) c.in-Some.is c.in-Ok.ensures.found)
          (subst (HasPattern config texts h) c.in-Some.is c.in-Ok.ensures.pattern)
          (c.in-Ok-append_between-2.ensures.appended ∙ ap (λ i. out ++ slice_range h i found.start) c.unwrap_or-in-loop-count.ensures)
          (c.in-Ok-append_replaced.ensures.appended c.args.regex.now.options texts c.in-Ok.ensures.groups),
    )

pub returns-in-Ok-append_between-3-clause-replaced : goal.returns-in-Ok-append_between-3-clause-replaced
returns-in-Ok-append_between-3-clause-replaced c =
    let h = c.args.haystack.now in
    let all : c.loop-count.count ≡ c.most_matches-most.result = omega arith in
    λ said it. subst
    (λ (n : ℕ). IsReplaced (config_by c.args.regex.now) c.args.regex.now.texts h said c.args.limit c.args.output.now.items
    c.append_between-2.new.output.items n) all
    (ends_at_the_limit (config_by c.args.regex.now) c.args.regex.now.texts h c.args.replacement.now c.args.limit c.most_matches-most.result
    c.args.output.now.items c.most_matches-most.ensures c.loop-count.output.items c.append_between-2.new.output.items c.loop-count.count
    c.loop-count.last c.loop-count.invariant.4
    (c.in-Ok-append_between-3.ensures.appended ∙ ap (λ i. c.loop-count.output.items ++ slice_range h i (length h)) c.unwrap_or-2.ensures)
    (omega arith) said it)

pub returns-in-Ok-append_between-3-clause-longer : goal.returns-in-Ok-append_between-3-clause-longer
returns-in-Ok-append_between-3-clause-longer c =
    continues_on c.args.output.now.items c.loop-count.output.items c.append_between-2.new.output.items _ c.loop-count.invariant.2
    c.in-Ok-append_between-3.ensures.appended
