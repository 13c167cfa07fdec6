use Rattle.std.proofs.Common.{◌≡◌, ◌+◌, ℕ, length, slice_set, ap, ◌∙◌, rules, subst, arith}
use Rattle.meta_regex.specs.Regexes.{config_by}
use Rattle.captures.specs.Replacing.{AreAllPieces, ComesNext}
use Rattle.captures.proofs.SplitLemmas.{split_begins, split_ends, split_fails, split_full, split_goes_on}
use Rattle.captures.proofs.groups.Groups.split_matches.Goals as goal

pub loop-count-init : goal.loop-count-init
loop-count-init c = (
  c.requires.groups,
  c.requires.own,
  split_begins (config_by c.args.regex.now) c.args.regex.now.texts c.args.haystack.now c.args.limit c.most_cuts-most.result c.args.rows.now
      c.requires.some c.most_cuts-most.ensures,
)

pub returns-in-Err : goal.returns-in-Err
returns-in-Err c =
    let first = split_fails (config_by c.args.regex.now) c.args.regex.now.texts c.args.haystack.now c.args.limit c.most_cuts-most.result
    c.args.rows.now c.requires.some c.most_cuts-most.ensures c.loop-count.count c.loop-count.last c.loop-count.rows c.loop-count.invariant.2 in
    search rules

pub returns-in_default : goal.returns-in_default
returns-in_default c =
    let h = c.args.haystack.now in
    let all = split_ends (config_by c.args.regex.now) c.args.regex.now.texts h c.args.limit c.most_cuts-most.result c.args.rows.now
    c.requires.some c.most_cuts-most.ensures c.loop-count.count c.loop-count.last c.loop-count.rows _ c.loop-count.invariant.2
    (subst (ComesNext (config_by c.args.regex.now) c.args.regex.now.texts h c.loop-count.last) c.in_default.is c.in-Ok.ensures.found)
    (c.put.ensures ∙ ap (λ i. slice_set c.loop-count.rows c.loop-count.count (i, length h)) c.unwrap_or.ensures) in
    search rules

pub loop-count-preserved : goal.loop-count-preserved
loop-count-preserved c =
    let h = c.args.haystack.now in
    let found = c.in-Some.found in (
      c.in-Ok.ensures.groups,
      c.in-Ok.ensures.own,
      split_goes_on (config_by c.args.regex.now) c.args.regex.now.texts h c.args.limit c.most_cuts-most.result c.args.rows.now
          c.requires.some c.most_cuts-most.ensures c.loop-count.count c.loop-count.last found c.loop-count.rows _ c.loop-count.invariant.2
          c.loop-count-test.true
          (subst (ComesNext (config_by c.args.regex.now) c.args.regex.now.texts h c.loop-count.last) c.in-Some.is c.in-Ok.ensures.found)
          (c.put-in-loop-count.ensures
          ∙ ap (λ i. slice_set c.loop-count.rows c.loop-count.count (i, found.start)) c.unwrap_or-in-loop-count.ensures),
    )

pub returns : goal.returns
returns c =
    let h = c.args.haystack.now in
    let last : c.loop-count.count ≡ c.most_cuts-most.result = omega arith in
    let all = subst
    (λ (n : ℕ). AreAllPieces (config_by c.args.regex.now) c.args.regex.now.texts h c.args.limit (n + 1) c.args.rows.now c.put-2.new.rows) last
    (split_full (config_by c.args.regex.now) c.args.regex.now.texts h c.args.limit c.most_cuts-most.result c.args.rows.now
    c.requires.some c.most_cuts-most.ensures c.loop-count.count c.loop-count.last c.loop-count.rows c.put-2.new.rows c.loop-count.invariant.2
    (omega arith)
    (subst (λ (n : ℕ). c.put-2.new.rows ≡ slice_set c.loop-count.rows n (c.unwrap_or-2.result, length h)) (omega arith) c.put-2.ensures
    ∙ ap (λ i. slice_set c.loop-count.rows c.loop-count.count (i, length h)) c.unwrap_or-2.ensures)) in
    search rules
