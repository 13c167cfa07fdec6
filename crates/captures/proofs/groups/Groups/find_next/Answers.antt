use Rattle.std.proofs.Common.{◌∙◌, rules, sym}
use Rattle.std.proofs.lemmas.Result.{IfOk-weaker}
use Rattle.meta_regex.specs.Regexes.{config_by}
use Rattle.meta_regex.proofs.ForCallers.{next_beyond, next_later, next_none, next_there}
use Rattle.captures.proofs.groups.Groups.find_next.Goals as goal

pub returns-then-haystack-end : goal.returns-then-haystack-end
returns-then-haystack-end c = search (rules, next_beyond)

pub returns-then-not-ends_at : goal.returns-then-not-ends_at
returns-then-not-ends_at c = search (rules, next_there)

pub returns-then-haystack-end-2 : goal.returns-then-haystack-end-2
returns-then-haystack-end-2 c =
    let none = next_none (config_by c.args.regex.now) c.args.regex.now.texts c.args.haystack.now c.args.end c.in-Ok.next c.in-Ok.ensures.found
    (sym c.ends_at.ensures ∙ c.if-not-ends_at.false) c.if-haystack-end-2.true in
    search rules

pub returns : goal.returns
returns c =
    let later = IfOk-weaker c.find-2.result _ _ (λ later. next_later (config_by c.args.regex.now) c.args.regex.now.texts c.args.haystack.now
    c.args.end c.in-Ok.next later c.in-Ok.ensures.found (sym c.ends_at.ensures ∙ c.if-not-ends_at.false)) c.find-2.ensures.found in
    search rules
