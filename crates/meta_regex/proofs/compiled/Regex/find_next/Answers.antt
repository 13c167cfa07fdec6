use Rattle.std.proofs.Common.{◌∙◌, sym}
use Rattle.meta_regex.specs.Regexes.{config_by}
use Rattle.meta_regex.proofs.NextLemmas.{next_beyond, next_later, next_none, next_there}
use Rattle.meta_regex.proofs.OrderLemmas.{listed_beyond, listed_later, listed_none, listed_there}
use Rattle.meta_regex.proofs.compiled.Regex.find_next.Goals as goal

pub returns-then-haystack-end-clause-next : goal.returns-then-haystack-end-clause-next
returns-then-haystack-end-clause-next c on =
    next_beyond (config_by c.args.self.now) c.args.self.now.texts c.args.haystack.now c.args.end c.if-haystack-end.true

pub returns-then-not-ends_at-clause-next : goal.returns-then-not-ends_at-clause-next
returns-then-not-ends_at-clause-next c on =
    next_there (config_by c.args.self.now) c.args.self.now.texts c.args.haystack.now c.args.end c.in-Ok.next (c.in-Ok.ensures.finds.preferred on)
    (sym c.ends_at.ensures ∙ c.if-not-ends_at.true)

pub returns-then-haystack-end-2-clause-next : goal.returns-then-haystack-end-2-clause-next
returns-then-haystack-end-2-clause-next c on =
    next_none (config_by c.args.self.now) c.args.self.now.texts c.args.haystack.now c.args.end c.in-Ok.next (c.in-Ok.ensures.finds.preferred on)
    (sym c.ends_at.ensures ∙ c.if-not-ends_at.false) c.if-haystack-end-2.true

pub returns-clause-next : goal.returns-clause-next
returns-clause-next c on =
    next_later (config_by c.args.self.now) c.args.self.now.texts c.args.haystack.now c.args.end c.in-Ok.next c.in-Ok-search.later
    (c.in-Ok.ensures.finds.preferred on) (sym c.ends_at.ensures ∙ c.if-not-ends_at.false) (c.in-Ok-search.ensures.finds.preferred on)

pub returns-clause-pattern : goal.returns-clause-pattern
returns-clause-pattern c = c.in-Ok-search.ensures.finds.found.pattern

pub returns-then-haystack-end-clause-listed : goal.returns-then-haystack-end-clause-listed
returns-then-haystack-end-clause-listed c =
    listed_beyond (config_by c.args.self.now) c.args.self.now.texts c.args.haystack.now c.args.end c.if-haystack-end.true

pub returns-then-not-ends_at-clause-listed : goal.returns-then-not-ends_at-clause-listed
returns-then-not-ends_at-clause-listed c =
    listed_there (config_by c.args.self.now) c.args.self.now.texts c.args.haystack.now c.args.end c.in-Ok.next c.in-Ok.ensures.finds.found
    (sym c.ends_at.ensures ∙ c.if-not-ends_at.true)

pub returns-then-haystack-end-2-clause-listed : goal.returns-then-haystack-end-2-clause-listed
returns-then-haystack-end-2-clause-listed c =
    listed_none (config_by c.args.self.now) c.args.self.now.texts c.args.haystack.now c.args.end c.in-Ok.next c.in-Ok.ensures.finds.found
    (sym c.ends_at.ensures ∙ c.if-not-ends_at.false) c.if-haystack-end-2.true

pub returns-clause-listed : goal.returns-clause-listed
returns-clause-listed c =
    listed_later (config_by c.args.self.now) c.args.self.now.texts c.args.haystack.now c.args.end c.in-Ok.next c.in-Ok-search.later
    c.in-Ok.ensures.finds.found (sym c.ends_at.ensures ∙ c.if-not-ends_at.false) c.in-Ok-search.ensures.finds.found
