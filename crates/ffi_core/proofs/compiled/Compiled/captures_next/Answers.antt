use Rattle.std.proofs.Common.{length, subst}
use Rattle.std.specs.Prelude.{IfErr, IfOk}
use Rattle.meta_regex.specs.Caches.{IsCacheOf}
use Rattle.meta_regex.specs.Regexes.{RegexValue}
use Rattle.captures.specs.NextMatches.{AreNext, AreNextBegun, AreNextCaptured, IsFullOrLast}
use Rattle.captures.specs.Errors.{IsCapturesError}
use Rattle.captures.specs.Groups.{AreGroupsOf}
use Rattle.ffi_core.proofs.CompiledLemmas.{by_options, by_value}
use Rattle.ffi_core.proofs.GroupLemmas.{group_search_error}
use Rattle.ffi_core.proofs.compiled.Compiled.captures_next.Goals as goal

pub returns-clause-next : goal.returns-clause-next
returns-clause-next c =
    by_value c.deref.result.now c.self.inside.regex.value c.self.inside.options c.args.self.now c.deref.ensures c.self.invariant.0
    c.self.view_is
    (λ k ts loops. AreNext k ts c.args.haystack.now c.args.from.now c.captures_next.result.0 c.captures_next.new.from c.args.rows.now
    c.captures_next.new.rows)
    c.captures_next.ensures.next

pub returns-clause-all : goal.returns-clause-all
returns-clause-all c =
    by_value c.deref.result.now c.self.inside.regex.value c.self.inside.options c.args.self.now c.deref.ensures c.self.invariant.0
    c.self.view_is
    (λ k ts loops. IfOk c.captures_next.result.1
    (λ _. IsFullOrLast k ts c.args.haystack.now (length c.args.rows.now) c.captures_next.result.0 c.captures_next.new.from))
    c.captures_next.ensures.all

pub returns-clause-slots : goal.returns-clause-slots
returns-clause-slots c =
    by_value c.deref.result.now c.self.inside.regex.value c.self.inside.options c.args.self.now c.deref.ensures c.self.invariant.0
    c.self.view_is
    (λ k ts loops. IfOk c.captures_next.result.1 (λ _. AreNextCaptured k ts c.args.haystack.now c.args.from.now c.args.width
    c.captures_next.result.0 c.args.slots.now c.captures_next.new.slots))
    c.captures_next.ensures.slots

pub returns-clause-begun : goal.returns-clause-begun
returns-clause-begun c =
    by_value c.deref.result.now c.self.inside.regex.value c.self.inside.options c.args.self.now c.deref.ensures c.self.invariant.0
    c.self.view_is
    (λ k ts loops. IfErr c.captures_next.result.1 (λ _. AreNextBegun k ts c.args.haystack.now c.args.from.now c.args.width
    c.captures_next.result.0 c.args.slots.now c.captures_next.new.slots))
    c.captures_next.ensures.begun

pub returns-clause-refused : goal.returns-clause-refused
returns-clause-refused c =
    group_search_error c.args.self.now c.args.haystack.now c.captures_next.result.1
    (by_options c.deref.result.now c.self.inside.regex.value c.self.inside.options c.args.self.now c.deref.ensures c.self.invariant.0
    c.self.view_is
    (λ o ts. IfErr c.captures_next.result.1 (IsCapturesError o c.args.haystack.now))
    c.captures_next.ensures.refused)

pub invariant_of-self : goal.invariant_of-self
invariant_of-self c = (
  c.self.invariant.0,
  subst (λ (r : RegexValue). IsCacheOf r c.captures_next.new.cache) c.deref.ensures c.captures_next.ensures.own,
  subst (λ (r : RegexValue). AreGroupsOf r.options r.texts c.captures_next.new.self) c.deref.ensures c.captures_next.ensures.groups,
)
