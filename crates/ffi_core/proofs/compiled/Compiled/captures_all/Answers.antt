use Rattle.std.proofs.Common.{subst}
use Rattle.std.specs.Prelude.{IfErr, IfOk}
use Rattle.meta_regex.specs.Caches.{IsCacheOf}
use Rattle.meta_regex.specs.Regexes.{AreAll, AreFirstOfAll, RegexValue}
use Rattle.captures.specs.Captures.{AreCaptured, AreFirstCaptured}
use Rattle.captures.specs.Errors.{IsCapturesError}
use Rattle.captures.specs.Groups.{AreGroupsOf}
use Rattle.ffi_core.proofs.CompiledLemmas.{by_options, by_value}
use Rattle.ffi_core.proofs.GroupLemmas.{group_search_error}
use Rattle.ffi_core.proofs.compiled.Compiled.captures_all.Goals as goal

pub returns-clause-all : goal.returns-clause-all
returns-clause-all c =
    by_value c.deref.result.now c.self.inside.regex.value c.self.inside.options c.args.self.now c.deref.ensures c.self.invariant.0
    c.self.view_is
    (λ k ts loops. IfOk c.captures_all.result.1 (λ _. AreAll k ts c.args.haystack.now c.captures_all.result.0 c.args.rows.now c.captures_all.new.rows))
    c.captures_all.ensures.all

pub returns-clause-first : goal.returns-clause-first
returns-clause-first c =
    by_value c.deref.result.now c.self.inside.regex.value c.self.inside.options c.args.self.now c.deref.ensures c.self.invariant.0
    c.self.view_is
    (λ k ts loops. IfErr c.captures_all.result.1 (λ _. AreFirstOfAll k ts c.args.haystack.now c.captures_all.result.0 c.args.rows.now c.captures_all.new.rows))
    c.captures_all.ensures.first

pub returns-clause-slots : goal.returns-clause-slots
returns-clause-slots c =
    by_value c.deref.result.now c.self.inside.regex.value c.self.inside.options c.args.self.now c.deref.ensures c.self.invariant.0
    c.self.view_is
    (λ k ts loops. IfOk c.captures_all.result.1 (λ _. AreCaptured k ts c.args.haystack.now c.args.width c.args.slots.now c.captures_all.new.slots))
    c.captures_all.ensures.slots

pub returns-clause-begun : goal.returns-clause-begun
returns-clause-begun c =
    by_value c.deref.result.now c.self.inside.regex.value c.self.inside.options c.args.self.now c.deref.ensures c.self.invariant.0
    c.self.view_is
    (λ k ts loops. IfErr c.captures_all.result.1 (λ _. AreFirstCaptured k ts c.args.haystack.now c.args.width c.captures_all.result.0 c.args.slots.now c.captures_all.new.slots))
    c.captures_all.ensures.begun

pub returns-clause-refused : goal.returns-clause-refused
returns-clause-refused c =
    group_search_error c.args.self.now c.args.haystack.now c.captures_all.result.1
    (by_options c.deref.result.now c.self.inside.regex.value c.self.inside.options c.args.self.now c.deref.ensures c.self.invariant.0
    c.self.view_is
    (λ o ts. IfErr c.captures_all.result.1 (IsCapturesError o c.args.haystack.now))
    c.captures_all.ensures.refused)

pub invariant_of-self : goal.invariant_of-self
invariant_of-self c = (
  c.self.invariant.0,
  subst (λ (r : RegexValue). IsCacheOf r c.captures_all.new.cache) c.deref.ensures c.captures_all.ensures.own,
  subst (λ (r : RegexValue). AreGroupsOf r.options r.texts c.captures_all.new.self) c.deref.ensures c.captures_all.ensures.groups,
)
