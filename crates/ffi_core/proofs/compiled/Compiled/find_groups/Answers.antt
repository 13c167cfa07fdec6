use Rattle.std.proofs.Common.{length, rules, subst}
use Rattle.std.specs.Prelude.{IfErr, IfOk}
use Rattle.meta_regex.specs.Caches.{IsCacheOf}
use Rattle.meta_regex.specs.Regexes.{RegexValue}
use Rattle.captures.specs.Captures.{HasCaptures}
use Rattle.captures.specs.Errors.{IsCapturesError}
use Rattle.captures.specs.Groups.{AreGroupsOf}
use Rattle.ffi_core.proofs.CompiledLemmas.{by_options, by_value}
use Rattle.ffi_core.proofs.GroupLemmas.{group_search_error}
use Rattle.ffi_core.proofs.compiled.Compiled.find_groups.Goals as goal

pub returns-clause-finds : goal.returns-clause-finds
returns-clause-finds c = record {
  found = by_value c.deref.result.now c.self.inside.regex.value c.self.inside.options c.args.self.now c.deref.ensures c.self.invariant.0
      c.self.view_is
      (λ k ts loops. IfOk c.captures_at.result (λ o. HasCaptures k ts c.args.haystack.now c.args.from (length c.args.slots.now) o
      c.captures_at.new.slots))
      c.captures_at.ensures.found;
  cleared = search rules;
  refused = group_search_error c.args.self.now c.args.haystack.now c.captures_at.result
      (by_options c.deref.result.now c.self.inside.regex.value c.self.inside.options c.args.self.now c.deref.ensures c.self.invariant.0
      c.self.view_is
      (λ o ts. IfErr c.captures_at.result (IsCapturesError o c.args.haystack.now))
      c.captures_at.ensures.refused);
}

pub invariant_of-self : goal.invariant_of-self
invariant_of-self c = (
  c.self.invariant.0,
  subst (λ (r : RegexValue). IsCacheOf r c.captures_at.new.cache) c.deref.ensures c.captures_at.ensures.own,
  subst (λ (r : RegexValue). AreGroupsOf r.options r.texts c.captures_at.new.self) c.deref.ensures c.captures_at.ensures.groups,
)
