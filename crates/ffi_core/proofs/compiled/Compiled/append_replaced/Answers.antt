use Rattle.std.proofs.Common.{subst}
use Rattle.std.specs.Prelude.{IfErr, IfOk}
use Rattle.meta_regex.specs.Caches.{IsCacheOf}
use Rattle.meta_regex.specs.Regexes.{RegexValue}
use Rattle.captures.specs.Errors.{IsCapturesError}
use Rattle.captures.specs.Groups.{AreGroupsOf}
use Rattle.captures.specs.Replacing.{IsReplaced, IsReplacementFor, Said}
use Rattle.ffi_core.proofs.CompiledLemmas.{by_options, by_value}
use Rattle.ffi_core.proofs.GroupLemmas.{group_search_error}
use Rattle.ffi_core.proofs.compiled.Compiled.append_replaced.Goals as goal

pub returns-clause-replaced : goal.returns-clause-replaced
returns-clause-replaced c =
    by_value c.deref.result.now c.self.inside.regex.value c.self.inside.options c.args.self.now c.deref.ensures c.self.invariant.0
    c.self.view_is
    (λ k ts loops. (said : Said) → IsReplacementFor k ts said c.args.replacement.now → IfOk c.replacen.result
    (IsReplaced k ts c.args.haystack.now said c.args.limit c.args.output.now.items c.replacen.new.output.items))
    c.replacen.ensures.replaced

pub returns-clause-refused : goal.returns-clause-refused
returns-clause-refused c =
    group_search_error c.args.self.now c.args.haystack.now c.replacen.result
    (by_options c.deref.result.now c.self.inside.regex.value c.self.inside.options c.args.self.now c.deref.ensures c.self.invariant.0
    c.self.view_is
    (λ o ts. IfErr c.replacen.result (IsCapturesError o c.args.haystack.now))
    c.replacen.ensures.refused)

pub invariant_of-self : goal.invariant_of-self
invariant_of-self c = (
  c.self.invariant.0,
  subst (λ (r : RegexValue). IsCacheOf r c.replacen.new.cache) c.deref.ensures c.replacen.ensures.own,
  subst (λ (r : RegexValue). AreGroupsOf r.options r.texts c.replacen.new.self) c.deref.ensures c.replacen.ensures.groups,
)
