use Rattle.std.proofs.Common.{subst}
use Rattle.meta_regex.specs.Caches.{IsCacheOf}
use Rattle.meta_regex.specs.Regexes.{FindsFrom, RegexValue}
use Rattle.ffi_core.proofs.CompiledLemmas.{by_value}
use Rattle.ffi_core.proofs.compiled.Compiled.find_at.Goals as goal

pub returns-clause-finds : goal.returns-clause-finds
returns-clause-finds c =
    by_value c.deref.result.now c.self.inside.regex.value c.self.inside.options c.args.self.now c.deref.ensures c.self.invariant.0
    c.self.view_is
    (λ k ts loops. FindsFrom k ts loops c.args.haystack.now c.args.from c.find_at.result)
    c.find_at.ensures.finds

pub invariant_of-self : goal.invariant_of-self
invariant_of-self c = (
  c.self.invariant.0,
  subst (λ (r : RegexValue). IsCacheOf r c.find_at.new.cache) c.deref.ensures c.find_at.ensures.own,
  c.self.invariant.2,
)
