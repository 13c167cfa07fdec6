use Rattle.std.proofs.Common.{subst}
use Rattle.meta_regex.specs.Caches.{IsCacheOf}
use Rattle.meta_regex.specs.Regexes.{RegexValue}
use Rattle.meta_regex.specs.Lists.{ListsAll}
use Rattle.ffi_core.proofs.CompiledLemmas.{by_value}
use Rattle.ffi_core.proofs.compiled.Compiled.find_all.Goals as goal

pub returns-clause-lists : goal.returns-clause-lists
returns-clause-lists c =
    by_value c.deref.result.now c.self.inside.regex.value c.self.inside.options c.args.self.now c.deref.ensures c.self.invariant.0
    c.self.view_is
    (λ k ts loops. ListsAll k ts loops c.args.haystack.now c.args.rows.now c.find_all.new.rows c.find_all.result)
    c.find_all.ensures.lists

pub invariant_of-self : goal.invariant_of-self
invariant_of-self c = (
  c.self.invariant.0,
  subst (λ (r : RegexValue). IsCacheOf r c.find_all.new.cache) c.deref.ensures c.find_all.ensures.own,
  c.self.invariant.2,
)
