use Rattle.std.proofs.Common.{subst}
use Rattle.meta_regex.specs.Caches.{IsCacheOf}
use Rattle.meta_regex.specs.Regexes.{RegexValue, ReportsAnyMatch}
use Rattle.ffi_core.proofs.CompiledLemmas.{by_value}
use Rattle.ffi_core.proofs.compiled.Compiled.is_match.Goals as goal

pub returns-clause-reports : goal.returns-clause-reports
returns-clause-reports c =
    by_value c.deref.result.now c.self.inside.regex.value c.self.inside.options c.args.self.now c.deref.ensures c.self.invariant.0
    c.self.view_is
    (λ k ts loops. ReportsAnyMatch k ts c.args.haystack.now c.is_match.result)
    c.is_match.ensures.reports

pub invariant_of-self : goal.invariant_of-self
invariant_of-self c = (
  c.self.invariant.0,
  subst (λ (r : RegexValue). IsCacheOf r c.is_match.new.cache) c.deref.ensures c.is_match.ensures.own,
  c.self.invariant.2,
)
