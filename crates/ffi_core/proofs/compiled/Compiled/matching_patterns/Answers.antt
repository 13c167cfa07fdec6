use Rattle.std.proofs.Common.{subst}
use Rattle.meta_regex.specs.Caches.{IsCacheOf}
use Rattle.meta_regex.specs.Regexes.{MarksWhich, RegexValue}
use Rattle.ffi_core.proofs.CompiledLemmas.{by_value}
use Rattle.ffi_core.proofs.compiled.Compiled.matching_patterns.Goals as goal

pub returns-clause-marks : goal.returns-clause-marks
returns-clause-marks c =
    by_value c.deref.result.now c.self.inside.regex.value c.self.inside.options c.args.self.now c.deref.ensures c.self.invariant.0
    c.self.view_is
    (λ k ts loops. MarksWhich k ts c.args.haystack.now c.args.marks.now c.matching_patterns.new.marks c.matching_patterns.result)
    c.matching_patterns.ensures.marks

pub invariant_of-self : goal.invariant_of-self
invariant_of-self c = (
  c.self.invariant.0,
  subst (λ (r : RegexValue). IsCacheOf r c.matching_patterns.new.cache) c.deref.ensures c.matching_patterns.ensures.own,
  c.self.invariant.2,
)
