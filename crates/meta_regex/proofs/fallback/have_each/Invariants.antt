use Rattle.std.proofs.Common.{◌≡◌, List, length}
use Rattle.regex_hir.specs.Re.{Re}
use Rattle.meta_regex.specs.Fallbacks.{AreFallbacksFor}
use Rattle.meta_regex.proofs.FallbackLemmas.{IsTestedSoFar}
use Rattle.meta_regex.proofs.fallback.have_each.Given as goal

abbrev pub invariant-loop-number : goal.invariant-loop-number
invariant-loop-number l = (res : List Re) → AreFallbacksFor res l.fallbacks → length l.may ≡ length res →
    IsTestedSoFar l.utf8 l.haystack res l.may l.number l.tests.items
