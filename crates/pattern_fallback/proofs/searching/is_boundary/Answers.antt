use Rattle.std.proofs.Common.{refl, arith}
use Rattle.std.proofs.lemmas.Bool.Decides.{nat_tests}
use Rattle.std.proofs.lemmas.Option.{slice_get_past, slice_get-get_or}
use Rattle.regex_hir.specs.Text.{is_boundary}
use Rattle.pattern_fallback.proofs.searching.is_boundary.Goals as goal

pub returns-then-at-haystack : goal.returns-then-at-haystack
unfolding is_boundary
returns-then-at-haystack c = rw (slice_get_past c.args.haystack.now c.args.at c.if-at-haystack.true) refl

pub returns : goal.returns
unfolding is_boundary
returns c = rw (slice_get-get_or c.args.haystack.now c.args.at 0 c.if-at-haystack.false) (grind (arith, nat_tests))
