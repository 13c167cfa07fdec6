use Rattle.std.proofs.Common.{◌≡◌, ◌-◌, None, Some, arith, refl, suc, length}
use Rattle.std.proofs.lemmas.Option.{slice_get_past, slice_get_read}
use Rattle.text_report.proofs.ReplacedLemmas.{end_of_get}
use Rattle.text_report.proofs.replaced_offsets.end_of_first.Goals as goal

pub returns-in-Some : goal.returns-in-Some
returns-in-Some c =
    let one : c.args.n ≡ suc (c.args.n - 1) = omega (arith, c.if-n-eq0.false) in
    end_of_get c.args.spans.now c.args.n (c.args.n - 1) one (Some c.in-Some.span.now)
    (slice_get_read c.args.spans.now (length c.args.spans.now) (c.args.n - 1) c.in-Some.span.now refl c.in-Some.ensures.lookup.3.0
    c.in-Some.ensures.lookup.1)

pub returns-in-None : goal.returns-in-None
returns-in-None c =
    let one : c.args.n ≡ suc (c.args.n - 1) = omega (arith, c.if-n-eq0.false) in
    end_of_get c.args.spans.now c.args.n (c.args.n - 1) one None (slice_get_past c.args.spans.now (c.args.n - 1) c.in-None.ensures.lookup.3)
