use Rattle.std.proofs.Common.{sym, subst}
use Rattle.regex_pair.specs.Pairs.{Pair}
use Rattle.growing_regex.specs.Growing.{IsResized}
use Rattle.growing_regex.proofs.ResizeLemmas.{resized_of}
use Rattle.growing_regex.proofs.resizing.resized.Goals as goal

pub returns-in-Ok : goal.returns-in-Ok
returns-in-Ok c =
    subst (λ (p : Pair). IsResized c.args.capacity c.args.re.now p) (sym c.in-Ok.ensures)
    (resized_of c.args.capacity c.args.re.now c.in-Some.regex c.options_of.result c.options_of.ensures c.in-Some.ensures)
