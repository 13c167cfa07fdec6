use Rattle.std.proofs.Common.{◌∙◌, ap, sym, map-id}
use Rattle.std.proofs.lemmas.Iterator.{YieldsList-from_chars}
use Rattle.std.proofs.lemmas.Iterator.Consumers.{YieldsList-end}
use Rattle.grep_cli.specs.SmartCase.{next_pattern, scan_chars}
use Rattle.grep_cli.proofs.options.smart_case.Scan.pattern.Goals as goal

pub returns : goal.returns
returns c =
    let done = YieldsList-end (YieldsList-from_chars c.args.text.now c.utf8.text cc)
    c.loop-c.yielded _ c.loop-c.yielded_by _ _ c.in-None.is c.next.ensures.steps in
    c.loop-c.invariant ∙ (ap (λ s. scan_chars s c.loop-c.yielded) c.next_pattern-scan.ensures
    ∙ ap (scan_chars (next_pattern c.args.self)) (sym (map-id c.loop-c.yielded) ∙ done.0))
