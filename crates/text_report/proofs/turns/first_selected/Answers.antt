use Rattle.std.proofs.Common.{◌≡◌, ◌+◌, ◌-◌, ◌∙◌, Bool, List, ap, arith, drop, length, length-drop, sym, take}
use Rattle.std.proofs.lemmas.List.{take_rest}
use Rattle.text_report.specs.EventCourse.{gap}
use Rattle.text_report.proofs.EventLemmas.{gap_found, gap_whole}
use Rattle.text_report.proofs.turns.first_selected.Goals as goal

pub returns-in-Some-clause-found : goal.returns-in-Some-clause-found
returns-in-Some-clause-found c =
    let flags : List Bool = c.args.flags.now in
    ap (λ n. c.args.from + n)
    (gap_found (take (length flags - c.args.from) (drop c.args.from flags)) c.in-Some.n (sym c.first_true.ensures ∙ c.in-Some.is)
    ∙ ap gap (take_rest flags c.args.from))

pub returns-in-None-clause-found : goal.returns-in-None-clause-found
returns-in-None-clause-found c =
    let flags : List Bool = c.args.flags.now in
    let rest : List Bool = take (length flags - c.args.from) (drop c.args.from flags) in
    let whole : gap rest ≡ length rest = gap_whole rest (sym c.first_true.ensures ∙ c.in-None.is) in
    let same : gap rest ≡ gap (drop c.args.from flags) = ap gap (take_rest flags c.args.from) in
    let size : length rest ≡ length flags - c.args.from = ap length (take_rest flags c.args.from) ∙ length-drop c.args.from flags in
    omega (arith, whole, same, size, c.requires)
