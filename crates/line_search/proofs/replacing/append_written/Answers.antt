use Rattle.std.proofs.Common.{◌≡◌, ◌∙◌, ap, arith, sym}
use Rattle.std.specs.Prelude.{is_some}
use Rattle.regex_hir.specs.Re.{accept, attempt}
use Rattle.line_search.specs.Bounded.{line_pattern}
use Rattle.line_search.specs.Replacing.{all_names, names_at, pattern_at}
use Rattle.line_search.proofs.AppendLemmas.{writes_for}
use Rattle.line_search.proofs.NumberedLemmas.{names_there}
use Rattle.line_search.proofs.replacing.append_written.Goals as goal

pub returns : goal.returns
returns c res m read at there are two =
    let h = c.args.line.now in
    let how = c.args.groups.now.0 in
    let names = all_names how c.args.groups.now.1 in
    let tried = attempt h (line_pattern how res) accept in
    let number : c.in-Ok.number ≡ pattern_at how res h m.start =
    c.in-Ok.ensures res read (ap (λ i. is_some (tried i)) (sym at) ∙ ap is_some there) ∙ ap (pattern_at how res h) (sym at) in
    let own : c.in-Some.names.now ≡ names_at how names res h m.start =
    names_there how names res h m.start c.in-Ok.number c.in-Some.names.now number c.in-Some.ensures in
    writes_for how names res h c.args.template.now c.args.slots.now m c.in-Some.names.now c.in_ok-read.read c.args.output.now.items
    c.append.new.output.items c.in_ok-append.ensures.appended c.in_ok-read.ensures own are c.requires.width there
    (omega (arith, at, c.requires.start)) (omega arith)
