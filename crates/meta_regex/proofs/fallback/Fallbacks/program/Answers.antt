use Rattle.std.proofs.Common.{◌∙◌, Box, List, ap, arith, length, slice_index_or}
use Rattle.std.specs.declared.alloc.Global.{Global}
use Rattle.regex_meta.specs.declared.program.Program.{Program}
use Rattle.pattern_fallback.proofs.ForCallers.{program_of_one}
use Rattle.meta_regex.proofs.fallback.Fallbacks.program.Goals as goal

pub returns-in-Some : goal.returns-in-Some
returns-in-Some c res a of listed =
    program_of_one res c.args.self.now.each.items c.args.self.now.all.value c.deref-in-Some.result.now c.args.number c.in-Some.program.now a
    of.each of.all listed
    (λ _. c.deref-in-Some.ensures
    ∙ ap (λ (b : Box Program Global). b.value)
    (c.in-Some.ensures.lookup.1
    ∙ ap (λ (ps : List (Box Program Global)). slice_index_or ps c.args.number c.in-Some.program.now) c.deref.ensures.value))
    (λ few. absurd (omega (arith, few, c.in-Some.ensures.lookup.3.0, ap length c.deref.ensures.value)))

pub returns-in-None : goal.returns-in-None
returns-in-None c res a of listed =
    program_of_one res c.args.self.now.each.items c.args.self.now.all.value c.deref-in-None.result.now c.args.number c.args.self.now.all a
    of.each of.all listed
    (λ below. absurd (omega (arith, below, c.in-None.ensures.lookup.3, ap length c.deref.ensures.value)))
    (λ _. c.deref-in-None.ensures)
