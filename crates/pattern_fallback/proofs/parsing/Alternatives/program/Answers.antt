use Rattle.std.proofs.Common.{map, ◌∙◌}
use Rattle.regex_hir.specs.Meaning.{meaning}
use Rattle.regex_hir.proofs.MeaningLemmas.{meaning-Alternation}
use Rattle.pattern_fallback.proofs.ProgramLemmas.{program_is}
use Rattle.pattern_fallback.proofs.parsing.Alternatives.program.Goals as goal

pub returns : goal.returns
returns c =
    program_is c.in_ok-program.program.value (map meaning c.args.self.hirs.items) (c.in_ok-program.ensures ∙ meaning-Alternation c.args.self.hirs)
