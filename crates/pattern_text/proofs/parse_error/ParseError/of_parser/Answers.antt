use Rattle.pattern_text.proofs.ParseLemmas.{refused_for}
use Rattle.pattern_text.proofs.parse_error.ParseError.of_parser.Goals as goal

pub returns-in_default-clause-fault : goal.returns-in_default-clause-fault
returns-in_default-clause-fault c = λ config text refuses lies.
    (c.in_default.not-OutOfMemory, refused_for config text c.args.error.kind c.in_default.not-OutOfMemory refuses, lies)
