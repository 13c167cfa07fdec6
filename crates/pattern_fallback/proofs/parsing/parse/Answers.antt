use Rattle.std.proofs.Common.{map, option_map, string_bytes}
use Rattle.pattern_fallback.proofs.ParsedLemmas.{parsed_of}
use Rattle.pattern_fallback.proofs.parsing.parse.Goals as goal

pub returns-in-Ok : goal.returns-in-Ok
returns-in-Ok c =
    parsed_of c.args.config.now c.args.text.now c.in-Ok.parsed.hir (map (option_map string_bytes) c.in-Ok.parsed.names.items) c.in-Ok.ensures.ok
