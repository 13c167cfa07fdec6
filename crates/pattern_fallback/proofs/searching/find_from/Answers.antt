use Rattle.std.proofs.Common.{◌∙◌}
use Rattle.regex_meta.specs.Programs.{pattern_of}
use Rattle.pattern_fallback.proofs.SpanLemmas.{lies_within, same_found}
use Rattle.pattern_fallback.proofs.searching.find_from.Goals as goal

pub returns-clause-found : goal.returns-clause-found
returns-clause-found c a same =
    c.find_leftmost.ensures.found
    ∙ same_found (pattern_of c.args.searcher.now.program.now) a c.args.haystack.now c.args.start same c.see_bytes.ensures c.args.utf8

pub returns-clause-within : goal.returns-clause-within
returns-clause-within c =
    lies_within c.args.utf8 (pattern_of c.args.searcher.now.program.now) c.args.haystack.now c.args.start c.find_leftmost.result
    c.find_leftmost.ensures.found
