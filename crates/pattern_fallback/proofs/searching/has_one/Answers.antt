use Rattle.std.proofs.Common.{◌≡◌, ◌∙◌, Bool, is_some, subst, sym}
use Rattle.regex.specs.Search.{leftmost_in}
use Rattle.regex_meta.specs.Programs.{pattern_of}
use Rattle.pattern_fallback.proofs.SpanLemmas.{has_in_text, same_has}
use Rattle.pattern_fallback.proofs.searching.has_one.Goals as goal

pub returns-then-utf8-clause-reported : goal.returns-then-utf8-clause-reported
returns-then-utf8-clause-reported c a same =
    subst (λ (u : Bool). c.is_some.result ≡ is_some (leftmost_in u a c.args.haystack.now 0)) (sym c.if-utf8.true)
    (c.is_some.ensures
    ∙ has_in_text (pattern_of c.args.searcher.now.program.now) a c.args.haystack.now c.find_leftmost.result same c.see_bytes.ensures
    c.find_leftmost.ensures.found)

pub returns-else-utf8-clause-reported : goal.returns-else-utf8-clause-reported
returns-else-utf8-clause-reported c a same =
    subst (λ (u : Bool). c.is_match.result ≡ is_some (leftmost_in u a c.args.haystack.now 0)) (sym c.if-utf8.false)
    (c.is_match.ensures.found ∙ same_has (pattern_of c.args.searcher.now.program.now) a c.args.haystack.now same c.see_bytes.ensures)
