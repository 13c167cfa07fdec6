use Rattle.std.proofs.Common.{◌∙◌, subst, sym}
use Rattle.regex_hir.specs.Meaning.{alt_all}
use Rattle.regex_meta.specs.Programs.{pattern_of}
use Rattle.regex_meta.specs.declared.program.Program.{Program}
use Rattle.regex_syntax.specs.Captures.{SameCaptures}
use Rattle.pattern_fallback.specs.Fallbacks.{AreProgramsOfEach}
use Rattle.meta_regex.proofs.FallbackLemmas.{none_found, one_found}
use Rattle.meta_regex.proofs.fallback.find_match.Goals as goal

pub returns-in_default : goal.returns-in_default
returns-in_default c res of =
    none_found c.args.utf8 res c.args.haystack.now c.args.from
    (c.in_default.ensures.found (alt_all res)
    (subst (λ (p : Program). SameCaptures (pattern_of p) (alt_all res)) (sym (c.in_ok-searcher.ensures ∙ c.deref.ensures)) of.all))

pub returns : goal.returns
returns c res of =
    one_found c.args.utf8 res c.args.haystack.now c.args.from
    (record { pattern = c.in_ok-number.number; start = c.in-Some.span.start; end = c.in-Some.span.end })
    (c.in-Some.ensures.found (alt_all res)
    (subst (λ (p : Program). SameCaptures (pattern_of p) (alt_all res)) (sym (c.in_ok-searcher.ensures ∙ c.deref.ensures)) of.all))
    (c.in_ok-number.ensures res (subst (AreProgramsOfEach res) (sym c.deref-2.ensures.value) of.each))
