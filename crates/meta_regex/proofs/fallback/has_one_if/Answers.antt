use Rattle.std.proofs.Common.{◌≡◌, ◌&&◌, Bool, subst, sym}
use Rattle.std.specs.Prelude.{is_some}
use Rattle.regex.specs.Search.{leftmost_in}
use Rattle.regex_meta.specs.Programs.{pattern_of}
use Rattle.regex_meta.specs.declared.program.Program.{Program}
use Rattle.regex_syntax.specs.Captures.{SameCaptures}
use Rattle.meta_regex.proofs.fallback.has_one_if.Goals as goal

pub returns : goal.returns
returns c a same =
    subst (λ (b : Bool). c.has_one.result ≡ (b && is_some (leftmost_in c.args.utf8 a c.args.haystack.now 0))) (sym c.if-not-may.false)
    (c.has_one.ensures.reported a (subst (λ (p : Program). SameCaptures (pattern_of p) a) (sym c.in_ok-searcher.ensures) same))
