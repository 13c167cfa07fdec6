use Rattle.std.proofs.Common.{ℕ, Option, ap, sym, ◌∙◌, ◌==◌, ◌≡◌}
use Rattle.regex_hir.specs.Text.{is_some_and}
use Rattle.regex_meta.specs.Programs.{pattern_of}
use Rattle.regex_meta.specs.declared.program.Program.{Program}
use Rattle.pattern_fallback.specs.Fallbacks.{found_at}
use Rattle.pattern_fallback.proofs.NumberLemmas.{starts_is}
use Rattle.pattern_fallback.proofs.numbers.starts_at.Goals as goal

pub returns-in-Some : goal.returns-in-Some
returns-in-Some c a same =
    let is : c.find.result ≡ found_at (pattern_of c.args.program.now) c.args.haystack.now c.args.start =
    c.find.ensures.found ∙ ap (λ (p : Program). found_at (pattern_of p) c.args.haystack.now c.args.start) c.in_ok-searcher.ensures in
    ap (λ (o : Option (ℕ × ℕ)). is_some_and o (λ s. s.0 == c.args.start)) (sym c.in-Some.is)
    ∙ starts_is (pattern_of c.args.program.now) a c.args.haystack.now c.args.start c.find.result same c.see_bytes.ensures c.requires is

pub returns : goal.returns
returns c a same =
    let is : c.find.result ≡ found_at (pattern_of c.args.program.now) c.args.haystack.now c.args.start =
    c.find.ensures.found ∙ ap (λ (p : Program). found_at (pattern_of p) c.args.haystack.now c.args.start) c.in_ok-searcher.ensures in
    ap (λ (o : Option (ℕ × ℕ)). is_some_and o (λ s. s.0 == c.args.start)) (sym c.in-None.is)
    ∙ starts_is (pattern_of c.args.program.now) a c.args.haystack.now c.args.start c.find.result same c.see_bytes.ensures c.requires is
