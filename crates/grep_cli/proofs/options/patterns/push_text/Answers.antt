use Rattle.std.proofs.Common.{◌∙◌, ◌++◌, map, string_bytes, ap, refl, sym, lit<, rules}
use Rattle.std.proofs.lemmas.Result.{on_ok_weaker}
use Rattle.std.proofs.lemmas.Str.Pattern.{strip_suffix_char}
use Rattle.grep_cli.proofs.GivenLemmas.{text_lines}
use Rattle.grep_cli.specs.Given.{patterns_of_file}
use Rattle.grep_cli.proofs.options.patterns.push_text.Goals as goal

pub returns : goal.returns
returns c =
    let cases = strip_suffix_char 10 c.args.text.now c.strip_suffix.result c.strip_suffix.ensures.cases (lit< tt) in
    let lines = text_lines c.args.text.now c.strip_suffix.result c.args.text c.unwrap_or-lines.result c.unwrap_or-lines.ensures refl cases
    (first_of (cc, search rules)) in
    let asked = lines ∙ ap (λ b. patterns_of_file b c.args.text.now) (sym c.if-crlf.false) in
    on_ok_weaker c.push_lines.result (λ e. e ∙ ap (λ ls. map string_bytes c.args.patterns.now.items ++ ls) asked) c.push_lines.ensures
