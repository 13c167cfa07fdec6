use Rattle.std.proofs.Common.{ap, length, string_bytes, sym, ◌∙◌}
use Rattle.meta_regex.specs.Regexes.{RegexValue}
use Rattle.std.proofs.lemmas.List.{length-map}
use Rattle.meta_regex.proofs.compiled.Regex.pattern_count.Goals as goal

pub returns : goal.returns
returns c =
    ap length c.as_slice.ensures.value ∙ sym (length-map c.self.inside.texts.items string_bytes)
    ∙ ap (λ (v : RegexValue). length v.texts) c.self.view_is
