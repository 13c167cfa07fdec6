use Rattle.std.proofs.Common.{◌≡◌, ◌∙◌, ◌∷◌, [], ap, sym}
use Rattle.globs.specs.Ignoring.{sound_rule}
use Rattle.globs.specs.Reading.{read, reading_of}
use Rattle.globs.specs.Rules.{glob_body, rule_with}
use Rattle.globs.specs.declared.reading.Syntax.TheVariants.{Gitignore}
use Rattle.globs.proofs.rules.Rule.of_ignore.Goals as goal

pub returns-in-Some : goal.returns-in-Some
returns-in-Some c =
    let r : reading_of c.in_ok-reader.reader ≡ read Gitignore (glob_body c.args.text.now) = c.in_ok-reader.ensures ∙ ap (read Gitignore) c.glob_body.ensures in
    ap (λ f. sound_rule f (rule_with (read Gitignore (glob_body c.args.text.now)).sections c.args.text.now)) (ap (λ s. s.fault) (sym r) ∙ c.in-Some.is)

pub returns-in-None : goal.returns-in-None
returns-in-None c =
    let r : reading_of c.in_ok-reader.reader ≡ read Gitignore (glob_body c.args.text.now) = c.in_ok-reader.ensures ∙ ap (read Gitignore) c.glob_body.ensures in
    ap (λ f. sound_rule f (rule_with (read Gitignore (glob_body c.args.text.now)).sections c.args.text.now)) (ap (λ s. s.fault) (sym r) ∙ c.in-None.is)
    ∙ ap (λ x. x ∷ []) (sym (c.rule_with.ensures ∙ ap (λ s. rule_with s.sections c.args.text.now) r))
