use Rattle.std.proofs.Common.{◌≡◌, ◌∙◌, ap, sym}
use Rattle.globs.specs.Reading.{read, reading_of}
use Rattle.globs.specs.Rules.{glob_body, glob_syntax, rule_with}
use Rattle.globs.proofs.rules.Rule.of_glob.Goals as goal

pub returns-in-Some-clause-fault : goal.returns-in-Some-clause-fault
returns-in-Some-clause-fault c =
    let r : reading_of c.in_ok-reader.reader ≡ read (glob_syntax c.args.folds) (glob_body c.args.text.now) = c.in_ok-reader.ensures ∙ (ap (λ x. read x c.glob_body.result.now) c.glob_syntax.ensures ∙ ap (read (glob_syntax c.args.folds)) c.glob_body.ensures) in
    ap (λ s. s.fault) (sym r) ∙ c.in-Some.is

pub returns-in-None-clause-rule : goal.returns-in-None-clause-rule
returns-in-None-clause-rule c =
    let r : reading_of c.in_ok-reader.reader ≡ read (glob_syntax c.args.folds) (glob_body c.args.text.now) = c.in_ok-reader.ensures ∙ (ap (λ x. read x c.glob_body.result.now) c.glob_syntax.ensures ∙ ap (read (glob_syntax c.args.folds)) c.glob_body.ensures) in
    c.rule_with.ensures ∙ ap (λ s. rule_with s.sections c.args.text.now) r

pub returns-in-None-clause-sound : goal.returns-in-None-clause-sound
returns-in-None-clause-sound c =
    let r : reading_of c.in_ok-reader.reader ≡ read (glob_syntax c.args.folds) (glob_body c.args.text.now) = c.in_ok-reader.ensures ∙ (ap (λ x. read x c.glob_body.result.now) c.glob_syntax.ensures ∙ ap (read (glob_syntax c.args.folds)) c.glob_body.ensures) in
    ap (λ s. s.fault) (sym r) ∙ c.in-None.is
