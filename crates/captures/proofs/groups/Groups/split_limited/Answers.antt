use Rattle.std.proofs.Common.{◌≡◌, ℕ, Option, Some, sym, ap, ◌∙◌, rules, subst, arith}
use Rattle.meta_regex.specs.Regexes.{config_by}
use Rattle.captures.specs.Replacing.{AreAllPieces}
use Rattle.captures.proofs.SplitLemmas.{no_pieces, none_begun}
use Rattle.captures.proofs.groups.Groups.split_limited.Goals as goal

pub returns-in-Err : goal.returns-in-Err
returns-in-Err c = search (rules, none_begun)

pub returns-in-Some-eq0 : goal.returns-in-Some-eq0
returns-in-Some-eq0 c =
    let none : c.in-Some-eq0.field-0 ≡ 0 = omega arith in
    let all = subst
    (λ (l : Option ℕ). AreAllPieces (config_by c.args.regex.now) c.args.regex.now.texts c.args.haystack.now l 0 c.args.rows.now c.args.rows.now)
    (sym (c.in-Some-eq0.is ∙ ap Some none))
    (no_pieces (config_by c.args.regex.now) c.args.regex.now.texts c.args.haystack.now c.args.rows.now) in
    search rules
