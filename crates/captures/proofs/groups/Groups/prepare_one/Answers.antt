use Rattle.std.proofs.Common.{ap, refl, sym, Some, ◌∙◌}
use Rattle.std.proofs.lemmas.Option.{slice_get-get_or}
use Rattle.std.proofs.lemmas.Result.{MatchResult-weaker, on_ok_weaker}
use Rattle.captures.proofs.PatternLemmas.{groups_kept, one_text, prepare_error, ready_kept, ready_made}
use Rattle.captures.proofs.groups.Groups.prepare_one.Goals as goal

pub returns-clause-prepares : goal.returns-clause-prepares
returns-clause-prepares c =
    let old = c.args.self.now in
    let p = c.index_mut.result.now in
    let q = c.prepare.new.self in
    let listed = slice_get-get_or old.patterns.items c.args.pattern p c.requires ∙ ap Some (sym c.index_mut.ensures.value) in
    record {
      own = groups_kept old _ c.args.pattern p q refl refl refl listed c.prepare.ensures.own;
      made = on_ok_weaker c.prepare.result (ready_made old.patterns.items c.args.pattern p q listed) c.prepare.ensures.made;
      kept = ready_kept old.patterns.items c.args.pattern p q listed c.prepare.ensures.kept;
      refused = λ o texts of.
          let it = one_text old.syntax o.syntax texts old.patterns.items c.args.pattern p of.config_is of.patterns listed in
          MatchResult-weaker c.prepare.result (c.prepare.ensures.refused it.0 it.1) (λ _ done. done)
          (λ e is. prepare_error o old.syntax it.0 old.size_limit e it.1.parsed is of.limit_is);
    }
