use Rattle.std.proofs.Common.{Bool, List, ap, map, ◌∙◌}
use Rattle.meta_regex.specs.Regexes.{config_by, hits, mark, overlaid}
use Rattle.meta_regex.proofs.FoundLemmas.{marked_of}
use Rattle.meta_regex.proofs.compiled.Regex.matching_patterns.Goals as goal

pub returns-clause-marks : goal.returns-clause-marks
returns-clause-marks c = record {
  marked = marked_of (config_by c.args.self.now) c.args.self.now.texts c.args.haystack.now c.in-Ok-which_match.tests.items c.hits.result
      c.fill.new.self c.write_marks.new.marks c.in-Ok-which_match.ensures.says.reported
      (c.if-marks-pattern_count.false ∙ c.pattern_count.ensures)
      (c.write_marks.ensures ∙ ap (λ (bs : List Bool). overlaid (map mark bs) c.fill.new.self) c.deref.ensures.value)
      (c.hits.ensures ∙ ap hits c.deref-2.ensures.value);
  cleared = tt;
  cause = tt;
}
