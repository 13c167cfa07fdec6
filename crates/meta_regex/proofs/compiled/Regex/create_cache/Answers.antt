use Rattle.std.proofs.Common.{sym, subst}
use Rattle.search_types.specs.declared.match_kind.MatchKind.TheVariants.{LeftmostFirst}
use Rattle.growing_regex.specs.Growing.{Growing}
use Rattle.meta_regex.specs.Regexes.{AreReportedOf, config_by}
use Rattle.meta_regex.proofs.CacheLemmas.{automata_of, capacity_kept}
use Rattle.meta_regex.proofs.compiled.Regex.create_cache.Goals as goal

pub returns : goal.returns
returns c =
    let v = c.args.self.now in
    record {
      automata = automata_of v c.in_ok-automata.automata
          (subst (λ (g : Growing). AreReportedOf (config_by v) v.texts LeftmostFirst v.loops g.pair) (sym c.in_ok-automata.ensures)
          c.in_ok-pair.ensures)
          (capacity_kept v c.options.result c.in_ok-automata.automata c.in_ok-pair.pair.value c.largest_for.result c.options.ensures
          c.largest_for.ensures c.in_ok-automata.ensures);
      overlapping = tt;
      fallbacks = tt;
      wordless = tt;
      wordless_overlapping = tt;
    }
