use Rattle.std.proofs.Common.{List, map, ℕ, refl, subst, sym}
use Rattle.std.specs.Prelude.{string_bytes}
use Rattle.regex_pair.specs.Pairs.{Pair}
use Rattle.hir_core.specs.Tree.{Tree, alternation}
use Rattle.search_types.specs.declared.match_kind.MatchKind.TheVariants.{LeftmostFirst}
use Rattle.pattern_search.specs.Texts.{AllMean}
use Rattle.meta_regex.specs.Options.{config_of}
use Rattle.meta_regex.specs.Regexes.{AreReportedOf}
use Rattle.meta_regex.specs.Starts.{AreTreesOf, DescribesStarts}
use Rattle.meta_regex.specs.Ways.{IsWayOf}
use Rattle.meta_regex.proofs.CacheLemmas.{kept_mean}
use Rattle.meta_regex.proofs.compiled.Regex.new.Goals as goal

pub invariant_of-result : goal.invariant_of-result
invariant_of-result c = (
  subst (λ (p : Pair). AreReportedOf (config_of c.args.options.now) (map string_bytes c.in-Ok-owned.copies.items) LeftmostFirst
      c.in-Ok.built.loops p) (sym c.in-Ok-shared.ensures)
      (subst (λ (ts : List (List ℕ)). AreReportedOf (config_of c.args.options.now) ts LeftmostFirst c.in-Ok.built.loops c.in-Ok.built.pair)
      (sym c.in-Ok-owned.ensures) c.in-Ok.ensures.made.0),
  record {
    trees = c.in-Ok.built.trees.items;
    mean = subst (λ (ts : List (List ℕ)). AllMean (config_of c.args.options.now) ts c.in-Ok.built.trees.items) (sym c.in-Ok-owned.ensures)
        c.in-Ok.ensures.trees.mean;
    described = subst (λ (xs : List Tree). DescribesStarts c.of-starts.result (alternation xs)) c.deref-2.ensures.value c.of-starts.ensures;
  },
  record {
    trees = c.in-Ok.built.trees.items;
    searched = subst (λ (ts : List (List ℕ)). AreTreesOf (config_of c.args.options.now) ts c.in-Ok.built.loops c.in-Ok.built.trees.items)
        (sym c.in-Ok-owned.ensures) c.in-Ok.ensures.trees;
    described = subst (λ (xs : List Tree). DescribesStarts c.of-starts.result (alternation xs)) c.deref-2.ensures.value c.of-starts.ensures;
    found_so = subst (λ (xs : List Tree). IsWayOf c.of-way.result xs) c.deref-3.ensures.value c.of-way.ensures;
  },
  kept_mean (config_of c.args.options.now) (map string_bytes c.in-Ok-owned.copies.items) c.in-Ok.built.trees.items c.if_they_look_for_words.result
      (subst (λ (ts : List (List ℕ)). AllMean (config_of c.args.options.now) ts c.in-Ok.built.trees.items) (sym c.in-Ok-owned.ensures)
      c.in-Ok.ensures.trees.mean)
      c.if_they_look_for_words.ensures,
)

pub returns-clause-made : goal.returns-clause-made
returns-clause-made c = record {
  options_are = refl;
  texts_are = c.in-Ok-owned.ensures;
  trees = c.in-Ok.ensures.made.0.0.trees;
  mean = c.in-Ok.ensures.made.0.0.mean;
  loops_told = c.in-Ok.ensures.made.0.1;
  loops_read = c.in-Ok.ensures.made.1;
}
