-- Over the automata of a regex that is built of trees, overlapping searches report what the trees mean.
use Rattle.std.proofs.Common.{◌≡◌, true, false, List, refl, ap, ◌∙◌}
use Rattle.hir_core.specs.Tree.{Tree}
use Rattle.search_types.specs.declared.match_kind.MatchKind.TheVariants.{All as AllMatches}
use Rattle.lazy_dfa.specs.ConfigValue.{kind_of}
use Rattle.regex_pair.specs.Pairs.{Pair}
use Rattle.hir_regex.specs.declared.settings.Settings.{Settings}
use Rattle.hir_regex.specs.Built.{IsBuilt, compile_options}
use Rattle.hir_regex.specs.OverlappingTrees.{IsOverlappingDfa}
use Rattle.hir_regex.proofs.BuiltPairLemmas.{pair_of, pair_is}

module _ (xs : List Tree) (s : Settings) (p : Pair) (is_built : IsBuilt xs s p) where
  made : p ≡ pair_of p.forward.nfa p.reverse.nfa s.dfa
  made = pair_is p.forward.nfa p.reverse.nfa s.dfa p is_built.made

  pub walks_reverse : IsOverlappingDfa xs true s.utf8 s.line_terminator p.reverse
  walks_reverse = record {
    options = compile_options true s;
    compiled = is_built.is_reverse;
    reads = refl;
    mode = refl;
    terminator = refl;
    dfa = is_built.reverse;
    finds_all = ap (λ (v : Pair). kind_of v.reverse.options) made;
  }

  pub walks_forward : kind_of s.dfa ≡ AllMatches → IsOverlappingDfa xs false s.utf8 s.line_terminator p.forward
  walks_forward all = record {
    options = compile_options false s;
    compiled = is_built.is_forward;
    reads = refl;
    mode = refl;
    terminator = refl;
    dfa = is_built.forward;
    finds_all = ap (λ (v : Pair). kind_of v.forward.options) made ∙ all;
  }
