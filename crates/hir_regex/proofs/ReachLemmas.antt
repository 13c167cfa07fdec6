-- An answer over trees depends on its reach alone, and not on how the automata were set.
use Rattle.std.proofs.Common.{◌≡◌, ℕ, Bool, List, Option, All, sym, ◌∙◌}
use Rattle.std.specs.Prelude.{Ok}
use Rattle.look_core.specs.Terminators.{Terminator}
use Rattle.hir_core.specs.Tree.{Tree}
use Rattle.hir_core.specs.Facts.{LoopsRead}
use Rattle.search_types.specs.declared.anchored.Anchored.{Anchored}
use Rattle.search_types.specs.Found.{Found}
use Rattle.search_types.specs.Inputs.{Search}
use Rattle.search_types.specs.Modes.{is_supported}
use Rattle.lazy_dfa.specs.Dfas.{reader}
use Rattle.regex_pair.specs.Joined.{joined}
use Rattle.regex_pair.specs.Matching.{has_match}
use Rattle.regex_pair.specs.PairLaws.{AreSetAlike}
use Rattle.regex_pair.specs.Pairs.{Pair}
use Rattle.regex_pair.proofs.ForCallers.{joined_has_reach, joined_alike, told_alike}
use Rattle.hir_regex.specs.Regexes.{IsRegexOf, IsSearchOf}
use Rattle.hir_regex.specs.ReachLaws.{IsAnswerReach}
use Rattle.hir_regex.proofs.RegexLemmas.{goes_forward}
use Rattle.hir_regex.proofs.SearchLemmas.{answer_is_of_trees}

pub answer_reaches : (xs : List Tree) (utf8 : Bool) (t : Terminator) (p : Pair) → IsRegexOf xs utf8 t p → (q : Search) →
    IsSearchOf xs utf8 q → All LoopsRead xs → (o : Option Found) → joined p q ≡ Ok o → (end : ℕ) × IsAnswerReach xs utf8 t p q o end
answer_reaches xs utf8 t p regex q asked loops o is =
    let reach = joined_has_reach p q o (goes_forward xs utf8 t p regex) asked.within is in (
      reach.0,
      record {
        read = reach.1;
        defined = λ g in_g bytes valid same words set.
            let there : IsSearchOf xs utf8 (record q { haystack = g }) = record {
              within = in_g;
              whole = asked.whole;
              bytes = bytes;
              valid = valid;
              utf8_trees = asked.utf8_trees;
            } in
            sym (answer_is_of_trees xs utf8 t p regex (record q { haystack = g }) there words set loops o (reach.1.local g in_g same));
      },
    )

module _ (xs : List Tree) (utf8 : Bool) (t : Terminator) (p r : Pair) (of_first : IsRegexOf xs utf8 t p) (of_second : IsRegexOf xs utf8 t r)
    (ends : p.forward.nfa ≡ r.forward.nfa) (starts : p.reverse.nfa ≡ r.reverse.nfa) (quits : p.forward.quits ≡ r.forward.quits) where
  set_alike : (mode : Anchored) →
      is_supported (reader p.forward).starts_for_each_pattern mode ≡ is_supported (reader r.forward).starts_for_each_pattern mode →
      AreSetAlike p r mode
  set_alike mode same = record {
    ends = ends;
    starts = starts;
    ends_kind = of_first.finds_first ∙ sym of_second.finds_first;
    starts_kind = of_first.finds_all ∙ sym of_second.finds_all;
    ends_quits = quits;
    starts_quits = of_first.same_quits ∙ quits ∙ sym of_second.same_quits;
    supported = same;
  }

  pub answers_alike : (q : Search) →
      is_supported (reader p.forward).starts_for_each_pattern q.anchored ≡ is_supported
      (reader r.forward).starts_for_each_pattern q.anchored →
      joined p q ≡ joined r q
  answers_alike q same = joined_alike p r q (set_alike q.anchored same)

  pub tells_alike : (q : Search) →
      is_supported (reader p.forward).starts_for_each_pattern q.anchored ≡ is_supported
      (reader r.forward).starts_for_each_pattern q.anchored →
      has_match p q ≡ has_match r q
  tells_alike q same = told_alike p r q (set_alike q.anchored same)
