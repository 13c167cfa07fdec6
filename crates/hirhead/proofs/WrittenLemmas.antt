-- What the query that was printed for the trees of patterns says of the patterns.
use Rattle.std.proofs.Common.{◌≡◌, ℕ, Bool, IsTrue, List, ◌++◌, map, length, All, refl, sym, subst}
use Rattle.regex_syntax.specs.declared.Config.{Config}
use Rattle.hir_core.specs.Facts.{is_utf8_tree}
use Rattle.hir_core.specs.Tree.{Tree}
use Rattle.hirscan.specs.Reads.{Reads}
use Rattle.hirscan.specs.Takes.{at_first}
use Rattle.pattern_search.specs.Texts.{AllMean}
use Rattle.hirhead.specs.Written.{printed_tree}
use Rattle.hirhead.specs.HasLines.{AllFit}
use Rattle.hirhead.specs.Queries.{AllMatch, IsQueryOf, read_of}
use Rattle.hirhead.specs.Lines.{query_text}
use Rattle.hirhead.proofs.SameLemmas.{all_utf8}

-- the two laws of queries, and what is known of the trees
pub is_head : ((utf8 : Bool) (xs : List Tree) → AllFit 250 xs → (haystack : List ℕ)
    → Reads (query_text utf8 xs ++ haystack) at_first (read_of utf8 xs) (length (query_text utf8 xs)))
    → ((config : Config) (texts : List (List ℕ)) (xs : List Tree) → AllMean config texts xs → AllFit 250 xs →
    AllMatch config texts (map printed_tree xs))
    → (config : Config) (texts : List (List ℕ)) (xs : List Tree) (head : List ℕ) → AllMean config texts xs → AllFit 250 xs
    → (IsTrue config.utf8 → All (λ x. IsTrue (is_utf8_tree x)) xs) → head ≡ query_text config.utf8 xs → IsQueryOf config texts head
is_head are_read match_alike config texts xs head means fits utf8 is = record {
  found = read_of config.utf8 xs;
  reads = λ haystack.
      subst (λ (text : List ℕ). Reads (text ++ haystack) at_first (read_of config.utf8 xs) (length text)) (sym is)
      (are_read config.utf8 xs fits haystack);
  setup_is = refl;
  stack_is = refl;
  matches = match_alike config texts xs means fits;
  is_utf8 = λ on. all_utf8 xs (utf8 on);
}
