-- What each way of finding matches finds is the next span of the only tree.
use Rattle.std.proofs.Common.{◌≡◌, ◌==◌, ◌<◌, ℕ, Bool, length, List, [], ◌∷◌, inl, arith, subst, true, ◌∙◌}
use Rattle.std.proofs.lemmas.Bool.{eqb-true}
use Rattle.search_core.specs.ByteSets.{has}
use Rattle.hir_core.specs.Tree.{Tree, alternation}
use Rattle.literal_search.specs.Searches.{IsBegunBy}
use Rattle.meta_regex.specs.FirstBytes.{AreFirstBytes}
use Rattle.meta_regex.specs.Parts.{AreDecided, AreParts}
use Rattle.meta_regex.specs.Ways.{IsSequenceOfTrees}
use Rattle.meta_regex.specs.declared.sequences.Sequence.{Sequence}
use Rattle.meta_regex.proofs.FirstByteLemmas.{byte_below}

-- the literals with which the spans of an alternation of one begin
pub begun_only : (x : Tree) (literals : List (List ℕ)) → IsBegunBy literals (alternation (x ∷ [])) → IsBegunBy literals x
begun_only x literals it = record { begun = λ looks h i j m. it.begun looks h i j (inl m) }

-- the first bytes of an alternation of one, in two sets with the same bytes
first_only : (x : Tree) (set starts : List Bool) → AreFirstBytes set (alternation (x ∷ [])) →
    ((b : ℕ) → b < 256 → has starts b ≡ has set b) → AreFirstBytes starts x
first_only x set starts it same = record {
  begun = λ looks h i j bytes m.
      let first = it.begun looks h i j bytes (inl m) in
      (first.0, first.1, same first.0 (byte_below h i first.0 bytes first.1) ∙ first.2);
}

-- a list of one tree
pub one_tree : (trees : List Tree) (x : Tree) (others : List Tree) → trees ≡ x ∷ others → (length others == 0) ≡ true → trees ≡ x ∷ []
one_tree trees x [] is none = is
one_tree trees x (y ∷ others) is none = absurd (omega (arith, eqb-true (length (y ∷ others)) 0 none))

pub sequence_only : (s : Sequence) (trees : List Tree) (x : Tree) → trees ≡ x ∷ [] → AreParts s.parts.items x → AreDecided s.parts.items →
    (set : List Bool) → AreFirstBytes set (alternation trees) → ((b : ℕ) → b < 256 → has s.starts b ≡ has set b) → IsSequenceOfTrees s trees
sequence_only s trees x only parts decided set first same = record {
  tree = x;
  only = only;
  sequence = record {
    parts = parts;
    decided = decided;
    starts = first_only x set s.starts (subst (λ (l : List Tree). AreFirstBytes set (alternation l)) only first) same;
  };
}
