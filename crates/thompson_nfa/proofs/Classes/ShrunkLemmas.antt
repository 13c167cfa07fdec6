-- A class that is read in reverse by the sequences of a trie: what the states do for the sequences, they do for the class.
use Rattle.std.proofs.Common.{◌≡◌, ℕ, ◌+◌, ◌*◌, ◌<◌, ◌≤◌, true, List, [], map, length, get_or, refl, sym, subst, arith, Bool, ◌||◌, ap, ◌∙◌}
use Rattle.std.proofs.lemmas.List.{length-map}
use Rattle.std.specs.Prelude.{Vec}
use Rattle.std.specs.declared.alloc.Global.{Global}
use Rattle.hir_core.specs.BySequences.{sequences_of}
use Rattle.hir_core.specs.Sequences.{bytes_of}
use Rattle.hir_core.specs.Tree.{char_class, alternation}
use Rattle.hir_core.specs.declared.utf8_sequences.Utf8Range.{Utf8Range}
use Rattle.nfa_core.specs.BuilderStates.{Assembly}
use Rattle.nfa_core.specs.declared.build_error.BuildError.{BuildError}
use Rattle.thompson_nfa.specs.ClassTries.{HasTurned, IsShortSequence}
use Rattle.thompson_nfa.specs.Compiled.{Makes, Does, looks_in}
use Rattle.thompson_nfa.specs.RangeTries.{IsTrie}
use Rattle.thompson_nfa.specs.RangeWalks.{paths_of}
use Rattle.thompson_nfa.specs.Refusals.{Quits}
use Rattle.thompson_nfa.specs.ScalarCounts.{scalars_in}
use Rattle.thompson_nfa.specs.Shared.{read_tree}
use Rattle.thompson_nfa.proofs.Steps.LookLemmas.{uses_reads}
use Rattle.thompson_nfa.proofs.Steps.ProgressLemmas.{made_capped, step_later}
use Rattle.thompson_nfa.proofs.Classes.ScalarCountLemmas.{sequences_counted}
use Rattle.thompson_nfa.proofs.Classes.TurnedLengths.{turned_short}
use Rattle.thompson_nfa.proofs.Classes.TurnedMeanings.{denotes_turned}

-- more room
pub quits_more : {old new : Assembly} {e : BuildError} (n m : ℕ) → n ≤ m → Quits old new n e → Quits old new m e
quits_more {old} {new} {e} n m le q = record {
  settings = q.settings;
  cause =
      step_later old old n (4096 * n) m m e refl (omega arith) (omega arith) (omega arith) q.cause;
}

module _ (ranges : List (ℕ × ℕ)) (trie : List (List (ℕ × ℕ))) (ascends : IsTrie trie) (has : HasTurned trie (sequences_of ranges))
    (paths : List (Vec Utf8Range Global)) (same : paths_of paths ≡ trie) where
  pub paths_ascend : IsTrie (paths_of paths)
  paths_ascend = subst IsTrie (sym same) ascends

  paths_have : HasTurned (paths_of paths) (sequences_of ranges)
  paths_have = subst (λ (qs : List (List (ℕ × ℕ))). HasTurned qs (sequences_of ranges)) (sym same) has

  pub paths_short : (k : ℕ) → k < length (paths_of paths) → IsShortSequence (get_or (paths_of paths) k [])
  paths_short k l = turned_short (paths_of paths) ranges paths_ascend paths_have k l

  pub few_paths : length paths ≤ scalars_in ranges
  few_paths =
      let many = sequences_counted (paths_of paths) ranges paths_ascend paths_have in
      let long = length-map paths (λ (v : Vec Utf8Range Global). map bytes_of v.items) in
      omega (arith, many, long)

  pub shrunk_made : {old new : Assembly} {start end : ℕ} → Makes old new start end (2 + 4 * length paths) →
      Makes old new start end (2 + 4 * scalars_in ranges)
  shrunk_made m = let l = few_paths in made_capped (2 + 4 * scalars_in ranges) m (omega (arith, l))

  pub shrunk_does : {old new : Assembly} {start end : ℕ} → old.reverse ≡ true →
      Does old new start end (alternation (map (read_tree old.reverse) (paths_of paths))) → Does old new start end (char_class ranges)
  shrunk_does {old} {new} {start} {end} is_reverse d = record {
    denotes = λ table target fin. denotes_turned old.reverse table start target (paths_of paths) ranges is_reverse paths_have
        (d.denotes table target fin);
    looks = λ l. d.looks l ∙ ap (λ (k : Bool). looks_in old.drafts l || k) (uses_reads old.reverse old.reverse l (paths_of paths));
  }

  pub shrunk_quits : {old new : Assembly} {e : BuildError} → Quits old new (2 + 4 * length paths) e →
      Quits old new (2 + 4 * scalars_in ranges) e
  shrunk_quits q = let l = few_paths in quits_more (2 + 4 * length paths) (2 + 4 * scalars_in ranges) (omega (arith, l)) q
